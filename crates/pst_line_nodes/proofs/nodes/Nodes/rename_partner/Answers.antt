use Rattle.std.proofs.Common.{List, length, ap, arith}
use Rattle.pst_line_nodes.specs.Seen.{Seen}
use Rattle.pst_line_nodes.proofs.Renames.{renamed_one}
use Rattle.pst_line_nodes.proofs.nodes.Nodes.rename_partner.Goals as goal

pub index_mut-node-requires : goal.index_mut-node-requires
index_mut-node-requires c = omega (arith, c.requires c.in-Target.y.0 c.in-Target.is, ap (λ (xs : List Seen). length xs) c.self.view_is, c.self.inside.list.ok)

pub returns-in-Target : goal.returns-in-Target
returns-in-Target c = renamed_one c.args.self.now c.self.inside.list.items c.in-Target.y.0 c.args.x.0 c.args.z.0 c.index_mut-node.result.now c.rename.new.self c.args.content c.self.view_is (c.requires c.in-Target.y.0 c.in-Target.is) c.index_mut-node.ensures.value c.rename.ensures c.in-Target.is
