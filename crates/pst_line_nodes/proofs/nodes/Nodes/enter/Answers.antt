use Rattle.std.proofs.Common.{List, length, get_or, ap, ◌∙◌, arith}
use Rattle.pst_line_nodes.specs.Seen.{Seen}
use Rattle.pst_line_nodes.specs.Copying.{no_node}
use Rattle.pst_line_nodes.proofs.Lists.{get_or-any}
use Rattle.pst_line_nodes.proofs.Freeing.{enter_is}
use Rattle.pst_line_nodes.proofs.nodes.Nodes.enter.Goals as goal

pub enter-requires : goal.enter-requires
enter-requires c =
    let own = c.index_mut-node.ensures.value ∙ ap (λ (zs : List Seen). get_or zs c.args.z.0 c.index_mut-node.result.now) c.self.view_is ∙ get_or-any c.args.self.now c.args.z.0 c.index_mut-node.result.now no_node c.requires.there in
    omega (arith, c.requires.slot, ap (λ (n : Seen). length n.inverse) own)

pub returns : goal.returns
returns c = enter_is c.args.self.now c.self.inside.list.items c.args.z.0 c.args.slot.0 c.index_mut-node.result.now c.enter.new.self c.args.entry c.self.view_is c.requires.there c.index_mut-node.ensures.value c.enter.ensures
