use Rattle.std.proofs.Common.{◌<◌, length, arith}
use Rattle.pst_line_nodes.proofs.Freeing.{freed_one}
use Rattle.pst_line_nodes.proofs.nodes.Nodes.free.Goals as goal

pub newest-holder-requires : goal.newest-holder-requires
newest-holder-requires c = (c.requires c.in-Target.y.0 c.in-Target.is).0

pub returns-in-Target : goal.returns-in-Target
returns-in-Target c =
    let below = (c.requires c.in-Target.y.0 c.in-Target.is).1 in
    let there : c.newest-holder.result.0 < length c.args.self.now = omega (arith, c.newest-holder.ensures, below) in
    freed_one c.args.self.now c.self.inside.list.items c.in-Target.y.0 c.newest-holder.result.0 c.args.x.0 c.args.field.0 c.index_mut-node.result.now c.free.new.self c.args.held c.self.view_is there c.index_mut-node.ensures.value c.free.ensures c.in-Target.is c.newest-holder.ensures
