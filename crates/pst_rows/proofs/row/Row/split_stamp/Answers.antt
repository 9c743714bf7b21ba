use Rattle.pst_rows.proofs.SplitLemmas.{first_bounds}
use Rattle.pst_rows.proofs.row.Row.split_stamp.Goals as goal

pub loop-gap-init : goal.loop-gap-init
loop-gap-init g c = first_bounds (g.O.Order.places c.args.order.now) c.args.self.now c.requires
