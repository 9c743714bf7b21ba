use Rattle.std.proofs.Common.{ℕ, List, length}
use Rattle.pst_order.specs.Places.{rank}
use Rattle.pst_rows.proofs.SplitLemmas.{places_in}
use Rattle.pst_rows.proofs.row.Row.keep_before.Goals as goal

pub keep_before-requires-clause-all : goal.keep_before-requires-clause-all
keep_before-requires-clause-all g c =
    let ps : List ℕ = g.O.Order.places c.args.order.now in
    places_in (rank ps) (length ps) c.args.self.now c.requires.row
