use Rattle.std.proofs.Common.{◌<◌, ℕ, List, length, sym, subst}
use Rattle.std.specs.Prelude.{All}
use Rattle.pst_order.specs.Places.{rank}
use Rattle.pst_rows.specs.declared.content.Stamp.{Stamp}
use Rattle.pst_rows.proofs.SplitLemmas.{places_in}
use Rattle.pst_rows.proofs.row.Row.right_of.Goals as goal

pub put_after-requires-clause-all : goal.put_after-requires-clause-all
put_after-requires-clause-all g c =
    let ps : List ℕ = g.O.Order.places c.args.order.now in
    subst (λ (xs : List Stamp). All (λ (e : Stamp). rank ps e.place.0 < length ps) xs) (sym c.stamps.ensures) (places_in (rank ps) (length ps) c.args.self.now c.requires.row)
