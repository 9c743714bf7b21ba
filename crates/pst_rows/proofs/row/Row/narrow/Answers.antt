use Rattle.std.proofs.Common.{◌≡◌, ℕ, ◌+◌, ◌<◌, ◌≤◌, List, length, get_or, sym, ◌∙◌, subst, arith}
use Rattle.std.proofs.lemmas.Bool.{false≢true}
use Rattle.std.specs.Prelude.{All}
use Rattle.pst_order.specs.declared.order.Pos.{Pos}
use Rattle.pst_order.specs.Places.{rank}
use Rattle.std.specs.declared.cmp.Ordering.TheVariants.{Less, Greater}
use Rattle.pst_rows.specs.declared.content.Stamp.{Stamp}
use Rattle.pst_rows.specs.declared.row.Row.{Row}
use Rattle.pst_rows.specs.declared.stamps.Bounds.{Bounds}
use Rattle.pst_rows.specs.Steps.{AreBounds, IsHalf, IsMiddleFrom}
use Rattle.pst_rows.proofs.SplitLemmas.{places_in, same_read, place_in, split_found, too_late, too_early, passed_more, none_stamped}
use Rattle.pst_rows.proofs.row.Row.narrow.Given as given
use Rattle.pst_rows.proofs.row.Row.narrow.Goals as goal
use Rattle.pst_rows.proofs.row.Row.narrow.Goals.{Joined-before, After-place-place, then-before+then-before-2+in-Less, then-before+then-before-2+in-Greater}
use Rattle.pst_rows.proofs.row.Row.narrow.Goals.{else-before, else-before-via-then-before+else-before-2, else-before-via-else-before}

-- the stamp that is looked at, with its place as it was read
abbrev placed : Stamp → Pos → Stamp
placed e p = record { slot = e.slot; place = p; content = e.content }

abbrev looked_at : (g : given.Over) (c : After-place-place g) → Stamp
looked_at g c = placed c.index-stamps-index.result c.place-place.result

there : (g : given.Over) (c : After-place-place g) →
    (c.loop-index.index < length c.args.self.now.cells.stamps) × (looked_at g c ≡ get_or c.args.self.now.cells.stamps c.loop-index.index (looked_at g c))
there g c =
    let e : Stamp = c.index-stamps-index.result in
    let xs : List Stamp = c.args.self.now.cells.stamps in
    subst (λ (p : Pos). (c.loop-index.index < length xs) × (placed e p ≡ get_or xs c.loop-index.index (placed e p))) (sym c.place-place.ensures)
    (same_read c.stamps-stamps.result.now xs c.loop-index.index c.index-stamps-index.result c.stamps-stamps.ensures c.loop-index-test.true c.index-stamps-index.is)

-- after it was looked at, it does not lie between the bounds
abbrev IsNarrowed : (ps : List ℕ) (row : Row) (e : Stamp) (b : Bounds) → Type 0
IsNarrowed ps row e b = AreBounds ps row b × ((rank ps b.low.0 < rank ps e.place.0) × (rank ps e.place.0 < rank ps b.high.0) → ⊥)

narrowed : (g : given.Over) (c : Joined-before g) →
    IsNarrowed (g.O.Order.places c.args.order.now) c.args.self.now (placed c.index-stamps-index.result c.place-place.result) c.if-before.bounds
narrowed g c =
    let ps : List ℕ = g.O.Order.places c.args.order.now in
    let row : Row = c.args.self.now in
    let e0 : Stamp = c.index-stamps-index.result in
    let e : Stamp = placed e0 c.place-place.result in
    let t : (c.loop-index.index < length row.cells.stamps) × (e ≡ get_or row.cells.stamps c.loop-index.index e) =
    subst (λ (p : Pos). (c.loop-index.index < length row.cells.stamps) × (placed e0 p ≡ get_or row.cells.stamps c.loop-index.index (placed e0 p))) (sym c.place-place.ensures)
    (same_read c.stamps-stamps.result.now row.cells.stamps c.loop-index.index c.index-stamps-index.result c.stamps-stamps.ensures c.loop-index-test.true c.index-stamps-index.is) in
    elim c.if-before.branch [
      | then-before+then-before-2+in-Less w ↦
          subst (λ (b : Bounds). IsNarrowed ps row e b) (sym w.bounds-is) (
            too_late ps row c.requires.row c.loop-index.index e t.0 t.1 c.loop-index.bounds c.loop-index.invariant.bounds
                (subst (λ (xs : List Stamp). IsMiddleFrom (rank ps) xs (rank ps e.place.0) Less) c.stamps-stamps.ensures w.in-Less.ensures),
            λ p. omega (arith, p.1),
          )
      | then-before+then-before-2+in-Greater w ↦
          subst (λ (b : Bounds). IsNarrowed ps row e b) (sym w.bounds-is) (
            too_early ps row c.requires.row c.loop-index.index e t.0 t.1 c.loop-index.bounds c.loop-index.invariant.bounds
                (subst (λ (xs : List Stamp). IsMiddleFrom (rank ps) xs (rank ps e.place.0) Greater) c.stamps-stamps.ensures w.in-Greater.ensures),
            λ p. omega (arith, p.0),
          )
      | else-before w ↦
          subst (λ (b : Bounds). IsNarrowed ps row e b) (sym w.bounds-is) (
            c.loop-index.invariant.bounds,
            elim w.else-before.branch [
              | else-before-via-then-before+else-before-2 w' ↦ λ p. false≢true (sym w'.if-before-2.false ∙ w'.before-then-before.ensures.1 p.1)
              | else-before-via-else-before w' ↦ λ p. false≢true (sym w'.if-before.false ∙ c.before-in-loop-index.ensures.1 p.0)
            ],
          )
    ]

pub before-requires-clause-b_in : goal.before-requires-clause-b_in
before-requires-clause-b_in g c =
    let c' = (goal.at.before-requires-clause-b_in g c).After-place-place in
    record { there = place_in (g.O.Order.places c.args.order.now) c.args.self.now c.requires.row c.loop-index.index (looked_at g c') (there g c').0 (there g c').1 }

pub before-requires-then-before-clause-a_in : goal.before-requires-then-before-clause-a_in
before-requires-then-before-clause-a_in g c =
    let c' = (goal.at.before-requires-then-before-clause-a_in g c).After-place-place in
    record { there = place_in (g.O.Order.places c.args.order.now) c.args.self.now c.requires.row c.loop-index.index (looked_at g c') (there g c').0 (there g c').1 }

pub middle_from-requires-clause-all : goal.middle_from-requires-clause-all
middle_from-requires-clause-all g c =
    let ps : List ℕ = g.O.Order.places c.args.order.now in
    subst (λ (xs : List Stamp). All (λ (e : Stamp). rank ps e.place.0 < length ps) xs) (sym c.stamps-stamps.ensures) (places_in (rank ps) (length ps) c.args.self.now c.requires.row)

pub returns-in-Equal-clause-some : goal.returns-in-Equal-clause-some
returns-in-Equal-clause-some g c =
    let ps : List ℕ = g.O.Order.places c.args.order.now in
    let c' = (goal.at.returns-in-Equal-clause-some g c).After-place-place in
    split_found ps c.args.self.now c.requires.row c.loop-index.index (looked_at g c') (there g c').0 (there g c').1
    (subst (λ (xs : List Stamp). IsHalf (rank ps) xs (rank ps (looked_at g c').place.0)) c.stamps-stamps.ensures c.in-Equal.ensures)

pub loop-index-preserved : goal.loop-index-preserved
loop-index-preserved g c =
    let ps : List ℕ = g.O.Order.places c.args.order.now in
    let s = (goal.at.loop-index-preserved g c).After-place-place in
    let n : IsNarrowed ps c.args.self.now (looked_at g s) c.if-before.bounds = narrowed g (goal.at.loop-index-preserved g c).Joined-before in
    record {
      bounds = n.0;
      passed = passed_more ps c.args.self.now c.requires.row c.loop-index.index (looked_at g s) (there g s).0 (there g s).1 c.if-before.bounds n.0 n.1 c.args.gap c.loop-index.invariant.passed;
    }

pub returns-clause-none : goal.returns-clause-none
returns-clause-none g c _ one = none_stamped (rank (g.O.Order.places c.args.order.now)) c.args.self.now c.loop-index.index
    (subst (λ (xs : List Stamp). length xs ≤ c.loop-index.index) c.stamps-stamps.ensures c.loop-index-test.false) (c.loop-index.invariant.passed one)

pub returns-after-before-clause-bounds : goal.returns-after-before-clause-bounds
returns-after-before-clause-bounds g c =
    (narrowed g (goal.at.returns-after-before-clause-bounds g c).Joined-before).0

pub returns-after-before-clause-none : goal.returns-after-before-clause-none
returns-after-before-clause-none g c _ one =
    let ps : List ℕ = g.O.Order.places c.args.order.now in
    let s = (goal.at.returns-after-before-clause-none g c).After-place-place in
    let n : IsNarrowed ps c.args.self.now (looked_at g s) c.if-before.bounds = narrowed g (goal.at.returns-after-before-clause-none g c).Joined-before in
    let last : length c.args.self.now.cells.stamps ≤ c.loop-index.index + c.args.gap = subst (λ (xs : List Stamp). length xs ≤ c.loop-index.index + c.args.gap) c.stamps-stamps.ensures (omega arith) in
    none_stamped (rank ps) c.args.self.now (c.loop-index.index + c.args.gap) last
    (passed_more ps c.args.self.now c.requires.row c.loop-index.index (looked_at g s) (there g s).0 (there g s).1 c.if-before.bounds n.0 n.1 c.args.gap c.loop-index.invariant.passed one)
