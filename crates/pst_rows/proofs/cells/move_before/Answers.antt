use Rattle.std.proofs.Common.{◌≡◌, ℕ, ◌+◌, ◌<◌, ◌≤◌, Bool, ltb, List, length, get_or, set, sym, ap, ◌∙◌, subst, arith}
use Rattle.std.proofs.lemmas.Bool.{lt-ltb, le-ltb}
use Rattle.pst_order.specs.declared.order.Pos.{Pos}
use Rattle.pst_order.specs.Places.{rank, IsIn}
use Rattle.pst_rows.specs.declared.content.Stamp.{Stamp}
use Rattle.pst_rows.proofs.KeepLemmas.{AreKept, not_below, kept_one, keep_more, keep_less}
use Rattle.pst_rows.proofs.cells.move_before.Goals as goal
use Rattle.pst_rows.proofs.cells.move_before.Goals.{then-before, else-before}

pub before-requires-clause-a_in : goal.before-requires-clause-a_in
before-requires-clause-a_in g c =
    let ps : List ℕ = g.O.Order.places c.args.order.now in
    let e : Stamp = c.index-cells-index.result in
    subst (λ (p : Pos). IsIn ps p.0) (sym (c.place.ensures ∙ ap (λ (s : Stamp). s.place) c.index-cells-index.is))
    (kept_one (λ (s : Stamp). IsIn ps s.place.0) _ c.args.front c.args.cells.now c.loop-index.cells c.loop-index.kept c.loop-index.index e
    c.loop-index.invariant (λ k d l. record { there = c.requires.all k d l }) (omega (arith, c.loop-index-test.true, c.loop-index.invariant.count)))

pub loop-index-preserved : goal.loop-index-preserved
loop-index-preserved g c =
    let ps : List ℕ = g.O.Order.places c.args.order.now in
    let n : ℕ = rank ps c.args.at.0 in
    let before : Stamp → Bool = λ (s : Stamp). ltb (rank ps s.place.0) n in
    let front : ℕ = c.args.front in
    let old : List Stamp = c.args.cells.now in
    let cells : List Stamp = c.loop-index.cells in
    let i : ℕ = c.loop-index.index in
    let e : Stamp = c.index-cells-index.result in
    let here : e ≡ get_or cells i e = c.index-cells-index.is in
    let place : c.place.result ≡ (get_or cells i e).place = c.place.ensures ∙ ap (λ (s : Stamp). s.place) here in
    let l : i < length cells = omega (arith, c.loop-index-test.true, c.loop-index.invariant.count) in
    elim c.if-before.branch [
      | then-before w ↦
          let first : rank ps (get_or cells i e).place.0 < n = subst (λ (p : Pos). rank ps p.0 < n) place (c.before-in-loop-index.ensures.0 w.if-before.true) in
          subst (λ (k : ℕ). AreKept before front old c.if-before.cells k (i + 1)) (sym w.kept-is)
          (subst (λ (xs : List Stamp). AreKept before front old xs (c.loop-index.kept + 1) (i + 1)) (sym (w.cells-is ∙ ap (set cells c.loop-index.kept) here))
          (keep_more before front old cells c.loop-index.kept i e c.loop-index.invariant l (lt-ltb (rank ps (get_or cells i e).place.0) n first)))
      | else-before w ↦
          let late : n ≤ rank ps (get_or cells i e).place.0 = subst (λ (p : Pos). n ≤ rank ps p.0) place (not_below (rank ps c.place.result.0) n w.if-before.false c.before-in-loop-index.ensures.1) in
          subst (λ (k : ℕ). AreKept before front old c.if-before.cells k (i + 1)) (sym w.kept-is)
          (subst (λ (xs : List Stamp). AreKept before front old xs c.loop-index.kept (i + 1)) (sym w.cells-is)
          (keep_less before front old cells c.loop-index.kept i e c.loop-index.invariant l (le-ltb (rank ps (get_or cells i e).place.0) n late)))
    ]
