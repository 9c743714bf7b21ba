use Rattle.std.proofs.Common.{◌≡◌, ℕ, ◌+◌, ◌<◌, ◌≤◌, Bool, true, false, List, length, get_or, take, refl, sym, ◌∙◌, subst, ap, ltb, arith}
use Rattle.std.specs.Prelude.{count_by, not}
use Rattle.std.proofs.lemmas.Bool.{false≢true, lt-ltb, le-ltb, eqb-true, eq-eqb}
use Rattle.std.proofs.lemmas.List.Sums.{count_by_more_yes, count_by_more_no}
use Rattle.pst_order.specs.declared.order.Pos.{Pos}
use Rattle.pst_order.specs.Places.{rank}
use Rattle.pst_order.proofs.RankLemmas.{rank_before}
use Rattle.pst_rows.specs.declared.content.Stamp.{Stamp}
use Rattle.pst_rows.proofs.KeepLemmas.{not_below}
use Rattle.pst_rows.proofs.stamps.middle_from.Goals as goal
use Rattle.pst_rows.proofs.stamps.middle_from.Goals.{then-before, else-before+then-ne, else-before+else-ne}

counted : (f : Stamp → Bool) (xs : List Stamp) (i : ℕ) (e : Stamp) (k : ℕ) → i < length xs → e ≡ get_or xs i e → f e ≡ true → k ≡ count_by f (take i xs) → k + 1 ≡ count_by f (take (i + 1) xs)
counted f xs i e k l is t h = omega (arith, h, count_by_more_yes f xs i e l (subst (λ (x : Stamp). f x ≡ true) is t))

passed_over : (f : Stamp → Bool) (xs : List Stamp) (i : ℕ) (e : Stamp) (k : ℕ) → i < length xs → e ≡ get_or xs i e → f e ≡ false → k ≡ count_by f (take i xs) → k ≡ count_by f (take (i + 1) xs)
passed_over f xs i e k l is t h = h ∙ sym (count_by_more_no f xs i e l (subst (λ (x : Stamp). f x ≡ false) is t))

not_false : {b : Bool} → not b ≡ false → b ≡ true
not_false {b = true} e = refl
not_false {b = false} e = sym e

-- the stamp that is looked at, with its place as it was read
abbrev placed : Stamp → Pos → Stamp
placed e p = record { slot = e.slot; place = p; content = e.content }

placed_is : (xs : List Stamp) (i : ℕ) (e : Stamp) (p : Pos) → p ≡ e.place → e ≡ get_or xs i e → placed e p ≡ get_or xs i (placed e p)
placed_is xs i e p q is = subst (λ (p : Pos). placed e p ≡ get_or xs i (placed e p)) (sym q) is

pub loop-stamp-preserved : goal.loop-stamp-preserved
loop-stamp-preserved g c =
    let ps : List ℕ = g.O.Order.places c.args.order.now in
    let n : ℕ = rank ps c.args.at.0 in
    let xs : List Stamp = c.args.stamps.now in
    let item : Stamp = placed c.stamp-item.result c.place-place.result in
    let is : item ≡ get_or xs c.loop-stamp.stamp-index item = placed_is xs c.loop-stamp.stamp-index c.stamp-item.result c.place-place.result c.place-place.ensures c.stamp-item.is in
    let m : ℕ = rank ps item.place.0 in
    let before = λ (e : Stamp). ltb (rank ps e.place.0) n in
    let after = λ (e : Stamp). ltb n (rank ps e.place.0) in
    elim c.if-before.branch [
      | then-before w ↦
          let l : m < n = c.before-in-loop-stamp.ensures.0 w.if-before.true in
          record {
            earlier = w.before-is ∙ counted before xs c.loop-stamp.stamp-index item c.loop-stamp.before c.loop-stamp-test.true is (lt-ltb m n l) c.loop-stamp.invariant.earlier;
            later = w.after-is ∙ passed_over after xs c.loop-stamp.stamp-index item c.loop-stamp.after c.loop-stamp-test.true is (le-ltb n m (omega arith)) c.loop-stamp.invariant.later;
          }
      | else-before+then-ne w ↦
          let h : n ≤ m = not_below m n w.if-before.false c.before-in-loop-stamp.ensures.1 in
          let l : n < m = rank_before ps c.args.at.0 item.place.0 h
          (subst (λ (e : Stamp). rank ps e.place.0 < length ps) (sym is) (c.requires.all c.loop-stamp.stamp-index item c.loop-stamp-test.true))
          (λ e. false≢true (sym (ap not (eq-eqb item.place.0 c.args.at.0 (sym e))) ∙ sym w.ne.ensures ∙ w.if-ne.true)) in
          record {
            earlier = w.before-is ∙ passed_over before xs c.loop-stamp.stamp-index item c.loop-stamp.before c.loop-stamp-test.true is (le-ltb m n h) c.loop-stamp.invariant.earlier;
            later = w.after-is ∙ counted after xs c.loop-stamp.stamp-index item c.loop-stamp.after c.loop-stamp-test.true is (lt-ltb n m l) c.loop-stamp.invariant.later;
          }
      | else-before+else-ne w ↦
          let same : m ≡ n = ap (rank ps) (eqb-true item.place.0 c.args.at.0 (not_false (sym w.ne.ensures ∙ w.if-ne.false))) in
          record {
            earlier = w.before-is ∙ passed_over before xs c.loop-stamp.stamp-index item c.loop-stamp.before c.loop-stamp-test.true is (le-ltb m n (omega arith)) c.loop-stamp.invariant.earlier;
            later = w.after-is ∙ passed_over after xs c.loop-stamp.stamp-index item c.loop-stamp.after c.loop-stamp-test.true is (le-ltb n m (omega arith)) c.loop-stamp.invariant.later;
          }
    ]
