use Rattle.std.proofs.Common.{◌≡◌, ◌++◌, ◌+◌, ◌-◌, ◌<◌, suc, ℕ, List, map, take, drop, length, get_or, set, ap, ◌∙◌, add-one, arith}
use Rattle.std.proofs.lemmas.List.{get_or_default, get_or-append_right, get_or-drop, length-map, length-take-le}
use Rattle.std.proofs.lemmas.List.Edits.{map_over_more}
use Rattle.pst_roots.proofs.pieces.raise.Goals as goal

-- what the loop has not come to is as it was
still : (xs ys : List ℕ) (i : ℕ) → i < length xs → ys ≡ map suc (take i xs) ++ drop i xs → get_or ys i 0 ≡ get_or xs i 0
still xs ys i l e =
    let count : length (map suc (take i xs)) ≡ i = length-map (take i xs) suc ∙ length-take-le i xs (omega arith) in
    let at : i + (i - i) ≡ i = omega arith in
    ap (λ (zs : List ℕ). get_or zs i 0) e ∙ get_or-append_right (map suc (take i xs)) (drop i xs) i i 0 count (omega arith) ∙ get_or-drop i xs (i - i) 0 ∙ ap (λ (j : ℕ). get_or xs j 0) at

pub overflow_add-start : goal.overflow_add-start
overflow_add-start c =
    let low = c.requires c.loop-start.start-index 0 c.loop-start-test.true in
    omega (arith, still c.args.starts.now c.loop-start.starts c.loop-start.start-index c.loop-start-test.true c.loop-start.invariant, low)

pub loop-start-preserved : goal.loop-start-preserved
loop-start-preserved c =
    let value = get_or c.loop-start.starts c.loop-start.start-index 0 in
    ap (λ (x : ℕ). set c.loop-start.starts c.loop-start.start-index x) (add-one value)
    ∙ map_over_more suc c.args.starts.now c.loop-start.starts c.loop-start.start-index value c.loop-start-test.true c.loop-start.invariant
    (get_or_default c.loop-start.starts c.loop-start.start-index 0 value (omega (arith, c.loop-start.auto.starts)))
