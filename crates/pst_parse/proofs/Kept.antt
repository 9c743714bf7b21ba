-- A lemma on the tokens that are kept.
use Rattle.std.specs.Prelude.{◌≡◌, ◌≤◌, ◌-◌, ℕ, List, [], ◌∷◌, length, take, drop, slice_index_or}
use Rattle.std.specs.List.{swap}
use Rattle.std.proofs.Common.{suc, refl, sym, ap, ◌∙◌, arith}
use Rattle.std.proofs.Math.Seq.{drop-cons, drop-length}

-- the last item, in front and alone, is what is left of the items
pub last_alone : {X : Type 0} (xs : List X) (left : ℕ) → left ≡ 1 → left ≤ length xs → take 1 (swap xs 0 (length xs - left)) ≡ drop (length xs - left) xs
last_alone [] left e le = absurd (omega (arith, e, le))
last_alone (d ∷ []) left e le = let n : length (d ∷ []) - left ≡ 0 = omega (arith, e) in rw n refl
last_alone (d ∷ c ∷ ys) left e le =
    let n : length (d ∷ c ∷ ys) - left ≡ suc (length ys) = omega (arith, e) in
    rw n (ap (λ x. slice_index_or (c ∷ ys) (length ys) d ∷ x) (sym (drop-length ys)) ∙ sym (drop-cons (c ∷ ys) (length ys) d (omega arith)))
