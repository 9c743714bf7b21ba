-- Lemmas on gaps.
use Rattle.std.specs.Prelude.{◌≡◌, ℕ, ◌+◌, ◌<◌, Bool, false, List, [], ◌∷◌, ◌++◌, length, Option, Some, None, option_and_then, take, slice_index}
use Rattle.std.proofs.Common.{get_or, refl, ◌∙◌, arith, add-one, cond, eqb}
use Rattle.std.proofs.Math.Seq.{take-suc}
use Rattle.std.proofs.lemmas.Grind.{common_steps}
use Rattle.pst_lex.specs.Bytes.{gap_step, gap, feeds}

-- one more byte of a gap
gap-append : (s : Bool) (bs : List ℕ) (b : ℕ) (t : Bool) → gap s bs ≡ Some t → gap s (bs ++ (b ∷ [])) ≡ gap t (b ∷ [])
gap-append s [] b t e = let same : s ≡ t = cc in rw same refl
gap-append s (a ∷ bs) b t e = go (gap_step s a) e (λ i. gap-append i bs b t)
  where
    go : (o : Option Bool) → option_and_then (λ i. gap i bs) o ≡ Some t → ((i : Bool) → gap i bs ≡ Some t → gap i (bs ++ (b ∷ [])) ≡ gap t (b ∷ [])) →
        option_and_then (λ i. gap i (bs ++ (b ∷ []))) o ≡ gap t (b ∷ [])
    go None e h = cc
    go (Some i) e h = h i e

gap_one : (s : Bool) (b : ℕ) (u : Bool) → gap_step s b ≡ Some u → gap s (b ∷ []) ≡ Some u
gap_one s b u e = rw e refl

pub gap_more : (text : List ℕ) (n : ℕ) (t u : Bool) → n < length text → gap false (take n text) ≡ Some t → gap_step t (slice_index text n) ≡ Some u →
    gap false (take (n + 1) text) ≡ Some u
gap_more text n t u h e e' = rw (add-one, take-suc text n 0 h) (gap-append false (take n text) (get_or text n 0) t e ∙ gap_one t (slice_index text n) u e')

pub feeds_more : (text : List ℕ) (n : ℕ) → n < length text → feeds (take (n + 1) text) ≡ feeds (take n text) + cond (eqb (slice_index text n) 10) 1 0
feeds_more text n h = grind (arith, common_steps)

pub ruleset gaps = (gap_more, feeds_more)
