-- Lines that are put one by one.
use Rattle.std.proofs.Common.{◌≡◌, ℕ, zero, suc, ◌+◌, ◌-◌, ◌≤◌, List, [], ◌∷◌, ◌++◌, ap, sym, ◌∙◌, arith}
use Rattle.std.specs.List.{flat_map, range_with_len}
use Rattle.std.proofs.lemmas.List.{flat_map_more}

-- one number more
range_more : (a n : ℕ) → range_with_len a n ++ (a + n) ∷ [] ≡ range_with_len a (suc n)
range_more a zero = let e : a + 0 ≡ a = omega arith in rw e
range_more a (suc n) =
    let e : a + suc n ≡ (a + 1) + n = omega arith in
    ap (λ (xs : List ℕ). a ∷ xs) (ap (λ m. range_with_len (a + 1) n ++ m ∷ []) e ∙ range_more (a + 1) n)

-- a line is put behind those of the numbers from a up to it
pub lines_more : (line : ℕ → List ℕ) (a i : ℕ) (old before now : List ℕ) → a ≤ i → before ≡ old ++ flat_map line (range_with_len a (i - a))
    → now ≡ before ++ line i → now ≡ old ++ flat_map line (range_with_len a (i + 1 - a))
lines_more line a i old before now within so_far put =
    let last : a + (i - a) ≡ i = omega arith in
    let many : suc (i - a) ≡ i + 1 - a = omega arith in
    let more : range_with_len a (i - a) ++ i ∷ [] ≡ range_with_len a (i + 1 - a) = ap (λ n. range_with_len a (i - a) ++ n ∷ []) (sym last) ∙ (range_more a (i - a) ∙ ap (range_with_len a) many) in
    put ∙ (ap (λ (xs : List ℕ). xs ++ line i) so_far ∙ (flat_map_more line old (range_with_len a (i - a)) i ∙ ap (λ (ns : List ℕ). old ++ flat_map line ns) more))
