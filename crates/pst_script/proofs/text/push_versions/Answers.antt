use Rattle.std.proofs.Common.{◌≡◌, ℕ, suc, ◌+◌, ◌<◌, List, [], ◌∷◌, ◌++◌, length, get_or, take, refl, ap, sym, ◌∙◌, arith, append_assoc, append-nil}
use Rattle.std.proofs.lemmas.List.{take_more, length-take-le}
use Rattle.pst_base.specs.declared.names.VersionNo.{VersionNo}
use Rattle.pst_script.specs.Texts.{version_line, version_lines}
use Rattle.pst_script.proofs.text.push_versions.Goals as goal

-- one version more is one line more
one_more : (from : ℕ) (parents : List VersionNo) (parent : VersionNo) → version_lines from (parents ++ parent ∷ []) ≡ version_lines from parents ++ version_line (from + length parents) parent
one_more from [] parent = let e : from + 0 ≡ from = omega arith in rw e (append-nil (version_line from parent))
one_more from (p ∷ parents) parent =
    let e : (from + 1) + length parents ≡ from + suc (length parents) = omega arith in
    ap (λ rest. version_line from p ++ rest) (one_more (from + 1) parents parent ∙ ap (λ n. version_lines (from + 1) parents ++ version_line n parent) e)
    ∙ sym (append_assoc (version_line from p) (version_lines (from + 1) parents) (version_line (from + suc (length parents)) parent))

step : (old before now : List ℕ) (i : ℕ) (parents : List VersionNo) (parent d : VersionNo) → i < length parents → parent ≡ get_or parents i d
    → before ≡ old ++ version_lines 1 (take i parents) → now ≡ before ++ version_line (i + 1) parent → now ≡ old ++ version_lines 1 (take (i + 1) parents)
step old before now i parents parent d within at invariant push =
    let more : take (i + 1) parents ≡ take i parents ++ parent ∷ [] = take_more parents i d within ∙ ap (λ (p : VersionNo). take i parents ++ p ∷ []) (sym at) in
    let many : 1 + length (take i parents) ≡ i + 1 = omega (arith, length-take-le i parents (omega arith)) in
    let lines : version_lines 1 (take (i + 1) parents) ≡ version_lines 1 (take i parents) ++ version_line (i + 1) parent = ap (version_lines 1) more
    ∙ (one_more 1 (take i parents) parent ∙ ap (λ n. version_lines 1 (take i parents) ++ version_line n parent) many) in
    push ∙ (ap (λ (xs : List ℕ). xs ++ version_line (i + 1) parent) invariant
    ∙ (append_assoc old (version_lines 1 (take i parents)) (version_line (i + 1) parent) ∙ ap (λ (xs : List ℕ). old ++ xs) (sym lines)))

pub loop-index-preserved : goal.loop-index-preserved
loop-index-preserved c = step _ _ _ _ _ _ _ c.loop-index-test.true refl c.loop-index.invariant c.in_ok-push_version.ensures
