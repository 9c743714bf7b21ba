-- When two nodes show the same record, and kinds of contents.
use Rattle.std.proofs.Common.{◌≡◌, ◌≢◌, ℕ, ◌+◌, ◌<◌, List, length, Some, refl, sym, ap, ◌∙◌, subst, arith, inl, inr}
use Rattle.pst_base.proofs.Below.{listed-same}
use Rattle.pst_base.specs.declared.names.TypeNo.{TypeNo}
use Rattle.pst_base.specs.declared.names.Name.{Name}
use Rattle.pst_base.specs.declared.names.Kind.TheVariants.{Pointer}
use Rattle.pst_base.specs.declared.shape.TypeShape.{TypeShape}
use Rattle.pst_base.specs.Shape.{type_at, element_count}
use Rattle.pst_rows.specs.declared.content.Content.{Content}
use Rattle.pst_rows.specs.declared.content.Content.TheVariants.{Number, Null, Free, Target as TargetOf, From as FromOf}
use Rattle.pst_mirror.specs.Contents.{Target, From}
use Rattle.pst_mirror.specs.Mirror.{IsMirrored}
use Rattle.pst_rows.specs.Contents.{number}
use Rattle.pst_store_meaning.specs.Arena.{Arena, IsIn, is_in, denoted, record_of, IsDrawn}
use Rattle.pst_mirror.specs.Kinds.{HasKind}
use Rattle.std.proofs.lemmas.Bool.{cases_Bool}
use Rattle.pst_store_meaning.proofs.HeapLaws.{is_in-true}

-- two nodes of one type show the same record where the fields show the same
pub record_of-same : (shape : List TypeShape) (t u : TypeNo) (name name' : ℕ → Name) (slots slots' : ℕ → Content) → u ≡ t
    → ((g : ℕ) → g < element_count (type_at shape t) → number (slots' g) ≡ number (slots g))
    → ((g : ℕ) → g < element_count (type_at shape t) → denoted name' (slots' g) ≡ denoted name (slots g))
    → record_of shape u name' slots' ≡ record_of shape t name slots
record_of-same shape t u name name' slots slots' e n d =
    ap (λ (t : TypeNo). record_of shape t name' slots') e ∙
    (λ i. record {
      ty = t;
      values = listed-same (type_at shape t).values (λ g. number (slots' g)) (λ g. number (slots g)) (λ g l. n g (omega arith)) i;
      pointers = listed-same (length (type_at shape t).targets) (λ k. denoted name' (slots' ((type_at shape t).values + k)))
          (λ k. denoted name (slots ((type_at shape t).values + k))) (λ k l. d ((type_at shape t).values + k) (omega arith)) i;
    })

pub denoted-names : (name name' : ℕ → Name) (c : Content) → ((y : ℕ) → c ≡ Target y → name' y ≡ name y) → denoted name' c ≡ denoted name c
denoted-names name name' (Number n) h = refl
denoted-names name name' Null h = refl
denoted-names name name' (TargetOf ynode) h = let y : ℕ = ynode.0 in ap Some (h y refl)
denoted-names name name' Free h = refl
denoted-names name name' (FromOf ynode fslot) h = let y : ℕ = ynode.0 in let f : ℕ = fslot.0 in refl

pub kind-types : (t u : TypeShape) (ty ty' : ℕ → TypeNo) (g : ℕ) (c : Content) → u ≡ t → ((y : ℕ) → c ≡ Target y → ty' y ≡ ty y) → HasKind t ty g c → HasKind u ty' g c
kind-types t u ty ty' g c e h k = subst (λ (t : TypeShape). HasKind t ty' g c) (sym e) (same c h k)
  where
    same : (c : Content) → ((y : ℕ) → c ≡ Target y → ty' y ≡ ty y) → HasKind t ty g c → HasKind t ty' g c
    same (Number n) h k = k
    same Null h k = k
    same (TargetOf ynode) h k = let y : ℕ = ynode.0 in k ∙ ap (λ (v : TypeNo). Some (Pointer v)) (sym (h y refl))
    same Free h k = k
    same (FromOf xnode fslot) h k = let x : ℕ = xnode.0 in let f : ℕ = fslot.0 in k

-- what holds something lives
pub alive : (w : Arena) (i g n : ℕ) → IsDrawn w → w.chart.holds i g n ≢ Null → IsIn w i n
alive w i g n d ne = elim (cases_Bool (is_in w i n)) [ inl e ↦ is_in-true w i n e | inr e ↦ absurd (ne (d.outside i g n e)) ]

pub target_alive : (w : Arena) (i g n y : ℕ) → IsDrawn w → IsMirrored w.chart → w.chart.holds i g n ≡ Target y → IsIn w y n
target_alive w i g n y d m e =
    let s = m.found i g n y e in
    alive w y s.0 n d (λ none. let e' : From i g ≡ Null = sym s.1 ∙ none in cc)

pub source_alive : (w : Arena) (y s n x f : ℕ) → IsDrawn w → IsMirrored w.chart → w.chart.holds y s n ≡ From x f → IsIn w x n
source_alive w y s n x f d m e = let p = m.back y s n x f e in alive w x f n d (λ none. let e' : Target y ≡ Null = sym p ∙ none in cc)
