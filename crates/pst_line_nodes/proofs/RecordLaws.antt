-- When two nodes show the same record, and kinds of contents.
use Rattle.std.proofs.Common.{◌≡◌, ℕ, ◌+◌, ◌<◌, List, length, Some, refl, sym, ap, ◌∙◌, subst, arith}
use Rattle.pst_base.proofs.Below.{listed-same}
use Rattle.pst_base.specs.declared.names.TypeNo.{TypeNo}
use Rattle.pst_base.specs.declared.names.Name.{Name}
use Rattle.pst_base.specs.declared.names.Kind.TheVariants.{Pointer}
use Rattle.pst_base.specs.declared.shape.TypeShape.{TypeShape}
use Rattle.pst_base.specs.Shape.{type_at, element_count}
use Rattle.pst_line_nodes.specs.declared.content.Content.{Content}
use Rattle.pst_line_nodes.specs.declared.content.Content.TheVariants.{Number, Null, Target as TargetOf}
use Rattle.pst_line_nodes.specs.Contents.{Target}
use Rattle.pst_line_nodes.specs.Line.{denoted, number, record_of, HasKind}

-- two nodes of one type show the same record where the fields show the same
pub record_of-same : (shape : List TypeShape) (t u : TypeNo) (name name' : ℕ → Name) (slots slots' : ℕ → Content) → u ≡ t
    → ((g : ℕ) → g < element_count (type_at shape t) → number (slots' g) ≡ number (slots g))
    → ((g : ℕ) → g < element_count (type_at shape t) → denoted name' (slots' g) ≡ denoted name (slots g))
    → record_of shape u name' slots' ≡ record_of shape t name slots
record_of-same shape t u name name' slots slots' e n d =
    ap (λ (t : TypeNo). record_of shape t name' slots') e ∙
    (λ i. record {
      ty = t;
      values = listed-same (type_at shape t).values (λ g. number (slots' g)) (λ g. number (slots g)) (λ g l. n g (omega arith)) i;
      pointers = listed-same (length (type_at shape t).targets) (λ k. denoted name' (slots' ((type_at shape t).values + k))) (λ k. denoted name (slots ((type_at shape t).values + k))) (λ k l. d ((type_at shape t).values + k) (omega arith)) i;
    })

pub denoted-names : (name name' : ℕ → Name) (c : Content) → ((y : ℕ) → c ≡ Target y → name' y ≡ name y) → denoted name' c ≡ denoted name c
denoted-names name name' (Number n) h = refl
denoted-names name name' Null h = refl
denoted-names name name' (TargetOf y) h = ap Some (h y.0 refl)

pub kind-types : (t u : TypeShape) (ty ty' : ℕ → TypeNo) (g : ℕ) (c : Content) → u ≡ t → ((y : ℕ) → c ≡ Target y → ty' y ≡ ty y) → HasKind t ty g c → HasKind u ty' g c
kind-types t u ty ty' g c e h k = subst (λ (t : TypeShape). HasKind t ty' g c) (sym e) (same c h k)
  where
    same : (c : Content) → ((y : ℕ) → c ≡ Target y → ty' y ≡ ty y) → HasKind t ty g c → HasKind t ty' g c
    same (Number n) h k = k
    same Null h k = k
    same (TargetOf y) h k = k ∙ ap (λ (v : TypeNo). Some (Pointer v)) (sym (h y.0 refl))
