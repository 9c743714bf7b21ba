use Rattle.std.proofs.Common.{◌≡◌, ℕ, ◌-◌, ◌<◌, ◌≤◌, cond, true, false, length, Option, Some, None, nat_lt, slice_get, refl, sym, ap, ◌∙◌, arith}
use Rattle.std.proofs.lemmas.Bool.{ltb-false}
use Rattle.std.proofs.lemmas.Option.{slice_get_within}
use Rattle.std.specs.Option.{option_map}
use Rattle.pst_base.specs.declared.names.TypeNo.{TypeNo}
use Rattle.pst_base.specs.declared.names.Kind.TheVariants.{Int, Pointer}
use Rattle.pst_base.specs.declared.shape.TypeShape.{TypeShape}
use Rattle.pst_base.specs.Shape.{field_kind, element_count}
use Rattle.pst_rows.specs.declared.content.Content.{Content}
use Rattle.pst_rows.specs.declared.content.Content.TheVariants.{Number, Null, Free, Target as TargetOf, From as FromOf}
use Rattle.pst_mirror.specs.Contents.{Target}
use Rattle.pst_mirror.specs.Mirror.{moved, renamed}
use Rattle.pst_mirror.specs.Kinds.{HasKind}

pub pointer_field : (t : TypeShape) (g : ℕ) (u : TypeNo) → field_kind t g ≡ Some (Pointer u) → (t.values ≤ g) × (g < element_count t)
pointer_field t g u e = elim (nat_lt g t.values) as (λ b. nat_lt g t.values ≡ b
    → cond b (Some Int) (option_map Pointer (slice_get t.targets (g - t.values))) ≡ Some (Pointer u) → (t.values ≤ g) × (g < element_count t)) [
      | true ↦ λ x h. absurd (cc)
      | false ↦ λ x h. let low : t.values ≤ g = ltb-false g t.values x in
          elim (slice_get t.targets (g - t.values)) as (λ (o : Option TypeNo).
          slice_get t.targets (g - t.values) ≡ o → option_map Pointer o ≡ Some (Pointer u) → (t.values ≤ g) × (g < element_count t)) [
            | None ↦ λ y k. absurd (cc)
            | Some v ↦ λ y k. let w : g - t.values < length t.targets = slice_get_within t.targets (g - t.values) v y in (low, omega arith)
          ] refl h
    ] refl e

-- a content keeps its kind where nodes are renamed, and each stands for one of the same type
pub kind-renamed : (t : TypeShape) (ty ty' : ℕ → TypeNo) (x z g : ℕ) (c : Content) → ((y : ℕ) → c ≡ Target y → ty' (moved x z y) ≡ ty y) → HasKind t ty g c → HasKind t ty' g (renamed x z c)
kind-renamed t ty ty' x z g (Number n) h k = k
kind-renamed t ty ty' x z g Null h k = k
kind-renamed t ty ty' x z g (TargetOf ynode) h k = let y : ℕ = ynode.0 in k ∙ ap (λ (v : TypeNo). Some (Pointer v)) (sym (h y refl))
kind-renamed t ty ty' x z g Free h k = k
kind-renamed t ty ty' x z g (FromOf ynode fslot) h k = k

-- and where the nodes have the types that they had
pub kind-types : (t : TypeShape) (ty ty' : ℕ → TypeNo) (g : ℕ) (c : Content) → ((y : ℕ) → c ≡ Target y → ty' y ≡ ty y) → HasKind t ty g c → HasKind t ty' g c
kind-types t ty ty' g (Number n) h k = k
kind-types t ty ty' g Null h k = k
kind-types t ty ty' g (TargetOf ynode) h k = let y : ℕ = ynode.0 in k ∙ ap (λ (v : TypeNo). Some (Pointer v)) (sym (h y refl))
kind-types t ty ty' g Free h k = k
kind-types t ty ty' g (FromOf xnode fslot) h k = k
