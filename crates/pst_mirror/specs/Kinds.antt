-- What the slots of a node may hold.
use Rattle.std.specs.Prelude.{◌≡◌, ℕ, ◌+◌, ◌<◌, ◌≤◌, ◌⊎◌, Some}
use Rattle.pst_base.specs.declared.names.TypeNo.{TypeNo}
use Rattle.pst_base.specs.declared.names.Kind.TheVariants.{Pointer}
use Rattle.pst_base.specs.declared.shape.TypeShape.{TypeShape}
use Rattle.pst_base.specs.Shape.{field_kind, element_count}
use Rattle.pst_rows.specs.declared.content.Content.{Content}
use Rattle.pst_rows.specs.declared.content.Content.TheVariants.{Number, Null, Free, Target as TargetOf, From as FromOf}

-- an inverse slot of a type: one for each unit of the limit, behind the fields
pub record IsInverse (t : TypeShape) (g : ℕ) : Type 0 where
  pub from : element_count t ≤ g
  pub below : g < element_count t + t.limit

-- A content of the slot's kind: a number in a value slot; null or a node of the field's type in a pointer slot; nothing or
-- an entry in an inverse slot. Past the slots stands null. `ty` gives the type of each node.
abbrev pub HasKind : TypeShape → (ℕ → TypeNo) → ℕ → Content → Type 0
HasKind t ty g (Number n) = g < t.values
HasKind t ty g Null = (t.values ≤ g) × ((g < element_count t) ⊎ (element_count t + t.limit ≤ g))
HasKind t ty g (TargetOf y) = field_kind t g ≡ Some (Pointer (ty y.0))
HasKind t ty g Free = IsInverse t g
HasKind t ty g (FromOf x f) = IsInverse t g
