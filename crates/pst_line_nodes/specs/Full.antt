-- When a pointer write is to be refused.
use Rattle.std.specs.Prelude.{◌≡◌, ℕ, ◌<◌, Bool, true, false, not, ◌↔◌, List, Option, Some, None}
use Rattle.pst_base.specs.declared.names.Kind.TheVariants.{Pointer}
use Rattle.pst_base.specs.declared.shape.TypeShape.{TypeShape}
use Rattle.pst_base.specs.Shape.{type_at, field_kind}
use Rattle.pst_base.specs.Heap.{IsFull}
use Rattle.pst_line_nodes.specs.Line.{Line, IsIn, IsLine, heap_at}
use Rattle.pst_line_nodes.specs.Changes.{is_entry, without}

-- an inverse slot that has the entry of another field than this one
abbrev pub is_other_entry : ℕ → ℕ → Option (ℕ × ℕ) → Bool
is_other_entry x f None = false
is_other_entry x f (Some e) = not (is_entry x f (Some e))

-- A write of y into the field f of x is to be refused exactly where each inverse slot of y has the entry of another field.
-- So it is in the middle of a cascade too.
abbrev pub FullLaw : Type 0
FullLaw = (shape : List TypeShape) (t : ℕ) (w : Line) (x f y : ℕ) → IsLine shape t w → IsIn w x t → IsIn w y t → field_kind (type_at shape (w.ty x)) f ≡ Some (Pointer (w.ty y))
    → IsFull shape (heap_at shape w t) (w.name x) f (Some (w.name y)) ↔ ((u : ℕ) → u < (type_at shape (w.ty y)).limit → is_other_entry x f (w.entry y u) ≡ true)

-- a slot that does not have the entry of another field is free once the old pointer is taken away
abbrev pub OpenLaw : Type 0
OpenLaw = (x f : ℕ) (e : Option (ℕ × ℕ)) → is_other_entry x f e ≡ false → without x f e ≡ None
