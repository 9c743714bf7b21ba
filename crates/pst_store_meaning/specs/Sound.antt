-- The heap at each position is well formed, and when a pointer write is to be refused.
use Rattle.pst_mirror.specs.Degree.{is_other_entry}
use Rattle.std.specs.Prelude.{◌≡◌, ℕ, ◌+◌, ◌<◌, true, false, ◌↔◌, List, Some}
use Rattle.pst_base.specs.declared.names.Kind.TheVariants.{Pointer}
use Rattle.pst_base.specs.declared.shape.TypeShape.{TypeShape}
use Rattle.pst_base.specs.Shape.{type_at, field_kind, element_count}
use Rattle.pst_base.specs.Heap.{IsWellFormed, IsFull}
use Rattle.pst_rows.specs.declared.content.Content.TheVariants.{Free}
use Rattle.pst_store_meaning.specs.Arena.{Arena, IsIn, IsArena, IsDrawn, heap_at}
use Rattle.pst_mirror.specs.Kinds.{IsInverse}
use Rattle.pst_store_meaning.specs.Changes.{IsPointerTaken}

abbrev pub SoundLaw : Type 0
SoundLaw = (shape : List TypeShape) (end : ℕ) (w : Arena) (n : ℕ) → IsArena shape end w → IsDrawn w → n < end → IsWellFormed shape (heap_at shape w n)

-- A write of y into the field f of x is to be refused exactly where each inverse slot of y holds the entry of another
-- field: where no slot of y would be free once the old pointer is taken away.
abbrev pub FullLaw : Type 0
FullLaw = (shape : List TypeShape) (end : ℕ) (w : Arena) (n x f y : ℕ) → IsArena shape end w → IsDrawn w → IsIn w x n → IsIn w y n → field_kind (type_at shape (w.ty x)) f ≡ Some (Pointer (w.ty y))
    → IsFull shape (heap_at shape w n) (w.name x) f (Some (w.name y))
    ↔ ((u : ℕ) → u < (type_at shape (w.ty y)).limit → is_other_entry x f (w.chart.holds y (element_count (type_at shape (w.ty y)) + u) n) ≡ true)

-- a slot of y that does not hold the entry of another field is free once the old pointer is taken away
abbrev pub OpenSlotLaw : Type 0
OpenSlotLaw = (shape : List TypeShape) (end : ℕ) (old new : Arena) (x f y s b z t : ℕ) → IsArena shape end old → IsPointerTaken old new x f y s b → IsIn old z b → IsInverse (type_at shape (old.ty z)) t
    → is_other_entry x f (old.chart.holds z t b) ≡ false → new.chart.holds z t b ≡ Free
