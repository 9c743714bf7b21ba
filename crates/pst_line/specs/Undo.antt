-- What the undo entries of a run stand for.
use Rattle.std.specs.Prelude.{◌≡◌, ◌≢◌, ⊤, ℕ, ◌<◌, length, List, [], ◌∷◌, Option, Some, None, ℤ}
use Rattle.std.specs.FinMap.{get}
use Rattle.pst_base.specs.declared.names.Name.{Name}
use Rattle.pst_base.specs.declared.shape.TypeShape.{TypeShape}
use Rattle.pst_base.specs.Heap.{Rec, Heap, IsWellFormed, IsValueSlot, IsPointerSlot, with_value, with_pointer, with_record, new_record, value_at, pointer_at}
use Rattle.pst_base.specs.declared.names.TypeNo.{TypeNo}
use Rattle.pst_line_nodes.specs.declared.content.Content.{Content}
use Rattle.pst_line_nodes.specs.declared.content.Content.TheVariants.{Number, Null, Target as TargetOf}

-- a field with a content that was there
abbrev pub put_back : (ℕ → Name) → Heap → Name → ℕ → Content → Heap
put_back name h n slot (Number v) = with_value h n slot v
put_back name h n slot Null = with_pointer h n slot None
put_back name h n slot (TargetOf y) = with_pointer h n slot (Some (name y.0))

-- what a field is given before any gets what it had: null, where that is a pointer
abbrev pub blank : Content → Content
blank (Number v) = Number v
blank Null = Null
blank (TargetOf y) = Null

-- an undo entry, with the record's name in place of its node
pub record Mark : Type 0 where
  pub name : Name
  pub slot : ℕ
  pub content : Content

-- Putting back one entry after another leads to the heap `base`, through well-formed heaps alone: so no write of the undo meets a
-- full record. (`base` is the newest version's heap, with the records that the run made, each with default
-- fields.)
abbrev pub LeadsBack : List TypeShape → (ℕ → Name) → Heap → List Mark → Heap → Type 0
LeadsBack shape name base [] h = h ≡ base
LeadsBack shape name base (m ∷ ms) h = IsWellFormed shape (put_back name h m.name m.slot m.content) × LeadsBack shape name base ms (put_back name h m.name m.slot m.content)

-- what was in a field, put back after a write of the field, is the heap from before
abbrev pub ValueBackLaw : Type 0
ValueBackLaw = (h : Heap) (n : Name) (slot : ℕ) (v : ℤ) (r : Rec) → get h n ≡ Some r → IsValueSlot r slot → with_value (with_value h n slot v) n slot (value_at r slot) ≡ h

abbrev pub PointerBackLaw : Type 0
PointerBackLaw = (h : Heap) (n : Name) (slot : ℕ) (p : Option Name) (r : Rec) → get h n ≡ Some r → IsPointerSlot r slot → with_pointer (with_pointer h n slot p) n slot (pointer_at r slot) ≡ h

-- so a write may be entered: the undo leads back to where it led
abbrev pub EntryLaw : Type 0
EntryLaw = (shape : List TypeShape) (name : ℕ → Name) (base h new : Heap) (m : Mark) (ms : List Mark) → IsWellFormed shape h → put_back name new m.name m.slot m.content ≡ h → LeadsBack shape name base ms h → LeadsBack shape name base (m ∷ ms) new

-- no entry is of the record
abbrev pub AreOthers : Name → List Mark → Type 0
AreOthers q [] = ⊤
AreOthers q (m ∷ ms) = (m.name ≢ q) × AreOthers q ms

-- a new record may be made: the undo leads back to where it led, with the record
abbrev pub RecordBackLaw : Type 0
RecordBackLaw = (shape : List TypeShape) (name : ℕ → Name) (base h : Heap) (ms : List Mark) (q : Name) (ty : TypeNo) → 0 < ty.0 → ty.0 < length shape → get h q ≡ None → AreOthers q ms
    → LeadsBack shape name base ms h → LeadsBack shape name (with_record base q (new_record shape ty)) ms (with_record h q (new_record shape ty))
