-- What the definitions say of small examples.
use Rattle.std.specs.Prelude.{◌≡◌, ℕ, pos, true, false, codes, replicate, List, [], ◌∷◌, Option, Some, None, slice_index_or}
use Rattle.std.specs.FinMap.{get}
use Rattle.pst_base.specs.declared.names.Kind.{Kind}
use Rattle.pst_base.specs.declared.names.Kind.TheVariants.{Int, Pointer}
use Rattle.pst_base.specs.declared.names.VersionNo.{VersionNo}
use Rattle.pst_base.specs.Name.{root_name}
use Rattle.pst_base.specs.Heap.{Heap}
use Rattle.pst_base.specs.Worked.{item, worked_shape, root_record, first_record, first as first_name}
use Rattle.pst_program.specs.declared.program.FieldName.{FieldName}
use Rattle.pst_program.specs.declared.program.TypeEntry.{TypeEntry}
use Rattle.pst_program.specs.declared.program.Program.{Program}
use Rattle.pst_program.specs.declared.meaning.Value.{Value}
use Rattle.pst_program.specs.declared.meaning.Value.TheVariants.{Number, Null, Record}
use Rattle.pst_questions.specs.declared.slots.PathStep.{PathStep}
use Rattle.pst_questions.specs.Path.{is_path, resolved}
use Rattle.pst_questions.specs.Reading.{reading}
use Rattle.pst_questions.specs.Change.{Readings, IsFirstChange, NeverChanged}

-- ---- forms

-- names have 1 to 32 bytes and are no keywords, and single dots join them
pub record PathForms : Type 0 where
  pub names : is_path (codes "first.next_2._key") ≡ true
  pub longest : is_path (replicate 32 97) ≡ true
  pub too_long : is_path (replicate 33 97) ≡ false
  pub none : is_path [] ≡ false
  pub two_dots : is_path (codes "first..key") ≡ false
  pub dot_behind : is_path (codes "first.") ≡ false
  pub dot_before : is_path (codes ".first") ≡ false
  pub keyword : is_path (codes "first.new") ≡ false
  pub digit : is_path (codes "first.2") ≡ false
  pub blank : is_path (codes "first. key") ≡ false

-- ---- fields

abbrev pub field : List ℕ → ℕ → FieldName
field name slot = record { name = name; slot = record { 0 = slot }; elements = None }

abbrev pub array : List ℕ → (slot elements : ℕ) → FieldName
array name slot elements = record { name = name; slot = record { 0 = slot }; elements = Some elements }

abbrev pub step : ℕ → Kind → PathStep
step slot kind = record { slot = record { 0 = slot }; kind = kind }

-- the roots `first` and `last`, and the fields `key`, `next` and `back` of an item
abbrev pub worked_names : List TypeEntry
worked_names =
    record { name = codes "root"; fields = field (codes "first") 0 ∷ field (codes "last") 1 ∷ [] }
    ∷ record { name = codes "N"; fields = field (codes "key") 0 ∷ field (codes "next") 1 ∷ field (codes "back") 2 ∷ [] } ∷ []

abbrev pub worked_program : Program → Program
worked_program p = record p { shape = worked_shape 4; names = worked_names }

-- the first name is that of a root, each further one is that of a field, and only a pointer leads on
pub record PathFields (p : Program) : Type 0 where
  pub root : resolved p (codes "last") ≡ Some (step 1 (Pointer item) ∷ [])
  pub number : resolved p (codes "first.key") ≡ Some (step 0 (Pointer item) ∷ step 0 Int ∷ [])
  pub pointer : resolved p (codes "first.next.back") ≡ Some (step 0 (Pointer item) ∷ step 1 (Pointer item) ∷ step 2 (Pointer item) ∷ [])
  pub no_root : resolved p (codes "key") ≡ None
  pub no_field : resolved p (codes "first.size") ≡ None
  pub root_behind : resolved p (codes "first.last") ≡ None
  pub past_number : resolved p (codes "first.key.next") ≡ None

-- the same, where the two pointers of an item are an array `links`
abbrev pub linked_names : List TypeEntry
linked_names =
    record { name = codes "root"; fields = field (codes "first") 0 ∷ field (codes "last") 1 ∷ [] }
    ∷ record { name = codes "N"; fields = field (codes "key") 0 ∷ array (codes "links") 1 2 ∷ [] } ∷ []

abbrev pub linked_program : Program → Program
linked_program p = record p { shape = worked_shape 4; names = linked_names }

-- a path names no array
pub record NoPathToArrays (p : Program) : Type 0 where
  pub plain : resolved p (codes "first.key") ≡ Some (step 0 (Pointer item) ∷ step 0 Int ∷ [])
  pub array : resolved p (codes "first.links") ≡ None
  pub past_array : resolved p (codes "first.links.key") ≡ None

abbrev pub WorkedFields : Type 0
WorkedFields = (p : Program) → PathFields (worked_program p) × NoPathToArrays (linked_program p)

-- ---- readings

-- a number, a record or null at the end, or nothing where a null is met before
pub record PathReadings (h : Heap) : Type 0 where
  pub number : reading h (step 0 (Pointer item) ∷ step 0 Int ∷ []) ≡ Some (Number (pos 7))
  pub target : reading h (step 0 (Pointer item) ∷ step 1 (Pointer item) ∷ []) ≡ Some (Record first_name)
  pub null : reading h (step 1 (Pointer item) ∷ []) ≡ Some Null
  pub past_null : reading h (step 1 (Pointer item) ∷ step 0 Int ∷ []) ≡ None
  pub null_at_the_end : reading h (step 0 (Pointer item) ∷ step 1 (Pointer item) ∷ step 2 (Pointer item) ∷ []) ≡ Some Null

-- the first root holds an item with the number 7, which holds itself; the second root is null
abbrev pub WorkedReadings : Type 0
WorkedReadings = (h : Heap) → get h root_name ≡ Some root_record → get h first_name ≡ Some first_record → PathReadings h

-- ---- changes

abbrev pub version : ℕ → VersionNo
version n = record { 0 = n }

-- versions 1 to 4, of which 2 and 4 were made from 1, and 3 from 2
abbrev pub worked_readings : List (Option Value) → Readings
worked_readings reads = record {
  parent = λ v. slice_index_or (None ∷ Some (version 0) ∷ Some (version 1) ∷ Some (version 2) ∷ Some (version 1) ∷ []) v None;
  read = λ v. slice_index_or reads v None;
}

-- the number in an item that version 1 makes, version 2 and version 4 write, and version 3 leaves alone
abbrev pub worked_keys : Readings
worked_keys = worked_readings (None ∷ Some (Number (pos 1)) ∷ Some (Number (pos 4)) ∷ Some (Number (pos 4)) ∷ Some (Number (pos 6)) ∷ [])

-- the item itself
abbrev pub worked_firsts : Readings
worked_firsts = worked_readings (Some Null ∷ Some (Record first_name) ∷ Some (Record first_name) ∷ Some (Record first_name) ∷ Some (Record first_name) ∷ [])

-- the field of an item that version 1 makes with null in it
abbrev pub worked_nulls : Readings
worked_nulls = worked_readings (None ∷ Some Null ∷ Some Null ∷ Some Null ∷ Some Null ∷ [])

pub record WorkedChanges : Type 0 where
  pub before : IsFirstChange worked_keys 3 2
  pub here : IsFirstChange worked_keys 4 4
  pub far : IsFirstChange worked_firsts 3 1
  pub null_is_not_nothing : IsFirstChange worked_nulls 4 1
  pub never : NeverChanged worked_firsts 0
