-- What the walk over the records notes: a numbering of records, and what one record adds to it.
use Rattle.std.specs.Prelude.{◌≡◌, ℕ, List, [], map, Option, Some, None, ℤ}
use Rattle.std.specs.List.{All, fold}
use Rattle.std.specs.Option.{option_map}
use Rattle.std.specs.FinMap.{get}
use Rattle.indexmap.specs.IndexSet.{insert_key}
use Rattle.pst_base.specs.declared.names.Name.{Name}
use Rattle.pst_base.specs.declared.shape.TypeShape.{TypeShape}
use Rattle.pst_base.specs.Name.{same_name}
use Rattle.pst_base.specs.Shape.{type_at}
use Rattle.pst_base.specs.Heap.{Rec, Heap, type_in}
use Rattle.pst_versions.specs.State.{State}
use Rattle.pst_questions.specs.Dump.{number_in, target_word}
use Rattle.pst_questions.specs.declared.numbering.Numbering.{Numbering}

-- ---- numberings

-- the name that two numbers stand for
abbrev pub named : ℕ × ℕ → Name
named key = record { run = record { 0 = key.0 }; ordinal = key.1 }

-- the records of a numbering in order, by their names, each with its reference
abbrev pub entries_of : {R : Type 0} → Numbering R → List (Name × R)
entries_of found = map (λ e. (named e.0, e.1)) found.records.entries

-- the names of the records of a numbering
abbrev pub names_of : {R : Type 0} → Numbering R → List Name
names_of found = map (λ e. e.0) (entries_of found)

-- a reference that is live at a place, under the name of its record
pub record IsEntry {P R : Type 0} (s : State P R) (at : P) (e : Name × R) : Type 0 where
  pub live : s.live at e.1
  pub name : s.name e.1 ≡ e.0

-- each reference of a numbering is live at a place, under the name of its record
abbrev pub AreEntries : {P R : Type 0} → State P R → P → Numbering R → Type 0
AreEntries s at found = All (IsEntry s at) (entries_of found)

-- ---- records

abbrev pub values_from : Option Rec → List ℤ
values_from None = []
values_from (Some r) = r.values

abbrev pub pointers_from : Option Rec → List (Option Name)
pointers_from None = []
pointers_from (Some r) = r.pointers

-- the numbers and the pointers of a record, in the order of slots
abbrev pub values_in : Heap → Name → List ℤ
values_in h n = values_from (get h n)

abbrev pub pointers_in : Heap → Name → List (Option Name)
pointers_in h n = pointers_from (get h n)

-- the type of a record
abbrev pub fields_in : List TypeShape → Heap → Name → Option TypeShape
fields_in shape h n = option_map (type_at shape) (type_in h n)

module _ {P R : Type 0} (s : State P R) (at : P) (r : R) where
  -- the same of the record of a reference, at a place
  abbrev pub record_of : Option Rec
  record_of = get (s.heap at) (s.name r)

  abbrev pub values_of : List ℤ
  values_of = values_in (s.heap at) (s.name r)

  abbrev pub pointers_of : List (Option Name)
  pointers_of = pointers_in (s.heap at) (s.name r)

  -- the reference is live, and its record has these fields
  pub record IsRecordWith (fields : TypeShape) : Type 0 where
    pub live : s.live at r
    pub fields_are : fields_in s.shape (s.heap at) (s.name r) ≡ Some fields

-- ---- what one record adds

-- the names with the one that a pointer holds behind them, if it is not there yet
abbrev pub noted : List Name → Option Name → List Name
noted names None = names
noted names (Some n) = insert_key same_name names n

-- the same for pointers one after another
abbrev pub all_noted : List Name → List (Option Name) → List Name
all_noted names pointers = fold noted names pointers

-- ---- its text

-- null, or the number of the target
abbrev pub pointer_word : List Name → Option Name → List ℕ
pointer_word names pointer = target_word (option_map (number_in names) pointer)
