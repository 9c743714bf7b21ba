-- The dump of a heap: a line for each record that the root record reaches, in the order of their least access paths.
use Rattle.std.specs.Prelude.{◌≡◌, ℕ, suc, ℤ, List, [], ◌∷◌, ◌++◌, map, codes, Option, Some, None}
use Rattle.std.specs.List.{flat_map, position_or_len}
use Rattle.std.specs.Option.{option_map}
use Rattle.std.specs.Fmt.{decimal, signed_decimal}
use Rattle.std.specs.FinMap.{get}
use Rattle.pst_base.specs.declared.names.Name.{Name}
use Rattle.pst_base.specs.declared.names.TypeNo.{TypeNo}
use Rattle.pst_base.specs.Name.{same_name}
use Rattle.pst_base.specs.Shape.{root_type}
use Rattle.pst_base.specs.Heap.{Rec, Heap}
use Rattle.pst_program.specs.declared.program.TypeEntry.{TypeEntry}
use Rattle.pst_program.specs.Names.{type_named}
use Rattle.pst_questions.specs.Paths.{AreNumbered}

-- ---- lines

-- the number of a record: its place in the list
abbrev pub number_in : List Name → Name → ℕ
number_in names n = position_or_len (same_name n) names

-- what a line tells of a record beside its number: its type, its numbers, and null or the number of the target for each
-- pointer, in the order of slots
pub record Line : Type 0 where
  pub ty : TypeNo
  pub values : List ℤ
  pub targets : List (Option ℕ)

abbrev pub line_of : List Name → Option Rec → Line
line_of names None = record { ty = root_type; values = []; targets = [] }
line_of names (Some r) = record { ty = r.ty; values = r.values; targets = map (option_map (number_in names)) r.pointers }

-- the lines of the records of a list, numbered by it
abbrev pub lines_of : Heap → List Name → List Line
lines_of h names = map (λ n. line_of names (get h n)) names

-- ---- their text

abbrev pub value_word : ℤ → List ℕ
value_word v = codes " " ++ signed_decimal v

abbrev pub target_word : Option ℕ → List ℕ
target_word None = codes " null"
target_word (Some number) = codes " @" ++ decimal number

-- the number, the type's name, and then the contents
abbrev pub line_text : List TypeEntry → (number : ℕ) → Line → List ℕ
line_text types number line = decimal number ++ codes " " ++ type_named types line.ty ++ codes ":" ++ flat_map value_word line.values ++ flat_map target_word line.targets ++ codes "\n"

-- the lines one after another, the first with this number
abbrev pub lines_text : List TypeEntry → (number : ℕ) → List Line → List ℕ
lines_text types number [] = []
lines_text types number (line ∷ lines) = line_text types number line ++ lines_text types (suc number) lines

abbrev pub dump_text : List TypeEntry → Heap → List Name → List ℕ
dump_text types h names = lines_text types 0 (lines_of h names)

-- the dump of a heap whose record types have these names
pub record IsDump (types : List TypeEntry) (h : Heap) (text : List ℕ) : Type 0 where
  pub names : List Name
  pub numbered : AreNumbered h names
  pub spelled : text ≡ dump_text types h names
