-- What the names of a program stand for.
use Rattle.std.specs.Prelude.{ℕ, ◌+◌, min, ℤ, pos, negsuc, Bool, true, not, ◌&&◌, List, [], ◌∷◌, ◌++◌, Option, Some, None, is_some, if◌then◌else◌, bytes_eq, unwrap_or}
use Rattle.std.specs.Map.{lookup}
use Rattle.std.specs.Option.{option_map, option_and_then}
use Rattle.pst_base.specs.declared.names.Kind.{Kind}
use Rattle.pst_base.specs.declared.names.Kind.TheVariants as kind
use Rattle.pst_base.specs.declared.names.TypeNo.{TypeNo}
use Rattle.pst_base.specs.declared.names.ProcNo.{ProcNo}
use Rattle.pst_base.specs.Shape.{root_type}
use Rattle.pst_grammar.specs.Syntax.{TypeWord, Int, Named, FieldText, Val, Ptr, LocalText}
use Rattle.pst_program.specs.Typed.{is_length}

-- what a list of names has for a name: the first counts
abbrev pub named : {A : Type 0} → List ℕ → List (List ℕ × A) → Option A
named x list = lookup (bytes_eq x) list

abbrev pub is_named : {A : Type 0} → List ℕ → List (List ℕ × A) → Bool
is_named x list = is_some (named x list)

-- a number of 16 bits that stops at its last
abbrev pub bounded : ℕ → ℕ
bounded n = min n 65535

-- ---- the number of elements of a field

-- the number of elements of an array, if it is from 1 to 16
abbrev pub array_length : ℤ → Option ℕ
array_length (pos n) = if is_length n then Some n else None
array_length (negsuc n) = None

-- whether a field can have the number of elements that is written, if one is
abbrev pub is_length_of : Option ℤ → Bool
is_length_of None = true
is_length_of (Some n) = is_some (array_length n)

-- the number of elements of a field that is an array. A number that no array has counts as 1 until the program is refused for it
abbrev pub length_in : Option ℤ → Option ℕ
length_in n = option_map (λ n. unwrap_or (array_length n) 1) n

-- how many elements a field has: one, where it is no array
abbrev pub elements_of : Option ℕ → ℕ
elements_of n = unwrap_or n 1

-- ---- fields

-- a field: its type, how many elements it has where it is an array, and how many elements of its sort stand before it, where
-- numbers are one sort and pointers the other
pub record Member : Type 0 where
  pub rank : ℕ
  pub kind : TypeWord
  pub elements : Option ℕ

-- the fields of a record type in the order of declaration, and how many elements hold a number and how many a pointer
pub record Members : Type 0 where
  pub values : ℕ
  pub pointers : ℕ
  pub list : List (List ℕ × Member)

abbrev pub no_members : Members
no_members = record { values = 0; pointers = 0; list = [] }

-- with one more field, of so many elements
abbrev pub with_member : Members → List ℕ → TypeWord → (elements : Option ℕ) → Members
with_member m x Int n =
    record { values = bounded (m.values + elements_of n); pointers = m.pointers; list = m.list ++ (x, record { rank = m.values; kind = Int; elements = n }) ∷ [] }
with_member m x (Named t) n =
    record { values = m.values; pointers = bounded (m.pointers + elements_of n); list = m.list ++ (x, record { rank = m.pointers; kind = Named t; elements = n }) ∷ [] }

-- the slot of the first element of a field: the numbers come first
abbrev pub slot_among : Members → TypeWord → (rank : ℕ) → ℕ
slot_among m Int rank = rank
slot_among m (Named t) rank = bounded (m.values + rank)

abbrev pub slot_of : Members → Member → ℕ
slot_of m member = slot_among m member.kind member.rank

abbrev pub field_line : FieldText → ℕ
field_line (Val line x n) = line
field_line (Ptr line x t n) = line

abbrev pub field_name : FieldText → List ℕ
field_name (Val line x n) = x
field_name (Ptr line x t n) = x

abbrev pub field_kind : FieldText → TypeWord
field_kind (Val line x n) = Int
field_kind (Ptr line x t n) = Named t

-- the number of elements that is written
abbrev pub field_elements : FieldText → Option ℤ
field_elements (Val line x n) = n
field_elements (Ptr line x t n) = n

-- with one more field of this text
abbrev pub with_field : Members → FieldText → Members
with_field m f = with_member m (field_name f) (field_kind f) (length_in (field_elements f))

-- with one more field, if its name is new
abbrev pub with_new_member : Members → FieldText → Members
with_new_member m f = if is_named (field_name f) m.list then m else with_field m f

-- the fields of a record type; of doubled names the first counts
abbrev pub members_from : Members → List FieldText → Members
members_from m [] = m
members_from m (f ∷ fs) = members_from (with_new_member m f) fs

-- ---- record types, roots, procedures

pub record RecordType : Type 0 where
  pub number : TypeNo
  pub members : Members

-- a procedure as it is called
pub record Signature : Type 0 where
  pub number : ProcNo
  pub query : Bool
  pub parameters : List LocalText
  pub result : Option TypeWord

-- the declared names; the roots are the fields of the root record
pub record Scope : Type 0 where
  pub types : List (List ℕ × RecordType)
  pub roots : Members
  pub procedures : List (List ℕ × Signature)

abbrev pub nothing_declared : Scope
nothing_declared = record { types = []; roots = no_members; procedures = [] }

-- whether no declaration has the name
abbrev pub is_free : Scope → List ℕ → Bool
is_free scope x = not (is_named x scope.types) && (not (is_named x scope.roots.list) && not (is_named x scope.procedures))

-- the number of a record type. A name of none gets the root's, and the program is refused
abbrev pub number_of : Scope → List ℕ → TypeNo
number_of scope t = unwrap_or (option_map (λ r. r.number) (named t scope.types)) root_type

abbrev pub kind_of : Scope → TypeWord → Kind
kind_of scope Int = kind.Int
kind_of scope (Named t) = kind.Pointer (number_of scope t)

-- whether a type is int or a record type
abbrev pub is_known : Scope → TypeWord → Bool
is_known scope Int = Bool.true
is_known scope (Named t) = is_named t scope.types

-- a field as a program reads and writes it: the slot of its first element, its type, and how many elements it has where it is an array
pub record Slot : Type 0 where
  pub slot : ℕ
  pub kind : TypeWord
  pub elements : Option ℕ

abbrev pub slot_in : Members → List ℕ → Option Slot
slot_in m f = option_map (λ member. record { slot = slot_of m member; kind = member.kind; elements = member.elements }) (named f m.list)

-- the field of a record type
abbrev pub field_named : Scope → (type field : List ℕ) → Option Slot
field_named scope t f = option_and_then (λ r. slot_in r.members f) (named t scope.types)

-- ---- the names inside a procedure

-- a parameter or a local
pub record Local : Type 0 where
  pub number : ℕ
  pub kind : TypeWord

-- where a statement stands: the declared names, whether it is in a query, what the procedure gives, and its parameters and locals
pub record Setting : Type 0 where
  pub scope : Scope
  pub query : Bool
  pub result : Option TypeWord
  pub locals : List (List ℕ × Local)

-- what can be assigned by its name
pub data Variable : Type 0 where
  IsLocal : Local → Variable
  IsRoot : Slot → Variable

abbrev pub local_or : Option Local → Option Slot → Option Variable
local_or (Some l) r = Some (IsLocal l)
local_or None r = option_map IsRoot r

-- the parameter, local or root with a name
abbrev pub variable : Setting → List ℕ → Option Variable
variable setting x = local_or (named x setting.locals) (slot_in setting.scope.roots x)
