-- The canonical text of a program: one way to write each.
use Rattle.std.specs.Prelude.{ℕ, ℤ, nat_eq, Bool, true, false, if◌then◌else◌, List, [], ◌++◌, codes, Option, Some, None}
use Rattle.std.specs.List.{flat_map}
use Rattle.std.specs.Fmt.{signed_decimal}
use Rattle.pst_grammar.specs.Syntax.{TypeWord, Int, Named, FieldText, Val, Ptr, LocalText, ProcedureText, Item, Record, Root, Procedure, Phrases, ProgramText}
use Rattle.pst_notation.specs.Texts.{line, listed, phrases_text}

-- ---- declarations

abbrev pub type_text : TypeWord → List ℕ
type_text Int = codes "int"
type_text (Named t) = t

-- a name with its type
abbrev pub typed_text : List ℕ → TypeWord → List ℕ
typed_text x kind = x ++ codes ": " ++ type_text kind

-- the number of elements of an array, behind the type of its field
abbrev pub elements_text : Option ℤ → List ℕ
elements_text None = []
elements_text (Some n) = codes " * " ++ signed_decimal n

-- a field, on the line of its record type, with a space behind it
abbrev pub field_text : FieldText → List ℕ
field_text (Val _ x n) = codes "val " ++ x ++ codes ": int" ++ elements_text n ++ codes "; "
field_text (Ptr _ x t n) = codes "ptr " ++ x ++ codes ": " ++ t ++ elements_text n ++ codes "; "

abbrev pub parameter_text : LocalText → List ℕ
parameter_text p = typed_text p.name p.kind

abbrev pub local_text : LocalText → List ℕ
local_text l = line 2 (codes "var " ++ typed_text l.name l.kind ++ codes ";")

abbrev pub gives_text : Option TypeWord → List ℕ
gives_text None = []
gives_text (Some kind) = codes ": " ++ type_text kind

abbrev pub sort_text : (query : Bool) → List ℕ
sort_text true = codes "query "
sort_text false = codes "proc "

-- the head line of a procedure
abbrev pub head_text : (query : Bool) → List ℕ → List LocalText → Option TypeWord → List ℕ
head_text query x parameters result =
    line 0 (sort_text query ++ x ++ codes "(" ++ listed parameter_text parameters ++ codes ")" ++ gives_text result ++ codes " {")

-- what stands behind the head line of a procedure
abbrev pub body_text : List LocalText → Phrases → List ℕ
body_text locals body = flat_map local_text locals ++ phrases_text 2 body ++ line 0 (codes "}")

abbrev pub procedure_text : ProcedureText → List ℕ
procedure_text p = head_text p.query p.name p.parameters p.result ++ body_text p.locals p.body

-- the line of a record type
abbrev pub record_text : List ℕ → (limit : ℤ) → List FieldText → List ℕ
record_text x limit fields = line 0 (codes "record " ++ x ++ codes " " ++ signed_decimal limit ++ codes " { " ++ flat_map field_text fields ++ codes "}")

abbrev pub item_text : Item → List ℕ
item_text (Record _ x limit fields) = record_text x limit fields
item_text (Root _ x kind) = line 0 (codes "root " ++ typed_text x kind ++ codes ";")
item_text (Procedure p) = procedure_text p

-- the first line of a program of language 2; one of language 1 begins with its declarations
abbrev pub language_text : ℕ → List ℕ
language_text l = if nat_eq l 2 then line 0 (codes "language 2") else []

-- the canonical text of a program
unfoldable pub canonical : ProgramText → List ℕ
canonical p = language_text p.language ++ flat_map item_text p.items
