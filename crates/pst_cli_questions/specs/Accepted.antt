-- Texts of accepted programs, and the names that they declare.
use Rattle.std.specs.Prelude.{◌≡◌, ◌≢◌, ℕ, List, [], ◌∷◌, length, map, Ok}
use Rattle.std.specs.List.{AllPairs}
use Rattle.pst_grammar.specs.Syntax as tree
use Rattle.pst_grammar.specs.Grammar.{HasTree}
use Rattle.pst_typing.specs.Declarations.{NamedProgram, root_type_name, checked}

-- the text has this tree, and typing accepts it as this program
abbrev pub IsAcceptedAs : List ℕ → tree.ProgramText → NamedProgram → Type 0
IsAcceptedAs text whole typed = HasTree text whole × (checked whole.items ≡ Ok typed)

-- ---- names

-- the name that a declaration declares
abbrev pub declared_name : tree.Item → List ℕ
declared_name (tree.Record line x limit fields) = x
declared_name (tree.Root line x kind) = x
declared_name (tree.Procedure p) = p.name

-- the names of the record types, in the order of declaration
abbrev pub record_names : List tree.Item → List (List ℕ)
record_names [] = []
record_names (tree.Record line x limit fields ∷ items) = x ∷ record_names items
record_names (tree.Root line x kind ∷ items) = record_names items
record_names (tree.Procedure p ∷ items) = record_names items

-- The record types of a typed program: the root record's, and then those that are declared, under names that differ.
pub record HasDeclaredTypes (items : List tree.Item) (typed : NamedProgram) : Type 0 where
  pub names : map (λ t. t.name) typed.names ≡ root_type_name ∷ record_names items
  pub shape : length typed.shape ≡ length typed.names
  pub differ : AllPairs (λ x y. x ≢ y) (record_names items)
