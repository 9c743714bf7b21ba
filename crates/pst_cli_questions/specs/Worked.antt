-- The names of small programs, by hand.
use Rattle.std.specs.Prelude.{◌≡◌, ℕ, List, [], ◌∷◌, codes, pos, Some, Ok}
use Rattle.pst_grammar.specs.Syntax as tree
use Rattle.pst_grammar.specs.Grammar.{HasTree}
use Rattle.pst_typing.specs.Declarations.{NamedProgram, checked}
use Rattle.pst_questions.specs.Renaming.{AreNamedApart}
use Rattle.pst_cli_questions.specs.Accepted.{IsAcceptedAs}

-- a record type without fields, in language 1
abbrev pub called : List ℕ → tree.ProgramText
called x = record { language = 1; items = tree.Record 1 x (pos 1) [] ∷ [] }

abbrev pub called_typed : List ℕ → NamedProgram
called_typed x = record {
  shape = record { values = 0; targets = []; limit = 1 } ∷ record { values = 0; targets = []; limit = 1 } ∷ [];
  names = record { name = codes "root"; fields = [] } ∷ record { name = x; fields = [] } ∷ [];
  procedures = [];
}

-- a record type with an array of two pointers to its own records, in language 2
abbrev pub paired : tree.ProgramText
paired = record { language = 2; items = tree.Record 1 (codes "N") (pos 1) (tree.Ptr 1 (codes "f") (codes "N") (Some (pos 2)) ∷ []) ∷ [] }

abbrev pub paired_typed : NamedProgram
paired_typed = record {
  shape = record { values = 0; targets = []; limit = 1 } ∷ record { values = 0; targets = record { 0 = 1 } ∷ record { 0 = 1 } ∷ []; limit = 1 } ∷ [];
  names = record { name = codes "root"; fields = [] } ∷ record { name = codes "N"; fields = record { name = codes "f"; slot = record { 0 = 0 }; elements = Some 2 } ∷ [] } ∷ [];
  procedures = [];
}

-- A text with a record type is accepted, in either language: `language 2` declares nothing. Typing accepts a tree whose record
-- type is called `root` too, and then two types have one name; but no text has that tree.
pub record WorkedNames : Type 0 where
  pub accepted : IsAcceptedAs (codes "record N 1 { }") (called (codes "N")) (called_typed (codes "N"))
  pub second : IsAcceptedAs (codes "language 2 record N 1 { ptr f: N * 2; }") paired paired_typed
  pub typed : checked (called (codes "root")).items ≡ Ok (called_typed (codes "root"))
  pub not_apart : AreNamedApart (called_typed (codes "root")).shape (called_typed (codes "root")).names → ⊥
  pub no_text : (text : List ℕ) → HasTree text (called (codes "root")) → ⊥
