-- What holds of the names of every accepted program. Each statement is what a function without code ensures.
use Rattle.std.specs.Prelude.{◌≡◌, ◌↔◌, ℕ, ◌<◌, ◌^◌, List, length, All, Ok}
use Rattle.pst_base.specs.declared.names.Name.{Name}
use Rattle.pst_base.specs.Heap.{Heap}
use Rattle.pst_lex.specs.Lexing.{IsName}
use Rattle.pst_grammar.specs.Syntax as tree
use Rattle.pst_grammar.specs.Grammar.{HasTree}
use Rattle.pst_typing.specs.Declarations.{NamedProgram, checked}
use Rattle.pst_questions.specs.Dump.{IsDump}
use Rattle.pst_questions.specs.Renaming.{IsRenaming, IsHeapOf, AreNamedApart}
use Rattle.pst_cli_questions.specs.Accepted.{IsAcceptedAs, declared_name, HasDeclaredTypes}

-- what a text declares has a name: letters, digits and `_`, and no keyword
abbrev pub DeclaredAreNames : Type 0
DeclaredAreNames = (text : List ℕ) (whole : tree.ProgramText) → HasTree text whole → All (λ item. IsName (declared_name item)) whole.items

-- the record types of a typed program are those that its tree declares, whatever text it comes from
abbrev pub TypesAreDeclared : Type 0
TypesAreDeclared = (items : List tree.Item) (typed : NamedProgram) → checked items ≡ Ok typed → HasDeclaredTypes items typed

-- so each record type of an accepted program has a name of its own, in which no colon stands
abbrev pub AcceptedAreNamedApart : Type 0
AcceptedAreNamedApart = (text : List ℕ) (whole : tree.ProgramText) (typed : NamedProgram) → IsAcceptedAs text whole typed → AreNamedApart typed.shape typed.names

-- and dumps below 2^64 bytes of two heaps of it are equal exactly where one heap is the other one with its records renamed
abbrev pub DumpsOfAcceptedTellHeaps : Type 0
DumpsOfAcceptedTellHeaps = (text : List ℕ) (whole : tree.ProgramText) (typed : NamedProgram) → IsAcceptedAs text whole typed
    → (h g : Heap) (dump other : List ℕ) → IsHeapOf typed.shape h → IsHeapOf typed.shape g → IsDump typed.names h dump → IsDump typed.names g other → length dump < 2 ^ 64
    → (dump ≡ other) ↔ ((to : Name → Name) × IsRenaming h g to)
