-- What is judged of a record type, and what it adds to a program in the making.
use Rattle.std.specs.Prelude.{ℕ, ℤ, List, [], ◌∷◌, ◌++◌, Result, Ok}
use Rattle.pst_grammar.specs.Syntax.{FieldText}
use Rattle.pst_typing.specs.declared.fault.TypeFault.{TypeFault}
use Rattle.pst_typing.specs.declared.fault.TypeFault.TheVariants.{Limit}
use Rattle.pst_typing.specs.Answers.{and_then, found, through}
use Rattle.pst_typing.specs.Names.{Members, no_members, Scope}
use Rattle.pst_typing.specs.Declarations.{limit_of, field, shape_of, names_of, NamedProgram}

-- its in-degree limit, then its fields
abbrev pub members_judged : Scope → (line : ℕ) → ℤ → List FieldText → Result (ℕ × Members) TypeFault
members_judged scope line limit fields = found (limit_of limit) (Limit line) (λ n. and_then (through (field scope) no_members fields) (λ members. Ok (n, members)))

-- a program with one more record type
abbrev pub with_type : Scope → NamedProgram → (limit : ℕ) → (name : List ℕ) → Members → NamedProgram
with_type scope p n x m = record p { shape = p.shape ++ shape_of scope n m ∷ []; names = p.names ++ names_of x m ∷ [] }
