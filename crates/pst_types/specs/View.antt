-- What a program in the making stands for in the definitions.
use Rattle.std.specs.Prelude.{map, Result}
use Rattle.pst_grammar.specs.Syntax.{Item}
use Rattle.pst_program.specs.View as typed_view
use Rattle.pst_typing.specs.declared.fault.TypeFault.{TypeFault}
use Rattle.pst_typing.specs.Declarations.{NamedProgram, declared}
use Rattle.pst_typing.specs.View.{Answers}
use Rattle.pst_types_scope.specs.declared.names.Scope.{Scope}
use Rattle.pst_types_scope.specs.View.{scope_of}
use Rattle.pst_types.specs.declared.walks.Draft.{Draft}

abbrev pub draft_of : Draft → NamedProgram
draft_of p = record { shape = p.shape.items; names = p.names.items; procedures = map typed_view.procedure_of p.procedures.items }

-- the answer where a declaration is judged in the scope, after a program in the making: that program with what it says, or its first fault
abbrev pub Declares : Scope → (old new : Draft) → Result (Unit {0}) TypeFault → Item → Type 0
Declares scope old new answer item = Answers (λ _. draft_of new) answer (declared (scope_of scope) (draft_of old) item)
