use Rattle.std.proofs.Common.{map}
use Rattle.pst_grammar.specs.View.{item_of}
use Rattle.pst_typing.specs.Answers.{through}
use Rattle.pst_typing.specs.Declarations.{NamedProgram, declared}
use Rattle.pst_types_scope.specs.View.{scope_of}
use Rattle.pst_typing.proofs.Through.{Left}
use Rattle.pst_types.proofs.walks.approve_all.Given as goal

-- what is left gives, after some program in the making, what all of them give
abbrev pub invariant-loop-declaration : goal.invariant-loop-declaration
invariant-loop-declaration l =
    let judge = declared (scope_of l.scope) in
    (before : NamedProgram) → (now : NamedProgram) × Left judge item_of l.declarations (through judge before (map item_of l.declarations)) l.declaration-index now
