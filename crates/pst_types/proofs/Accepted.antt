-- What is answered is well typed, by the law of typing.
use Rattle.std.proofs.Common.{List, Result, Ok, Err}
use Rattle.std.specs.Prelude.{IfOk}
use Rattle.pst_grammar.specs.Syntax as tree
use Rattle.pst_grammar.specs.Depth.{IsShallow}
use Rattle.pst_program.specs.Typed.{IsTyped}
use Rattle.pst_program.specs.View.{routines_of}
use Rattle.pst_program.specs.declared.program.Program.{Program}
use Rattle.pst_typing.specs.declared.fault.TypeFault.{TypeFault}
use Rattle.pst_typing.specs.Declarations.{checked}
use Rattle.pst_typing.specs.View.{program_of}
use Rattle.pst_typing.specs.Laws.{AcceptedIsTyped}
use Rattle.pst_typing.specs.View.{Answers}

pub answered : AcceptedIsTyped → (items : List tree.Item) (r : Result Program TypeFault) → IsShallow items → Answers program_of r (checked items) → IfOk r (λ p. IsTyped (routines_of p))
answered law items (Ok p) shallow e = law items (program_of p) shallow e
answered law items (Err f) shallow e = tt
