use Rattle.std.proofs.Common.{sym, subst}
use Rattle.pst_grammar.specs.View.{phrases_of}
use Rattle.pst_program.specs.View as typed_view
use Rattle.pst_typing.specs.View.{Answers}
use Rattle.pst_types_scope.specs.View.{scope_of}
use Rattle.pst_types_procedures.specs.View.{procedure_text_of}
use Rattle.pst_types_procedures.proofs.Parts.{parts}
use Rattle.pst_types_procedures.proofs.procedure.judge_procedure.Goals as goal

pub returns : goal.returns
returns c = subst (λ answer. Answers typed_view.procedure_of c.judge_parts.result answer)
    (sym (parts (scope_of c.args.scope.now) (procedure_text_of c.args.head.now (phrases_of c.args.body)))) c.judge_parts.ensures
