use Rattle.std.proofs.Common.{List, Some, ap, sym, ◌∙◌, subst}
use Rattle.std.specs.Option.{option_map}
use Rattle.pst_base.specs.declared.names.Kind.TheVariants.{Pointer}
use Rattle.pst_base.specs.Shape.{root_type}
use Rattle.pst_questions.specs.declared.slots.PathStep.{PathStep}
use Rattle.pst_questions.proofs.PathLemmas.{Left, left_first, left_last, resolved_leads}
use Rattle.pst_questions.proofs.fields.resolve.Goals as goal

pub loop-rest-init : goal.loop-rest-init
loop-rest-init c =
    subst (λ (found : List PathStep). Left c.args.program.now c.args.path.now found (Pointer root_type) (Some c.args.path.now))
    (sym c.new-steps.ensures.items) (left_first c.args.program.now c.args.path.now)

pub returns-clause-fields : goal.returns-clause-fields
returns-clause-fields c =
    let all = left_last c.args.program.now c.args.path.now c.loop-rest.steps.items c.loop-rest.kind (option_map (λ rest. rest.now) c.loop-rest.rest)
    (ap (option_map (λ rest. rest.now)) c.in_default.is) c.loop-rest.invariant in
    resolved_leads c.args.program.now c.args.path.now c.from_vec.result (sym (ap (λ (steps : List PathStep). Some steps) c.from_vec.ensures ∙ all))
