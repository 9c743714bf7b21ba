use Rattle.std.proofs.Common.{◌≡◌, ap, ◌∙◌, slice_index_or}
use Rattle.pst_machine_steps.specs.declared.register.Register.TheVariants.{Null}
use Rattle.pst_machine_steps.specs.View.{value_of}
use Rattle.pst_machine_steps.proofs.Kept.{value_held}
use Rattle.pst_machine_steps.proofs.frame.held.Goals as goal

pub returns-clause-value : goal.returns-clause-value
returns-clause-value g c = λ parts name.
    let is : c.held_at.result ≡ slice_index_or c.args.frame.now.registers.items c.args.r.0 Null = c.held_at.ensures ∙ ap (λ xs. slice_index_or xs c.args.r.0 Null) c.as_slice.ensures.value in
    ap (value_of name) is ∙ value_held name c.args.frame.now.registers.items c.args.r.0
