use Rattle.std.proofs.Common.{◌+◌, ℕ, Option, ap, sym, ◌∙◌}
use Rattle.pst_program.specs.Value.{load_element}
use Rattle.pst_eval.proofs.ValueElements.{load_kept}
use Rattle.pst_eval.proofs.values.load_element.Goals as goal

pub returns-in-Some : goal.returns-in-Some
returns-in-Some c =
    let heap = c.args.heap.now in
    c.load.ensures
    ∙ load_kept heap.shape heap.heap (c.args.slot.0 + c.in-Some.index) c.element_slot.result.0 c.args.object c.known.ensures.valid c.element_slot.ensures
    ∙ sym (ap (λ (o : Option ℕ). load_element heap.shape heap.heap c.args.slot.0 o c.args.object) c.in-Some.is)
