use Rattle.std.proofs.Common.{◌+◌, ℕ, Option, ap, sym, ◌∙◌}
use Rattle.pst_program.specs.Value.{Answer}
use Rattle.pst_program.specs.Meaning.{World, with_answer, write}
use Rattle.pst_eval.specs.Work.{world_of}
use Rattle.pst_eval.specs.Ends.{element_write_end}
use Rattle.pst_eval.proofs.Elements.{write_kept}
use Rattle.pst_eval.proofs.steps.write_element.Goals as goal

pub returns-in-Ok-clause-meaning : goal.returns-in-Ok-clause-meaning
returns-in-Ok-clause-meaning c =
    let shape = c.args.heap.now.shape in
    let env = c.args.env.now in
    let w : World = world_of c.args.heap.now c.args.tally.now in
    let slot : ℕ = c.args.slot.0 + c.in-Some.index in
    c.write.ensures.meaning env
    ∙ write_kept shape c.args.name slot c.element_slot.result.0 c.in-Ok.v c.args.line env w c.known.ensures.valid c.element_slot.ensures
    ∙ ap (λ (a : Answer). with_answer a c.args.line w (λ v. write shape c.args.name slot v c.args.line env w)) c.in-Ok.ensures
    ∙ sym (ap (λ (o : Option ℕ). element_write_end c.args.name c.args.slot.0 o c.args.e.now c.args.line env c.args.heap.now c.args.tally.now) c.in-Some.is)
