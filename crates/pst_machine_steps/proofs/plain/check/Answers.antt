use Rattle.std.proofs.Common.{ap, sym, ◌∙◌}
use Rattle.pst_base.specs.declared.names.Name.{Name}
use Rattle.pst_program.specs.declared.meaning.Value.{Value}
use Rattle.pst_program.specs.Meaning.{Ending, Normal, with_object}
use Rattle.pst_code.specs.Machine.{after_effect}
use Rattle.pst_machine_steps.specs.View.{frame_of}
use Rattle.pst_machine_steps.proofs.Kept.{object_null, object_there}
use Rattle.pst_machine_steps.proofs.plain.check.Goals as goal

pub returns-in_default : goal.returns-in_default
returns-in_default g c = record {
  acts = λ name parts cs w.
      let f = frame_of parts name c.args.frame.now in
      let go = λ (n : Name). Normal f.registers w in
      ap (λ (v : Value). after_effect (with_object v f.line w go) f cs) (sym (c.read.ensures.value parts name))
      ∙ ap (λ (o : Ending). after_effect o f cs) (object_null name c.read.result f.line w go c.in_default.not-Reference);
}

pub returns-in-Reference : goal.returns-in-Reference
returns-in-Reference g c = record {
  acts = λ name parts cs w.
      let f = frame_of parts name c.args.frame.now in
      let go = λ (n : Name). Normal f.registers w in
      ap (λ (v : Value). after_effect (with_object v f.line w go) f cs) (sym (c.read.ensures.value parts name))
      ∙ ap (λ (o : Ending). after_effect o f cs) (object_there name c.read.result _ f.line w go c.in-Reference.is);
}
