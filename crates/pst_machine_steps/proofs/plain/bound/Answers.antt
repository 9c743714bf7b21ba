use Rattle.std.proofs.Common.{ℕ, Option, ap, sym, ◌∙◌}
use Rattle.pst_program.specs.declared.meaning.Value.{Value}
use Rattle.pst_program.specs.Value.{number_of, index_of}
use Rattle.pst_program.specs.Meaning.{Normal, with_index}
use Rattle.pst_code.specs.Machine.{after_effect}
use Rattle.pst_machine_steps.specs.View.{frame_of}
use Rattle.pst_machine_steps.proofs.Kept.{value_held}
use Rattle.pst_machine_steps.proofs.plain.bound.Goals as goal

pub returns-in-Some : goal.returns-in-Some
returns-in-Some g c = record {
  acts = λ name parts cs w.
      let f = frame_of parts name c.args.frame.now in
      let go = λ (k : ℕ). Normal f.registers w in
      ap (λ (v : Value). after_effect (with_index (index_of c.args.elements (number_of v)) f.line w go) f cs) (sym (value_held name c.args.frame.now.registers.items c.args.i.0))
      ∙ ap (λ (index : Option ℕ). after_effect (with_index index f.line w go) f cs) (sym (c.index.ensures.is name) ∙ c.in-Some.is);
}

pub returns-in-None : goal.returns-in-None
returns-in-None g c = record {
  acts = λ name parts cs w.
      let f = frame_of parts name c.args.frame.now in
      let go = λ (k : ℕ). Normal f.registers w in
      ap (λ (v : Value). after_effect (with_index (index_of c.args.elements (number_of v)) f.line w go) f cs) (sym (value_held name c.args.frame.now.registers.items c.args.i.0))
      ∙ ap (λ (index : Option ℕ). after_effect (with_index index f.line w go) f cs) (sym (c.index.ensures.is name) ∙ c.in-None.is);
}
