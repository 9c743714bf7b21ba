use Rattle.std.proofs.Common.{ap, sym, subst, ◌∙◌, slice_set}
use Rattle.pst_program.specs.declared.meaning.Value.{Value}
use Rattle.pst_code.specs.Machine.{Goes, behind}
use Rattle.pst_machine_steps.specs.Live.{KeptFrom}
use Rattle.pst_machine_steps.specs.View.{frame_of}
use Rattle.pst_machine_steps.proofs.Kept.{kept_copy}
use Rattle.pst_machine_steps.proofs.plain.copy.Goals as goal

pub returns-clause-acts : goal.returns-clause-acts
returns-clause-acts g c = λ name parts cs w.
    let f = frame_of parts name c.args.frame.now in
    ap (λ (v : Value). Goes (behind f (slice_set f.registers c.args.d.0 v)) cs w) (sym (c.read-v.ensures.value parts name)) ∙ c.set.ensures.acts name parts cs w

pub returns-clause-kept : goal.returns-clause-kept
returns-clause-kept g c =
    let before = c.args.frame.now.registers.items in
    subst (KeptFrom before) (sym (c.set.ensures.registers ∙ ap (slice_set before c.args.d.0) c.read-v.ensures.is)) (kept_copy before c.args.d.0 c.args.s.0)
