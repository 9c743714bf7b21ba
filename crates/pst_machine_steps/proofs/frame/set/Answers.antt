use Rattle.std.proofs.Common.{List, ap, sym, subst, ◌∙◌, map}
use Rattle.pst_program.specs.declared.meaning.Value.{Value}
use Rattle.pst_code.specs.Machine.{Goes, behind}
use Rattle.pst_machine_steps.specs.Live.{KeptFrom}
use Rattle.pst_machine_steps.specs.View.{value_of, frame_of}
use Rattle.pst_machine_steps.proofs.Kept.{values_set, kept_set}
use Rattle.pst_machine_steps.proofs.frame.set.Goals as goal

pub returns-clause-acts : goal.returns-clause-acts
returns-clause-acts g c = λ name parts cs w.
    ap (λ (vs : List Value). Goes (behind (frame_of parts name c.args.frame.now) vs) cs w)
    (sym (ap (map (value_of name)) c.put_at.ensures ∙ values_set name c.args.frame.now.registers.items c.args.d.0 c.args.v))

pub returns-clause-kept : goal.returns-clause-kept
returns-clause-kept g c = λ plain.
    let before = c.args.frame.now.registers.items in
    subst (KeptFrom before) (sym c.put_at.ensures) (kept_set before c.args.d.0 c.args.v plain)
