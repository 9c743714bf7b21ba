use Rattle.std.proofs.Common.{Bool, ap, sym, ◌∙◌}
use Rattle.pst_code.specs.Machine.{jump_where}
use Rattle.pst_machine_steps.specs.View.{frame_of}
use Rattle.pst_machine_steps.proofs.plain.jump_at_most.Goals as goal

pub returns-clause-acts : goal.returns-clause-acts
returns-clause-acts g c = λ name parts cs w.
    ap (λ (b : Bool). jump_where b c.args.to (frame_of parts name c.args.frame.now) cs w) (sym (c.is_at_most-holds.ensures parts name)) ∙ c.jump.ensures.acts name parts cs w
