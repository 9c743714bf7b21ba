use Rattle.std.proofs.Common.{refl}
use Rattle.pst_history.specs.Direct.{meaning_of}
use Rattle.pst_cli_scripts.specs.Kept.{first_history}
use Rattle.pst_cli_serving.proofs.Serving.{fault_served, script_answered, script_stopped}
use Rattle.pst_cli_serving.proofs.text.serve.Goals as goal

pub returns-in-Err-Fault-clause-served : goal.returns-in-Err-Fault-clause-served
returns-in-Err-Fault-clause-served g c =
    let (out, written, w) = c.refuse.ensures.refused in (
      out,
      written,
      fault_served c.refuse.result g.X.Session.rules _ _ _ c.args.text.items out c.in-Err-Fault.fault refl c.requires.near
          (rw c.in-Err-Fault.field-0-is at c.in-Err-Fault.ensures.verdict) w,
    )

pub returns-in-Ok-answer_script-clause-served : goal.returns-in-Ok-answer_script-clause-served
returns-in-Ok-answer_script-clause-served g c =
    let (syntax, judged) = c.in-Ok.ensures.verdict in
    let m = meaning_of c.in-Ok.program in
    let (out, written, (given, gives, over, end, all, kept)) = c.in-Ok-answer_script.ensures.answered m (first_history g.X.Session.rules m) c.in-Ok-begin.ensures.stands in (
      out,
      written,
      script_answered g.X.Session.rules g.X.Session.leaves g.X.Session.breaks c.args.held.now c.answer_script.new.held _ _ _ _
          c.args.text.items out syntax c.in-Ok.program given judged gives over end all kept,
    )

pub returns-clause-served : goal.returns-clause-served
returns-clause-served g c =
    let (syntax, judged) = c.in-Ok.ensures.verdict in
    let m = meaning_of c.in-Ok.program in
    let (out, written, (given, said)) = c.in-Err-answer_script.ensures.answered m (first_history g.X.Session.rules m) c.in-Ok-begin.ensures.stands in (
      out,
      written,
      rw c.status_of.ensures (script_stopped g.X.Session.rules g.X.Session.leaves g.X.Session.breaks c.args.held.now
          c.answer_script.new.held c.in-Err-answer_script.stop _ _ _ _ c.args.text.items out syntax c.in-Ok.program given judged said),
    )
