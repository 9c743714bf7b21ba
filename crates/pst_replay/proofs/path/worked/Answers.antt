use Rattle.std.proofs.Common.{sym, subst}
use Rattle.pst_base.specs.Heap.{Heap}
use Rattle.pst_program.specs.View.{routines_of}
use Rattle.pst_history.specs.Meaning.{CanBeDone}
use Rattle.pst_history.specs.History.{work_of}
use Rattle.pst_history.specs.Direct.{meaning_of}
use Rattle.pst_history.proofs.DirectLemmas.{direct_is_lawful}
use Rattle.pst_history.proofs.Sound.{run-before}
use Rattle.pst_replay.specs.Replay.{kept_for}
use Rattle.pst_replay.proofs.path.worked.Goals as goal

pub execute-requires-clause-ready : goal.execute-requires-clause-ready
execute-requires-clause-ready c =
    let m = meaning_of c.args.program.now in
    let law = direct_is_lawful (routines_of c.args.program.now) c.requires.typed.valid in
    let before = run-before m law (kept_for c.args.program.now c.args.history.now) c.requires.sound c.args.run.now.parent.0 c.args.number.0 c.requires.there c.requires.older in
    let P : Heap → Type 0 = λ x. CanBeDone m (work_of c.args.number.0 c.args.run.now) x in
    subst P (sym c.in_ok-heap.ensures.heap) (record { well_formed = before.well_formed; older = before.older; work = c.requires.work })
