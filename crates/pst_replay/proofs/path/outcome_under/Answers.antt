use Rattle.std.proofs.Common.{inl}
use Rattle.pst_history.specs.Direct.{meaning_of}
use Rattle.pst_history.proofs.Steps.{run-sound}
use Rattle.pst_replay.specs.Replay.{kept_for}
use Rattle.pst_replay.proofs.Numbers.{calls_found}
use Rattle.pst_replay.proofs.path.outcome_under.Goals as goal

pub worked-requires-clause-there : goal.worked-requires-clause-there
worked-requires-clause-there c = (run-sound (meaning_of c.args.program.now) (kept_for c.args.program.now c.args.history.now) c.requires.sound
    c.args.number.0 c.run_of-run.result.now c.run_of-run.ensures).version

pub worked-requires-clause-older : goal.worked-requires-clause-older
worked-requires-clause-older c = (run-sound (meaning_of c.args.program.now) (kept_for c.args.program.now c.args.history.now) c.requires.sound
    c.args.number.0 c.run_of-run.result.now c.run_of-run.ensures).older

pub worked-requires-clause-work : goal.worked-requires-clause-work
worked-requires-clause-work c = inl (run-sound (meaning_of c.args.program.now) (kept_for c.args.program.now c.args.history.now) c.requires.sound
    c.args.number.0 c.run_of-run.result.now c.run_of-run.ensures).fits

pub worked-requires-clause-calls : goal.worked-requires-clause-calls
worked-requires-clause-calls c = calls_found c.args.program.now c.args.history.now c.requires.numbered c.args.number.0 c.calls_of_run-calls.result.now
    c.run_of-run.result.now c.calls_of_run-calls.ensures c.run_of-run.ensures
