use Rattle.std.proofs.Common.{◌≡◌, map, take}
use Rattle.pst_program.specs.Outcome.{calls_of}
use Rattle.pst_program.specs.View.{routines_of}
use Rattle.pst_history.specs.Direct.{direct_call}
use Rattle.pst_replay.proofs.program.numbered_calls.Given as goal

abbrev pub invariant-loop-call : goal.invariant-loop-call
invariant-loop-call l = calls_of l.items.items ≡ map (direct_call (routines_of l.program)) (take l.call-index l.calls)
