-- What the tests keep from line to line.
use Rattle.std.specs.Prelude.{◌≡◌, false}
use Rattle.pst_program.specs.declared.program.Program.{Program}
use Rattle.pst_program.specs.Typed.{IsTyped}
use Rattle.pst_program.specs.View.{routines_of}
use Rattle.pst_versions.specs.State.{State}
use Rattle.pst_replay.specs.declared.replayer.Replayer.{Replayer}
use Rattle.pst_replay.specs.Replay.{MayApply as MayReplay}
use Rattle.pst_engine_runs.specs.Coded.{meant_by}
use Rattle.pst_engine.specs.declared.engine.Engine.{Engine}
use Rattle.pst_engine.specs.Stands.{MayApply}

-- an engine with its heap, and a replayer: each is ready for a command, unless it has failed
pub record CanAnswer {H P R : Type 0} (coded : Program) (engine : Engine H R P) (s : State P R) (program : Program) (replayer : Replayer) : Type 0 where
  pub stands : engine.failed ≡ false → MayApply (meant_by coded) engine s
  pub typed : IsTyped (routines_of program)
  pub keeps : replayer.failed ≡ false → MayReplay program replayer
