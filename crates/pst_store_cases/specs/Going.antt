-- What a session keeps from line to line.
use Rattle.std.specs.Prelude.{◌≡◌, false}
use Rattle.pst_program.specs.declared.program.Program.{Program}
use Rattle.pst_versions.specs.State.{State}
use Rattle.pst_engine_runs.specs.Coded.{meant_by}
use Rattle.pst_engine.specs.declared.engine.Engine.{Engine}
use Rattle.pst_engine.specs.Stands.{MayApply}

-- an engine has not failed, and stands with its heap for some history of the program
pub record IsGoing {H P R : Type 0} (program : Program) (engine : Engine H R P) (s : State P R) : Type 0 where
  pub sound : engine.failed ≡ false
  pub stands : MayApply (meant_by program) engine s
