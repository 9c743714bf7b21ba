-- What the test of code by itself keeps from line to line.
use Rattle.std.specs.Prelude.{◌≡◌, false}
use Rattle.pst_code.specs.declared.procedure.Parts.{Parts}
use Rattle.pst_versions.specs.State.{State}
use Rattle.pst_engine_runs.specs.Bare.{meant_by_machine}
use Rattle.pst_engine.specs.declared.engine.Engine.{Engine}
use Rattle.pst_engine.specs.Stands.{MayApply}

-- an engine with its heap that is ready for a command, unless it has failed
abbrev pub CanRun : {H P R : Type 0} → Parts → Engine H R P → State P R → Type 0
CanRun parts engine s = engine.failed ≡ false → MayApply (meant_by_machine parts) engine s
