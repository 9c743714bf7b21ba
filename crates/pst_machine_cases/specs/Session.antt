-- What the tests keep from call to call: code over a heap of its record types, and runs of it.
use Rattle.std.specs.Prelude.{◌≡◌, ◌<◌, false}
use Rattle.pst_base.specs.declared.names.Name.{Name}
use Rattle.pst_code.specs.declared.procedure.Parts.{Parts}
use Rattle.pst_versions.specs.State.{State, IsFresh}
use Rattle.pst_machine.specs.declared.stage.Stage.{Stage}
use Rattle.pst_machine.specs.Advance.{IsReady}

-- the heap has the record types of the code, and no run has made a record
pub record IsUntouched {P R : Type 0} (parts : Parts) (s : State P R) : Type 0 where
  pub shape : s.shape ≡ parts.shape
  pub unused : (n : Name) → 0 < n.run.0 → IsFresh s n

-- a run that was opened at a place that can be written, and that can go on or has trapped
pub record IsOpened {P R : Type 0} (parts : Parts) (s : State P R) (run : Stage P R) : Type 0 where
  pub ready : IsReady parts s run
  pub working : run.failed ≡ false
  pub writable : s.writable run.standing.place
