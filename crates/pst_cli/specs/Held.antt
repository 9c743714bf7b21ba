-- What each job leaves the two stores in.
use Rattle.std.specs.Prelude.{◌≡◌, Option}
use Rattle.pst_base.specs.declared.names.NodeId.{NodeId}
use Rattle.pst_versions.specs.State.{State}
use Rattle.pst_store_meaning.specs.Store.{Stored as FatStored}
use Rattle.pst_line.specs.declared.place.LinePlace.{LinePlace}
use Rattle.pst_line.specs.Store.{Stored}
use Rattle.pst_cli_words.specs.declared.job.Job.{Job}
use Rattle.pst_cli_words.specs.declared.job.Job.TheVariants.{Run, Replay, Line, Check, Code}
use Rattle.pst_cli_scripts.specs.Kept.{Kept, kept_by, still, together}
use Rattle.pst_cli_serving.specs.Lining.{IsLineLeft, IsLineBroken}
use Rattle.pst_cli_serving.specs.Output.{rules_of}
use Rattle.pst_cli_serving.specs.Held.{kept_in}

-- `line` leaves the line store in a history; every other job leaves it as it was handed in
abbrev pub lined_in : {T : Type 0} → (state : T → State LinePlace NodeId) → (stored : T → Stored) → (old new : T) → Job → Kept
lined_in state stored old new Run = still (new ≡ old)
lined_in state stored old new Replay = still (new ≡ old)
lined_in state stored old new Line =
    kept_by (rules_of Line) (λ m line h. IsLineLeft m (state line) (stored line) h) (λ m line h. IsLineBroken m (state line) (stored line) h) old new
lined_in state stored old new Check = still (new ≡ old)
lined_in state stored old new Code = still (new ≡ old)

-- what both stores are left in: the store, as it was and is, and the line store
abbrev pub both_in : {T : Type 0} → (state : T → State LinePlace NodeId) → (stored : T → Stored) → (store store' : Option FatStored) → (line line' : T) → Job → Kept
both_in state stored store store' line line' job = together (kept_in store store' job) (lined_in state stored line line' job)
