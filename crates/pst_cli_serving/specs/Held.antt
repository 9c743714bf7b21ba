-- What each job leaves the store in.
use Rattle.std.specs.Prelude.{◌≡◌, Option}
use Rattle.pst_store_meaning.specs.Store.{Stored}
use Rattle.pst_cli_words.specs.declared.job.Job.{Job}
use Rattle.pst_cli_words.specs.declared.job.Job.TheVariants.{Run, Replay, Line, Check, Code}
use Rattle.pst_cli_scripts.specs.Kept.{Kept, kept_by, still}
use Rattle.pst_cli_serving.specs.Storing.{IsLeft, IsBroken}
use Rattle.pst_cli_serving.specs.Output.{rules_of}

-- `run` leaves the store in a history; every other job leaves it as it was handed in
abbrev pub kept_in : (old new : Option Stored) → Job → Kept
kept_in old new Run = kept_by (rules_of Run) IsLeft IsBroken old new
kept_in old new Replay = still (new ≡ old)
kept_in old new Line = still (new ≡ old)
kept_in old new Check = still (new ≡ old)
kept_in old new Code = still (new ≡ old)

-- what `run` leaves it in
abbrev pub run_in : (old new : Option Stored) → Kept
run_in old new = kept_in old new Run
