-- What is kept of the two stores, of which a job works over one at most.
use Rattle.std.proofs.Common.{refl, Option}
use Rattle.pst_base.specs.declared.names.NodeId.{NodeId}
use Rattle.pst_versions.specs.State.{State}
use Rattle.pst_store_meaning.specs.Store.{Stored}
use Rattle.pst_line.specs.declared.place.LinePlace.{LinePlace}
use Rattle.pst_line.specs.Store.{Stored as LineStored}
use Rattle.pst_cli_words.specs.declared.job.Job.{Job}
use Rattle.pst_cli_words.specs.declared.job.Job.TheVariants.{Run, Replay, Line, Check, Code}
use Rattle.pst_cli_scripts.specs.Kept.{Kept, still, together}
use Rattle.pst_cli_serving.specs.Held.{kept_in}
use Rattle.pst_cli.specs.Held.{lined_in}
use Rattle.pst_cli_serving.proofs.Serving.{Implies}

-- nothing was done with either
pub untouched : {T : Type 0} (state : T → State LinePlace NodeId) (stored : T → LineStored) (store : Option Stored) (line : T) (job : Job)
    → (together (kept_in store store job) (lined_in state stored line line job)).untouched
untouched state stored store line Run = (refl, refl)
untouched state stored store line Replay = (refl, refl)
untouched state stored store line Line = (refl, refl)
untouched state stored store line Check = (refl, refl)
untouched state stored store line Code = (refl, refl)

-- the second one stays, or the first one
pub then_still : (P : Type 0) → P → (k : Kept) → Implies k (together k (still P))
then_still P p k = record { leaves = λ m lines kept. (kept, p); breaks = λ m lines kept. (kept, p); untouched = λ kept. (kept, p) }

pub still_then : (P : Type 0) → P → (k : Kept) → Implies k (together (still P) k)
still_then P p k = record { leaves = λ m lines kept. (p, kept); breaks = λ m lines kept. (p, kept); untouched = λ kept. (p, kept) }
