-- What each word works over, and how a call of it may end.
use Rattle.std.specs.Prelude.{◌≡◌, Bool, true, false, Option, Some, None}
use Rattle.pst_cli_words.specs.declared.job.Job.TheVariants.{Run, Replay, Line, Check, Code}
use Rattle.pst_cli_words.specs.declared.job.Task.{Task}
use Rattle.pst_cli_words.specs.declared.job.Task.TheVariants.{Input, Bench, Ask, Pack, Resume, Serve, Repack}
use Rattle.pst_cli_words.specs.declared.status.Status.{Status}
use Rattle.pst_cli_words.specs.declared.status.Status.TheVariants.{Done, ReadFault, WriteFault, Usage, Refused, TooLong, Memory}
use Rattle.pst_cli_serving.specs.Rows.{IsComplete}

-- whether what the words ask for works over the store: `run`, the bench, the questions, `pack`, `resume`, `serve` and `repack` do
abbrev pub works_over_store : Option Task → Bool
works_over_store None = false
works_over_store (Some (Input Run)) = true
works_over_store (Some (Input Replay)) = false
works_over_store (Some (Input Line)) = false
works_over_store (Some (Input Check)) = false
works_over_store (Some (Input Code)) = false
works_over_store (Some (Bench number)) = true
works_over_store (Some (Ask question)) = true
works_over_store (Some Pack) = true
works_over_store (Some Resume) = true
works_over_store (Some Serve) = true
works_over_store (Some Repack) = true

-- the input was answered as a whole, or was too long
abbrev pub IsCompleteOrTooLong : Status → Type 0
IsCompleteOrTooLong Done = Unit {0}
IsCompleteOrTooLong Refused = Unit {0}
IsCompleteOrTooLong Memory = Unit {0}
IsCompleteOrTooLong TooLong = Unit {0}
IsCompleteOrTooLong ReadFault = ⊥
IsCompleteOrTooLong WriteFault = ⊥
IsCompleteOrTooLong Usage = ⊥

-- How a call may end in which neither the source nor the sink failed, whatever the source tells of its bytes: the bench, which
-- reads nothing, never because the input was too long.
abbrev pub MayEnd : Option Task → Status → Type 0
MayEnd None status = status ≡ Usage
MayEnd (Some (Input job)) status = IsCompleteOrTooLong status
MayEnd (Some (Bench number)) status = IsComplete status
MayEnd (Some (Ask question)) status = IsCompleteOrTooLong status
MayEnd (Some Pack) status = IsCompleteOrTooLong status
MayEnd (Some Resume) status = IsCompleteOrTooLong status
MayEnd (Some Serve) status = IsCompleteOrTooLong status
MayEnd (Some Repack) status = IsCompleteOrTooLong status
