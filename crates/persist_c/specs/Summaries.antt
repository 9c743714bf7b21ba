-- A reply in numbers, as `persist.h` tells them.
use Rattle.std.specs.Prelude.{ℕ, ℤ, List, length, Option, Some, None}
use Rattle.pst_base.specs.declared.names.TrapKind.{TrapKind}
use Rattle.pst_base.specs.declared.names.TrapKind.TheVariants as trap
use Rattle.pst_script.specs.declared.reply.Reply.{Reply}
use Rattle.pst_script.specs.declared.reply.Reply.TheVariants.{Version, Answer, Trapped, Opened, Running, Finished, Dropped, BudgetSet, VersionList, StatsAre, LineStatsAre, Refused}
use Rattle.pst_script.specs.declared.reply.Refusal.{Refusal}
use Rattle.pst_script.specs.declared.reply.Refusal.TheVariants as because
use Rattle.persist_c.specs.declared.summary.Summary.{Summary}

abbrev pub trap_number : TrapKind → ℕ
trap_number trap.Null = 0
trap_number trap.InDegree = 1
trap_number trap.Index = 2
trap_number trap.Overflow = 3
trap_number trap.Divide = 4
trap_number trap.Budget = 5
trap_number trap.Depth = 6
trap_number trap.Output = 7

abbrev pub refusal_number : Refusal → ℕ
refusal_number because.Line = 0
refusal_number because.Number = 1
refusal_number because.Name = 2
refusal_number because.Arguments = 3
refusal_number because.Version = 4
refusal_number because.Run = 5
refusal_number because.Runs = 6
refusal_number because.RunsOpen = 7
refusal_number because.Calls = 8
refusal_number because.Old = 9

abbrev pub in_numbers : (kind detail number : ℕ) → (printed : List ℤ) → (size : ℕ) → Summary
in_numbers kind detail number printed size = record { kind = kind; detail = detail; number = number; printed = length printed; length = size }

abbrev pub summary_of_reply : Reply → (printed : List ℤ) → (size : ℕ) → Summary
summary_of_reply (Version own version) printed size = in_numbers 0 0 version.0 printed size
summary_of_reply (Answer own) printed size = in_numbers 1 0 0 printed size
summary_of_reply (Trapped own t) printed size = in_numbers 2 (trap_number t.kind) t.line printed size
summary_of_reply (Opened run) printed size = in_numbers 3 0 run.0 printed size
summary_of_reply (Running run) printed size = in_numbers 4 0 run.0 printed size
summary_of_reply (Finished run) printed size = in_numbers 5 0 run.0 printed size
summary_of_reply (Dropped run) printed size = in_numbers 6 0 run.0 printed size
summary_of_reply (BudgetSet charges) printed size = in_numbers 7 0 charges printed size
summary_of_reply (VersionList parents) printed size = in_numbers 8 0 0 printed size
summary_of_reply (StatsAre counts) printed size = in_numbers 9 0 0 printed size
summary_of_reply (LineStatsAre counts) printed size = in_numbers 10 0 0 printed size
summary_of_reply (Refused refusal) printed size = in_numbers 11 (refusal_number refusal) 0 printed size

-- where there is no reply
abbrev pub summary_of : Option Reply → (printed : List ℤ) → (size : ℕ) → Summary
summary_of None printed size = in_numbers 12 0 0 printed size
summary_of (Some reply) printed size = summary_of_reply reply printed size
