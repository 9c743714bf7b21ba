-- The texts that answer the lines of a script.
use Rattle.std.specs.Prelude.{ℕ, ◌+◌, ◌*◌, List, [], ◌∷◌, ◌++◌, ℤ, codes}
use Rattle.std.specs.List.{flat_map}
use Rattle.std.specs.Fmt.{decimal, signed_decimal}
use Rattle.pst_base.specs.declared.names.VersionNo.{VersionNo}
use Rattle.pst_base.specs.declared.names.Counts.{Counts}
use Rattle.pst_base.specs.declared.names.Trap.{Trap}
use Rattle.pst_base.specs.declared.names.TrapKind.{TrapKind}
use Rattle.pst_base.specs.declared.names.TrapKind.TheVariants.{Null, InDegree, Index, Overflow, Divide, Budget, Depth, Output}
use Rattle.pst_script.specs.declared.reply.Refusal.{Refusal}
use Rattle.pst_script.specs.declared.reply.Refusal.TheVariants as because
use Rattle.pst_script.specs.declared.reply.Reply.{Reply}
use Rattle.pst_script.specs.declared.reply.Reply.TheVariants.{Version, Answer, Trapped, Opened, Running, Finished, Dropped, BudgetSet, VersionList, StatsAre, LineStatsAre, Refused}

-- the end of a line
abbrev pub line_end : List ℕ
line_end = 10 ∷ []

-- a number that was printed, on a line of its own
abbrev pub printed_line : ℤ → List ℕ
printed_line n = codes "| " ++ signed_decimal n ++ line_end

abbrev pub printed_lines : List ℤ → List ℕ
printed_lines ns = flat_map printed_line ns

abbrev pub trap_name : TrapKind → List ℕ
trap_name Null = codes "null"
trap_name InDegree = codes "indegree"
trap_name Index = codes "index"
trap_name Overflow = codes "overflow"
trap_name Divide = codes "divide"
trap_name Budget = codes "budget"
trap_name Depth = codes "depth"
trap_name Output = codes "output"

abbrev pub trap_line : Trap → List ℕ
trap_line trap = codes "trap " ++ trap_name trap.kind ++ codes " at " ++ decimal trap.line ++ line_end

-- a version and its parent
abbrev pub version_line : ℕ → VersionNo → List ℕ
version_line version parent = decimal version ++ codes " from " ++ decimal parent.0 ++ line_end

-- a line for each version from a number on
abbrev pub version_lines : ℕ → List VersionNo → List ℕ
version_lines version [] = []
version_lines version (parent ∷ parents) = version_line version parent ++ version_lines (version + 1) parents

-- how many nodes and stamped values there can be at most
abbrev pub bound_of : Counts → ℕ
bound_of counts = counts.records + 6 * counts.pointer_writes + 2 * counts.value_writes

-- the same in a linear history: a write makes one stamped value, and a copy of a node is paid by those that it leaves behind
abbrev pub line_bound_of : Counts → ℕ
line_bound_of counts = counts.records + counts.pointer_writes + counts.value_writes

-- the counts, with a bound
abbrev pub counts_line : Counts → (bound : ℕ) → List ℕ
counts_line counts bound = codes "records " ++ decimal counts.records ++ codes " pointers " ++ decimal counts.pointer_writes ++ codes " values " ++ decimal counts.value_writes ++ codes " bound " ++ decimal bound ++ line_end

abbrev pub refusal_name : Refusal → List ℕ
refusal_name because.Line = codes "line"
refusal_name because.Number = codes "number"
refusal_name because.Name = codes "name"
refusal_name because.Arguments = codes "arguments"
refusal_name because.Version = codes "version"
refusal_name because.Run = codes "run"
refusal_name because.Runs = codes "runs"
refusal_name because.RunsOpen = codes "open"
refusal_name because.Calls = codes "calls"
refusal_name because.Old = codes "old"

-- the text of a reply (this project's own rule); `reply_text` writes it
-- (carried out by `pst_script::reply_text`)
abbrev pub text_of : Reply → List ℕ
text_of (Version printed version) = printed_lines printed ++ codes "version " ++ decimal version.0 ++ line_end
text_of (Answer printed) = printed_lines printed ++ codes "ok" ++ line_end
text_of (Trapped printed trap) = printed_lines printed ++ trap_line trap
text_of (Opened run) = codes "run " ++ decimal run.0 ++ line_end
text_of (Running run) = codes "run " ++ decimal run.0 ++ codes " running" ++ line_end
text_of (Finished run) = codes "run " ++ decimal run.0 ++ codes " done" ++ line_end
text_of (Dropped run) = codes "dropped " ++ decimal run.0 ++ line_end
text_of (BudgetSet charges) = codes "budget " ++ decimal charges ++ line_end
text_of (VersionList parents) = codes "0" ++ line_end ++ version_lines 1 parents
text_of (StatsAre counts) = counts_line counts (bound_of counts)
text_of (LineStatsAre counts) = counts_line counts (line_bound_of counts)
text_of (Refused refusal) = codes "refused " ++ refusal_name refusal ++ line_end
