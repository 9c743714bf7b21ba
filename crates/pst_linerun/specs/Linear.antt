-- How a command is answered where the versions form a line: only the newest one is written, by one run at a time, so that nodes
-- can be copied (the node copying of Driscoll, Sarnak, Sleator and Tarjan). What a run comes to, which heap a version has and what
-- is counted is as in every history; only what is refused differs, and the bound that the counts tell.
use Rattle.std.specs.Prelude.{◌+◌, Option, Some, None, not, nat_eq}
use Rattle.pst_base.specs.declared.names.VersionNo.{VersionNo}
use Rattle.pst_script.specs.declared.command.Command.{Command}
use Rattle.pst_script.specs.declared.command.Command.TheVariants as command
use Rattle.pst_script.specs.declared.reply.Reply.{Reply}
use Rattle.pst_script.specs.declared.reply.Reply.TheVariants as answer
use Rattle.pst_script.specs.declared.reply.Refusal.{Refusal}
use Rattle.pst_script.specs.declared.reply.Refusal.TheVariants as because
use Rattle.pst_history.specs.Meaning.{Meaning, when}
use Rattle.pst_history.specs.History.{History, version_count, call_refusal, runs_refusal, first, answered, changed, counts_of, unless, unless_refused}

-- the version is not the newest one
abbrev pub old_refusal : History → VersionNo → Option Refusal
old_refusal h version = when (not (nat_eq (version.0 + 1) (version_count h))) because.Old

-- The first refusal of a command that holds, if one does: no run is opened to be gone on with, and a run works on the newest
-- version alone.
abbrev pub line_refusal : Meaning → History → Command → Option Refusal
line_refusal m h (command.Run call) = first (call_refusal h (m.proc call.procedure) call) (first (old_refusal h call.version) (runs_refusal h))
line_refusal m h (command.Query call) = call_refusal h (m.query call.procedure) call
line_refusal m h (command.OpenRun call) = Some because.Line
line_refusal m h (command.OpenEmpty version) = Some because.Line
line_refusal m h (command.CallRun run procedure arguments) = Some because.Line
line_refusal m h (command.StepRun run charges) = Some because.Line
line_refusal m h (command.CloseRun run) = Some because.Line
line_refusal m h (command.DropRun run) = Some because.Line
line_refusal m h (command.Budget charges) = None
line_refusal m h command.Versions = None
line_refusal m h command.Stats = None

-- The answer to a command that is not refused is that of every history, but for the bound. A run is carried to its end with the
-- whole budget; a query is given the next run number and does not take it.
abbrev pub line_answered : Meaning → History → Command → Reply
line_answered m h (command.Run call) = answered m h (command.Run call)
line_answered m h (command.Query call) = answered m h (command.Query call)
line_answered m h (command.OpenRun call) = answer.Refused because.Line
line_answered m h (command.OpenEmpty version) = answer.Refused because.Line
line_answered m h (command.CallRun run procedure arguments) = answer.Refused because.Line
line_answered m h (command.StepRun run charges) = answer.Refused because.Line
line_answered m h (command.CloseRun run) = answer.Refused because.Line
line_answered m h (command.DropRun run) = answer.Refused because.Line
line_answered m h (command.Budget charges) = answered m h (command.Budget charges)
line_answered m h command.Versions = answered m h command.Versions
line_answered m h command.Stats = answer.LineStatsAre (counts_of m h)

-- the reply to a command
-- (carried out by `pst_linerun::LineSession::apply`)
abbrev pub line_reply : Meaning → History → Command → Reply
line_reply m h c = unless_refused (line_refusal m h c) (line_answered m h c)

-- the history after a command; a refused one changes nothing
abbrev pub line_after : Meaning → History → Command → History
line_after m h c = unless (line_refusal m h c) (changed m h c) h
