-- The bench: a large script over a program that is given with it. Nothing is read, and of the replies a summary alone is written.
use Rattle.std.specs.Prelude.{◌≡◌, ℕ, ◌⊎◌, List, [], ◌∷◌, ◌++◌, length, Option, Some, None, ℤ, pos, ◌+ℤ◌, fold, codes}
use Rattle.std.specs.Fmt.{decimal, signed_decimal}
use Rattle.pst_io.specs.Text.{lines_of}
use Rattle.pst_cli_bench.specs.Script.{script}
use Rattle.pst_script.specs.Commands.{reading}
use Rattle.pst_script.specs.Texts.{text_of}
use Rattle.pst_script.specs.declared.command.Command.TheVariants.{Stats}
use Rattle.pst_script.specs.declared.reply.Reply.{Reply}
use Rattle.pst_script.specs.declared.reply.Reply.TheVariants as answer
use Rattle.pst_history.specs.Meaning.{Meaning}
use Rattle.pst_history.specs.History.{History, reply, version_count}
use Rattle.pst_history.specs.Direct.{direct}
use Rattle.pst_store_meaning.specs.Store.{Stored}
use Rattle.pst_store.specs.Whole.{nodes_in}
use Rattle.pst_cli_words.specs.declared.status.Status.{Status}
use Rattle.pst_cli_words.specs.declared.status.Status.TheVariants.{Done, ReadFault, WriteFault, Usage, Refused, TooLong, Memory}
use Rattle.pst_cli_scripts.specs.Pieces.{AfterSome, IsPartOf, state_after}
use Rattle.pst_cli_scripts.specs.Script.{Rules, by_tree, answer_of, next_of, script_of}
use Rattle.pst_cli_scripts.specs.Kept.{first_history, history_after}
use Rattle.pst_front.specs.Verdict.{Verdict, Accepted, Refused as IsRefusedBy, fault_text}
use Rattle.pst_front.specs.Pages.{routines_in}
use Rattle.pst_cli_serving.specs.Output.{OfVerdict}
use Rattle.pst_cli_serving.specs.Storing.{IsLeft, IsBroken}

-- ---- the numbers that were printed

abbrev pub printed_in : Reply → List ℤ
printed_in (answer.Version printed version) = printed
printed_in (answer.Answer printed) = printed
printed_in (answer.Trapped printed trap) = printed
printed_in (answer.Opened run) = []
printed_in (answer.Running run) = []
printed_in (answer.Finished run) = []
printed_in (answer.Dropped run) = []
printed_in (answer.BudgetSet charges) = []
printed_in (answer.VersionList parents) = []
printed_in (answer.StatsAre counts) = []
printed_in (answer.LineStatsAre counts) = []
printed_in (answer.Refused refusal) = []

-- a line may have no reply
abbrev pub printed_by : Option Reply → List ℤ
printed_by None = []
printed_by (Some r) = printed_in r

-- in the reply to a line
abbrev pub printed_at : Rules → List ℕ → Meaning → History → List ℤ
printed_at rules line m h = printed_by (answer_of rules m h (reading line))

-- in the replies to lines, from a history on
abbrev pub printed_from : Rules → Meaning → History → List (List ℕ) → List ℤ
printed_from rules m h [] = []
printed_from rules m h (line ∷ lines) = printed_by (answer_of rules m h (reading line)) ++ printed_from rules m (next_of rules m h (reading line)) lines

-- ---- the summary

-- the number of versions, version 0 among them; what `stats` is answered; the number of nodes; and the sum of what was printed
abbrev pub summary : (versions : ℕ) → (stats : List ℕ) → (nodes : ℕ) → (sum : ℤ) → List ℕ
summary versions stats nodes sum =
    codes "versions " ++ decimal versions ++ codes "\n" ++ stats ++ codes "nodes " ++ decimal nodes ++ codes "\nsum " ++ signed_decimal sum ++ codes "\n"

-- the lines of the script with this number, whose path has 20,000 versions
abbrev pub bench_lines : ℕ → List (List ℕ)
bench_lines number = lines_of (script 20000 number)

-- the summary of the history after lines, of the replies to them, and of the store that is left
abbrev pub summary_of : Meaning → List (List ℕ) → Option Stored → List ℕ
summary_of m lines store =
    let h = history_after by_tree m lines in
    summary (version_count h) (text_of (reply m h Stats)) (length (nodes_in store)) (fold ◌+ℤ◌ (pos 0) (printed_from by_tree m (first_history by_tree m) lines))

-- ---- what a session comes to

-- the history after lines
abbrev pub after_lines : Rules → List (List ℕ) → Meaning → History → History
after_lines rules lines m h = state_after (script_of rules m) h lines

-- after want of memory, what is held is that of the history after some first ones of the lines
abbrev pub BreaksAfterSome : {T : Type 0} → Rules → (breaks : Meaning → T → History → Type 0) → (held : T) → List (List ℕ) → Meaning → History → Type 0
BreaksAfterSome rules breaks held lines m h = AfterSome (script_of rules m) h (breaks m held) lines

-- ---- the table, for the lines of the script, the store that was handed in and the one that is left

-- all lines are carried out, and the summary is written
abbrev pub EndsBench : List (List ℕ) → Option Stored → List ℕ → Verdict → Type 0
EndsBench lines new out (Accepted syntax program) =
    let m = direct (routines_in program) in
    IsLeft m new (history_after by_tree m lines) × (out ≡ summary_of m lines new)
EndsBench lines new out (IsRefusedBy fault) = ⊥

-- the program is refused by the line of its fault
abbrev pub RefusesBench : (old new : Option Stored) → List ℕ → Verdict → Type 0
RefusesBench old new out (Accepted syntax program) = ⊥
RefusesBench old new out (IsRefusedBy fault) = (new ≡ old) × (out ≡ fault_text fault)

-- a proper part of the summary or of the line of the fault is written
abbrev pub StopsBench : List (List ℕ) → (old new : Option Stored) → List ℕ → Verdict → Type 0
StopsBench lines old new out (Accepted syntax program) =
    let m = direct (routines_in program) in
    IsLeft m new (history_after by_tree m lines) × IsPartOf (summary_of m lines new) out
StopsBench lines old new out (IsRefusedBy fault) = (new ≡ old) × IsPartOf (fault_text fault) out

-- the store has the versions of the history after some first ones of the lines
abbrev pub IsBrokenAfterSome : Meaning → List (List ℕ) → Option Stored → Type 0
IsBrokenAfterSome m lines store = AfterSome (script_of by_tree m) (first_history by_tree m) (IsBroken m store) lines

-- so it has, for an accepted program
abbrev pub BreaksBench : List (List ℕ) → Option Stored → Verdict → Type 0
BreaksBench lines new (Accepted syntax program) = IsBrokenAfterSome (direct (routines_in program)) lines new
BreaksBench lines new (IsRefusedBy fault) = ⊥

-- The row of a status, for the text of the program and what was written. Whether the text is refused only a test can show: no clause
-- says it.
abbrev pub BenchRow : Status → (text : List ℕ) → List (List ℕ) → (old new : Option Stored) → List ℕ → Type 0
BenchRow Done text lines old new out = OfVerdict text (EndsBench lines new out)
BenchRow Refused text lines old new out = OfVerdict text (RefusesBench old new out)
BenchRow WriteFault text lines old new out = OfVerdict text (StopsBench lines old new out)
BenchRow Memory text lines old new out = (out ≡ []) × ((new ≡ old) ⊎ OfVerdict text (BreaksBench lines new))
BenchRow ReadFault text lines old new out = ⊥
BenchRow TooLong text lines old new out = ⊥
BenchRow Usage text lines old new out = ⊥
