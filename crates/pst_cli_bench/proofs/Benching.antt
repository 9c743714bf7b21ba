-- What comes of the bench.
use Rattle.std.proofs.Common.{◌≡◌, ℕ, ◌⊎◌, inl, inr, List, [], refl, sym, ap, ◌∙◌, subst, ℤ, ◌+ℤ◌, pos, fold, length, Option, Some}
use Rattle.pst_grammar.specs.Syntax.{ProgramText}
use Rattle.pst_typing.specs.View.{program_of}
use Rattle.pst_program.specs.declared.program.Program.{Program}
use Rattle.pst_script.specs.Texts.{text_of}
use Rattle.pst_script.specs.declared.command.Command.TheVariants.{Stats}
use Rattle.pst_script.specs.declared.reply.Reply.TheVariants as answer
use Rattle.pst_history.specs.Meaning.{Meaning}
use Rattle.pst_history.specs.History.{History, reply, refusal, version_count, counts_of}
use Rattle.pst_history.specs.Direct.{meaning_of}
use Rattle.pst_store_meaning.specs.Store.{Stored}
use Rattle.pst_store.specs.Whole.{nodes_in, state_in}
use Rattle.pst_front.specs.declared.fault.Fault.{Fault}
use Rattle.pst_cli_scripts.specs.declared.stop.Stop.{Stop}
use Rattle.pst_cli_scripts.specs.declared.stop.Stop.TheVariants as stop
use Rattle.pst_cli_words.specs.declared.status.Status.{Status}
use Rattle.pst_cli_words.specs.declared.status.Status.TheVariants.{Done, ReadFault, WriteFault, Usage, Refused, TooLong, Memory}
use Rattle.pst_cli_scripts.specs.Pieces.{AfterSome, IsPartOf}
use Rattle.pst_cli_scripts.specs.Script.{by_tree, script_of}
use Rattle.pst_cli_scripts.specs.Kept.{first_history, history_after}
use Rattle.pst_front.specs.Verdict.{Accepted, Refused as IsRefusedBy, Judged, HasFault}
use Rattle.pst_cli_serving.specs.Serving.{Refuses, status_of}
use Rattle.pst_cli_scripts.specs.Sessions.{StopsAtReply}
use Rattle.pst_cli_serving.specs.Storing.{IsLeft, IsBroken}
use Rattle.pst_cli_bench.specs.Bench.{printed_from, summary, summary_of, BenchRow}
use Rattle.pst_cli_bench.proofs.Summing.{after_all}

-- `stats` is never refused
stats_answer : (m : Meaning) (h : History) → reply m h Stats ≡ answer.StatsAre (counts_of m h)
unfolding refusal reply
stats_answer m h = refl

-- the summary of a store that is left in a history is that of the history
pub summary_is : (m : Meaning) (lines : List (List ℕ)) (store : Option Stored) (sum : ℤ) (text : List ℕ)
    → IsLeft m store (history_after by_tree m lines) → sum ≡ fold ◌+ℤ◌ (pos 0) (printed_from by_tree m (first_history by_tree m) lines)
    → text ≡ summary (length (state_in store).versions) (text_of (answer.StatsAre (state_in store).counts)) (length (nodes_in store)) sum → text ≡ summary_of m lines store
summary_is m lines store sum text left summed is =
    let h = history_after by_tree m lines in
    let nodes = length (nodes_in store) in
    is ∙ ap (λ n. summary n (text_of (answer.StatsAre (state_in store).counts)) nodes sum) left.versions.many
    ∙ ap (λ r. summary (version_count h) (text_of r) nodes sum) (ap (λ c. answer.StatsAre c) left.counts ∙ sym (stats_answer m h))
    ∙ ap (summary (version_count h) (text_of (reply m h Stats)) nodes) summed

pub broken_if_left : (m : Meaning) (store : Option Stored) (h : History) → IsLeft m store h → IsBroken m store h
broken_if_left m store h left = record { versions = left.versions; small = λ none. left.small; bounded = left.bounded }

-- there was no room behind the last line
pub broken_behind : (m : Meaning) (lines : List (List ℕ)) (store : Option Stored) → IsLeft m store (history_after by_tree m lines)
    → AfterSome (script_of by_tree m) (first_history by_tree m) (IsBroken m store) lines
broken_behind m lines store left = after_all (script_of by_tree m) (first_history by_tree m) (IsBroken m store) lines (broken_if_left m store (history_after by_tree m lines) left)

-- ---- rows

pub fault_row : (status : Status) (text : List ℕ) (lines : List (List ℕ)) (store : Option Stored) (out : List ℕ) (fault : Fault) → HasFault text fault.kind fault.line → Refuses status fault out
    → BenchRow status text lines store store out
fault_row Refused text lines store out fault has w = (IsRefusedBy fault, has, (refl, w))
fault_row WriteFault text lines store out fault has w = (IsRefusedBy fault, has, (refl, w))
fault_row Memory text lines store out fault has w = (w, inl refl)
fault_row Done text lines store out fault has w = absurd w
fault_row ReadFault text lines store out fault has w = absurd w
fault_row TooLong text lines store out fault has w = absurd w
fault_row Usage text lines store out fault has w = absurd w

pub memory_row : (text : List ℕ) (lines : List (List ℕ)) (old new : Option Stored) (syntax : ProgramText) (program : Program) → Judged text (Accepted syntax (program_of program))
    → (new ≡ old) ⊎ AfterSome (script_of by_tree (meaning_of program)) (first_history by_tree (meaning_of program)) (IsBroken (meaning_of program) new) lines → BenchRow Memory text lines old new []
memory_row text lines old new syntax program judged (inl same) = (refl, inl same)
memory_row text lines old new syntax program judged (inr some) = (refl, inr (Accepted syntax (program_of program), judged, some))

pub done_row : (text : List ℕ) (lines : List (List ℕ)) (old new : Option Stored) (piece out : List ℕ) (syntax : ProgramText) (program : Program) → Judged text (Accepted syntax (program_of program))
    → IsLeft (meaning_of program) new (history_after by_tree (meaning_of program) lines) → piece ≡ summary_of (meaning_of program) lines new → out ≡ piece → BenchRow Done text lines old new out
done_row text lines old new piece out syntax program judged left is w = (Accepted syntax (program_of program), judged, (left, w ∙ is))

pub stopped_row : (s : Stop) (text : List ℕ) (lines : List (List ℕ)) (old new : Option Stored) (piece out : List ℕ) (syntax : ProgramText)
    (program : Program) → Judged text (Accepted syntax (program_of program))
    → IsLeft (meaning_of program) new (history_after by_tree (meaning_of program) lines) → piece ≡ summary_of (meaning_of program) lines new
    → StopsAtReply s (Some piece) out → BenchRow (status_of s) text lines old new out
stopped_row stop.Write text lines old new piece out syntax program judged left is (whole, same, part) =
    let e : whole ≡ piece = cc in
    (Accepted syntax (program_of program), judged, (left, subst (λ l. IsPartOf l out) (e ∙ is) part))
stopped_row stop.Memory text lines old new piece out syntax program judged left is none =
    (none, inr (Accepted syntax (program_of program), judged, broken_behind (meaning_of program) lines new left))
stopped_row stop.Read text lines old new piece out syntax program judged left is never = absurd never
stopped_row stop.TooLong text lines old new piece out syntax program judged left is never = absurd never
