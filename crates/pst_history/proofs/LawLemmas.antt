-- The laws of histories.
use Rattle.std.proofs.Common.{◌≡◌, ◌≢◌, ℕ, List, ℤ, [], ◌∷◌, ◌++◌, refl, ap, sym, ◌∙◌, Option, Some, None, Bool, true, false}
use Rattle.std.specs.Prelude.{count_by, not, nat_lt, nat_le}
use Rattle.std.proofs.lemmas.List.Elements.{All-append, All-cons, All-nil}
use Rattle.pst_script.specs.Commands.{in_range}
use Rattle.pst_base.specs.declared.names.Kind.{Kind}
use Rattle.pst_base.specs.declared.names.RunNo.{RunNo}
use Rattle.pst_script.specs.declared.command.Call.{Call}
use Rattle.pst_script.specs.declared.command.Command.{Command}
use Rattle.pst_script.specs.declared.command.Command.TheVariants as command
use Rattle.pst_script.specs.declared.reply.Reply.TheVariants as answer
use Rattle.pst_script.specs.declared.reply.Refusal.{Refusal}
use Rattle.pst_script.specs.declared.reply.Refusal.TheVariants as because
use Rattle.pst_program.specs.declared.meaning.Ended.{Ended}
use Rattle.pst_program.specs.declared.meaning.Ended.TheVariants.{Done, Trapped, Stopped}
use Rattle.pst_base.specs.declared.names.VersionNo.{VersionNo}
use Rattle.pst_history.specs.Meaning.{Meaning, when, kinds_refusal, fits}
use Rattle.pst_history.specs.History.{History, begun, version_refusal, calls_refusal, is_full_run, call_of, called_more, version_count, heap_of, run_at}
use Rattle.pst_history.specs.History.{made_by, is_open_run, is_open, refusal, after, reply, unless, unless_refused, changed, answered, first, call_refusal}
use Rattle.pst_history.specs.History.{runs_refusal, open_refusal, run_refusal, after_all, next_run, new_run, outcome_of, ended, queried, stepped, granted_more}
use Rattle.pst_history.specs.History.{step_reply, close_reply}
use Rattle.pst_history.specs.Laws.{RefusedChangesNothing, OnlyRefusedAreRefused, ReadersChangeNothing, RefusalsAreOfCommands, HistoriesAreSound, HistoriesGoOn}
use Rattle.pst_history.specs.Laws.{OpeningIsSound, SoundHistoriesGoOn, FewRunsAreOpen, RunsKeepApart, OldVersionsKeepTheirHeaps, CountsNeverFall, CountsAreFew}
use Rattle.pst_history.specs.Laws.{VersionIsMadeByItsRun, HeapsAreWellFormed}
use Rattle.pst_history.proofs.Heaps.{heap_of-given, heap_of-made}
use Rattle.std.proofs.lemmas.Option.{slice_get_within}
use Rattle.pst_base.specs.Heap.{initial_heap}
use Rattle.pst_history.proofs.Refusals.{first-none, accepted_run}
use Rattle.pst_history.proofs.Sound.{heap-before, next-before, get_or-is, opening-sound}
use Rattle.pst_history.proofs.After.{after-sound, after-keeps, history-sound, begun-sound}
use Rattle.pst_history.proofs.Room.{counts-few}
use Rattle.pst_history.proofs.Apart.{few-open, apart-after}
use Rattle.pst_history.specs.declared.history.TheConstants.{RUNS, OPEN_RUNS}

-- ---- refusals

pub refused_changes_nothing : RefusedChangesNothing
unfolding after reply
refused_changes_nothing m h c why e = (ap (λ o. unless o (changed m h c) h) e, ap (λ o. unless_refused o (answered m h c)) e)

ended-other : (version : ℕ) (printed : List ℤ) (end : Ended) (why : Refusal) → ended version printed end ≢ answer.Refused why
ended-other version printed Done why e = absurd (cc)
ended-other version printed (Trapped trap) why e = absurd (cc)
ended-other version printed Stopped why e = absurd (cc)

queried-other : (printed : List ℤ) (end : Ended) (why : Refusal) → queried printed end ≢ answer.Refused why
queried-other printed Done why e = absurd (cc)
queried-other printed (Trapped trap) why e = absurd (cc)
queried-other printed Stopped why e = absurd (cc)

stepped-other : (run : RunNo) (end : Ended) (why : Refusal) → stepped run end ≢ answer.Refused why
stepped-other run Done why e = absurd (cc)
stepped-other run (Trapped trap) why e = absurd (cc)
stepped-other run Stopped why e = absurd (cc)

-- what is not refused is not answered by a refusal
answered-other : (m : Meaning) (h : History) (c : Command) (why : Refusal) → refusal m h c ≡ None → answered m h c ≢ answer.Refused why
unfolding refusal
answered-other m h (command.Run call) why none e = let o = outcome_of m h (next_run h) (new_run h call.version (call_of call ∷ [])) h.budget in ended-other (version_count h) o.printed o.end why e
answered-other m h (command.Query call) why none e = let o = outcome_of m h (next_run h) (new_run h call.version (call_of call ∷ [])) h.budget in queried-other o.printed o.end why e
answered-other m h (command.OpenRun call) why none e = absurd (cc)
answered-other m h (command.OpenEmpty version) why none e = absurd (cc)
answered-other m h (command.CallRun run procedure arguments) why none e =
    let both = first-none (kinds_refusal (m.proc procedure) arguments) (first (run_refusal h run) (calls_refusal h run)) none in
    let o = accepted_run h run (first-none (run_refusal h run) (calls_refusal h run) both.1).0 in
    let f = called_more record { procedure = procedure; arguments = arguments } in
    stepped-other run (outcome_of m h run.0 (f o.run) (f o.run).granted).end why (ap (step_reply m h run f) (sym o.found) ∙ e)
answered-other m h (command.StepRun run charges) why none e =
    let o = accepted_run h run none in
    let f = granted_more charges in
    stepped-other run (outcome_of m h run.0 (f o.run) (f o.run).granted).end why (ap (step_reply m h run f) (sym o.found) ∙ e)
answered-other m h (command.CloseRun run) why none e =
    let o = accepted_run h run none in
    let all = outcome_of m h run.0 o.run o.run.budget in
    ended-other (version_count h) all.printed all.end why (ap (close_reply m h run) (sym o.found) ∙ e)
answered-other m h (command.DropRun run) why none e = absurd (cc)
answered-other m h (command.Budget charges) why none e = absurd (cc)
answered-other m h command.Versions why none e = absurd (cc)
answered-other m h command.Stats why none e = absurd (cc)

same_refusal : (a b : Refusal) → answer.Refused a ≡ answer.Refused b → a ≡ b
same_refusal a b e = cc

pub only_refused_are_refused : OnlyRefusedAreRefused
unfolding reply
only_refused_are_refused m h c why e = on (refusal m h c) refl e
  where
    on : (o : Option Refusal) → refusal m h c ≡ o → unless_refused o (answered m h c) ≡ answer.Refused why → refusal m h c ≡ Some why
    on None none q = absurd (answered-other m h c why none q)
    on (Some r) is q = is ∙ ap (λ x. Some x) (same_refusal r why q)

same_unless : (o : Option Refusal) (h : History) → unless o h h ≡ h
same_unless None h = refl
same_unless (Some r) h = refl

pub readers_change_nothing : ReadersChangeNothing
unfolding after
readers_change_nothing m h = ((λ call. same_unless (refusal m h (command.Query call)) h), same_unless (refusal m h command.Versions) h, same_unless (refusal m h command.Stats) h)

-- a refusal that is not about the line itself
abbrev pub IsOther : Option Refusal → Type 0
IsOther o = (o ≢ Some because.Line) × (o ≢ Some because.Number)

none-other : IsOther None
none-other = ((λ e. cc), (λ e. cc))

first-other : (a b : Option Refusal) → IsOther a → IsOther b → IsOther (first a b)
first-other None b p q = q
first-other (Some r) b p q = p

when-other : (b : Bool) (r : Refusal) → IsOther (Some r) → IsOther (when b r)
when-other true r p = p
when-other false r p = none-other

kinds-other : (kinds : Option (List Kind)) (arguments : List ℤ) → IsOther (kinds_refusal kinds arguments)
kinds-other None arguments = ((λ e. cc), (λ e. cc))
kinds-other (Some kinds) arguments = when-other (not (fits kinds arguments)) because.Arguments ((λ e. cc), (λ e. cc))

version-other : (h : History) (version : VersionNo) → IsOther (version_refusal h version)
version-other h version = when-other (nat_le (version_count h) version.0) because.Version ((λ e. cc), (λ e. cc))

call-other : (h : History) (kinds : Option (List Kind)) (call : Call) → IsOther (call_refusal h kinds call)
call-other h kinds call = first-other (kinds_refusal kinds call.arguments) (version_refusal h call.version) (kinds-other kinds call.arguments) (version-other h call.version)

runs-other : (h : History) → IsOther (runs_refusal h)
runs-other h = when-other (nat_lt RUNS (next_run h)) because.Runs ((λ e. cc), (λ e. cc))

open-other : (h : History) → IsOther (open_refusal h)
open-other h = when-other (nat_le OPEN_RUNS (count_by is_open h.runs)) because.RunsOpen ((λ e. cc), (λ e. cc))

run-other : (h : History) (run : RunNo) → IsOther (run_refusal h run)
run-other h run = when-other (not (is_open_run (run_at h run.0))) because.Run ((λ e. cc), (λ e. cc))

calls-other : (h : History) (run : RunNo) → IsOther (calls_refusal h run)
calls-other h run = when-other (is_full_run (run_at h run.0)) because.Calls ((λ e. cc), (λ e. cc))

pub refusals_are_of_commands : RefusalsAreOfCommands
unfolding refusal
refusals_are_of_commands m h (command.Run call) = first-other (call_refusal h (m.proc call.procedure) call) (runs_refusal h) (call-other h (m.proc call.procedure) call) (runs-other h)
refusals_are_of_commands m h (command.Query call) = call-other h (m.query call.procedure) call
refusals_are_of_commands m h (command.OpenRun call) = first-other (call_refusal h (m.proc call.procedure) call)
    (first (runs_refusal h) (open_refusal h)) (call-other h (m.proc call.procedure) call)
    (first-other (runs_refusal h) (open_refusal h) (runs-other h) (open-other h))
refusals_are_of_commands m h (command.OpenEmpty version) = first-other (version_refusal h version) (first (runs_refusal h) (open_refusal h))
    (version-other h version) (first-other (runs_refusal h) (open_refusal h) (runs-other h) (open-other h))
refusals_are_of_commands m h (command.CallRun run procedure arguments) =
    first-other (kinds_refusal (m.proc procedure) arguments) (first (run_refusal h run) (calls_refusal h run))
    (kinds-other (m.proc procedure) arguments) (first-other (run_refusal h run) (calls_refusal h run) (run-other h run) (calls-other h run))
refusals_are_of_commands m h (command.StepRun run charges) = run-other h run
refusals_are_of_commands m h (command.CloseRun run) = run-other h run
refusals_are_of_commands m h (command.DropRun run) = run-other h run
refusals_are_of_commands m h (command.Budget charges) = none-other
refusals_are_of_commands m h command.Versions = none-other
refusals_are_of_commands m h command.Stats = none-other

-- ---- histories

pub histories_are_sound : HistoriesAreSound
histories_are_sound = history-sound

after_all-more : (m : Meaning) (h : History) (commands : List Command) (c : Command) → after_all m h (commands ++ c ∷ []) ≡ after m (after_all m h commands) c
after_all-more m h [] c = refl
after_all-more m h (x ∷ commands) c = after_all-more m (after m h x) commands c

pub histories_go_on : HistoriesGoOn
histories_go_on m o = (
  record { commands = []; given = All-nil (λ x. in_range x ≡ true); made = refl },
  λ h c given is. record {
    commands = is.commands ++ c ∷ [];
    given = All-append (λ x. in_range x ≡ true) is.commands (c ∷ []) is.given (All-cons (λ x. in_range x ≡ true) c [] given (All-nil (λ x. in_range x ≡ true)));
    made = ap (λ x. after m x c) is.made ∙ sym (after_all-more m (begun o) is.commands c);
  },
)

pub opening_is_sound : OpeningIsSound
opening_is_sound = opening-sound

pub sound_histories_go_on : SoundHistoriesGoOn
sound_histories_go_on m law = ((λ o is. begun-sound m o is), λ h c given sound. after-sound m law h c given sound)

pub few_runs_are_open : FewRunsAreOpen
few_runs_are_open = few-open

pub runs_keep_apart : RunsKeepApart
runs_keep_apart = apart-after

-- ---- versions

pub old_versions_keep_their_heaps : OldVersionsKeepTheirHeaps
old_versions_keep_their_heaps m law h c sound = let x = after-keeps m law h c sound in record { rows = x.rows; heaps = x.heaps }

pub counts_never_fall : CountsNeverFall
counts_never_fall m law h c sound = (after-keeps m law h c sound).counts

pub counts_are_few : CountsAreFew
counts_are_few = counts-few

pub version_is_made_by_its_run : VersionIsMadeByItsRun
version_is_made_by_its_run m h sound = record {
  given = λ k heap e. heap_of-given m h k (slice_get_within h.start.heaps k heap e) ∙ get_or-is h.start.heaps k (initial_heap m.shape) heap e;
  made = λ i v e. let s = sound.versions i v e in record {
    run = s.run;
    found = s.found;
    parent = s.parent;
    version = s.same;
    heap =
        heap_of-made m h i v e s.parent ∙ ap (λ o. made_by m v.run.0 o (heap_of m h v.parent.0)) s.found;
  };
}

pub heaps_are_well_formed : HeapsAreWellFormed
heaps_are_well_formed m law h sound k less = record { mine = heap-before m law h sound k less; before_next = next-before m law h sound k less }
