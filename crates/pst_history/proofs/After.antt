-- What a command keeps of a history.
use Rattle.std.proofs.Common.{◌≡◌, inl, inr, ℕ, ◌+◌, ◌<◌, ◌≤◌, List, [], ◌∷◌, ◌++◌, length, refl, ap, sym, ◌∙◌, subst, arith, zero, suc, slice_get, Option}
use Rattle.std.proofs.Common.{Some, None, Bool, true, false, length-append}
use Rattle.std.specs.Prelude.{count_by, IsTrue, ◌&&◌, nat_le, All}
use Rattle.std.proofs.Math.Nat.{min-le_right}
use Rattle.std.proofs.lemmas.Bool.{leb-true}
use Rattle.std.proofs.lemmas.List.Elements.{All-head, All-tail}
use Rattle.pst_base.specs.declared.names.Counts.{Counts}
use Rattle.pst_script.specs.declared.command.Call.{Call}
use Rattle.pst_program.specs.declared.meaning.Ended.{Ended}
use Rattle.pst_program.specs.declared.meaning.Ended.TheVariants.{Stopped, Done, Trapped}
use Rattle.pst_script.specs.declared.command.Command.{Command}
use Rattle.pst_script.specs.declared.command.Command.TheVariants as command
use Rattle.pst_script.specs.Commands.{in_range}
use Rattle.pst_script.specs.Numerals.{fits_charges}
use Rattle.pst_script.specs.declared.reply.Refusal.{Refusal}
use Rattle.pst_history.specs.declared.history.Run.{Run}
use Rattle.pst_history.specs.declared.history.Descent.{Descent}
use Rattle.pst_history.specs.declared.history.NamedCall.{NamedCall}
use Rattle.pst_base.specs.declared.names.VersionNo.{VersionNo}
use Rattle.pst_program.specs.Sound.{CountsBelow}
use Rattle.pst_base.specs.Counts.{counts_plus}
use Rattle.pst_history.specs.Meaning.{Meaning, IsLawful, CanBeDone, AllFit, with_calls, kinds_refusal, fits_one}
use Rattle.pst_history.specs.History.{Opening, History, begun, version_count, version_refusal, calls_refusal, run_refusal, call_of, called_more, run_at}
use Rattle.pst_history.specs.History.{heap_of, heaps_of, is_open, opened, new_run, next_run, work_of, outcome_of, run_counts, counts_of, closed, closed_run}
use Rattle.pst_history.specs.History.{dropped_run, granted_more, with_version, with_run, parent_of, end_of, changed, after, unless, refusal, close_reply}
use Rattle.pst_history.specs.History.{answered, ended_as, after_all, IsHistory, call_refusal, runs_refusal, open_refusal, first}
use Rattle.pst_history.specs.Accepted.{MayOpen}
use Rattle.pst_history.specs.Sound.{IsBudget, IsSoundHistory, IsOpening}
use Rattle.std.proofs.lemmas.Option.{slice_get_within}
use Rattle.std.proofs.Common.{append-nil}
use Rattle.pst_history.proofs.Lists.{slice_get-before, slice_get-of_append}
use Rattle.pst_history.proofs.Heaps.{heap_of-more}
use Rattle.pst_history.proofs.Sums.{unit_of}
use Rattle.pst_history.proofs.Steps.{IsRestated, restated, restated-sound, heap_of-restated, counts_of-restated, opened-sound, heap_of-opened, counts_of-opened}
use Rattle.pst_history.proofs.Steps.{IsPublishable, published, published-sound, counts_of-published, run-sound, not_open}
use Rattle.pst_history.proofs.Numbered.{numbered-same, numbered-length, numbered-count, numbered-last}
use Rattle.pst_history.proofs.Sound.{run-ready}
use Rattle.pst_history.proofs.Refusals.{first-none, accepted, accepted_kinds, there, has_room, has_calls, accepted_run, IsOpenRun}
use Rattle.pst_script.specs.declared.numerals.TheConstants.{MOST_CHARGES}
use Rattle.pst_history.specs.declared.history.TheConstants.{RUNS, CALLS}

-- what any change keeps: the versions' heaps, and no count falls
pub record Extends (m : Meaning) (old new : History) : Type 0 where
  pub sound : IsSoundHistory m new
  pub versions : version_count old ≤ version_count new
  pub rows : (i : ℕ) (v : Descent) → slice_get old.versions i ≡ Some v → slice_get new.versions i ≡ Some v
  pub heaps : (k : ℕ) → k < version_count old → heap_of m new k ≡ heap_of m old k
  pub counts : CountsBelow (counts_of m old) (counts_of m new)

pub counts_same : (a b : Counts) → b ≡ a → CountsBelow a b
counts_same a b e = let P : Counts → Type 0 = λ c. CountsBelow a c in subst P (sym e) (record { records = omega arith; pointer_writes = omega arith; value_writes = omega arith })

pub counts_more : (a b c d : Counts) → counts_plus b c ≡ counts_plus a d → CountsBelow c d → CountsBelow a b
counts_more a b c d e less =
    let p : b.records + c.records ≡ a.records + d.records = ap (λ x. x.records) e in
    let q : b.pointer_writes + c.pointer_writes ≡ a.pointer_writes + d.pointer_writes = ap (λ x. x.pointer_writes) e in
    let r : b.value_writes + c.value_writes ≡ a.value_writes + d.value_writes = ap (λ x. x.value_writes) e in
    record { records = omega (arith, less.records); pointer_writes = omega (arith, less.pointer_writes); value_writes = omega (arith, less.value_writes) }

pub counts_trans : (a b c : Counts) → CountsBelow a b → CountsBelow b c → CountsBelow a c
counts_trans a b c p q = record {
  records = omega (arith, p.records, q.records);
  pointer_writes =
      omega (arith, p.pointer_writes, q.pointer_writes);
  value_writes = omega (arith, p.value_writes, q.value_writes);
}

pub extends-trans : (m : Meaning) (a b c : History) → Extends m a b → Extends m b c → Extends m a c
extends-trans m a b c p q =
    let one = p.versions in let two = q.versions in
    record {
      sound = q.sound;
      versions = omega arith;
      rows = λ i v e. q.rows i v (p.rows i v e);
      heaps = λ k le. q.heaps k (omega arith)
          ∙ p.heaps k le;
      counts = counts_trans (counts_of m a) (counts_of m b) (counts_of m c) p.counts q.counts;
    }

pub extends-refl : (m : Meaning) (h : History) → IsSoundHistory m h → Extends m h h
extends-refl m h sound = record { sound = sound; versions = omega arith; rows = λ i v e. e; heaps = λ k le. refl; counts = counts_same (counts_of m h) (counts_of m h) refl }

pub opened-extends : (m : Meaning) (h : History) (version : VersionNo) (calls : List NamedCall) → IsSoundHistory m h → next_run h < RUNS + 1
    → version.0 < version_count h → length calls ≤ CALLS → AllFit m.proc calls → Extends m h (opened h version calls)
opened-extends m h version calls sound room there few fits =
    let n = run_counts m h (next_run h) (new_run h version calls) in
    let e : counts_of m (opened h version calls) ≡ counts_plus (counts_of m h) n = counts_of-opened m h version calls sound in
    let p : (counts_of m (opened h version calls)).records ≡ (counts_of m h).records + n.records = ap (λ x. x.records) e in
    let q : (counts_of m (opened h version calls)).pointer_writes ≡ (counts_of m h).pointer_writes + n.pointer_writes = ap (λ x. x.pointer_writes) e in
    let r : (counts_of m (opened h version calls)).value_writes ≡ (counts_of m h).value_writes + n.value_writes = ap (λ x. x.value_writes) e in
    record {
      sound = opened-sound m h version calls sound room there few fits;
      versions = omega arith;
      rows = λ i v e. e;
      heaps = λ k le. heap_of-opened m h version calls k sound;
      counts = record { records = omega arith; pointer_writes = omega arith; value_writes = omega arith };
    }

-- one call fits
pub one_fits : (m : Meaning) (c : NamedCall) → IsTrue (fits_one (m.proc c.procedure) c.arguments) → AllFit m.proc (c ∷ [])
one_fits m c fits zero d e = let P : NamedCall → Type 0 = λ x. IsTrue (fits_one (m.proc x.procedure) x.arguments) in subst P (let same : c ≡ d = cc in same) fits
one_fits m c fits (suc i) d e = absurd (cc)

-- a call more that fits
pub more_fits : (m : Meaning) (calls : List NamedCall) (c : NamedCall) → AllFit m.proc calls → IsTrue (fits_one (m.proc c.procedure) c.arguments) → AllFit m.proc (calls ++ c ∷ [])
more_fits m calls c are fits i d e =
    elim (slice_get-of_append calls c d i e) [
      | inl q ↦ are i d q
      | inr q ↦ let P : NamedCall → Type 0 = λ x. IsTrue (fits_one (m.proc x.procedure) x.arguments) in subst P (sym q.1) fits
    ]

-- the work of a run with other calls, a budget and a state
pub same_work : (n : ℕ) (r : Run) (calls : List NamedCall) (budget : ℕ) → r.calls ≡ calls → r.budget ≡ budget → work_of n r ≡ record { run = record { 0 = n }; calls = calls; budget = budget }
same_work n r calls budget c b = ap (λ (x : List NamedCall). record (work_of n r) { calls = x }) c ∙ ap (λ (x : ℕ). record { run = record { 0 = n }; calls = calls; budget = x }) b

-- a run is ready with more calls that fit
pub more_ready : (m : Meaning) → IsLawful m → (h : History) (n : ℕ) (old new : Run) → IsSoundHistory m h → (step : IsRestated m h n old new)
    → CanBeDone m (with_calls (work_of n old) step.added) (heap_of m h old.parent.0)
more_ready m law h n old new sound step =
    let ready = run-ready m law h sound n old step.found in
    record { well_formed = ready.well_formed; older = ready.older; work = inl (let P : List NamedCall → Type 0 = λ x. AllFit m.proc x in subst P step.calls step.fits) }

-- more charges and calls count no less
pub restated-counts : (m : Meaning) → IsLawful m → (h : History) (n : ℕ) (old new : Run) → IsSoundHistory m h → IsRestated m h n old new → CountsBelow (run_counts m h n old) (run_counts m h n new)
restated-counts m law h n old new sound step =
    let same : work_of n new ≡ with_calls (work_of n old) step.added = same_work n new (old.calls ++ step.added) old.budget step.calls step.budget in
    let heap = heap_of m h old.parent.0 in
    let more : CountsBelow (run_counts m h n old) (m.outcome (with_calls (work_of n old) step.added) new.granted heap).counts =
    law.counts (work_of n old) step.added old.granted new.granted heap (more_ready m law h n old new sound step) step.more in
    let P : Counts → Type 0 = λ c. CountsBelow (run_counts m h n old) c in
    let is : (m.outcome (with_calls (work_of n old) step.added) new.granted heap).counts ≡ run_counts m h n new =
    ap (λ w. (m.outcome w new.granted heap).counts) (sym same)
    ∙ ap (λ p. (m.outcome (work_of n new) new.granted (heap_of m h p.0)).counts) (sym step.parent) in
    subst P is more

pub restated-extends : (m : Meaning) → IsLawful m → (h : History) (n : ℕ) (old new : Run) → IsSoundHistory m h → IsRestated m h n old new → Extends m h (restated h n new)
restated-extends m law h n old new sound step =
    record {
      sound = restated-sound m h n old new sound step;
      versions = omega arith;
      rows = λ i v e. e;
      heaps = λ k le. heap_of-restated m h n old new k sound step;
      counts = counts_more (counts_of m h) (counts_of m (restated h n new)) (run_counts m h n old) (run_counts m h n new)
          (counts_of-restated m h n old new sound step) (restated-counts m law h n old new sound step);
    }

pub published-extends : (m : Meaning) (h : History) (n : ℕ) (r : Run) → IsSoundHistory m h → IsPublishable h n r → Extends m h (published h n r.parent)
published-extends m h n r sound step =
    let one : length (published h n r.parent).versions ≡ length h.versions + 1 = length-append h.versions (record { run = record { 0 = n }; parent = r.parent } ∷ []) in
    record {
      sound = published-sound m h n r sound step;
      versions = omega arith;
      rows = λ i v e. slice_get-before h.versions (record { run = record { 0 = n }; parent = r.parent } ∷ []) i (slice_get_within h.versions i v e) ∙ e;
      heaps = λ k le. heap_of-more m h (record { run = record { 0 = n }; parent = r.parent }) k le;
      counts = counts_same (counts_of m h) (counts_of m (published h n r.parent)) (counts_of-published m h n r.parent sound);
    }

pub heap_of-budget : (m : Meaning) (h : History) (b k : ℕ) → heap_of m (record h { budget = b }) k ≡ heap_of m h k
unfolding heaps_of
heap_of-budget m h b k = refl

pub counts_of-budget : (m : Meaning) (h : History) (b : ℕ) → counts_of m (record h { budget = b }) ≡ counts_of m h
unfolding counts_of heaps_of
counts_of-budget m h b = refl

-- ---- closing

pub closed-is : (m : Meaning) (h : History) (n : ℕ) (r : Run) → run_at h n ≡ Some r → closed m h n ≡ with_version (restated h n (closed_run r)) n r.parent (outcome_of m h n r r.budget).end
closed-is m h n r e = ap (λ o. with_version (with_run h n closed_run o) n (parent_of o) (end_of m h n o)) e

-- the same calls, with another grant or state
pub same_calls : (m : Meaning) (h : History) (n : ℕ) (old new : Run) → IsSoundHistory m h → run_at h n ≡ Some old → is_open old ≡ true
    → new.parent ≡ old.parent → new.calls ≡ old.calls → new.budget ≡ old.budget → new.granted ≤ new.budget → old.granted ≤ new.granted
    → IsRestated m h n old new
same_calls m h n old new sound found is_so parent calls budget granted more =
    let mine = run-sound m h sound n old found in
    record {
      found = found;
      was_open = is_so;
      parent = parent;
      budget = budget;
      granted = granted;
      more = more;
      added = [];
      calls = calls ∙ sym (append-nil old.calls);
      few = let P : List NamedCall → Type 0 = λ x. length x ≤ CALLS in subst P (sym calls) mine.few;
      fits = let P : List NamedCall → Type 0 = λ x. AllFit m.proc x in subst P (sym calls) mine.fits;
    }

pub run-granted : (m : Meaning) (h : History) (n : ℕ) (r : Run) → IsSoundHistory m h → run_at h n ≡ Some r → r.granted ≤ r.budget
run-granted m h n r sound e = (run-sound m h sound n r e).granted

pub closing : (m : Meaning) (h : History) (n : ℕ) (r : Run) → IsSoundHistory m h → run_at h n ≡ Some r → is_open r ≡ true → IsRestated m h n r (closed_run r)
closing m h n r sound e t = same_calls m h n r (closed_run r) sound e t refl refl refl (omega arith) (run-granted m h n r sound e)

pub dropping : (m : Meaning) (h : History) (n : ℕ) (r : Run) → IsSoundHistory m h → run_at h n ≡ Some r → is_open r ≡ true → IsRestated m h n r (dropped_run r)
dropping m h n r sound e t = same_calls m h n r (dropped_run r) sound e t refl refl refl (run-granted m h n r sound e) (omega arith)

pub granting : (m : Meaning) (h : History) (n : ℕ) (r : Run) (charges : ℕ) → IsSoundHistory m h → run_at h n ≡ Some r → is_open r ≡ true → IsRestated m h n r (granted_more charges r)
granting m h n r charges sound e t =
    let le = run-granted m h n r sound e in
    same_calls m h n r (granted_more charges r) sound e t refl refl refl (min-le_right (r.granted + charges) r.budget) (omega arith)

pub calling : (m : Meaning) (h : History) (n : ℕ) (r : Run) (c : NamedCall) → IsSoundHistory m h → run_at h n ≡ Some r → is_open r ≡ true
    → length r.calls < CALLS → IsTrue (fits_one (m.proc c.procedure) c.arguments) → IsRestated m h n r (called_more c r)
calling m h n r c sound e t room fits =
    let mine = run-sound m h sound n r e in
    let one : length (r.calls ++ c ∷ []) ≡ length r.calls + 1 = length-append r.calls (c ∷ []) in
    record {
      found = e;
      was_open = t;
      parent = refl;
      budget = refl;
      granted = mine.granted;
      more = omega arith;
      added = c ∷ [];
      calls = refl;
      few = omega arith;
      fits = more_fits m r.calls c mine.fits fits;
    }

pub closed-publishable : (m : Meaning) (h : History) (n : ℕ) (r : Run) → IsSoundHistory m h → run_at h n ≡ Some r → is_open r ≡ true → IsPublishable (restated h n (closed_run r)) n (closed_run r)
closed-publishable m h n r sound e t =
    let first = h.start.next_run in
    let runs = (restated h n (closed_run r)).runs in
    let len : length runs ≡ length h.runs = numbered-length first h.runs n (closed_run r) in
    let one : unit_of (is_open r) ≡ 1 = ap unit_of t in
    let count : count_by is_open runs + unit_of (is_open r) ≡ count_by is_open h.runs + 0 = numbered-count first h.runs is_open n r (closed_run r) e in
    let few = sound.few_versions in
    record { found = numbered-same first h.runs n r (closed_run r) e; closed = refl; room = omega arith; new = not_open m h n r sound e t }

pub closed-extends : (m : Meaning) → IsLawful m → (h : History) (n : ℕ) (r : Run) → IsSoundHistory m h → run_at h n ≡ Some r → is_open r ≡ true → Extends m h (closed m h n)
closed-extends m law h n r sound e t =
    let new = restated h n (closed_run r) in
    let one : Extends m h new = restated-extends m law h n r (closed_run r) sound (closing m h n r sound e t) in
    let two : (end : Ended) → Extends m h (with_version new n r.parent end) = elim [
      | Stopped ↦ one
      | Done ↦ extends-trans m h new (published new n r.parent) one (published-extends m new n (closed_run r) one.sound (closed-publishable m h n r sound e t))
      | Trapped trap ↦ one
    ] in
    let P : History → Type 0 = λ x. Extends m h x in
    subst P (sym (closed-is m h n r e)) (two (outcome_of m h n r r.budget).end)

-- ---- commands

pub run_at-new : (h : History) (version : VersionNo) (calls : List NamedCall) → run_at (opened h version calls) (next_run h) ≡ Some (new_run h version calls)
run_at-new h version calls = numbered-last h.start.next_run h.runs (new_run h version calls)

pub with_run-extends : (m : Meaning) → IsLawful m → (h : History) (n : ℕ) (f : Run → Run) → IsSoundHistory m h → (o : IsOpenRun h n)
    → IsRestated m h n o.run (f o.run) → Extends m h (with_run h n f (run_at h n))
with_run-extends m law h n f sound o step =
    let P : Option Run → Type 0 = λ x. Extends m h (with_run h n f x) in
    subst P (sym o.found) (restated-extends m law h n o.run (f o.run) sound step)

-- a budget that is set is one
abbrev pub SetsBudget : Command → Type 0
SetsBudget (command.Run call) = Unit {0}
SetsBudget (command.Query call) = Unit {0}
SetsBudget (command.OpenRun call) = Unit {0}
SetsBudget (command.OpenEmpty version) = Unit {0}
SetsBudget (command.CallRun run procedure arguments) = Unit {0}
SetsBudget (command.StepRun run charges) = Unit {0}
SetsBudget (command.CloseRun run) = Unit {0}
SetsBudget (command.DropRun run) = Unit {0}
SetsBudget (command.Budget charges) = IsBudget charges
SetsBudget command.Versions = Unit {0}
SetsBudget command.Stats = Unit {0}

-- what the laws of every command say: the versions stay with their heaps, and no count falls
pub record Keeps (m : Meaning) (old new : History) : Type 0 where
  pub rows : (i : ℕ) (v : Descent) → slice_get old.versions i ≡ Some v → slice_get new.versions i ≡ Some v
  pub heaps : (k : ℕ) → k < version_count old → heap_of m new k ≡ heap_of m old k
  pub counts : CountsBelow (counts_of m old) (counts_of m new)

extends-keeps : (m : Meaning) (old new : History) → Extends m old new → Keeps m old new
extends-keeps m old new x = record { rows = x.rows; heaps = x.heaps; counts = x.counts }

same-keeps : (m : Meaning) (h : History) → Keeps m h h
same-keeps m h = record { rows = λ i v e. e; heaps = λ k le. refl; counts = counts_same (counts_of m h) (counts_of m h) refl }

budget-keeps : (m : Meaning) (h : History) (charges : ℕ) → Keeps m h (record h { budget = charges })
budget-keeps m h charges = record {
  rows = λ i v e. e;
  heaps = λ k le. heap_of-budget m h charges k;
  counts =
      counts_same (counts_of m h) (counts_of m (record h { budget = charges })) (counts_of-budget m h charges);
}

both : (a b : Bool) → (a && b) ≡ true → (a ≡ true) × (b ≡ true)
both true true e = (refl, refl)
both true false e = absurd (cc)
both false b e = absurd (cc)

is_budget : (charges : ℕ) → fits_charges charges ≡ true → IsBudget charges
is_budget charges e =
    let two = both (nat_le 1 charges) (nat_le charges MOST_CHARGES) e in
    let least : 1 ≤ charges = leb-true 1 charges two.0 in
    (omega arith, leb-true charges MOST_CHARGES two.1)

in_range-budget : (c : Command) → in_range c ≡ true → SetsBudget c
in_range-budget (command.Run call) e = tt
in_range-budget (command.Query call) e = tt
in_range-budget (command.OpenRun call) e = tt
in_range-budget (command.OpenEmpty version) e = tt
in_range-budget (command.CallRun run procedure arguments) e = tt
in_range-budget (command.StepRun run charges) e = tt
in_range-budget (command.CloseRun run) e = tt
in_range-budget (command.DropRun run) e = tt
in_range-budget (command.Budget charges) e = is_budget charges e
in_range-budget command.Versions e = tt
in_range-budget command.Stats e = tt

extends-with : (m : Meaning) → IsLawful m → (h : History) (c : Command) → SetsBudget c → IsSoundHistory m h → refusal m h c ≡ None → Extends m h (changed m h c)
unfolding refusal
extends-with m law h (command.Run call) given sound e =
    let both = first-none (call_refusal h (m.proc call.procedure) call) (runs_refusal h) e in
    let a = accepted h (m.proc call.procedure) call both.0 in
    let calls = call_of call ∷ [] in
    let new = opened h call.version calls in
    let one = opened-extends m h call.version calls sound (has_room h both.1) a.there (omega arith) (one_fits m (call_of call) a.fits) in
    extends-trans m h new (closed m new (next_run h)) one (closed-extends m law new (next_run h) (new_run h call.version calls) one.sound (run_at-new h call.version calls) refl)
extends-with m law h (command.Query call) given sound e = extends-refl m h sound
extends-with m law h (command.OpenRun call) given sound e =
    let both = first-none (call_refusal h (m.proc call.procedure) call) (first (runs_refusal h) (open_refusal h)) e in
    let more = first-none (runs_refusal h) (open_refusal h) both.1 in
    let a = accepted h (m.proc call.procedure) call both.0 in
    opened-extends m h call.version (call_of call ∷ []) sound (has_room h more.0) a.there (omega arith) (one_fits m (call_of call) a.fits)
extends-with m law h (command.OpenEmpty version) given sound e =
    let both = first-none (version_refusal h version) (first (runs_refusal h) (open_refusal h)) e in
    let more = first-none (runs_refusal h) (open_refusal h) both.1 in
    opened-extends m h version [] sound (has_room h more.0) (there h version both.0) (omega arith) (λ i c q. absurd (cc))
extends-with m law h (command.CallRun run procedure arguments) given sound e =
    let both = first-none (kinds_refusal (m.proc procedure) arguments) (first (run_refusal h run) (calls_refusal h run)) e in
    let more = first-none (run_refusal h run) (calls_refusal h run) both.1 in
    let o = accepted_run h run more.0 in
    let c : NamedCall = record { procedure = procedure; arguments = arguments } in
    with_run-extends m law h run.0 (called_more c) sound o (calling m h run.0 o.run c sound o.found o.is_so (has_calls h run o.run o.found more.1) (accepted_kinds (m.proc procedure) arguments both.0))
extends-with m law h (command.StepRun run charges) given sound e =
    let o = accepted_run h run e in
    with_run-extends m law h run.0 (granted_more charges) sound o (granting m h run.0 o.run charges sound o.found o.is_so)
extends-with m law h (command.CloseRun run) given sound e =
    let o = accepted_run h run e in closed-extends m law h run.0 o.run sound o.found o.is_so
extends-with m law h (command.DropRun run) given sound e =
    let o = accepted_run h run e in
    with_run-extends m law h run.0 dropped_run sound o (dropping m h run.0 o.run sound o.found o.is_so)
extends-with m law h (command.Budget charges) given sound e =
    let kept = budget-keeps m h charges in
    record {
      sound = record { start = sound.start; budget = given; few = sound.few; few_versions = sound.few_versions; runs = sound.runs; versions = sound.versions; apart = sound.apart };
      versions = omega arith;
      rows = kept.rows;
      heaps = kept.heaps;
      counts = kept.counts;
    }
extends-with m law h command.Versions given sound e = extends-refl m h sound
extends-with m law h command.Stats given sound e = extends-refl m h sound

pub changed-extends : (m : Meaning) → IsLawful m → (h : History) (c : Command) → in_range c ≡ true → IsSoundHistory m h → refusal m h c ≡ None → Extends m h (changed m h c)
changed-extends m law h c given sound e = extends-with m law h c (in_range-budget c given) sound e

changed-keeps : (m : Meaning) → IsLawful m → (h : History) (c : Command) → IsSoundHistory m h → refusal m h c ≡ None → Keeps m h (changed m h c)
changed-keeps m law h (command.Run call) sound e = extends-keeps m h (changed m h (command.Run call)) (extends-with m law h (command.Run call) tt sound e)
changed-keeps m law h (command.Query call) sound e = extends-keeps m h (changed m h (command.Query call)) (extends-with m law h (command.Query call) tt sound e)
changed-keeps m law h (command.OpenRun call) sound e = extends-keeps m h (changed m h (command.OpenRun call)) (extends-with m law h (command.OpenRun call) tt sound e)
changed-keeps m law h (command.OpenEmpty version) sound e = extends-keeps m h (changed m h (command.OpenEmpty version)) (extends-with m law h (command.OpenEmpty version) tt sound e)
changed-keeps m law h (command.CallRun run procedure arguments) sound e =
    extends-keeps m h (changed m h (command.CallRun run procedure arguments)) (extends-with m law h (command.CallRun run procedure arguments) tt sound e)
changed-keeps m law h (command.StepRun run charges) sound e = extends-keeps m h (changed m h (command.StepRun run charges)) (extends-with m law h (command.StepRun run charges) tt sound e)
changed-keeps m law h (command.CloseRun run) sound e = extends-keeps m h (changed m h (command.CloseRun run)) (extends-with m law h (command.CloseRun run) tt sound e)
changed-keeps m law h (command.DropRun run) sound e = extends-keeps m h (changed m h (command.DropRun run)) (extends-with m law h (command.DropRun run) tt sound e)
changed-keeps m law h (command.Budget charges) sound e = budget-keeps m h charges
changed-keeps m law h command.Versions sound e = extends-keeps m h (changed m h command.Versions) (extends-with m law h command.Versions tt sound e)
changed-keeps m law h command.Stats sound e = extends-keeps m h (changed m h command.Stats) (extends-with m law h command.Stats tt sound e)

-- each command that a line can give keeps what is so of histories
pub after-sound : (m : Meaning) → IsLawful m → (h : History) (c : Command) → in_range c ≡ true → IsSoundHistory m h → IsSoundHistory m (after m h c)
unfolding after
after-sound m law h c given sound = on (refusal m h c) refl
  where
    on : (o : Option Refusal) → refusal m h c ≡ o → IsSoundHistory m (unless o (changed m h c) h)
    on None e = (changed-extends m law h c given sound e).sound
    on (Some r) e = sound

-- each command keeps the heaps of the versions, and lowers no count
pub after-keeps : (m : Meaning) → IsLawful m → (h : History) (c : Command) → IsSoundHistory m h → Keeps m h (after m h c)
unfolding after
after-keeps m law h c sound = on (refusal m h c) refl
  where
    on : (o : Option Refusal) → refusal m h c ≡ o → Keeps m h (unless o (changed m h c) h)
    on None e = changed-keeps m law h c sound e
    on (Some r) e = same-keeps m h

-- the history of an opening
pub begun-sound : (m : Meaning) (o : Opening) → IsOpening m o → IsSoundHistory m (begun o)
begun-sound m o is =
    let few = is.few in
    let versions = is.few_versions in
    record { start = is; budget = is.budget; few = omega arith; few_versions = omega arith; runs = λ i r e. absurd (cc); versions = λ i v e. absurd (cc); apart = λ i j v w e f same. absurd (cc) }

after_all-sound : (m : Meaning) → IsLawful m → (h : History) (commands : List Command) → All (λ c. in_range c ≡ true) commands → IsSoundHistory m h → IsSoundHistory m (after_all m h commands)
after_all-sound m law h [] given sound = sound
after_all-sound m law h (c ∷ commands) given sound = after_all-sound m law (after m h c) commands (All-tail (λ x. in_range x ≡ true) c commands given)
    (after-sound m law h c (All-head (λ x. in_range x ≡ true) c commands given) sound)

-- a history of a program is sound
pub history-sound : (m : Meaning) → IsLawful m → (o : Opening) → IsOpening m o → (h : History) → IsHistory m o h → IsSoundHistory m h
history-sound m law o start h is = let P : History → Type 0 = λ x. IsSoundHistory m x in subst P (sym is.made) (after_all-sound m law (begun o) is.commands is.given (begun-sound m o start))

-- a run that is opened and closed at once is answered as a `run` line
pub close_reply-new : (m : Meaning) (h : History) (call : Call) → IsSoundHistory m h
    → close_reply m (opened h call.version (call_of call ∷ [])) (record { 0 = next_run h })
    (run_at (opened h call.version (call_of call ∷ [])) (next_run h)) ≡ answered m h (command.Run call)
close_reply-new m h call sound =
    let calls = call_of call ∷ [] in
    let new = opened h call.version calls in
    ap (close_reply m new (record { 0 = next_run h })) (run_at-new h call.version calls)
    ∙ ap (λ x. ended_as h (m.outcome (work_of (next_run h) (new_run h call.version calls)) h.budget x))
    (heap_of-opened m h call.version calls call.version.0 sound)

pub may_open-sound : (m : Meaning) (h : History) (version : VersionNo) (calls : List NamedCall) → IsSoundHistory m h → MayOpen m h version calls → IsSoundHistory m (opened h version calls)
may_open-sound m h version calls sound may = opened-sound m h version calls sound may.room may.there may.few may.fits

pub run-opens : (m : Meaning) (h : History) (call : Call) → refusal m h (command.Run call) ≡ None → MayOpen m h call.version (call_of call ∷ [])
unfolding refusal
run-opens m h call e =
    let both = first-none (call_refusal h (m.proc call.procedure) call) (runs_refusal h) e in
    let a = accepted h (m.proc call.procedure) call both.0 in
    record { room = has_room h both.1; there = a.there; few = omega arith; fits = one_fits m (call_of call) a.fits }

pub open-opens : (m : Meaning) (h : History) (call : Call) → refusal m h (command.OpenRun call) ≡ None → MayOpen m h call.version (call_of call ∷ [])
unfolding refusal
open-opens m h call e =
    let both = first-none (call_refusal h (m.proc call.procedure) call) (first (runs_refusal h) (open_refusal h)) e in
    let more = first-none (runs_refusal h) (open_refusal h) both.1 in
    let a = accepted h (m.proc call.procedure) call both.0 in
    record { room = has_room h more.0; there = a.there; few = omega arith; fits = one_fits m (call_of call) a.fits }

pub empty-opens : (m : Meaning) (h : History) (version : VersionNo) → refusal m h (command.OpenEmpty version) ≡ None → MayOpen m h version []
unfolding refusal
empty-opens m h version e =
    let both = first-none (version_refusal h version) (first (runs_refusal h) (open_refusal h)) e in
    let more = first-none (runs_refusal h) (open_refusal h) both.1 in
    record { room = has_room h more.0; there = there h version both.0; few = omega arith; fits = λ i c q. absurd (cc) }
