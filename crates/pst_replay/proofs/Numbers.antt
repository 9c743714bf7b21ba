-- The calls of runs by number.
use Rattle.std.proofs.Common.{◌≡◌, ℕ, List, [], ◌∷◌, ◌++◌, length, map, refl, set, subst, ap, sym, ◌∙◌, zero, suc, slice_get, Option, Some, None}
use Rattle.std.proofs.lemmas.List.{length-map, map-append, map-set}
use Rattle.std.proofs.lemmas.Option.{same_Some, slice_get-map, get_or_from_slice_get}
use Rattle.std.proofs.Math.Seq.{map-set_same}
use Rattle.std.specs.Option.{option_map}
use Rattle.pst_program.specs.declared.program.Program.{Program}
use Rattle.pst_program.specs.declared.calls.ProcCall.{ProcCall}
use Rattle.std.specs.Prelude.{IsSome, Result, Ok, Err, OnOk}
use Rattle.pst_base.specs.declared.names.VersionNo.{VersionNo}
use Rattle.pst_program.specs.declared.meaning.Ended.{Ended}
use Rattle.pst_program.specs.declared.meaning.Ended.TheVariants.{Done, Stopped, Trapped}
use Rattle.pst_program.specs.Outcome.{calls_of, task_call}
use Rattle.pst_program.specs.View.{routines_of}
use Rattle.pst_history.specs.declared.history.NamedCall.{NamedCall}
use Rattle.pst_history.specs.declared.history.Run.{Run}
use Rattle.pst_history.specs.declared.history.Since.{Since}
use Rattle.pst_history.specs.Direct.{direct_call}
use Rattle.pst_history.specs.History.{History, called_more, numbered, opening, since, with_run, with_version}
use Rattle.pst_replay.specs.declared.history.NumberedHistory.{NumberedHistory}
use Rattle.pst_history.specs.Since.{Changes}
use Rattle.pst_replay.specs.Replay.{IsNumbered, direct_calls}

-- each run has its calls
pub as_many : (program : Program) (k : NumberedHistory) → IsNumbered program k → length k.calls ≡ length k.since.runs
as_many program k e = sym (length-map k.calls calls_of) ∙ ap length e ∙ length-map k.since.runs (direct_calls program)

-- the calls of the run with a number
pub calls_found : (program : Program) (k : NumberedHistory) → IsNumbered program k → (n : ℕ) (calls : List ProcCall) (r : Run)
    → numbered 1 k.calls n ≡ Some calls → numbered 1 k.since.runs n ≡ Some r → calls_of calls ≡ direct_calls program r
calls_found program k e zero calls r found run = absurd (cc)
calls_found program k e (suc i) calls r found run =
    same_Some (calls_of calls) (direct_calls program r)
    (sym (ap (option_map calls_of) found) ∙ sym (slice_get-map calls_of k.calls i) ∙ ap (λ xs. slice_get xs i) e
    ∙ slice_get-map (direct_calls program) k.since.runs i ∙ ap (option_map (direct_calls program)) run)

-- a run that is changed, where a function cannot tell it from the one before
same_images : {A : Type 0} (g : Run → A) (s : Since) (i : ℕ) (f : Run → Run) (o : Option Run) → slice_get s.runs i ≡ o → ((r : Run) → g (f r) ≡ g r)
    → map g (with_run (since (opening []) s) (suc i) f o).runs ≡ map g s.runs
same_images g s i f None e same = refl
same_images g s i f (Some r) e same = map-set_same g s.runs i (f r) r (same r ∙ ap g (sym (get_or_from_slice_get s.runs i r r e)))

changed_images : {A : Type 0} (g : Run → A) (s new : Since) (n : ℕ) (f : Run → Run) → ((r : Run) → g (f r) ≡ g r) → Changes f n s new → map g new.runs ≡ map g s.runs
changed_images g s new zero f same changes = ap (λ (x : History). map g x.runs) (changes [])
changed_images g s new (suc i) f same changes = ap (λ (x : History). map g x.runs) (changes []) ∙ same_images g s i f (slice_get s.runs i) refl same

-- a change of a run that keeps its calls
pub still_numbered : (program : Program) (k : NumberedHistory) (new : Since) (n : ℕ) (f : Run → Run) → ((r : Run) → (f r).calls ≡ r.calls)
    → Changes f n k.since new → IsNumbered program k → IsNumbered program (record k { since = new })
still_numbered program k new n f same changes e =
    e ∙ sym (changed_images (direct_calls program) k.since new n f (λ r. ap (map (direct_call (routines_of program))) (same r)) changes)

-- one call more, of the run and by number
added_at : (program : Program) (k : NumberedHistory) → IsNumbered program k
    → (i : ℕ) (calls : List ProcCall) (run : Option Run) (by_number : ProcCall) (call : NamedCall) → slice_get k.calls i ≡ Some calls
    → slice_get k.since.runs i ≡ run → IsSome run → task_call by_number ≡ direct_call (routines_of program) call
    → map calls_of (set k.calls i (calls ++ by_number ∷ [])) ≡ map (direct_calls program)
    (with_run (since (opening []) k.since) (suc i) (called_more call) run).runs
added_at program k e i calls None by_number call found is there same = absurd (cc)
added_at program k e i calls (Some r) by_number call found is there same =
    let more : calls_of (calls ++ by_number ∷ []) ≡ direct_calls program (called_more call r) =
    map-append task_call calls (by_number ∷ []) ∙ ap (λ xs. xs ++ task_call by_number ∷ []) (calls_found program k e (suc i) calls r found is)
    ∙ ap (λ t. direct_calls program r ++ t ∷ []) same ∙ sym (map-append (direct_call (routines_of program)) r.calls (call ∷ [])) in
    map-set calls_of k.calls i (calls ++ by_number ∷ []) ∙ ap (λ xs. set xs i (calls_of (calls ++ by_number ∷ []))) e
    ∙ ap (set (map (direct_calls program) k.since.runs) i) more ∙ sym (map-set (direct_calls program) k.since.runs i (called_more call r))

pub added_numbered : (program : Program) (k : NumberedHistory) (new : NumberedHistory) (n i : ℕ) (calls : List ProcCall) (by_number : ProcCall)
    (call : NamedCall) → n ≡ suc i → slice_get k.calls i ≡ Some calls → IsSome (numbered 1 k.since.runs n)
    → task_call by_number ≡ direct_call (routines_of program) call → new.calls ≡ set k.calls i (calls ++ by_number ∷ []) → IsNumbered program k
    → Changes (called_more call) n k.since new.since → IsNumbered program new
added_numbered program k new n i calls by_number call at found there same is e changes =
    let P : ℕ → Type 0 = λ j. IsSome (numbered 1 k.since.runs j) in
    let Q : ℕ → Type 0 = λ j. Changes (called_more call) j k.since new.since in
    let changed = subst Q at changes in
    ap (map calls_of) is ∙ added_at program k e i calls (slice_get k.since.runs i) by_number call found refl (subst P at there) same
    ∙ sym (ap (λ (x : History). map (direct_calls program) x.runs) (changed []))

-- a version more
ended_runs : (h : History) (n : ℕ) (parent : VersionNo) (end : Ended) → (with_version h n parent end).runs ≡ h.runs
ended_runs h n parent Done = refl
ended_runs h n parent (Trapped trap) = refl
ended_runs h n parent Stopped = refl

pub ended_numbered : (program : Program) (k : NumberedHistory) (new : Since) (n : ℕ) (parent : VersionNo) (end : Ended)
    → since (opening []) new ≡ with_version (since (opening []) k.since) n parent end → IsNumbered program k → IsNumbered program (record k { since = new })
ended_numbered program k new n parent end made e =
    e ∙ sym (ap (λ (x : History). map (direct_calls program) x.runs) made ∙ ap (map (direct_calls program)) (ended_runs (since (opening []) k.since) n parent end))

pub always : {T E P : Type 0} (r : Result T E) → P → OnOk r P
always (Ok x) p = p
always (Err x) p = tt
