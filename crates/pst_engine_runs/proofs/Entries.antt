-- Finding the entry of a run; and what is refused.
use Rattle.std.proofs.Common.{◌≡◌, ℕ, ℤ, ◌+◌, ◌<◌, ◌≤◌, List, [], ◌∷◌, length, refl, ap, sym, ◌∙◌, subst, arith, zero, suc, slice_get, Option, Some, None, Bool, true, false, cond}
use Rattle.std.specs.Prelude.{IfSome, IsSome, is_some, not, nat_lt, nat_le, position}
use Rattle.std.proofs.lemmas.Bool.{false≢true}
use Rattle.std.specs.List.{position_or_len}
use Rattle.std.specs.Option.{option_and_then}
use Rattle.std.proofs.lemmas.Option.{same_Some, get_or_from_slice_get}
use Rattle.std.proofs.lemmas.List.Recursion.{is_position_or_len}
use Rattle.std.proofs.lemmas.List.Quantifiers.{position-Some}
use borrow.Author.Tests.{eqb-true, eq-eqb}
use Rattle.pst_base.specs.declared.names.RunNo.{RunNo}
use Rattle.pst_base.specs.declared.names.VersionNo.{VersionNo}
use Rattle.pst_versions.specs.State.{State}
use Rattle.pst_script.specs.declared.command.Command.{Command}
use Rattle.pst_script.specs.declared.command.Command.TheVariants as command
use Rattle.pst_script.specs.declared.reply.Refusal.{Refusal}
use Rattle.pst_script.specs.declared.reply.Refusal.TheVariants as because
use Rattle.pst_history.specs.declared.history.Run.{Run}
use Rattle.pst_history.specs.Meaning.{Meaning, when, kinds_refusal}
use Rattle.pst_history.specs.History.{History, run_at, is_open, is_open_run, is_full_run, refusal, first, version_refusal, call_refusal, runs_refusal, open_refusal, run_refusal, calls_refusal}
use Rattle.pst_history.proofs.Sound.{present}
use Rattle.pst_history.proofs.Refusals.{not_below, first-none, has_calls, accepted_kinds}
use Rattle.pst_machine.specs.declared.activation.Activation.{Activation}
use Rattle.pst_engine_runs.specs.declared.entry.OpenEntry.{OpenEntry}
use Rattle.pst_engine_runs.specs.Runs.{Runs}
use Rattle.pst_engine_runs.specs.Stands.{StandsFor, IsRunAt, MayCall}
use Rattle.pst_engine_runs.specs.Refused.{is_run, entry_of, version_by, runs_by, open_by, run_by, calls_by, refusal_by}
use Rattle.pst_engine_runs.proofs.Parts.{entry-run}
use Rattle.pst_engine_runs.proofs.Slicing.{run-is}
use Rattle.pst_history.specs.declared.history.TheConstants.{RUNS, OPEN_RUNS, CALLS}

-- ---- the first element that passes

pos_of : {X : Type 0} → (X → Bool) → List X → ℕ
pos_of p [] = 0
pos_of p (x ∷ xs) = cond (p x) 0 (1 + pos_of p xs)

none-of : {X : Type 0} (p : X → Bool) (xs : List X) → length xs ≤ pos_of p xs → (i : ℕ) (x : X) → slice_get xs i ≡ Some x → p x ≡ true → ⊥
unfolding pos_of
none-of p [] le i x e t = absurd (cc)
none-of p (y ∷ xs) le zero x e t =
    let same : y ≡ x = same_Some y x e in
    let here : p y ≡ true = ap p same ∙ t in
    let none : cond (p y) 0 (1 + pos_of p xs) ≡ 0 = ap (λ b. cond b 0 (1 + pos_of p xs)) here in
    absurd (omega arith)
none-of p (y ∷ xs) le (suc i) x e t = elim (p y) as (λ b. length (y ∷ xs) ≤ cond b 0 (1 + pos_of p xs) → ⊥) [
  | true ↦ λ less. absurd (omega (arith, less))
  | false ↦ λ less. none-of p xs (omega (arith, less)) i x e t
] le

past : {X : Type 0} (p : X → Bool) (xs : List X) → position p xs ≡ None → length xs ≤ position_or_len p xs
past p xs e = elim (nat_lt (position_or_len p xs) (length xs)) as
    (λ b. nat_lt (position_or_len p xs) (length xs) ≡ b → cond b (Some (position_or_len p xs)) None ≡ None → length xs ≤ position_or_len p xs) [
      | true ↦ λ is q. absurd (cc)
      | false ↦ λ is q. not_below (position_or_len p xs) (length xs) is
    ] refl e

absent : {X : Type 0} (p : X → Bool) (xs : List X) → position p xs ≡ None → (i : ℕ) (x : X) → slice_get xs i ≡ Some x → p x ≡ true → ⊥
unfolding pos_of
absent p xs e =
    let same : pos_of p xs ≡ position_or_len p xs = is_position_or_len (pos_of p) p refl (λ x ys. refl) xs in
    let le = past p xs e in
    none-of p xs (omega arith)

-- ---- entries

pub same-run : {H P R : Type 0} (run : RunNo) (e : OpenEntry H R P) → is_run run e ≡ true → e.run ≡ run
same-run run e t = let number : e.run.0 ≡ run.0 = eqb-true e.run.0 run.0 t in let N : ℕ → RunNo = λ k. record { 0 = k } in ap N number

pub record IsFound {H P R : Type 0} (active : List (OpenEntry H R P)) (run : RunNo) (at : ℕ) : Type 0 where
  pub entry : OpenEntry H R P
  pub found : slice_get active at ≡ Some entry
  pub within : at < length active
  pub run_is : entry.run ≡ run

pub found-at : {H P R : Type 0} (active : List (OpenEntry H R P)) (run : RunNo) (at : ℕ) → position (is_run run) active ≡ Some at → IsFound active run at
found-at active run at e =
    let less = position-within active run at e in
    let w = present active at less in
    let all = position-Some (is_run run) active at w.0 e in
    record { entry = w.0; found = w.1; within = less; run_is = same-run run w.0 (ap (is_run run) (sym (get_or_from_slice_get active at w.0 w.0 w.1)) ∙ all.1) }
  where
    position-within : {H P R : Type 0} (active : List (OpenEntry H R P)) (run : RunNo) (at : ℕ) → position (is_run run) active ≡ Some at → at < length active
    position-within [] run at e = absurd (cc)
    position-within (x ∷ xs) run at e = (position-Some (is_run run) (x ∷ xs) at x e).0

-- what is so of the value that is there
pub if-some : {X : Type 0} (Q : X → Type 0) (o : Option X) (y : X) → o ≡ Some y → Q y → IfSome o Q
if-some Q o y e q = let S : Option _ → Type 0 = λ z. IfSome z Q in subst S (sym e) q

pub is-run-at : {H P R : Type 0} (active : List (OpenEntry H R P)) (run : RunNo) (at : ℕ) → IsFound active run at → IsRunAt active at run
is-run-at active run at w = if-some (λ f. f.run ≡ run) (slice_get active at) w.entry w.found w.run_is

-- the entry at an index
pub entry-there : {H P R : Type 0} (active : List (OpenEntry H R P)) (at : ℕ) (run : RunNo) → at < length active → IsRunAt active at run
    → (e : OpenEntry H R P) × (slice_get active at ≡ Some e) × (e.run ≡ run)
entry-there active at run less is = let w = present active at less in (w.0, w.1, run-is active at w.0 run w.1 is)

-- a run that has an entry is open
open-at : {H P R : Type 0} (active : List (OpenEntry H R P)) (run : RunNo) (at : ℕ) → at < length active → IsRunAt active at run → None ≡ run_by (entry_of active run)
open-at {H = H} {P = P} {R = R} active run at less is = by-position (position (is_run run) active) refl
  where
    by-position : (o : Option ℕ) → position (is_run run) active ≡ o → None ≡ run_by (option_and_then (slice_get active) o)
    by-position None p = let w = entry-there active at run less is in absurd (absent (is_run run) active p at w.0 w.1 (eq-eqb w.0.run.0 run.0 (ap (λ (r : RunNo). r.0) w.2)))
    by-position (Some k) p = let w = found-at active run k p in sym (ap run_by w.found)

pub open-where : {H P R : Type 0} (active : List (OpenEntry H R P)) (run : RunNo) (o : Option ℕ) → is_some o ≡ true
    → IfSome o (λ at. at < length active) → IfSome o (λ at. IsRunAt active at run) → None ≡ run_by (entry_of active run)
open-where active run None some within is = absurd (false≢true some)
open-where active run (Some at) some within is = open-at active run at within is

-- the entry that was looked at is that of the run
pub looked-at : {H P R : Type 0} (active : List (OpenEntry H R P)) (run : RunNo) (at : ℕ) (e : OpenEntry H R P) → slice_get active at ≡ Some e → is_run run e ≡ true → IsRunAt active at run
looked-at active run at e found is = if-some (λ f. f.run ≡ run) (slice_get active at) e found (same-run run e is)

-- it is the entry of the run
pub entry_of-at : {H P R : Type 0} (active : List (OpenEntry H R P)) (run : RunNo) (at : ℕ) (e : OpenEntry H R P)
    → position (is_run run) active ≡ Some at → slice_get active at ≡ Some e → entry_of active run ≡ Some e
entry_of-at active run at e is found = ap (option_and_then (slice_get active)) is ∙ found

module _ {H P R : Type 0} (m : Meaning) (x : Runs P R (Activation H R P)) (s : State P R) (active : List (OpenEntry H R P)) (budget next : ℕ)
    (h : History) (stand : StandsFor m x active budget next s h) where
  -- an open run has an entry
  pub open-found : (run : RunNo) (r : Run) → run_at h run.0 ≡ Some r → is_open r ≡ true → IsSome (position (is_run run) active)
  open-found run r found is_so = on (position (is_run run) active) refl
    where
      on : (o : Option ℕ) → position (is_run run) active ≡ o → IsSome o
      on (Some at) e = refl
      on None e =
          let w = stand.all run.0 r found is_so in
          absurd (absent (is_run run) active e w.0 w.1 w.2 (eq-eqb w.1.run.0 run.0 w.3))

  -- the same, of a number
  pub open-found-if : (run : RunNo) → is_open_run (run_at h run.0) ≡ true → IsSome (position (is_run run) active)
  open-found-if run t = on (run_at h run.0) refl t
    where
      on : (o : Option Run) → run_at h run.0 ≡ o → is_open_run o ≡ true → IsSome (position (is_run run) active)
      on None q e = absurd (cc)
      on (Some r) q e = open-found run r q e

  -- ---- refusals

  -- no entry, and no open run
  none-open : (run : RunNo) → position (is_run run) active ≡ None → is_open_run (run_at h run.0) ≡ false
  none-open run e = on (run_at h run.0) refl
    where
      shut : (b : Bool) → (b ≡ true → ⊥) → b ≡ false
      shut true f = absurd (f refl)
      shut false f = refl

      on : (o : Option Run) → run_at h run.0 ≡ o → is_open_run o ≡ false
      on None q = refl
      on (Some r) q = shut (is_open r) (λ t. none-there run r q t e)
        where
          none-there : (run : RunNo) (r : Run) → run_at h run.0 ≡ Some r → is_open r ≡ true → position (is_run run) active ≡ None → ⊥
          none-there run r q t e = let w = stand.all run.0 r q t in absent (is_run run) active e w.0 w.1 w.2 (eq-eqb w.1.run.0 run.0 w.3)

  -- an entry is of an open run with as many calls
  pub record IsOpenEntry (run : RunNo) (e : OpenEntry H R P) : Type 0 where
    pub history : Run
    pub there : run_at h run.0 ≡ Some history
    pub is_so : is_open history ≡ true
    pub calls : e.calls ≡ length history.calls

  pub entry-is : (run : RunNo) (at : ℕ) (w : IsFound active run at) → IsOpenEntry run w.entry
  entry-is run at w =
      let o = stand.entries at w.entry w.found in
      record { history = o.run; there = ap (λ (k : RunNo). run_at h k.0) (sym w.run_is) ∙ entry-run m x s h stand.before w.entry o; is_so = o.is_so; calls = o.calls }

  entry-found : (run : RunNo) (at : ℕ) (w : IsFound active run at) → position (is_run run) active ≡ Some at → entry_of active run ≡ Some w.entry
  entry-found run at w e = entry_of-at active run at w.entry e w.found

  run-same : (run : RunNo) → run_by (entry_of active run) ≡ run_refusal h run
  run-same run = on (position (is_run run) active) refl
    where
      on : (o : Option ℕ) → position (is_run run) active ≡ o → run_by (entry_of active run) ≡ run_refusal h run
      on None e = ap (λ o. run_by (option_and_then (slice_get active) o)) e ∙ ap (λ b. when (not b) because.Run) (sym (none-open run e))
      on (Some at) e =
          let w = found-at active run at e in
          let o = entry-is run at w in
          let is : is_open_run (run_at h run.0) ≡ true = ap is_open_run o.there ∙ o.is_so in
          ap run_by (entry-found run at w e) ∙ ap (λ b. when (not b) because.Run) (sym is)

  calls-same : (run : RunNo) → calls_by (entry_of active run) ≡ first (run_refusal h run) (calls_refusal h run)
  calls-same run = on (position (is_run run) active) refl
    where
      on : (o : Option ℕ) → position (is_run run) active ≡ o → calls_by (entry_of active run) ≡ first (run_refusal h run) (calls_refusal h run)
      on None e = ap (λ o. calls_by (option_and_then (slice_get active) o)) e ∙ ap (λ b. first (when (not b) because.Run) (calls_refusal h run)) (sym (none-open run e))
      on (Some at) e =
          let w = found-at active run at e in
          let o = entry-is run at w in
          let is : is_open_run (run_at h run.0) ≡ true = ap is_open_run o.there ∙ o.is_so in
          ap calls_by (entry-found run at w e) ∙ ap (λ k. when (nat_le CALLS k) because.Calls) o.calls
          ∙ ap (λ r. when (is_full_run r) because.Calls) (sym o.there) ∙ ap (λ b. first (when (not b) because.Run) (calls_refusal h run)) (sym is)

  version-same : (version : VersionNo) → version_by s version ≡ version_refusal h version
  version-same version = ap (λ n. when (nat_le n version.0) because.Version) stand.versions.many

  runs-same : runs_by next ≡ runs_refusal h
  runs-same = ap (λ n. when (nat_lt RUNS n) because.Runs) stand.same_next

  open-same : open_by active ≡ open_refusal h
  open-same = ap (λ n. when (nat_le OPEN_RUNS n) because.RunsOpen) stand.many

  -- what is refused by engine and heap is refused by the history
  pub refusal-is : (c : Command) → refusal_by m s active next c ≡ refusal m h c
  unfolding refusal
  refusal-is (command.Run call) = ap (λ o. first (first (kinds_refusal (m.proc call.procedure) call.arguments) o) (runs_by next))
      (version-same call.version) ∙ ap (first (call_refusal h (m.proc call.procedure) call)) runs-same
  refusal-is (command.Query call) = ap (first (kinds_refusal (m.query call.procedure) call.arguments)) (version-same call.version)
  refusal-is (command.OpenRun call) = ap (λ o. first (first (kinds_refusal (m.proc call.procedure) call.arguments) o)
      (first (runs_by next) (open_by active))) (version-same call.version)
      ∙ ap (λ o. first (call_refusal h (m.proc call.procedure) call) (first o (open_by active))) runs-same
      ∙ ap (λ o. first (call_refusal h (m.proc call.procedure) call) (first (runs_refusal h) o)) open-same
  refusal-is (command.OpenEmpty version) = ap (λ o. first o (first (runs_by next) (open_by active))) (version-same version)
      ∙ ap (λ o. first (version_refusal h version) (first o (open_by active))) runs-same
      ∙ ap (λ o. first (version_refusal h version) (first (runs_refusal h) o)) open-same
  refusal-is (command.CallRun run procedure arguments) = ap (first (kinds_refusal (m.proc procedure) arguments)) (calls-same run)
  refusal-is (command.StepRun run charges) = run-same run
  refusal-is (command.CloseRun run) = run-same run
  refusal-is (command.DropRun run) = run-same run
  refusal-is (command.Budget charges) = refl
  refusal-is command.Versions = refl
  refusal-is command.Stats = refl

-- so what was found by the code for the entries is what the history says
pub refusal-told : {H P R : Type 0} (m : Meaning) (x : Runs P R (Activation H R P)) (s : State P R) (active : List (OpenEntry H R P))
    (budget next : ℕ) (h : History) → StandsFor m x active budget next s h
    → (line : Command) (items : List (OpenEntry H R P)) (told : Option Refusal) → items ≡ active → told ≡ refusal_by m s items next line → refusal m h line ≡ told
refusal-told m x s active budget next h stand line items told same is =
    sym (refusal-is m x s active budget next h stand line) ∙ ap (λ entries. refusal_by m s entries next line) (sym same) ∙ sym is

-- ---- what is known where a call is not refused

pub may-call : (m : Meaning) (h : History) (run : RunNo) (procedure : List ℕ) (arguments : List ℤ)
    → refusal m h (command.CallRun run procedure arguments) ≡ None → MayCall m h run.0 (record { procedure = procedure; arguments = arguments })
unfolding refusal
may-call m h run procedure arguments e =
    let both = first-none (kinds_refusal (m.proc procedure) arguments) (first (run_refusal h run) (calls_refusal h run)) e in
    let more = first-none (run_refusal h run) (calls_refusal h run) both.1 in
    record { room = λ r found. has_calls h run r found more.1; fits = accepted_kinds (m.proc procedure) arguments both.0 }
