-- What the commands answer, and the history after them.
use Rattle.std.proofs.Common.{◌≡◌, ◌⊎◌, inl, inr, ℕ, ◌+◌, ◌<◌, List, [], ◌∷◌, ◌++◌, length, refl, ap, sym, ◌∙◌, subst, arith, zero, suc, slice_get, Option, Some, None, true}
use Rattle.std.proofs.lemmas.Option.{same_Some}
use Rattle.pst_base.specs.declared.names.RunNo.{RunNo}
use Rattle.pst_base.specs.declared.names.VersionNo.{VersionNo}
use Rattle.pst_versions.specs.declared.rows.VersionRow.{VersionRow}
use Rattle.pst_versions.specs.Rows.{parent_of}
use Rattle.pst_versions.specs.State.{State}
use Rattle.pst_history.specs.declared.history.Descent.{Descent}
use Rattle.std.specs.Option.{option_map}
use Rattle.std.proofs.Common.{map, take, drop, length-append, ◌-◌}
use Rattle.pst_engine_runs.specs.Stands.{HoldsVersions}
use Rattle.pst_script.specs.declared.command.Command.{Command}
use Rattle.pst_script.specs.declared.command.Command.TheVariants as command
use Rattle.pst_script.specs.Commands.{in_range}
use Rattle.pst_script.specs.declared.reply.Refusal.{Refusal}
use Rattle.pst_history.specs.Meaning.{Meaning, IsLawful}
use Rattle.pst_history.specs.History.{History, run_at, refusal, next_run}
use Rattle.pst_machine.specs.declared.activation.Activation.{Activation}
use Rattle.pst_engine_runs.specs.declared.entry.OpenEntry.{OpenEntry}
use Rattle.pst_engine_runs.specs.Runs.{Runs}
use Rattle.pst_engine_runs.specs.Stands.{StandsFor}
use Rattle.pst_engine_runs.proofs.Parts.{entry-run}
use Rattle.pst_engine.proofs.Leaving.{leave-keeps}
use Rattle.std.specs.Prelude.{remove}
use Rattle.pst_script.specs.declared.command.Call.{Call}
use Rattle.pst_script.specs.declared.reply.Reply.{Reply}
use Rattle.pst_script.specs.declared.reply.Reply.TheVariants as answer
use Rattle.pst_history.specs.declared.history.RunState.TheVariants.{Dropped}
use Rattle.pst_history.specs.Sound.{IsSoundHistory}
use Rattle.pst_history.specs.History.{opened, call_of, closed, close_reply, changed, answered, with_run, dropped_run, heaps_of, counts_of}
use Rattle.pst_history.proofs.After.{changed-extends, close_reply-new}
use Rattle.pst_history.specs.History.{after, reply, unless, unless_refused}
use Rattle.pst_history.proofs.LawLemmas.{refused_changes_nothing, only_refused_are_refused}

-- ---- lines that open a run

-- the number that the engine keeps is the next one
run-number : (run : RunNo) (k : ℕ) → run.0 ≡ k → run ≡ record { 0 = k }
run-number run k e = let N : ℕ → RunNo = λ j. record { 0 = j } in ap N e

pub opened-reply : {H P R : Type 0} (m : Meaning) (x : Runs P R (Activation H R P)) (s : State P R) (active : List (OpenEntry H R P)) (budget : ℕ)
    (run : RunNo) (h : History) → StandsFor m x active budget run.0 s h → answer.Opened run ≡ answer.Opened (record { 0 = next_run h })
opened-reply m x s active budget run h stand = ap answer.Opened (run-number run (next_run h) stand.same_next)

-- a run that is opened and closed at once
pub run-answers : {H P R : Type 0} (m : Meaning) (x : Runs P R (Activation H R P)) (t : State P R) (active : List (OpenEntry H R P)) (budget next : ℕ)
    (run : RunNo) (h : History) (call : Call) (r : Reply) → IsSoundHistory m h → run.0 ≡ next_run h
    → StandsFor m x active budget next t (closed m (opened h call.version (call_of call ∷ [])) run.0)
    × (r ≡ close_reply m (opened h call.version (call_of call ∷ [])) run (run_at (opened h call.version (call_of call ∷ [])) run.0))
    → StandsFor m x active budget next t (changed m h (command.Run call)) × (r ≡ answered m h (command.Run call))
run-answers m x t active budget next run h call r sound number both =
    let new = opened h call.version (call_of call ∷ []) in
    let at : StandsFor m x active budget next t (closed m new (next_run h)) × (r ≡ close_reply m new (record { 0 = next_run h }) (run_at new (next_run h))) =
    subst (λ (n : RunNo). StandsFor m x active budget next t (closed m new n.0) × (r ≡ close_reply m new n (run_at new n.0))) (run-number run (next_run h) number) both in
    (at.0, at.1 ∙ close_reply-new m h call sound)

-- ---- a run that is given up

pub drop-keeps : {H P R : Type 0} (m : Meaning) (x : Runs P R (Activation H R P)) (s : State P R) (active : List (OpenEntry H R P)) (budget next : ℕ)
    (h : History) (stand : StandsFor m x active budget next s h) (at : ℕ) (run : RunNo) (e : OpenEntry H R P) → slice_get active at ≡ Some e → e.run ≡ run
    → StandsFor m x (remove active at) budget next s (with_run h run.0 dropped_run (run_at h run.0))
drop-keeps {H = H} {P = P} {R = R} m x s active budget next h stand at run e found number =
    let o = stand.entries at e found in
    let left = leave-keeps m x s active budget next h stand at e found o Dropped refl in
    let there : run_at h e.run.0 ≡ Some o.run = entry-run m x s h stand.before e o in
    let all : StandsFor m x (remove active at) budget next s (with_run h e.run.0 dropped_run (run_at h e.run.0)) =
    subst (λ z. StandsFor m x (remove active at) budget next s (with_run h e.run.0 dropped_run z)) (sym there) left in
    subst (λ (n : RunNo). StandsFor m x (remove active at) budget next s (with_run h n.0 dropped_run (run_at h n.0))) number all

-- ---- the versions

take-more : {X Y : Type 0} (f : X → Y) (xs : List X) (j : ℕ) (x : X) → slice_get xs j ≡ Some x → map f (take j xs) ++ f x ∷ [] ≡ map f (take (suc j) xs)
take-more f [] j x e = absurd (cc)
take-more f (y ∷ xs) zero x e = ap (λ z. f z ∷ []) (sym (same_Some y x e))
take-more f (y ∷ xs) (suc j) x e = ap (λ zs. f y ∷ zs) (take-more f xs j x e)

-- one parent more
pub parents-more : {P : Type 0} (rows : List (VersionRow P)) (k : ℕ) (p : VersionNo) → parent_of rows k ≡ Some p
    → map (λ row. row.parent) (take (k - 1) (drop 1 rows)) ++ p ∷ [] ≡ map (λ row. row.parent) (take (k + 1 - 1) (drop 1 rows))
parents-more rows zero p e = absurd (cc)
parents-more [] (suc j) p e = absurd (cc)
parents-more {P = P} (r ∷ rest) (suc j) p e = on (slice_get rest j) refl e
  where
    on : (o : Option (VersionRow P)) → slice_get rest j ≡ o → option_map (λ (row : VersionRow P). row.parent) o ≡ Some p
        → map (λ row. row.parent) (take (suc j - 1) (drop 1 (r ∷ rest))) ++ p ∷ [] ≡ map (λ row. row.parent) (take (suc j + 1 - 1) (drop 1 (r ∷ rest)))
    on None q e = absurd (cc)
    on (Some row) q e =
        let one : suc j - 1 ≡ j = omega arith in
        let two : suc j ≡ suc j + 1 - 1 = omega arith in
        let is : row.parent ≡ p = same_Some row.parent p e in
        ap (λ n. map (λ (y : VersionRow P). y.parent) (take n rest) ++ p ∷ []) one
        ∙ ap (λ (v : VersionNo). map (λ (y : VersionRow P). y.parent) (take j rest) ++ v ∷ []) (sym is)
        ∙ take-more (λ (y : VersionRow P). y.parent) rest j row q ∙ ap (λ n. map (λ (y : VersionRow P). y.parent) (take n rest)) two

-- lists of one length with the same elements
same-lists : {X Y Z : Type 0} (f : X → Z) (g : Y → Z) (xs : List X) (ys : List Y) → length xs ≡ length ys
    → ((i : ℕ) (x : X) (y : Y) → slice_get xs i ≡ Some x → slice_get ys i ≡ Some y → f x ≡ g y) → map f xs ≡ map g ys
same-lists f g [] [] len same = refl
same-lists f g [] (y ∷ ys) len same = absurd (omega arith)
same-lists f g (x ∷ xs) [] len same = absurd (omega arith)
same-lists f g (x ∷ xs) (y ∷ ys) len same = ap (λ z. z ∷ map f xs) (same 0 x y refl refl) ∙ ap (λ zs. g y ∷ zs) (same-lists f g xs ys (omega arith) (λ i a b p q. same (suc i) a b p q))

pub get-drop : {X : Type 0} (xs : List X) (i : ℕ) → slice_get (drop 1 xs) i ≡ slice_get xs (i + 1)
get-drop [] i = refl
get-drop (x ∷ xs) i = let at : suc i ≡ i + 1 = omega arith in ap (slice_get (x ∷ xs)) at

get-append : {X : Type 0} (xs ys : List X) (i : ℕ) (y : X) → slice_get (xs ++ ys) i ≡ Some y → (slice_get xs i ≡ Some y) ⊎ ((j : ℕ) × (i ≡ length xs + j) × (slice_get ys j ≡ Some y))
get-append [] ys i y e = inr (i, omega arith, e)
get-append (x ∷ xs) ys zero y e = inl e
get-append (x ∷ xs) ys (suc i) y e = elim (get-append xs ys i y e) [ inl q ↦ inl q | inr q ↦ inr (q.0, omega (arith, q.1), q.2) ]

pub parents-are : {P R : Type 0} (m : Meaning) (s : State P R) (h : History) → IsSoundHistory m h → HoldsVersions m s h
    → map (λ row. row.parent) (drop 1 s.versions) ≡ map (λ v. v.parent) (h.start.versions ++ h.versions)
parents-are {P = P} m s h sound holds =
    let many = holds.many in
    let base = sound.start.same in
    let fewer : length (drop 1 s.versions) + 1 ≡ length s.versions = length-drop_one s.versions (omega arith) in
    let all : length (h.start.versions ++ h.versions) ≡ length h.start.versions + length h.versions = length-append h.start.versions h.versions in
    same-lists (λ (row : VersionRow P). row.parent) (λ (v : Descent). v.parent) (drop 1 s.versions) (h.start.versions ++ h.versions) (omega arith) (λ i row v p q.
    let there : slice_get s.versions (i + 1) ≡ Some row = sym (get-drop s.versions i) ∙ p in
    elim (get-append h.start.versions h.versions i v q) [
      | inl w ↦ (holds.given i v row w there).parent
      | inr w ↦ let number : i + 1 ≡ length h.start.heaps + w.0 = omega (arith, w.1) in (holds.rows w.0 v row w.2 (ap (slice_get s.versions) (sym number) ∙ there)).parent
    ])
  where
    length-drop_one : {X : Type 0} (xs : List X) → 0 < length xs → length (drop 1 xs) + 1 ≡ length xs
    length-drop_one [] less = absurd (omega arith)
    length-drop_one (x ∷ xs) less = omega arith

-- ---- another budget

-- a budget that a line can give
pub budget-set : (m : Meaning) → IsLawful m → (h : History) (charges : ℕ) → in_range (command.Budget charges) ≡ true → IsSoundHistory m h
    → refusal m h (command.Budget charges) ≡ None → IsSoundHistory m (record h { budget = charges })
budget-set m law h charges range sound none = (changed-extends m law h (command.Budget charges) range sound none).sound

pub budget-keeps : {H P R : Type 0} (m : Meaning) (x : Runs P R (Activation H R P)) (s : State P R) (active : List (OpenEntry H R P))
    (budget charges next : ℕ) (h : History) → IsSoundHistory m (record h { budget = charges }) → StandsFor m x active budget next s h
    → StandsFor m x active charges next s (record h { budget = charges })
unfolding heaps_of counts_of
budget-keeps m x s active budget charges next h sound stand = record {
  sound = sound;
  same_budget = refl;
  same_next = stand.same_next;
  shape = stand.shape;
  counts = stand.counts;
  calls = stand.calls;
  older = stand.older;
  rooted = stand.rooted;
  versions = record {
    many = stand.versions.many;
    versions = λ k row q. let v = stand.versions.versions k row q in
        record { has = v.has; heap = v.heap };
    given = stand.versions.given;
    rows = stand.versions.rows;
  };
  before = stand.before;
  forks = record {
    given = stand.forks.given;
    many = stand.forks.many;
    forks = λ i r q. let f = stand.forks.forks i r q in
        record {
          row = f.row;
          found = f.found;
          parent = f.parent;
          parent_found = f.parent_found;
          from = f.from;
          published = f.published;
          has_version =
              f.has_version;
        };
    placed = λ i v row q r. let w = stand.forks.placed i v row q r in
        record { index = w.index; number = w.number; fork = w.fork; found = w.found; place = w.place };
  };
  many = stand.many;
  entries = λ i e q. let o = stand.entries i e q in record {
    run = o.run;
    index = o.index;
    number = o.number;
    found = o.found;
    is_so =
        o.is_so;
    parent = o.parent;
    calls = o.calls;
    stands = o.stands;
    fork = o.fork;
    fork_found = o.fork_found;
    place = o.place;
  };
  all = stand.all;
  apart = stand.apart;
}

-- ---- the history after, and the reply

-- what was not refused
pub carried-stands : {H P R : Type 0} (m : Meaning) (x : Runs P R (Activation H R P)) (t : State P R) (active : List (OpenEntry H R P))
    (budget next : ℕ) (h : History) (line : Command) → refusal m h line ≡ None
    → StandsFor m x active budget next t (changed m h line) → StandsFor m x active budget next t (after m h line)
unfolding after
carried-stands m x t active budget next h line none stand = subst (λ o. StandsFor m x active budget next t (unless o (changed m h line) h)) (sym none) stand

pub carried-reply : (m : Meaning) (h : History) (line : Command) (r : Reply) → refusal m h line ≡ None → r ≡ answered m h line → r ≡ reply m h line
unfolding reply
carried-reply m h line r none is = is ∙ ap (λ o. unless_refused o (answered m h line)) (sym none)

-- what was refused
pub refused-stands : {H P R : Type 0} (m : Meaning) (x : Runs P R (Activation H R P)) (s : State P R) (active : List (OpenEntry H R P))
    (budget next : ℕ) (h : History) (line : Command) (why : Refusal) → refusal m h line ≡ Some why
    → StandsFor m x active budget next s h → StandsFor m x active budget next s (after m h line)
refused-stands m x s active budget next h line why e stand = subst (λ y. StandsFor m x active budget next s y) (sym (refused_changes_nothing m h line why e).0) stand

pub refused-reply : (m : Meaning) (h : History) (line : Command) (why : Refusal) → refusal m h line ≡ Some why → answer.Refused why ≡ reply m h line
refused-reply m h line why e = sym (refused_changes_nothing m h line why e).1

-- no other reply is a refusal
pub not-refused : (m : Meaning) (h : History) (line : Command) (r : Reply) (why : Refusal) → refusal m h line ≡ None → r ≡ reply m h line → r ≡ answer.Refused why → ⊥
not-refused m h line r why none is refused = let e = only_refused_are_refused m h line why (sym is ∙ refused) in cc (none, e)
