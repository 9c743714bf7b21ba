-- A history with its open runs dropped.
use Rattle.std.proofs.Common.{◌≡◌, ℕ, suc, ◌+◌, Option, Some, None, false, cond, List, [], ◌∷◌, ◌++◌, map, length, slice_get, refl, sym, ap, ◌∙◌, subst, arith}
use Rattle.std.specs.Prelude.{count_by, slice_index_or}
use Rattle.std.specs.Option.{option_map, option_and_then}
use Rattle.std.proofs.lemmas.List.{length-map}
use Rattle.std.proofs.lemmas.Option.{same_Some, slice_get-map}
use Rattle.pst_base.specs.Heap.{Heap, initial_heap}
use Rattle.pst_base.specs.declared.names.Counts.{Counts}
use Rattle.pst_base.specs.Counts.{counts_plus}
use Rattle.pst_history.specs.declared.history.Run.{Run}
use Rattle.pst_history.specs.declared.history.RunState.{RunState}
use Rattle.pst_history.specs.declared.history.RunState.TheVariants.{Open, Closed, Dropped}
use Rattle.pst_history.specs.declared.history.Descent.{Descent}
use Rattle.pst_history.specs.Meaning.{Meaning}
use Rattle.pst_history.specs.History.{History, Opening, index_from, numbered, is_open, is_open_state, next_run, work_of, made_by, heaps_of, heap_of, total_counts, run_counts, counts_of, dropped_run}
use Rattle.pst_history.specs.Sound.{IsSoundHistory, IsSoundRun, IsSoundVersion}
use Rattle.pst_history.proofs.Heaps.{heaps_from-same}
use Rattle.pst_history.proofs.Sums.{count_by-cons, unit_of}
use Rattle.pst_history_laws.specs.TakenUp.{taken_up, NoneOpen, dropped_if_open, all_dropped}

got : (rs : List Run) (i : ℕ) → slice_get (map dropped_if_open rs) i ≡ option_map dropped_if_open (slice_get rs i)
got rs i = slice_get-map dropped_if_open rs i

got-at : (rs : List Run) (o : Option ℕ) → option_and_then (slice_get (map dropped_if_open rs)) o ≡ option_map dropped_if_open (option_and_then (slice_get rs) o)
got-at rs None = refl
got-at rs (Some i) = got rs i

got-number : (first : ℕ) (rs : List Run) (n : ℕ) → numbered first (map dropped_if_open rs) n ≡ option_map dropped_if_open (numbered first rs n)
got-number first rs n = got-at rs (index_from first n)

-- all but the state stays
work-same : (n : ℕ) (r : Run) → work_of n (dropped_if_open r) ≡ work_of n r
work-same n r = on r.state
  where
    on : (s : RunState) → work_of n (cond (is_open_state s) (dropped_run r) r) ≡ work_of n r
    on Open = refl
    on Closed = refl
    on Dropped = refl

budget-same : (r : Run) → (dropped_if_open r).budget ≡ r.budget
budget-same r = on r.state
  where
    on : (s : RunState) → (cond (is_open_state s) (dropped_run r) r).budget ≡ r.budget
    on Open = refl
    on Closed = refl
    on Dropped = refl

granted-same : (r : Run) → (dropped_if_open r).granted ≡ r.granted
granted-same r = on r.state
  where
    on : (s : RunState) → (cond (is_open_state s) (dropped_run r) r).granted ≡ r.granted
    on Open = refl
    on Closed = refl
    on Dropped = refl

parent-same : (r : Run) → (dropped_if_open r).parent ≡ r.parent
parent-same r = on r.state
  where
    on : (s : RunState) → (cond (is_open_state s) (dropped_run r) r).parent ≡ r.parent
    on Open = refl
    on Closed = refl
    on Dropped = refl

not-open : (r : Run) → is_open (dropped_if_open r) ≡ false
not-open r = on r.state refl
  where
    on : (s : RunState) → r.state ≡ s → is_open (cond (is_open_state s) (dropped_run r) r) ≡ false
    on Open e = refl
    on Closed e = ap is_open_state e
    on Dropped e = ap is_open_state e

made-same : (m : Meaning) (n : ℕ) (o : Option Run) (x : Heap) → made_by m n (option_map dropped_if_open o) x ≡ made_by m n o x
made-same m n None x = refl
made-same m n (Some r) x = ap (λ w. (m.outcome w (dropped_if_open r).budget x).heap) (work-same n r) ∙ ap (λ b. (m.outcome (work_of n r) b x).heap) (budget-same r)

pub heaps-same : (m : Meaning) (h : History) → heaps_of m (all_dropped h) ≡ heaps_of m h
unfolding heaps_of
heaps-same m h = heaps_from-same m h.start.next_run h.runs (map dropped_if_open h.runs) h.start.heaps h.versions
    (λ i v x e. ap (λ o. made_by m v.run.0 o x) (got-number h.start.next_run h.runs v.run.0) ∙ made-same m v.run.0 (numbered h.start.next_run h.runs v.run.0) x)

heap-same : (m : Meaning) (h : History) (k : ℕ) → heap_of m (all_dropped h) k ≡ heap_of m h k
heap-same m h k = ap (λ xs. get xs k) (heaps-same m h)
  where
    get : List Heap → ℕ → Heap
    get xs k = slice_index_or xs k (initial_heap m.shape)

pub next-same : (h : History) → next_run (all_dropped h) ≡ next_run h
next-same h = ap (λ n. h.start.next_run + n) (length-map h.runs dropped_if_open)

one-counted : (m : Meaning) (h : History) (n : ℕ) (r : Run) → run_counts m (all_dropped h) n (dropped_if_open r) ≡ run_counts m h n r
one-counted m h n r =
    ap (λ w. (m.outcome w (dropped_if_open r).granted (heap_of m (all_dropped h) (dropped_if_open r).parent.0)).counts) (work-same n r)
    ∙ ap (λ g. (m.outcome (work_of n r) g (heap_of m (all_dropped h) (dropped_if_open r).parent.0)).counts) (granted-same r)
    ∙ ap (λ x. (m.outcome (work_of n r) r.granted x).counts) (heap-same m h (dropped_if_open r).parent.0 ∙ ap (λ p. heap_of m h p.0) (parent-same r))

all-counted : (f g : ℕ → Run → Counts) → ((n : ℕ) (r : Run) → g n (dropped_if_open r) ≡ f n r) → (n : ℕ) (rs : List Run) → total_counts g n (map dropped_if_open rs) ≡ total_counts f n rs
all-counted f g same n [] = refl
all-counted f g same n (r ∷ rs) = ap (λ c. counts_plus c (total_counts g (suc n) (map dropped_if_open rs))) (same n r) ∙ ap (counts_plus (f n r)) (all-counted f g same (suc n) rs)

pub counts-same : (m : Meaning) (h : History) → counts_of m (all_dropped h) ≡ counts_of m h
unfolding counts_of
counts-same m h = ap (counts_plus h.start.counts) (all-counted (run_counts m h) (run_counts m (all_dropped h)) (one-counted m h) h.start.next_run h.runs)

-- the opening that is taken up is the same
pub taken-same : (m : Meaning) (h : History) → taken_up m (all_dropped h) ≡ taken_up m h
taken-same m h =
    ap (λ x. opens x (next_run (all_dropped h)) (counts_of m (all_dropped h))) (heaps-same m h)
    ∙ ap (λ x. opens (heaps_of m h) x (counts_of m (all_dropped h))) (next-same h) ∙ ap (λ x. opens (heaps_of m h) (next_run h) x) (counts-same m h)
  where
    opens : List Heap → ℕ → Counts → Opening
    opens heaps next counts = record { versions = h.start.versions ++ h.versions; heaps = heaps; next_run = next; budget = h.budget; counts = counts }

pub none-open : (h : History) → NoneOpen (all_dropped h)
none-open h i r e = on (slice_get h.runs i) (sym (got h.runs i) ∙ e)
  where
    on : (o : Option Run) → option_map dropped_if_open o ≡ Some r → is_open r ≡ false
    on None e = absurd (cc)
    on (Some x) e = ap is_open (sym (same_Some (dropped_if_open x) r e)) ∙ not-open x

none-counted : (rs : List Run) → count_by is_open (map dropped_if_open rs) ≡ 0
none-counted [] = refl
none-counted (r ∷ rs) =
    let here : count_by is_open (dropped_if_open r ∷ map dropped_if_open rs) ≡ unit_of false + count_by is_open (map dropped_if_open rs) =
    count_by-cons is_open (dropped_if_open r) (map dropped_if_open rs) ∙ ap (λ b. unit_of b + count_by is_open (map dropped_if_open rs)) (not-open r) in
    let rest = none-counted rs in
    omega arith

closed-kept : (r : Run) → r.state ≡ Closed → dropped_if_open r ≡ r
closed-kept r e = ap (λ s. cond (is_open_state s) (dropped_run r) r) e

run-kept : (m : Meaning) (h : History) (n : ℕ) (r : Run) → IsSoundRun m h.start h.versions n r → IsSoundRun m h.start h.versions n (dropped_if_open r)
run-kept m h n r s = on r.state
  where
    on : (x : RunState) → IsSoundRun m h.start h.versions n (cond (is_open_state x) (dropped_run r) r)
    on Open = record { budget = s.budget; granted = s.granted; version = s.version; older = s.older; few = s.few; fits = s.fits }
    on Closed = s
    on Dropped = s

runs-kept : (m : Meaning) (h : History) (n : ℕ) (o : Option Run) → ((r : Run) → o ≡ Some r → IsSoundRun m h.start h.versions n r) → (r : Run)
    → option_map dropped_if_open o ≡ Some r → IsSoundRun m h.start h.versions n r
runs-kept m h n None s r e = absurd (cc)
runs-kept m h n (Some x) s r e = subst (IsSoundRun m h.start h.versions n) (same_Some (dropped_if_open x) r e) (run-kept m h n x (s x refl))

version-kept : (h : History) (k : ℕ) (v : Descent) → IsSoundVersion h.start h.runs k v → IsSoundVersion h.start (map dropped_if_open h.runs) k v
version-kept h k v s = record {
  parent = s.parent;
  run = s.run;
  found = got-number h.start.next_run h.runs v.run.0 ∙ ap (option_map dropped_if_open) s.found ∙ ap Some (closed-kept s.run s.closed);
  same = s.same;
  closed = s.closed;
}

pub sound-kept : (m : Meaning) (h : History) → IsSoundHistory m h → IsSoundHistory m (all_dropped h)
sound-kept m h s =
    let next = next-same h in
    let few = s.few in
    let versions = s.few_versions in
    let none = none-counted h.runs in
    record {
      start = s.start;
      budget = s.budget;
      few = omega arith;
      few_versions = omega arith;
      runs = λ i r e. runs-kept m h (h.start.next_run + i) (slice_get h.runs i) (s.runs i) r (sym (got h.runs i) ∙ e);
      versions = λ i v e. version-kept h (length h.start.heaps + i) v (s.versions i v e);
      apart = s.apart;
    }
