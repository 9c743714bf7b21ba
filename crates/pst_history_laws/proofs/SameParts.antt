-- What a history and the one that is taken up from it have alike.
use Rattle.std.proofs.Common.{◌≡◌, ℕ, zero, suc, ◌+◌, ◌<◌, ◌≤◌, Option, Some, None, false, List, [], ◌∷◌, ◌++◌, length, slice_get, refl, sym, ap, ◌∙◌, arith, length-append}
use Rattle.std.specs.Prelude.{slice_set, count_by, get_or}
use Rattle.std.specs.Option.{option_and_then}
use Rattle.pst_base.specs.declared.names.Counts.{Counts}
use Rattle.pst_base.specs.Counts.{counts_plus}
use Rattle.pst_base.specs.Heap.{Heap, initial_heap}
use Rattle.pst_base.proofs.CountLemmas.{counts_plus-assoc, counts_plus-comm}
use Rattle.pst_program.specs.Outcome.{no_counts}
use Rattle.pst_history.specs.declared.history.Run.{Run}
use Rattle.pst_history.specs.declared.history.Descent.{Descent}
use Rattle.pst_history.specs.Meaning.{Meaning}
use Rattle.pst_history.specs.History.{History, index_from, numbered, with_index, with_numbered, run_at, next_run, is_open, is_open_run, work_of, made, made_by}
use Rattle.pst_history.specs.History.{heaps_from, heaps_of, version_count, heap_of, total_counts, run_counts, counts_of}
use Rattle.pst_history.specs.Sound.{IsSoundHistory}
use Rattle.pst_history.proofs.Lists.{slice_get-before}
use Rattle.pst_history.proofs.Heaps.{length-heaps_from, heap_of-given}
use Rattle.pst_history.proofs.Numbered.{index-at, index-below, at-number, numbered-at}
use Rattle.pst_history.proofs.Sums.{unit_of, count_by-cons, counted-same, counts_plus-none}
use Rattle.pst_history_laws.specs.TakenUp.{further, anew, NoneOpen}

-- ---- lists

pub slice_get-behind : {X : Type 0} (xs ys : List X) (i : ℕ) → slice_get (xs ++ ys) (length xs + i) ≡ slice_get ys i
slice_get-behind [] ys i = ap (slice_get ys) (let e : 0 + i ≡ i = omega arith in e)
slice_get-behind (x ∷ xs) ys i = ap (slice_get (x ∷ (xs ++ ys))) (let e : suc (length xs) + i ≡ suc (length xs + i) = omega arith in e) ∙ slice_get-behind xs ys i

pub slice_set-behind : {X : Type 0} (xs ys : List X) (i : ℕ) (y : X) → slice_set (xs ++ ys) (length xs + i) y ≡ xs ++ slice_set ys i y
slice_set-behind [] ys i y = ap (λ k. slice_set ys k y) (let e : 0 + i ≡ i = omega arith in e)
slice_set-behind (x ∷ xs) ys i y = ap (λ k. slice_set (x ∷ (xs ++ ys)) k y) (let e : suc (length xs) + i ≡ suc (length xs + i) = omega arith in e) ∙ ap (λ zs. x ∷ zs) (slice_set-behind xs ys i y)

pub rest-of : (a b : ℕ) → a ≤ b → (i : ℕ) × (b ≡ a + i)
rest-of zero b l = (b, omega arith)
rest-of (suc a) zero l = absurd (omega arith)
rest-of (suc a) (suc b) l = let x = rest-of a b (omega arith) in (x.0, (let e = x.1 in omega arith))

none-pass : {X : Type 0} (p : X → _) (xs ys : List X) → ((i : ℕ) (x : X) → slice_get xs i ≡ Some x → p x ≡ false) → count_by p (xs ++ ys) ≡ count_by p ys
none-pass p [] ys none = refl
none-pass p (x ∷ xs) ys none =
    let one : count_by p (x ∷ (xs ++ ys)) ≡ unit_of (p x) + count_by p (xs ++ ys) = count_by-cons p x (xs ++ ys) in
    let zero' : unit_of (p x) ≡ 0 = ap unit_of (none 0 x refl) in
    let rest = none-pass p xs ys (λ i y e. none (suc i) y e) in
    omega arith

-- ---- heaps

heaps_from-append : (m : Meaning) (first : ℕ) (runs : List Run) (heaps : List Heap) (one two : List Descent)
    → heaps_from m first runs heaps (one ++ two) ≡ heaps_from m first runs (heaps_from m first runs heaps one) two
heaps_from-append m first runs heaps [] two = refl
heaps_from-append m first runs heaps (v ∷ one) two = heaps_from-append m first runs (heaps ++ made m first runs heaps v ∷ []) one two

-- runs are found by their numbers
heaps_from-moved : (m : Meaning) (a b : ℕ) (old new : List Run) (heaps : List Heap) (versions : List Descent)
    → ((i : ℕ) (v : Descent) → slice_get versions i ≡ Some v → numbered a old v.run.0 ≡ numbered b new v.run.0)
    → heaps_from m a old heaps versions ≡ heaps_from m b new heaps versions
heaps_from-moved m a b old new heaps [] same = refl
heaps_from-moved m a b old new heaps (w ∷ versions) same =
    ap (λ r. heaps_from m a old (heaps ++ made_by m w.run.0 r (get_or heaps w.parent.0 (initial_heap m.shape)) ∷ []) versions) (same 0 w refl)
    ∙ heaps_from-moved m a b old new (heaps ++ made m b new heaps w ∷ []) versions (λ i v e. same (suc i) v e)

total-append : (f : ℕ → Run → Counts) (n : ℕ) (xs ys : List Run) → total_counts f n (xs ++ ys) ≡ counts_plus (total_counts f n xs) (total_counts f (n + length xs) ys)
total-append f n [] ys = ap (λ k. total_counts f k ys) (let e : n ≡ n + 0 = omega arith in e)
    ∙ sym (counts_plus-comm no_counts (total_counts f (n + 0) ys) ∙ counts_plus-none (total_counts f (n + 0) ys))
total-append f n (x ∷ xs) ys =
    ap (counts_plus (f n x)) (total-append f (suc n) xs ys) ∙ counts_plus-assoc (f n x) (total_counts f (suc n) xs) (total_counts f (suc n + length xs) ys)
    ∙ ap (λ k. counts_plus (counts_plus (f n x) (total_counts f (suc n) xs)) (total_counts f k ys)) (let e : suc n + length xs ≡ n + suc (length xs) = omega arith in e)

counts-are : (m : Meaning) (h : History) → counts_of m h ≡ counts_plus h.start.counts (total_counts (run_counts m h) h.start.next_run h.runs)
unfolding counts_of
counts-are m h = refl

module _ (m : Meaning) (h0 : History) (sound : IsSoundHistory m h0) (none : NoneOpen h0) (b : ℕ) (runs : List Run) (versions : List Descent)
    (later : (i : ℕ) (v : Descent) → slice_get versions i ≡ Some v → next_run h0 ≤ v.run.0) where
  abbrev h : History
  h = further h0 b runs versions

  abbrev g : History
  g = anew m h0 b runs versions

  pub same-next : next_run h ≡ next_run g
  same-next = let l : length (h0.runs ++ runs) ≡ length h0.runs + length runs = length-append h0.runs runs in omega arith

  -- a run since then has one number
  pub later-run : (n : ℕ) → next_run h0 ≤ n → run_at h n ≡ run_at g n
  later-run n l =
      let x = rest-of (next_run h0) n l in
      numbered-at h0.start.next_run (h0.runs ++ runs) n (length h0.runs + x.0) (let e = x.1 in omega arith) ∙ slice_get-behind h0.runs runs x.0 ∙ sym (numbered-at (next_run h0) runs n x.0 x.1)

  -- an earlier one is open in neither
  pub earlier-run : (n : ℕ) → n < next_run h0 → (is_open_run (run_at h n) ≡ false) × (run_at g n ≡ None)
  earlier-run n l = (
    elim (run_at h n) as (λ (o : Option Run). run_at h n ≡ o → is_open_run o ≡ false) [
      | None ↦ λ e. refl
      | Some r ↦ λ e.
          let w = at-number h0.start.next_run (h0.runs ++ runs) n r e in
          let i : w.index < length h0.runs = (let q = w.number in omega arith) in
          none w.index r (sym (slice_get-before h0.runs runs w.index i) ∙ w.found)
    ] refl,
    ap (option_and_then (slice_get runs)) (index-below (next_run h0) n l),
  )

  pub same-heaps : heaps_of m h ≡ heaps_of m g
  unfolding heaps_of
  same-heaps =
      heaps_from-append m h0.start.next_run (h0.runs ++ runs) h0.start.heaps h0.versions versions
      ∙ ap (λ heaps. heaps_from m h0.start.next_run (h0.runs ++ runs) heaps versions)
      (heaps_from-moved m h0.start.next_run h0.start.next_run (h0.runs ++ runs) h0.runs h0.start.heaps h0.versions (λ i v e.
      let s = sound.versions i v e in
      let w = at-number h0.start.next_run h0.runs v.run.0 s.run s.found in
      numbered-at h0.start.next_run (h0.runs ++ runs) v.run.0 w.index w.number ∙ slice_get-before h0.runs runs w.index w.within ∙ sym (numbered-at h0.start.next_run h0.runs v.run.0 w.index w.number)))
      ∙ heaps_from-moved m h0.start.next_run (next_run h0) (h0.runs ++ runs) runs (heaps_from m h0.start.next_run h0.runs h0.start.heaps h0.versions)
      versions (λ i v e. later-run v.run.0 (later i v e))

  pub same-heap : (k : ℕ) → heap_of m h k ≡ heap_of m g k
  same-heap k = ap (λ heaps. get_or heaps k (initial_heap m.shape)) same-heaps

  length-heaps : length (heaps_of m h0) ≡ version_count h0
  unfolding heaps_of
  length-heaps = length-heaps_from m h0.start.next_run h0.runs h0.start.heaps h0.versions

  pub same-count : version_count h ≡ version_count g
  same-count = let l : length (h0.versions ++ versions) ≡ length h0.versions + length versions = length-append h0.versions versions in let k = length-heaps in omega arith

  -- the heaps that there were
  old-heap : (k : ℕ) → k < version_count h0 → heap_of m h k ≡ heap_of m h0 k
  old-heap k l = same-heap k ∙ heap_of-given m g k (let e = length-heaps in omega arith)

  old-total : total_counts (run_counts m h) h0.start.next_run h0.runs ≡ total_counts (run_counts m h0) h0.start.next_run h0.runs
  old-total = counted-same (run_counts m h0) (run_counts m h) h0.start.next_run h0.runs (λ i r e.
      let s = sound.runs i r e in
      ap (λ y. (m.outcome (work_of (h0.start.next_run + i) r) r.granted y).counts) (old-heap r.parent.0 s.version))

  new-total : total_counts (run_counts m h) (next_run h0) runs ≡ total_counts (run_counts m g) (next_run h0) runs
  new-total = counted-same (run_counts m g) (run_counts m h) (next_run h0) runs (λ i r e.
      ap (λ y. (m.outcome (work_of (next_run h0 + i) r) r.granted y).counts) (same-heap r.parent.0))

  parts : counts_of m h ≡ counts_plus (counts_of m h0) (total_counts (run_counts m g) (next_run h0) runs)
  unfolding counts_of
  parts =
      ap (counts_plus h0.start.counts) (total-append (run_counts m h) h0.start.next_run h0.runs runs)
      ∙ counts_plus-assoc h0.start.counts (total_counts (run_counts m h) h0.start.next_run h0.runs) (total_counts (run_counts m h) (next_run h0) runs)
      ∙ ap (λ c. counts_plus (counts_plus h0.start.counts c) (total_counts (run_counts m h) (next_run h0) runs)) old-total
      ∙ ap (counts_plus (counts_plus h0.start.counts (total_counts (run_counts m h0) h0.start.next_run h0.runs))) new-total

  pub same-counts : counts_of m h ≡ counts_of m g
  same-counts = parts ∙ sym taken-parts
    where
      taken-parts : counts_of m g ≡ counts_plus (counts_of m h0) (total_counts (run_counts m g) (next_run h0) runs)
      taken-parts = counts-are m g

  pub same-open : count_by is_open h.runs ≡ count_by is_open g.runs
  same-open = none-pass is_open h0.runs runs none

  -- a change of a run since then is one change
  pub same-set : (n : ℕ) (r : Run) → next_run h0 ≤ n → with_numbered h0.start.next_run (h0.runs ++ runs) n r ≡ h0.runs ++ with_numbered (next_run h0) runs n r
  same-set n r l =
      let x = rest-of (next_run h0) n l in
      let at : n ≡ h0.start.next_run + (length h0.runs + x.0) = (let e = x.1 in omega arith) in
      ap (λ o. with_index (h0.runs ++ runs) o r) (ap (index_from h0.start.next_run) at ∙ index-at h0.start.next_run (length h0.runs + x.0))
      ∙ slice_set-behind h0.runs runs x.0 r
      ∙ sym (ap (λ o. h0.runs ++ with_index runs o r) (ap (index_from (next_run h0)) x.1 ∙ index-at (next_run h0) x.0))
