-- The heaps of versions.
use Rattle.std.proofs.Common.{◌≡◌, ℕ, ◌+◌, ◌<◌, List, [], ◌∷◌, ◌++◌, length, refl, ap, sym, ◌∙◌, arith, zero, suc, get_or, slice_get, Some, length-append}
use Rattle.std.proofs.lemmas.Option.{same_Some}
use Rattle.std.proofs.lemmas.List.{get_or_append_left, get_or_push}
use Rattle.pst_base.specs.Heap.{Heap, initial_heap}
use Rattle.pst_history.specs.declared.history.Run.{Run}
use Rattle.pst_history.specs.declared.history.Descent.{Descent}
use Rattle.pst_history.specs.Meaning.{Meaning}
use Rattle.pst_history.specs.History.{History, made, made_by, numbered, heaps_from, heaps_of, heap_of, run_at, version_count}

-- one more version
pub heaps_from-more : (m : Meaning) (first : ℕ) (runs : List Run) (heaps : List Heap) (versions : List Descent) (v : Descent)
    → heaps_from m first runs heaps (versions ++ v ∷ []) ≡ heaps_from m first runs heaps versions ++ made m first runs
    (heaps_from m first runs heaps versions) v ∷ []
heaps_from-more m first runs heaps [] v = refl
heaps_from-more m first runs heaps (w ∷ versions) v = heaps_from-more m first runs (heaps ++ made m first runs heaps w ∷ []) versions v

pub length-heaps_from : (m : Meaning) (first : ℕ) (runs : List Run) (heaps : List Heap) (versions : List Descent) → length (heaps_from m first runs heaps versions) ≡ length heaps + length versions
length-heaps_from m first runs heaps [] = omega arith
length-heaps_from m first runs heaps (w ∷ versions) =
    let one : length (heaps ++ made m first runs heaps w ∷ []) ≡ length heaps + 1 = length-append heaps (made m first runs heaps w ∷ []) in
    let all : length (heaps_from m first runs (heaps ++ made m first runs heaps w ∷ []) versions) ≡ length (heaps ++ made m first runs heaps w ∷ []) +
    length versions = length-heaps_from m first runs (heaps ++ made m first runs heaps w ∷ []) versions in
    omega arith

-- what is there stays
pub heaps_from-below : (m : Meaning) (first : ℕ) (runs : List Run) (heaps : List Heap) (versions : List Descent) (i : ℕ) (d : Heap) → i < length heaps
    → get_or (heaps_from m first runs heaps versions) i d ≡ get_or heaps i d
heaps_from-below m first runs heaps [] i d h = refl
heaps_from-below m first runs heaps (w ∷ versions) i d h =
    let x = made m first runs heaps w in
    let one : length (heaps ++ x ∷ []) ≡ length heaps + 1 = length-append heaps (x ∷ []) in
    heaps_from-below m first runs (heaps ++ x ∷ []) versions i d (omega arith) ∙ get_or_append_left heaps (x ∷ []) d i h

-- each version is made from an earlier one
pub heaps_from-at : (m : Meaning) (first : ℕ) (runs : List Run) (heaps : List Heap) (versions : List Descent) (i : ℕ) (d : Heap) (v : Descent)
    → slice_get versions i ≡ Some v → v.parent.0 < length heaps + i
    → get_or (heaps_from m first runs heaps versions) (length heaps + i) d ≡ made m first runs (heaps_from m first runs heaps versions) v
heaps_from-at m first runs heaps [] i d v e h = absurd (cc)
heaps_from-at m first runs heaps (w ∷ versions) zero d v e h =
    let x = made m first runs heaps w in
    let same : w ≡ v = same_Some w v e in
    let one : length (heaps ++ x ∷ []) ≡ length heaps + 1 = length-append heaps (x ∷ []) in
    let here : get_or (heaps_from m first runs (heaps ++ x ∷ []) versions) (length heaps) d ≡ get_or (heaps ++ x ∷ []) (length heaps) d =
    heaps_from-below m first runs (heaps ++ x ∷ []) versions (length heaps) d (omega arith) in
    let last : get_or (heaps ++ x ∷ []) (length heaps) d ≡ x = get_or_push heaps x d (length heaps) refl in
    let at : length heaps + 0 ≡ length heaps = omega arith in
    let parent : get_or (heaps_from m first runs heaps (w ∷ versions)) v.parent.0 (initial_heap m.shape) ≡ get_or heaps v.parent.0
    (initial_heap m.shape) = heaps_from-below m first runs heaps (w ∷ versions) v.parent.0 (initial_heap m.shape) (omega arith) in
    let mine : made m first runs heaps w ≡ made m first runs heaps v = ap (made m first runs heaps) same in
    let again : made m first runs heaps v ≡ made m first runs (heaps_from m first runs heaps (w ∷ versions)) v = ap (made_by m v.run.0 (numbered first runs v.run.0)) (sym parent) in
    ap (λ k. get_or (heaps_from m first runs (heaps ++ x ∷ []) versions) k d) at ∙ here ∙ last ∙ mine ∙ again
heaps_from-at m first runs heaps (w ∷ versions) (suc i) d v e h =
    let x = made m first runs heaps w in
    let one : length (heaps ++ x ∷ []) ≡ length heaps + 1 = length-append heaps (x ∷ []) in
    let at : length heaps + suc i ≡ length (heaps ++ x ∷ []) + i = omega arith in
    ap (λ k. get_or (heaps_from m first runs (heaps ++ x ∷ []) versions) k d) at ∙ heaps_from-at m first runs (heaps ++ x ∷ []) versions i d v e (omega arith)

-- the same work makes the same heaps
pub heaps_from-same : (m : Meaning) (first : ℕ) (old new : List Run) (heaps : List Heap) (versions : List Descent)
    → ((i : ℕ) (v : Descent) (h : Heap) → slice_get versions i ≡ Some v
    → made_by m v.run.0 (numbered first new v.run.0) h ≡ made_by m v.run.0 (numbered first old v.run.0) h)
    → heaps_from m first new heaps versions ≡ heaps_from m first old heaps versions
heaps_from-same m first old new heaps [] same = refl
heaps_from-same m first old new heaps (w ∷ versions) same =
    ap (λ x. heaps_from m first new (heaps ++ x ∷ []) versions) (same 0 w (get_or heaps w.parent.0 (initial_heap m.shape)) refl)
    ∙ heaps_from-same m first old new (heaps ++ made m first old heaps w ∷ []) versions (λ i v h e. same (suc i) v h e)

-- ---- of a history

-- the heaps of the opening stay
pub heap_of-given : (m : Meaning) (h : History) (k : ℕ) → k < length h.start.heaps → heap_of m h k ≡ get_or h.start.heaps k (initial_heap m.shape)
unfolding heaps_of
heap_of-given m h k less = heaps_from-below m h.start.next_run h.runs h.start.heaps h.versions k (initial_heap m.shape) less

-- the heap of a version is what its run makes of the heap of its parent
pub heap_of-made : (m : Meaning) (h : History) (i : ℕ) (v : Descent) → slice_get h.versions i ≡ Some v → v.parent.0 < length h.start.heaps + i
    → heap_of m h (length h.start.heaps + i) ≡ made_by m v.run.0 (run_at h v.run.0) (heap_of m h v.parent.0)
unfolding heaps_of
heap_of-made m h i v e p = heaps_from-at m h.start.next_run h.runs h.start.heaps h.versions i (initial_heap m.shape) v e p

-- one more version changes no other
pub heap_of-more : (m : Meaning) (h : History) (v : Descent) (n : ℕ) → n < version_count h → heap_of m (record h { versions = h.versions ++ v ∷ [] }) n ≡ heap_of m h n
unfolding heaps_of
heap_of-more m h v n less =
    let first = h.start.next_run in
    let heaps = heaps_from m first h.runs h.start.heaps h.versions in
    let len : length heaps ≡ length h.start.heaps + length h.versions = length-heaps_from m first h.runs h.start.heaps h.versions in
    ap (λ xs. get_or xs n (initial_heap m.shape)) (heaps_from-more m first h.runs h.start.heaps h.versions v)
    ∙ get_or_append_left heaps (made m first h.runs heaps v ∷ []) (initial_heap m.shape) n (omega arith)

-- the new one
pub heap_of-new : (m : Meaning) (h : History) (v : Descent) → heap_of m (record h { versions = h.versions ++ v ∷ [] }) (version_count h) ≡ made_by m v.run.0 (run_at h v.run.0) (heap_of m h v.parent.0)
unfolding heaps_of
heap_of-new m h v =
    let first = h.start.next_run in
    let heaps = heaps_from m first h.runs h.start.heaps h.versions in
    let len : length heaps ≡ length h.start.heaps + length h.versions = length-heaps_from m first h.runs h.start.heaps h.versions in
    ap (λ xs. get_or xs (length h.start.heaps + length h.versions) (initial_heap m.shape)) (heaps_from-more m first h.runs h.start.heaps h.versions v)
    ∙ get_or_push heaps (made m first h.runs heaps v) (initial_heap m.shape) (length h.start.heaps + length h.versions) len

-- other runs, of which those that made versions do the same work
pub heap_of-same : (m : Meaning) (h : History) (runs : List Run) (n : ℕ)
    → ((i : ℕ) (v : Descent) (x : Heap) → slice_get h.versions i ≡ Some v
    → made_by m v.run.0 (numbered h.start.next_run runs v.run.0) x ≡ made_by m v.run.0 (run_at h v.run.0) x)
    → heap_of m (record h { runs = runs }) n ≡ heap_of m h n
unfolding heaps_of
heap_of-same m h runs n same = ap (λ xs. get_or xs n (initial_heap m.shape)) (heaps_from-same m h.start.next_run h.runs runs h.start.heaps h.versions same)
