-- The heaps of versions are well formed, and older than the runs that work on them.
use Rattle.std.proofs.Common.{◌≡◌, ◌⊎◌, inl, inr, ℕ, ◌+◌, ◌-◌, ◌<◌, ◌≤◌, List, [], ◌∷◌, length, refl, ap, sym, ◌∙◌, subst, arith, zero, suc, slice_get, Some, get_or}
use Rattle.std.specs.FinMap.{get, empty, get-empty}
use Rattle.pst_base.specs.declared.names.Name.{Name}
use Rattle.pst_base.specs.Name.{root_name, name_cmp}
use Rattle.pst_base.specs.Heap.{Heap, Rec, initial_heap, new_record}
use Rattle.pst_base.specs.Shape.{root_type}
use Rattle.pst_base.proofs.WellFormed.{IsWellFormed-initial, with_record-cases}
use Rattle.pst_history.specs.declared.history.Run.{Run}
use Rattle.pst_history.specs.declared.history.Descent.{Descent}
use Rattle.pst_program.specs.Laws.{IsOlder}
use Rattle.pst_history.specs.Meaning.{Meaning, IsLawful, CanBeDone}
use Rattle.pst_history.specs.History.{History, heap_of, run_at, made_by, work_of, version_count, next_run, opening}
use Rattle.pst_history.specs.Sound.{IsSoundHistory, IsSoundRun, IsBefore, IsOpening, made_below}
use Rattle.pst_history.proofs.Heaps.{heap_of-given, heap_of-made}
use Rattle.pst_history.proofs.Steps.{run-sound, made_below-given, made_below-is, made_below-next}

pub initial-before : (m : Meaning) → IsLawful m → IsBefore m (initial_heap m.shape) 1
initial-before m law = record {
  well_formed = IsWellFormed-initial m.shape law.valid;
  older = λ n r e. elim (with_record-cases empty root_name (new_record m.shape root_type) n r e) as (λ _. n.run.0 < 1) [ inl q ↦ omega (arith, ap (λ x. x.run.0) q.0) | inr q ↦ absurd (none n r q) ];
}
  where
    none : (n : Name) (r : Rec) → get {R = name_cmp} empty n ≡ Some r → ⊥
    none n r q = cc (get-empty {X = Rec} name_cmp n)

pub older-more : (heap : Heap) (a b : ℕ) → a ≤ b → IsOlder heap a → IsOlder heap b
older-more heap a b le old n r e = let h = old n r e in omega arith

pub before-more : (m : Meaning) (heap : Heap) (a b : ℕ) → a ≤ b → IsBefore m heap a → IsBefore m heap b
before-more m heap a b le x = record { well_formed = x.well_formed; older = older-more heap a b le x.older }

-- the element below the length
pub present : {A : Type 0} (xs : List A) (i : ℕ) → i < length xs → (x : A) × (slice_get xs i ≡ Some x)
present [] i le = absurd (omega arith)
present (x ∷ xs) zero le = (x, refl)
present (x ∷ xs) (suc i) le = present xs i (omega arith)

pub get_or-is : {A : Type 0} (xs : List A) (i : ℕ) (d x : A) → slice_get xs i ≡ Some x → get_or xs i d ≡ x
get_or-is [] i d x e = absurd (cc)
get_or-is (y ∷ xs) zero d x e = cc
get_or-is (y ∷ xs) (suc i) d x e = get_or-is xs i d x e

-- a version of the opening
given-before : (m : Meaning) (h : History) → IsSoundHistory m h → (k : ℕ) → k < length h.start.heaps → IsBefore m (heap_of m h k) (made_below h.start h.versions k)
given-before m h sound k less =
    let w = present h.start.heaps k less in
    let is : heap_of m h k ≡ w.0 = heap_of-given m h k less ∙ get_or-is h.start.heaps k (initial_heap m.shape) w.0 w.1 in
    let below = made_below-given h.start h.versions k less in
    let P : Heap → ℕ → Type 0 = λ x n. IsBefore m x n in
    subst (λ n. P (heap_of m h k) n) (sym below) (subst (λ x. P x h.start.next_run) (sym is) (sound.start.heaps k w.0 w.1))

-- a version since, from those before it
made-before : (m : Meaning) → IsLawful m → (h : History) → IsSoundHistory m h → (i : ℕ) (v : Descent) → slice_get h.versions i ≡ Some v
    → IsBefore m (heap_of m h v.parent.0) (made_below h.start h.versions v.parent.0)
    → IsBefore m (heap_of m h (length h.start.heaps + i)) (made_below h.start h.versions (length h.start.heaps + i))
made-before m law h sound i v e parent =
    let s = sound.versions i v e in
    let run = s.run in
    let mine : IsSoundRun m h.start h.versions v.run.0 run = run-sound m h sound v.run.0 run s.found in
    let less : made_below h.start h.versions v.parent.0 ≤ v.run.0 = let P : ℕ → Type 0 = λ k. made_below h.start h.versions k ≤ v.run.0 in subst P (ap (λ x. x.0) s.same) mine.older in
    let old : IsOlder (heap_of m h v.parent.0) v.run.0 = older-more (heap_of m h v.parent.0) (made_below h.start h.versions v.parent.0) v.run.0 less parent.older in
    let ready : CanBeDone m (work_of v.run.0 run) (heap_of m h v.parent.0) = record { well_formed = parent.well_formed; older = old; work = inl mine.fits } in
    let after : IsBefore m (made_by m v.run.0 (Some run) (heap_of m h v.parent.0)) (v.run.0 + 1) = record {
      well_formed = law.well_formed (work_of v.run.0 run) run.budget (heap_of m h v.parent.0) ready;
      older = law.names (work_of v.run.0 run) run.budget (heap_of m h v.parent.0) ready;
    } in
    let is : made_by m v.run.0 (Some run) (heap_of m h v.parent.0) ≡ heap_of m h (length h.start.heaps + i) =
    ap (λ o. made_by m v.run.0 o (heap_of m h v.parent.0)) (sym s.found) ∙ sym (heap_of-made m h i v e s.parent) in
    let below = made_below-is h.start h.versions i v e in
    let P : Heap → ℕ → Type 0 = λ x k. IsBefore m x k in
    subst (λ k. P (heap_of m h (length h.start.heaps + i)) k) (sym below) (subst (λ x. P x (v.run.0 + 1)) is after)

-- versions below a bound, by induction on the bound
heaps-below : (m : Meaning) → IsLawful m → (h : History) → IsSoundHistory m h → (bound k : ℕ) → k < bound → k < version_count h → IsBefore m (heap_of m h k) (made_below h.start h.versions k)
heaps-below m law h sound zero k below less = absurd (omega arith)
heaps-below m law h sound (suc bound) k below less = at (λ j lt le. heaps-below m law h sound bound j lt le) (side k (length h.start.heaps))
  where
    side : (a b : ℕ) → (a < b) ⊎ (b ≤ a)
    side a zero = inr (omega arith)
    side zero (suc b) = inl (omega arith)
    side (suc a) (suc b) = elim (side a b) [ inl q ↦ inl (omega (arith, q)) | inr q ↦ inr (omega (arith, q)) ]

    at : ((j : ℕ) → j < bound → j < version_count h → IsBefore m (heap_of m h j) (made_below h.start h.versions j)) → (k < length h.start.heaps)
        ⊎ (length h.start.heaps ≤ k) → IsBefore m (heap_of m h k) (made_below h.start h.versions k)
    at rec (inl q) = given-before m h sound k q
    at rec (inr q) =
        let i : ℕ = k - length h.start.heaps in
        let number : length h.start.heaps + i ≡ k = omega (arith, q) in
        let w = present h.versions i (omega (arith, q)) in
        let s = sound.versions i w.0 w.1 in
        let parent_below = s.parent in
        let P : ℕ → Type 0 = λ j. IsBefore m (heap_of m h j) (made_below h.start h.versions j) in
        subst P number (made-before m law h sound i w.0 w.1 (rec w.0.parent.0 (omega (arith, parent_below, number)) (omega (arith, parent_below, number))))

pub heap-before : (m : Meaning) → IsLawful m → (h : History) → IsSoundHistory m h → (k : ℕ) → k < version_count h → IsBefore m (heap_of m h k) (made_below h.start h.versions k)
heap-before m law h sound k less = heaps-below m law h sound (suc k) k (omega arith) less

-- what a run with its number finds on its parent's heap
pub run-before : (m : Meaning) → IsLawful m → (h : History) → IsSoundHistory m h → (k run : ℕ) → k < version_count h → made_below h.start h.versions k ≤ run → IsBefore m (heap_of m h k) run
run-before m law h sound k run less le = before-more m (heap_of m h k) (made_below h.start h.versions k) run le (heap-before m law h sound k less)

pub next-before : (m : Meaning) → IsLawful m → (h : History) → IsSoundHistory m h → (k : ℕ) → k < version_count h → IsBefore m (heap_of m h k) (next_run h)
next-before m law h sound k less = run-before m law h sound k (next_run h) less (made_below-next m h sound k)

-- a run can do its work on the heap of its parent
pub run-ready : (m : Meaning) → IsLawful m → (h : History) → IsSoundHistory m h → (n : ℕ) (r : Run) → run_at h n ≡ Some r → CanBeDone m (work_of n r) (heap_of m h r.parent.0)
run-ready m law h sound n r e =
    let mine = run-sound m h sound n r e in
    let before = run-before m law h sound r.parent.0 n mine.version mine.older in
    record { well_formed = before.well_formed; older = before.older; work = inl mine.fits }

pub opening-sound : (m : Meaning) → IsLawful m → IsOpening m (opening m.shape)
opening-sound m law = record {
  next = omega arith;
  few = omega arith;
  budget = (omega arith, omega arith);
  counts = record { records = omega arith; pointer_writes = omega arith; value_writes = omega arith };
  same = refl;
  few_versions = omega arith;
  parents = λ i v e. absurd (cc);
  runs = λ i v e. absurd (cc);
  apart = λ i j v w e f same. absurd (cc);
  heaps = λ k heap e. only k heap e;
}
  where
    only : (k : ℕ) (heap : Heap) → slice_get (initial_heap m.shape ∷ []) k ≡ Some heap → IsBefore m heap 1
    only zero heap e = let P : Heap → Type 0 = λ x. IsBefore m x 1 in subst P (let same : initial_heap m.shape ≡ heap = cc in same) (initial-before m law)
    only (suc k) heap e = absurd (cc)
