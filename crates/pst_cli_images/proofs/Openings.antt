-- The image of a store in a history is the opening that is taken up from that history.
use Rattle.std.proofs.Common.{◌≡◌, ℕ, zero, suc, ◌+◌, List, [], ◌∷◌, ◌++◌, map, drop, length, length-append, Option, Some, slice_get, refl, sym, ap, ◌∙◌, subst, inl, inr, ⊎_elim, arith}
use Rattle.std.specs.Prelude.{◌⊎◌}
use Rattle.std.proofs.lemmas.Option.{get_or_from_slice_get}
use Rattle.pst_base.specs.declared.names.RunNo.{RunNo}
use Rattle.pst_base.specs.declared.names.VersionNo.{VersionNo}
use Rattle.pst_base.specs.declared.names.NodeId.{NodeId}
use Rattle.pst_base.specs.declared.names.Counts.{Counts}
use Rattle.pst_base.specs.Heap.{Heap, initial_heap}
use Rattle.pst_versions.specs.declared.rows.VersionRow.{VersionRow}
use Rattle.pst_versions.specs.State.{State}
use Rattle.pst_history.specs.declared.history.Descent.{Descent}
use Rattle.pst_history.specs.Meaning.{Meaning}
use Rattle.pst_history.specs.History.{History, next_run, heaps_of, counts_of, version_count}
use Rattle.pst_history.proofs.Heaps.{length-heaps_from}
use Rattle.pst_engine_runs.specs.Stands.{HoldsVersions, SameRow}
use Rattle.pst_store_meaning.specs.declared.place.Place.{Place}
use Rattle.pst_store_meaning.specs.Store.{Stored, state_of}
use Rattle.pst_order.specs.Places.{rank}
use Rattle.pst_store.specs.Whole.{state_in}
use Rattle.pst_cli_serving.specs.Storing.{IsLeft}
use Rattle.pst_image_meaning.specs.Parts.{parts_of, version_part}
use Rattle.pst_image_meaning.specs.Denoted.{heap_in}
use Rattle.pst_image_form.specs.declared.parts.VersionPart.{VersionPart}
use Rattle.pst_cli_images.specs.Packing.{IsImage}
use Rattle.pst_cli_images.specs.Opening.{descent_of, opening_in}
use Rattle.pst_history_laws.specs.TakenUp.{taken_up}

-- what is made of each item in two steps
mapped : {A B C : Type 0} (f : B → C) (g : A → B) (xs : List A) (ys : List C) → length xs ≡ length ys
    → ((i : ℕ) (x : A) (y : C) → slice_get xs i ≡ Some x → slice_get ys i ≡ Some y → f (g x) ≡ y) → map f (map g xs) ≡ ys
mapped f g [] [] e h = refl
mapped f g [] (y ∷ ys) e h = absurd (omega (arith, e))
mapped f g (x ∷ xs) [] e h = absurd (omega (arith, e))
mapped f g (x ∷ xs) (y ∷ ys) e h =
    ap (λ c. c ∷ map f (map g xs)) (h 0 x y refl refl) ∙ ap (λ cs. y ∷ cs) (mapped f g xs ys (omega (arith, e)) (λ i. h (suc i)))

-- what stands in one list behind another stands in one of them
in_either : {A : Type 0} (xs ys : List A) (i : ℕ) (x : A) → slice_get (xs ++ ys) i ≡ Some x → (slice_get xs i ≡ Some x) ⊎ ((j : ℕ) × (i ≡ length xs + j) × (slice_get ys j ≡ Some x))
in_either [] ys i x e = inr (i, (let here : i ≡ 0 + i = omega arith in here), e)
in_either (y ∷ xs) ys zero x e = inl e
in_either (y ∷ xs) ys (suc i) x e = ⊎_elim
    inl
    (λ (w : (j : ℕ) × (i ≡ length xs + j) × (slice_get ys j ≡ Some x)). inr (w.0, (let at = w.1 in let here : suc i ≡ suc (length xs) + w.0 = omega arith in here), w.2))
    (in_either xs ys i x e)

pub length-heaps : (m : Meaning) (h : History) → length (heaps_of m h) ≡ version_count h
unfolding heaps_of
length-heaps m h = length-heaps_from m h.start.next_run h.runs h.start.heaps h.versions

same_descent : (v : Descent) (row : VersionRow Place) (r : ℕ → ℕ) → SameRow v row → descent_of (version_part r row) ≡ v
same_descent v row r s =
    let with_run : RunNo → Descent = λ n. record { run = n; parent = row.parent } in
    let with_parent : VersionNo → Descent = λ p. record { run = v.run; parent = p } in
    ap with_run s.run ∙ ap with_parent s.parent

module _ (m : Meaning) (s : State Place NodeId) (h : History) (start : length h.start.heaps ≡ suc (length h.start.versions)) (holds : HoldsVersions m s h) (r : ℕ → ℕ) where
  -- a version after 0 is one of the opening, or one since
  descent_at : (i : ℕ) (v : Descent) (row : VersionRow Place) → slice_get (h.start.versions ++ h.versions) i ≡ Some v → slice_get s.versions (suc i) ≡ Some row → SameRow v row
  descent_at i v row found at = ⊎_elim
      (λ (old : slice_get h.start.versions i ≡ Some v). holds.given i v row old (ap (slice_get s.versions) (let e : i + 1 ≡ suc i = omega arith in e) ∙ at))
      (λ (new : (j : ℕ) × (i ≡ length h.start.versions + j) × (slice_get h.versions j ≡ Some v)).
      holds.rows new.0 v row new.2 (ap (slice_get s.versions) (let e = new.1 in let l = start in let q : length h.start.heaps + new.0 ≡ suc i = omega arith in q) ∙ at))
      (in_either h.start.versions h.versions i v found)

  descents : (rows : List (VersionRow Place)) → s.versions ≡ rows → map descent_of (drop 1 (map (version_part r) rows)) ≡ h.start.versions ++ h.versions
  descents [] e = absurd (let many = holds.many in let l = ap length e in let o = start in omega arith)
  descents (first ∷ rows) e = mapped descent_of (version_part r) rows (h.start.versions ++ h.versions)
      (let many = holds.many in let l = ap length e in let o = start in
      let both : length (h.start.versions ++ h.versions) ≡ length h.start.versions + length h.versions =
      length-append h.start.versions h.versions in omega arith)
      (λ i row v at found. same_descent v row r (descent_at i v row found (subst (λ (rs : List (VersionRow Place)). slice_get rs (suc i) ≡ Some row) (sym e) at)))

  heaps : (denoted : ℕ → Heap) → ((p : Place) → denoted (r p.begin.0) ≡ s.heap p) → map (λ (v : VersionPart). denoted v.begin) (map (version_part r) s.versions) ≡ heaps_of m h
  heaps denoted same = mapped (λ (v : VersionPart). denoted v.begin) (version_part r) s.versions (heaps_of m h) (holds.many ∙ sym (length-heaps m h)) (λ k row heap at found.
      same row.place ∙ (holds.versions k row at).heap ∙ get_or_from_slice_get (heaps_of m h) k heap (initial_heap m.shape) found)

pub is_taken_up : (m : Meaning) (store : Option Stored) (text image : List ℕ) (h : History) → length h.start.heaps ≡ suc (length h.start.versions)
    → IsLeft m store h → (i : IsImage store text m.shape h image)
    → opening_in m.shape (parts_of i.there text (next_run h) h.budget) ≡ taken_up m h
is_taken_up m store text image h start left i =
    let s = state_of i.there in
    let r = rank i.there.places in
    let p = parts_of i.there text (next_run h) h.budget in
    let holds : HoldsVersions m s h = subst (λ (o : Option Stored). HoldsVersions m (state_in o) h) i.is left.versions in
    let counted : s.counts ≡ counts_of m h = subst (λ (o : Option Stored). (state_in o).counts ≡ counts_of m h) i.is left.counts in
    ap (λ (v : List Descent). record (opening_in m.shape p) { versions = v }) (descents m s h start holds r i.there.versions refl)
    ∙ ap (λ (hs : List Heap). record (taken_up m h) { heaps = hs; counts = i.there.counts }) (heaps m s h start holds r (heap_in m.shape p) i.denotes)
    ∙ ap (λ (c : Counts). record (taken_up m h) { counts = c }) counted
