-- What is known of a store for whose history no run is open.
use Rattle.std.proofs.Common.{◌≡◌, inl, inr, ℕ, ◌<◌, List, [], ◌∷◌, length, refl, ap, sym, ◌∙◌, subst, arith, suc, slice_get, Option, Some, None}
use Rattle.std.specs.FinMap.{get}
use Rattle.pst_base.specs.declared.names.Name.{Name}
use Rattle.pst_base.specs.declared.names.NodeId.{NodeId}
use Rattle.pst_base.specs.Heap.{Heap, Rec}
use Rattle.pst_program.specs.Laws.{IsOlder}
use Rattle.pst_versions.specs.declared.rows.VersionRow.{VersionRow}
use Rattle.pst_versions.specs.State.{State, IsFresh, Unchanged}
use Rattle.pst_machine.specs.Advance.{HasFewCounts}
use Rattle.pst_history.specs.Meaning.{Meaning, IsLawful}
use Rattle.pst_history.specs.History.{History, counts_of, heap_of, next_run, version_count}
use Rattle.pst_history.specs.Sound.{IsBefore}
use Rattle.pst_history.proofs.Room.{counts-few}
use Rattle.pst_history.proofs.Sound.{next-before, present}
use Rattle.pst_engine_runs.specs.Stands.{VersionsStay}
use Rattle.pst_line.specs.declared.place.LinePlace.{LinePlace}
use Rattle.pst_line.specs.declared.place.Stretch.{Stretch}
use Rattle.pst_line.specs.Store.{Stored, IsChain, IsPlace, Means, rows_from, stamp}
use Rattle.pst_linerun.specs.Standing.{LineStands}

-- ---- lists of versions

length-rows : (v : ℕ) (rows : List Stretch) → length (rows_from v rows) ≡ length rows
length-rows v [] = refl
length-rows v (r ∷ rows) = ap suc (length-rows (suc v) rows)

pub many-rows : (s : State LinePlace NodeId) (stored : Stored) → Means s stored → length s.versions ≡ stamp stored
many-rows s stored means = ap (λ rows. length rows) means.versions ∙ length-rows 0 stored.versions

-- ---- names that are free

none-older : (heap : Heap) (next : ℕ) (n : Name) (o : Option Rec) → IsOlder heap next → n.run.0 ≡ next → get heap n ≡ o → o ≡ None
none-older heap next n None older same e = refl
none-older heap next n (Some r) older same e = absurd (let below = older n r e in omega arith)

-- ---- places while no run is open

closed-places : (stored : Stored) → stored.opened ≡ None → (p : LinePlace) → IsPlace stored p → p.stamp.0 < stamp stored
closed-places stored none p (inl below) = below
closed-places stored none p (inr run) = absurd (let is = run.opened in cc (none, is))

module _ (m : Meaning) (law : IsLawful m) (budget next : ℕ) (s : State LinePlace NodeId) (stored : Stored) (h : History)
    (stand : LineStands m budget next s stored h) (means : Means s stored) (chain : IsChain s) where
  -- each place is a version's
  pub place-below : (p : LinePlace) → s.has p → p.stamp.0 < length s.versions
  place-below p has =
      let below = closed-places stored stand.none p ((means.has p).0 has) in
      let many = many-rows s stored means in
      omega arith

  pub version-there : (k : ℕ) → k < version_count h → (row : VersionRow LinePlace) × (slice_get s.versions k ≡ Some row) × (row.place ≡ record { stamp = record { 0 = k } })
  version-there k below =
      let many = stand.versions.many in
      let w = present s.versions k (omega arith) in
      (w.0, w.1, chain.place k w.0 w.1)

  pub version-has : (k : ℕ) → k < version_count h → s.has (record { stamp = record { 0 = k } })
  version-has k below = let w = version-there k below in subst s.has w.2 (stand.versions.versions k w.0 w.1).has

  pub version-heap : (k : ℕ) → k < version_count h → s.heap (record { stamp = record { 0 = k } }) ≡ heap_of m h k
  version-heap k below = let w = version-there k below in ap s.heap (sym w.2) ∙ (stand.versions.versions k w.0 w.1).heap

  -- and all records are of runs before the next one
  pub place-older : (p : LinePlace) → s.has p → IsOlder (s.heap p) next
  place-older p has =
      let many = stand.versions.many in
      let below = place-below p has in
      let there : p.stamp.0 < version_count h = omega arith in
      let before = next-before m law h stand.sound p.stamp.0 there in
      let same : next_run h ≡ next = sym stand.same_next in
      subst (λ k. IsOlder (s.heap p) k) same (subst (λ y. IsOlder y (next_run h)) (sym (version-heap p.stamp.0 there)) before.older)

  pub version-before : (k : ℕ) → k < version_count h → IsBefore m (s.heap (record { stamp = record { 0 = k } })) next
  version-before k there =
      let before = next-before m law h stand.sound k there in
      let same : next_run h ≡ next = sym stand.same_next in
      subst (λ y. IsBefore m y next) (sym (version-heap k there)) (subst (λ n. IsBefore m (heap_of m h k) n) same before)

  pub name-free : (n : Name) → n.run.0 ≡ next → IsFresh s n
  name-free n same = record { fresh = λ p has. none-older (s.heap p) next n (get (s.heap p) n) (place-older p has) same refl }

  pub few-counts : HasFewCounts s
  few-counts =
      let few = counts-few m law h stand.sound in
      let r : s.counts.records ≡ (counts_of m h).records = ap (λ c. c.records) stand.counts in
      let p : s.counts.pointer_writes ≡ (counts_of m h).pointer_writes = ap (λ c. c.pointer_writes) stand.counts in
      let v : s.counts.value_writes ≡ (counts_of m h).value_writes = ap (λ c. c.value_writes) stand.counts in
      record { records = omega (arith, few.records, r); pointer_writes = omega (arith, few.pointer_writes, p); value_writes = omega (arith, few.value_writes, v) }

  pub some-version : 0 < length s.versions
  some-version = let many = stand.versions.many in let base = stand.sound.start.same in omega arith

  -- no place can be written
  pub none-writable : (p : LinePlace) → ¬ (s.writable p)
  none-writable p w = let is = ((means.writable p).0 w).run.opened in let none = stand.none in cc (none, is)

-- ---- versions that stay

pub unchanged-stays : (s t : State LinePlace NodeId) → IsChain s → Unchanged s t → VersionsStay s t
unchanged-stays s t chain same = record { rows = same.keeps.versions; has = λ k row q. same.keeps.grows.has row.place (chain.has k row q); heaps = λ k row q. same.heaps row.place (chain.has k row q) }

pub stays-refl : (s : State LinePlace NodeId) → IsChain s → VersionsStay s s
stays-refl s chain = record { rows = refl; has = chain.has; heaps = λ k row q. refl }
