-- Paths of versions.
use Rattle.std.proofs.Common.{◌≡◌, ◌<◌, ◌≤◌, ◌+◌, ◌-◌, ℕ, List, [], ◌∷◌, ◌++◌, length, refl, ap, sym, ◌∙◌, subst, arith, zero, suc, slice_get, Option, Some, append_assoc, append-nil}
use Rattle.std.specs.Prelude.{IsSome}
use Rattle.std.proofs.lemmas.Option.{same_Some}
use Rattle.pst_history.specs.declared.history.Descent.{Descent}
use Rattle.pst_history.specs.declared.history.Run.{Run}
use Rattle.pst_history.specs.declared.history.Since.{Since}
use Rattle.pst_history.specs.Meaning.{Meaning, IsLawful, CanBeDone}
use Rattle.pst_history.specs.History.{History, heap_of, made_by, opening, run_at, since, work_of}
use Rattle.pst_history.specs.Sound.{IsSoundHistory}
use Rattle.pst_history.proofs.Heaps.{heap_of-made}
use Rattle.pst_history.proofs.Sound.{run-ready}
use Rattle.pst_replay.specs.Replay.{IsPath, IsFirst, parent_in, parent_number}

pub path-last : (versions : List Descent) (from to : ℕ) (path : List ℕ) (v : ℕ) → IsPath versions from to (path ++ v ∷ []) → IsFirst versions from to path v
path-last versions from to [] v p = record { parent = p.3; above = p.1; there = p.2; rest = sym p.0 }
path-last versions from to (x ∷ path) v p =
    let ih = path-last versions from (parent_in versions x) path v p.3 in
    record { parent = ih.parent; above = ih.above; there = ih.there; rest = (p.0, p.1, p.2, ih.rest) }

-- the version with a number above 0
pub version-at : (versions : List Descent) (k : ℕ) (v : Descent) → slice_get versions (k - 1) ≡ Some v → 0 < k → parent_in versions k ≡ v.parent.0
version-at versions zero v e h = absurd (omega arith)
version-at versions (suc i) v e h =
    let at : suc i - 1 ≡ i = omega arith in
    ap (λ o. parent_number o) (ap (slice_get versions) (sym at) ∙ e)

-- what a version's run makes of its parent's heap
pub record IsMade (m : Meaning) (h : History) (k : ℕ) (v : Descent) (run : Run) : Type 0 where
  pub ready : CanBeDone m (work_of v.run.0 run) (heap_of m h (parent_in h.versions k))
  pub heap : heap_of m h k ≡ made_by m v.run.0 (Some run) (heap_of m h (parent_in h.versions k))

pub version-run : (m : Meaning) (s : Since) → IsSoundHistory m (since (opening m.shape) s) → (k : ℕ) (v : Descent)
    → slice_get s.versions (k - 1) ≡ Some v → IsSome (run_at (since (opening m.shape) s) v.run.0)
version-run m s sound k v e = let x = sound.versions (k - 1) v e in let P : Option Run → Type 0 = λ o. IsSome o in subst P (sym x.found) refl

pub version-made : (m : Meaning) → IsLawful m → (s : Since) → IsSoundHistory m (since (opening m.shape) s) → (k : ℕ) (v : Descent) (run : Run)
    → slice_get s.versions (k - 1) ≡ Some v → run_at (since (opening m.shape) s) v.run.0 ≡ Some run → 0 < k → IsMade m (since (opening m.shape) s) k v run
version-made m law s sound k v run e found above =
    let h : History = since (opening m.shape) s in
    let x = sound.versions (k - 1) v e in
    let at : 1 + (k - 1) ≡ k = omega arith in
    let one : x.run ≡ run = same_Some x.run run (sym x.found ∙ found) in
    let same : run.parent ≡ v.parent = ap (λ r. r.parent) (sym one) ∙ x.same in
    let parent : v.parent.0 ≡ parent_in s.versions k = sym (version-at s.versions k v e above) in
    let number : run.parent.0 ≡ parent_in s.versions k = ap (λ y. y.0) same ∙ parent in
    record {
      ready = let P : ℕ → Type 0 = λ p. CanBeDone m (work_of v.run.0 run) (heap_of m h p) in subst P number (run-ready m law h sound v.run.0 run found);
      heap = ap (heap_of m h) (sym at) ∙ heap_of-made m h (k - 1) v e x.parent ∙ ap (λ o. made_by m v.run.0 o (heap_of m h v.parent.0)) found
          ∙ ap (λ p. made_by m v.run.0 (Some run) (heap_of m h p)) parent;
    }

-- one more version at the end of a path that is being made
pub path-longer : (versions : List Descent) (at to : ℕ) (path longer : List ℕ) (v : Descent) → slice_get versions (at - 1) ≡ Some v → 0 < at
    → at ≤ length versions → longer ≡ path ++ at ∷ [] → ((rest : List ℕ) → IsPath versions 0 at rest → IsPath versions 0 to (path ++ rest))
    → (rest : List ℕ) → IsPath versions 0 v.parent.0 rest → IsPath versions 0 to (longer ++ rest)
path-longer versions at to path longer v e above there is whole rest p =
    let here : IsPath versions 0 at (at ∷ rest) = (refl, above, there, subst (λ k. IsPath versions 0 k rest) (sym (version-at versions at v e above)) p) in
    let P : List ℕ → Type 0 = λ xs. IsPath versions 0 to xs in
    subst P (sym (append_assoc path (at ∷ []) rest) ∙ ap (λ xs. xs ++ rest) (sym is)) (whole (at ∷ rest) here)

pub path-whole : (versions : List Descent) (at to : ℕ) (path : List ℕ) → at ≡ 0 → ((rest : List ℕ) → IsPath versions 0 at rest → IsPath versions 0 to (path ++ rest)) → IsPath versions 0 to path
path-whole versions at to path e whole = let P : List ℕ → Type 0 = λ xs. IsPath versions 0 to xs in subst P (append-nil path) (whole [] e)
