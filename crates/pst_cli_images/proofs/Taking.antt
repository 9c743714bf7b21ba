-- A store that was made of an image is one that an engine takes up, and its opening is that of the image.
use Rattle.std.proofs.Common.{◌≡◌, ℕ, List, [], ◌∷◌, drop, refl, sym, ap, ◌∙◌, subst, Option, None, Some, IfSome}
use Rattle.std.specs.Prelude.{map, IsSomeAnd}
use Rattle.pst_base.specs.declared.names.RunNo.{RunNo}
use Rattle.pst_base.specs.declared.names.Counts.{Counts}
use Rattle.pst_base.specs.declared.shape.TypeShape.{TypeShape}
use Rattle.pst_base.specs.Heap.{Heap}
use Rattle.pst_order.specs.Places.{rank}
use Rattle.pst_versions.specs.declared.rows.VersionRow.{VersionRow}
use Rattle.pst_history.specs.declared.history.Descent.{Descent}
use Rattle.pst_history.specs.History.{Opening}
use Rattle.pst_history.specs.Meaning.{Meaning}
use Rattle.pst_engine.specs.Stands.{IsOpeningHeap, opening_of, row_of}
use Rattle.pst_store_meaning.specs.declared.place.Place.{Place}
use Rattle.pst_store_meaning.specs.Arena.{heap_at}
use Rattle.pst_store_meaning.specs.Store.{Stored, arena, begin_of, state_of, IsStore}
use Rattle.pst_store.specs.Whole.{state_in}
use Rattle.pst_image_form.specs.declared.parts.VersionPart.{VersionPart}
use Rattle.pst_image_form.specs.declared.parts.ImageParts.{ImageParts}
use Rattle.pst_image_rules.specs.Versions.{IsInRange}
use Rattle.pst_image_meaning.specs.Parts.{version_part}
use Rattle.pst_image_meaning.specs.Denoted.{heap_in}
use Rattle.pst_image_meaning.specs.Made.{IsRebuilt}
use Rattle.pst_image_engine.proofs.Opens.{opens_law}
use Rattle.pst_cli_images.specs.Opening.{descent_of, opening_in}

-- versions without their places, of a store and of the parts that it shows
descents : (r : ℕ → ℕ) (vs : List (VersionRow Place)) → map row_of vs ≡ map descent_of (map (version_part r) vs)
descents r [] = refl
descents r (v ∷ vs) = ap (λ l. row_of v ∷ l) (descents r vs)

further : (r : ℕ → ℕ) (vs : List (VersionRow Place)) → map row_of (drop 1 vs) ≡ map descent_of (drop 1 (map (version_part r) vs))
further r [] = refl
further r (v ∷ vs) = descents r vs

-- two readings of positions that give one heap at each
heaps_alike : (f g : ℕ → Heap) (r : ℕ → ℕ) → ((k : ℕ) → f k ≡ g k) → (vs : List (VersionRow Place)) → map (λ row. f (r row.place.begin.0)) vs ≡ map (λ v. g v.begin) (map (version_part r) vs)
heaps_alike f g r same [] = refl
heaps_alike f g r same (row ∷ vs) =
    let at = r row.place.begin.0 in
    ap (λ h. h ∷ map (λ row. f (r row.place.begin.0)) vs) (same at) ∙ ap (λ l. g at ∷ l) (heaps_alike f g r same vs)

-- an opening of these parts
abbrev opening_by : List Descent → List Heap → (next budget : ℕ) → Counts → Opening
opening_by versions heaps next budget counts = record { versions = versions; heaps = heaps; next_run = next; budget = budget; counts = counts }

module _ (shape : List TypeShape) (p : ImageParts) (s : Stored) (is : IsRebuilt shape p s) (k : IsStore s) where
  same_opening : opening_of (state_of s) p.next_run.0 p.budget ≡ opening_in shape p
  same_opening =
      let versions : map row_of (drop 1 s.versions) ≡ map descent_of (drop 1 p.versions) =
      further (rank s.places) s.versions ∙ ap (λ (q : ImageParts). map descent_of (drop 1 q.versions)) is.parts in
      let heaps : map (λ (row : VersionRow Place). heap_at s.shape (arena s) (begin_of s row.place)) s.versions ≡ map (λ (v : VersionPart). heap_in shape p v.begin) p.versions =
      heaps_alike (heap_at s.shape (arena s)) (heap_in shape p) (rank s.places) is.heaps s.versions
      ∙ ap (λ (q : ImageParts). map (λ (v : VersionPart). heap_in shape p v.begin) q.versions) is.parts in
      let counts : s.counts ≡ p.counts = ap (λ (q : ImageParts). q.counts) is.parts in
      ap (λ (v : List Descent). opening_by v (map (λ (row : VersionRow Place). heap_at s.shape (arena s) (begin_of s row.place)) s.versions) p.next_run.0 p.budget s.counts) versions
      ∙ ap (λ (h : List Heap). opening_by (map descent_of (drop 1 p.versions)) h p.next_run.0 p.budget s.counts) heaps
      ∙ ap (λ (c : Counts). opening_by (map descent_of (drop 1 p.versions)) (map (λ (v : VersionPart). heap_in shape p v.begin) p.versions) p.next_run.0 p.budget c) counts

  opens : (m : Meaning) → shape ≡ m.shape → IsInRange p → IsOpeningHeap m (state_of s) p.next_run.0
  opens m e r = opens_law m s p.next_run.0 k r.run_low is.left.named is.left.versions is.forks is.runs (is.shape_is ∙ e) is.left.counts

-- an engine takes it up
pub opens_in : (m : Meaning) (shape : List TypeShape) (p : ImageParts) (o : Option Stored) (next : RunNo) → shape ≡ m.shape → IsInRange p
    → next ≡ p.next_run → IsSomeAnd o (IsRebuilt shape p) → IfSome o IsStore
    → IsOpeningHeap m (state_in o) next.0
opens_in m shape p None next e r n is k = absurd is
opens_in m shape p (Some s) next e r n is k = subst (λ (x : RunNo). IsOpeningHeap m (state_of s) x.0) (sym n) (opens shape p s is k m e r)

-- and begins with the image
pub opening_is : (shape : List TypeShape) (p : ImageParts) (o : Option Stored) (next : RunNo) (budget : ℕ) → next ≡ p.next_run → budget ≡ p.budget → IsSomeAnd o (IsRebuilt shape p) → IfSome o IsStore
    → opening_of (state_in o) next.0 budget ≡ opening_in shape p
opening_is shape p None next budget n b is k = absurd is
opening_is shape p (Some s) next budget n b is k =
    ap (λ (x : RunNo). opening_of (state_of s) x.0 budget) n ∙ ap (λ (x : ℕ). opening_of (state_of s) p.next_run.0 x) b ∙ same_opening shape p s is k
