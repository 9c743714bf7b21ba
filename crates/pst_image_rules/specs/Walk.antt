-- What the check of the versions has found so far.
use Rattle.std.specs.Prelude.{◌≡◌, ℕ, ◌+◌, ◌<◌, ◌≤◌, List, length, slice_index, Option, Some, None, ◌⊎◌}
use Rattle.std.specs.List.{Contains}
use Rattle.pst_image_form.specs.declared.parts.VersionPart.{VersionPart}
use Rattle.pst_image_rules.specs.Versions.{parent_of, run_of, begin_of, end_of, IsFurther, HaveOwnRuns}

-- By run number the version below `seen` that this run made, or 0.
pub record IsTable (vs : List VersionPart) (seen : ℕ) (table : List ℕ) : Type 0 where
  pub there : (v : ℕ) → 0 < v → v < seen → slice_index table (run_of vs v) ≡ v
  pub only : (r : ℕ) → 0 < slice_index table r → (slice_index table r < seen) × (run_of vs (slice_index table r) ≡ r)

-- Versions by their runs, or none where two are of one run.
abbrev pub IsTabled : List VersionPart → ℕ → Option (List ℕ) → Type 0
IsTabled vs next_run None = HaveOwnRuns vs → ⊥
IsTabled vs next_run (Some table) = (length table ≡ next_run) × IsTable vs (length vs) table

-- Of the runs below `r` all children of one version stand apart; for each version the place before which its next child must end is
-- its own end, or where its last child begins.
pub record IsOrdered (vs : List VersionPart) (r : ℕ) (bounds : List ℕ) : Type 0 where
  pub same : length bounds ≡ length vs
  pub low : (v : ℕ) → IsFurther vs v → run_of vs v < r → slice_index bounds (parent_of vs v) ≤ begin_of vs v
  pub apart : (v w : ℕ) → IsFurther vs v → IsFurther vs w → parent_of vs v ≡ parent_of vs w → run_of vs v < run_of vs w → run_of vs w < r → end_of vs w < begin_of vs v
  pub from : (p : ℕ) → p < length vs → (slice_index bounds p ≡ end_of vs p) ⊎ ((v : ℕ) × IsFurther vs v × (parent_of vs v ≡ p) × (run_of vs v < r) × (slice_index bounds p ≡ begin_of vs v))

-- The versions of runs below `r`, from 1 on, in the order of their runs.
pub record IsOrderTo (vs : List VersionPart) (r : ℕ) (order : List ℕ) : Type 0 where
  pub each : (k : ℕ) → k < length order → IsFurther vs (slice_index order k)
  pub below : (k : ℕ) → k < length order → run_of vs (slice_index order k) < r
  pub rising : (k : ℕ) → k + 1 < length order → run_of vs (slice_index order k) < run_of vs (slice_index order (k + 1))
  pub all : (v : ℕ) → IsFurther vs v → run_of vs v < r → Contains order v
