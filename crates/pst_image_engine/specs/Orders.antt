-- Forks in the order of runs.
use Rattle.std.specs.Prelude.{◌≡◌, ℕ, suc, ◌<◌, ◌≤◌, Some, slice_get}
use Rattle.pst_versions.specs.declared.rows.VersionRow.{VersionRow}
use Rattle.pst_store_meaning.specs.declared.place.Place.{Place}
use Rattle.pst_store_meaning.specs.declared.place.Fork.{Fork}
use Rattle.pst_store_meaning.specs.Store.{Stored, IsStore}
use Rattle.pst_image_meaning.specs.Versions.{AreVersionsNested}

-- the version has a fork, and was made by a run that took its number
pub record IsRunFork (s : Stored) (next : ℕ) (row : VersionRow Place) : Type 0 where
  pub index : ℕ
  pub fork : Fork
  pub at : slice_get s.forks index ≡ Some fork
  pub place : fork.place ≡ row.place
  pub low : 1 ≤ row.run.0
  pub few : row.run.0 < next

-- Each version after 0 has a fork and a run of its own, and of two of them that of the later run has the later fork.
pub record AreInRunOrder (s : Stored) (next : ℕ) : Type 0 where
  pub forks : (v : ℕ) (row : VersionRow Place) → slice_get s.versions (suc v) ≡ Some row → IsRunFork s next row
  pub own_run : (v w : ℕ) (a b : VersionRow Place) → slice_get s.versions (suc v) ≡ Some a → slice_get s.versions (suc w) ≡ Some b → a.run.0 ≡ b.run.0 → v ≡ w
  pub rising : (v w : ℕ) (a b : VersionRow Place) (p : slice_get s.versions (suc v) ≡ Some a) (q : slice_get s.versions (suc w) ≡ Some b)
      → a.run.0 < b.run.0 → (forks v a p).index < (forks w b q).index

abbrev pub RunOrderLaw : Type 0
RunOrderLaw = (s : Stored) (next : ℕ) → IsStore s → AreInRunOrder s next → AreVersionsNested s next
