-- The rule of an image on versions, said of a store.
use Rattle.std.specs.Prelude.{◌≡◌, ℕ, suc, ◌<◌, ◌≤◌, Some, slice_get, length}
use Rattle.pst_versions.specs.declared.rows.VersionRow.{VersionRow}
use Rattle.pst_versions.specs.Rows.{first_row}
use Rattle.pst_store_meaning.specs.declared.place.Place.{Place}
use Rattle.pst_store_meaning.specs.Store.{Stored, begin_of, end_of}

-- a version after 0: its parent is below it and holds all of its stretch
pub record IsWithinParent (s : Stored) (v : ℕ) (row : VersionRow Place) : Type 0 where
  pub parent : VersionRow Place
  pub at : slice_get s.versions row.parent.0 ≡ Some parent
  pub below : row.parent.0 < v
  pub begins : begin_of s parent.place < begin_of s row.place
  pub some : begin_of s row.place < end_of s row.place
  pub ends : end_of s row.place < end_of s parent.place

-- Version 0 has the whole list of places; each other version lies inside its parent, and was made by a run of its own; of two
-- children of one version that of the later run stands wholly before the other.
pub record AreVersionsNested (s : Stored) (next : ℕ) : Type 0 where
  pub root : slice_get s.versions 0 ≡ Some (first_row s.start)
  pub first : begin_of s s.start ≡ 0
  pub last : suc (end_of s s.start) ≡ length s.places
  pub within : (v : ℕ) (row : VersionRow Place) → slice_get s.versions (suc v) ≡ Some row → IsWithinParent s (suc v) row
  pub runs : (v : ℕ) (row : VersionRow Place) → slice_get s.versions (suc v) ≡ Some row → (1 ≤ row.run.0) × (row.run.0 < next)
  pub own_run : (v w : ℕ) (a b : VersionRow Place) → slice_get s.versions (suc v) ≡ Some a → slice_get s.versions (suc w) ≡ Some b → a.run.0 ≡ b.run.0 → v ≡ w
  pub siblings : (v w : ℕ) (a b : VersionRow Place) → slice_get s.versions (suc v) ≡ Some a → slice_get s.versions (suc w) ≡ Some b → a.parent.0 ≡ b.parent.0 → a.run.0 < b.run.0 → end_of s b.place < begin_of s a.place
