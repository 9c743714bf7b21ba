-- The forks of a store that is made of an image: they are its versions.
use Rattle.std.specs.Prelude.{◌≡◌, ℕ, suc, ◌<◌, ◌≤◌, Some, true, slice_get, length}
use Rattle.pst_versions.specs.declared.rows.VersionRow.{VersionRow}
use Rattle.pst_store_meaning.specs.declared.place.Place.{Place}
use Rattle.pst_store_meaning.specs.declared.place.Fork.{Fork}
use Rattle.pst_store_meaning.specs.Store.{Stored, begin_of, end_of}

-- fork k is that of a version after 0, published, and made from the place of the version's parent
pub record IsForkFor (s : Stored) (k : ℕ) (f : Fork) : Type 0 where
  pub version : ℕ
  pub row : VersionRow Place
  pub at : slice_get s.versions (suc version) ≡ Some row
  pub place : f.place ≡ row.place
  pub published : f.published ≡ true
  pub number : f.place.number ≡ k
  pub parent : VersionRow Place
  pub parent_at : slice_get s.versions row.parent.0 ≡ Some parent
  pub from : f.from ≡ parent.place

-- a version has a fork
pub record HasFork (s : Stored) (row : VersionRow Place) : Type 0 where
  pub index : ℕ
  pub fork : Fork
  pub at : slice_get s.forks index ≡ Some fork
  pub place : fork.place ≡ row.place

-- The forks are the versions after 0, one each, in the order of their runs, and none was asked for beside them.
pub record AreForksOfVersions (s : Stored) : Type 0 where
  pub of : (k : ℕ) (f : Fork) → slice_get s.forks k ≡ Some f → IsForkFor s k f
  pub all : (v : ℕ) (row : VersionRow Place) → slice_get s.versions (suc v) ≡ Some row → HasFork s row
  pub rising : (j k : ℕ) (f g : Fork) (a : slice_get s.forks j ≡ Some f) (b : slice_get s.forks k ≡ Some g) → j < k → (of j f a).row.run.0 < (of k g b).row.run.0
  pub many : length s.versions ≡ suc (length s.forks)
  pub calls : s.calls ≡ length s.forks

-- each relic is a stretch of the list of places
abbrev pub AreRelicsInside : Stored → Type 0
AreRelicsInside s = (k : ℕ) (p : Place) → slice_get s.relics k ≡ Some p → (begin_of s p < end_of s p) × (end_of s p ≤ end_of s s.start)
