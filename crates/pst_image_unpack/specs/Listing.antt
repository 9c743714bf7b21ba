-- What the functions of this crate build, list by list.
use Rattle.std.specs.Prelude.{◌≡◌, ℕ, ◌<◌, ◌^◌, List, length, get_or, map, slice_index, slice_get, Some, true}
use Rattle.pst_base.specs.Below.{listed}
use Rattle.pst_base.specs.declared.shape.TypeShape.{TypeShape}
use Rattle.pst_versions.specs.declared.rows.VersionRow.{VersionRow}
use Rattle.pst_store_meaning.specs.declared.place.Place.{Place}
use Rattle.pst_store_meaning.specs.declared.place.Fork.{Fork}
use Rattle.pst_image_form.specs.declared.parts.VersionPart.{VersionPart}
use Rattle.pst_image_form.specs.declared.parts.NodePart.{NodePart}
use Rattle.pst_image_form.specs.declared.parts.StampPart.{StampPart}
use Rattle.pst_image_rules.specs.Versions.{version_at, parent_of}
use Rattle.pst_image_rules.specs.Nodes.{no_stamp}

-- stamped values of the first 256 slots
abbrev pub AreOfFirst : List StampPart → Type 0
AreOfFirst parts = (i : ℕ) → i < length parts → (get_or parts i no_stamp).slot.0 < 256

-- a node of a type that is there, with few slots and stamped values, which are of the first 256 slots
pub record HasFew (shape : List TypeShape) (k : NodePart) : Type 0 where
  pub known : k.ty.0 < length shape
  pub slots : length k.bases < 2 ^ 16
  pub stamped : length k.stamps < 2 ^ 32
  pub narrow : AreOfFirst k.stamps

abbrev pub AreFew : List TypeShape → List NodePart → Type 0
AreFew shape ks = (i : ℕ) (k : NodePart) → slice_get ks i ≡ Some k → HasFew shape k

-- numbers of versions after 0, below the count, each once
pub record AreOfVersions (count : ℕ) (by_run : List ℕ) : Type 0 where
  pub some : (k : ℕ) → k < length by_run → 0 < slice_index by_run k
  pub below : (k : ℕ) → k < length by_run → slice_index by_run k < count
  pub once : (j k : ℕ) → j < length by_run → k < length by_run → slice_index by_run j ≡ slice_index by_run k → j ≡ k

-- there is a version, and the parent of each has a lower number
pub record HaveParents (vs : List VersionPart) : Type 0 where
  pub some : 0 < length vs
  pub parents : (v : ℕ) → 0 < v → v < length vs → parent_of vs v < v
  pub root : (version_at vs 0).parent.0 ≡ 0
  pub run : (version_at vs 0).run.0 ≡ 0

-- the version in place k of the order of runs has the number k, and version 0 has 0
pub record HasNumbers (count : ℕ) (by_run numbers : List ℕ) : Type 0 where
  pub count_is : length numbers ≡ count
  pub each : (k : ℕ) → k < length by_run → get_or numbers (slice_index by_run k) 0 ≡ k
  pub first : get_or numbers 0 0 ≡ 0

-- the place of a version, with the number of its fork
abbrev pub place_in : VersionPart → ℕ → Place
place_in v number = record { number = number; begin = record { 0 = v.begin }; end = record { 0 = v.end } }

abbrev pub places_in : List VersionPart → (numbers : List ℕ) → List Place
places_in vs numbers = listed (length vs) (λ v. place_in (version_at vs v) (get_or numbers v 0))

-- for a version that is not there
abbrev pub no_place : Place
no_place = record { number = 0; begin = record { 0 = 0 }; end = record { 0 = 0 } }

-- the row of a version
abbrev pub row_in : List VersionPart → List Place → ℕ → VersionRow Place
row_in vs places v = record { parent = (version_at vs v).parent; run = (version_at vs v).run; place = get_or places v no_place }

abbrev pub rows_in : List VersionPart → List Place → List (VersionRow Place)
rows_in vs places = listed (length vs) (row_in vs places)

-- its fork: published, and made from the place of its parent
abbrev pub fork_in : List VersionPart → List Place → ℕ → Fork
fork_in vs places v = record { place = get_or places v no_place; from = get_or places (parent_of vs v) no_place; published = true }

abbrev pub forks_in : List VersionPart → List Place → (by_run : List ℕ) → List Fork
forks_in vs places by_run = map (fork_in vs places) by_run
