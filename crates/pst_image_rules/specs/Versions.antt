-- Which numbers and which versions an image may have: the tree of versions as nested stretches of the list of places, each child's
-- stretch directly inside its parent's, a later child before an earlier one (the version list of Driscoll, Sarnak, Sleator and Tarjan).
use Rattle.std.specs.Prelude.{◌≡◌, ℕ, ◌+◌, ◌*◌, ◌-◌, ◌^◌, ◌<◌, ◌≤◌, List, length, get_or, slice_index}
use Rattle.std.specs.List.{Contains}
use Rattle.pst_image_form.specs.declared.parts.VersionPart.{VersionPart}
use Rattle.pst_image_form.specs.declared.parts.ImageParts.{ImageParts}

-- the numbers of an image, apart from the text, the versions and the nodes
pub record IsInRange (p : ImageParts) : Type 0 where
  pub budget_low : 1 ≤ p.budget
  pub budget_high : p.budget ≤ 1000000000
  pub run_low : 1 ≤ p.next_run.0
  pub run_high : p.next_run.0 ≤ 1048577
  pub records : p.counts.records ≤ 2 ^ 50
  pub pointer_writes : p.counts.pointer_writes ≤ 2 ^ 50
  pub value_writes : p.counts.value_writes ≤ 2 ^ 50
  pub places_low : 2 ≤ p.places
  pub places_high : p.places ≤ 2 * p.next_run.0
  pub some_version : 0 < length p.versions
  pub some_node : 0 < length p.nodes

-- for a version that is not there
abbrev pub no_version : VersionPart
no_version = record { parent = record { 0 = 0 }; run = record { 0 = 0 }; begin = 0; end = 0 }

-- the version with a number, and what it is made of
abbrev pub version_at : List VersionPart → ℕ → VersionPart
version_at vs v = get_or vs v no_version

abbrev pub parent_of : List VersionPart → ℕ → ℕ
parent_of vs v = (version_at vs v).parent.0

abbrev pub run_of : List VersionPart → ℕ → ℕ
run_of vs v = (version_at vs v).run.0

abbrev pub begin_of : List VersionPart → ℕ → ℕ
begin_of vs v = (version_at vs v).begin

abbrev pub end_of : List VersionPart → ℕ → ℕ
end_of vs v = (version_at vs v).end

-- version 0 has no run, and stands from the first place to the last
pub record IsRootVersion (v : VersionPart) (places : ℕ) : Type 0 where
  pub parent : v.parent.0 ≡ 0
  pub run : v.run.0 ≡ 0
  pub begin : v.begin ≡ 0
  pub end : v.end ≡ places - 1

-- a further version with a number: its parent has a lower one, its run is one that was, and it stands inside its parent
pub record IsInside (next_run : ℕ) (number : ℕ) (v parent : VersionPart) : Type 0 where
  pub older : v.parent.0 < number
  pub run_low : 1 ≤ v.run.0
  pub run_high : v.run.0 < next_run
  pub life : v.begin < v.end
  pub begins : parent.begin < v.begin
  pub ends : v.end < parent.end

-- v is a version other than version 0
pub record IsFurther (vs : List VersionPart) (v : ℕ) : Type 0 where
  pub low : 0 < v
  pub high : v < length vs

abbrev pub AreInside : ℕ → List VersionPart → Type 0
AreInside next_run vs = (v : ℕ) → IsFurther vs v → IsInside next_run v (version_at vs v) (version_at vs (parent_of vs v))

-- no two versions are of one run
abbrev pub HaveOwnRuns : List VersionPart → Type 0
HaveOwnRuns vs = (v w : ℕ) → IsFurther vs v → IsFurther vs w → run_of vs v ≡ run_of vs w → v ≡ w

-- of two children of one version the one with the greater run stands wholly before the other
abbrev pub AreSiblingsApart : List VersionPart → Type 0
AreSiblingsApart vs = (v w : ℕ) → IsFurther vs v → IsFurther vs w → parent_of vs v ≡ parent_of vs w → run_of vs v < run_of vs w → end_of vs w < begin_of vs v

pub record AreNested (vs : List VersionPart) (places next_run : ℕ) : Type 0 where
  pub root : IsRootVersion (version_at vs 0) places
  pub inside : AreInside next_run vs
  pub own_run : HaveOwnRuns vs
  pub siblings : AreSiblingsApart vs

-- the versions from 1 on, each once, in the order of their runs
pub record IsOrderOfRuns (vs : List VersionPart) (order : List ℕ) : Type 0 where
  pub each : (k : ℕ) → k < length order → IsFurther vs (slice_index order k)
  pub rising : (k : ℕ) → k + 1 < length order → run_of vs (slice_index order k) < run_of vs (slice_index order (k + 1))
  pub all : (v : ℕ) → IsFurther vs v → Contains order v
