-- Which version changed what a path reads. The versions form a tree, as those of Driscoll, Sarnak, Sleator and Tarjan do.
use Rattle.std.specs.Prelude.{◌≡◌, ◌≢◌, ℕ, List, Option, Some, None, slice_get}
use Rattle.std.specs.FinMap.{empty}
use Rattle.pst_base.specs.declared.names.VersionNo.{VersionNo}
use Rattle.pst_base.specs.Heap.{Heap}
use Rattle.pst_program.specs.declared.meaning.Value.{Value}
use Rattle.pst_versions.specs.declared.rows.VersionRow.{VersionRow}
use Rattle.pst_versions.specs.Rows.{parent_of}
use Rattle.pst_versions.specs.State.{State}
use Rattle.pst_questions.specs.declared.slots.PathStep.{PathStep}
use Rattle.pst_questions.specs.Reading.{reading}

-- versions by their numbers: which one each was made from, if any, and what is read at each
pub record Readings : Type 0 where
  pub parent : ℕ → Option VersionNo
  pub read : ℕ → Option Value

-- a version on the way from another one to version 0, over parents; the way begins with the version itself
pub data IsOnWay (r : Readings) : (from v : ℕ) → Type 0 where
  Here : (v : ℕ) → IsOnWay r v v
  Above : (from : ℕ) (parent : VersionNo) (v : ℕ) → r.parent from ≡ Some parent → IsOnWay r parent.0 v → IsOnWay r from v

-- at the version another thing is read than at the one that it was made from
pub record IsChange (r : Readings) (v : ℕ) : Type 0 where
  pub parent : VersionNo
  pub made_from : r.parent v ≡ Some parent
  pub differs : r.read v ≢ r.read parent.0

-- the first change on the way from a version to version 0: each change on the way is this one or farther
pub record IsFirstChange (r : Readings) (from v : ℕ) : Type 0 where
  pub on_way : IsOnWay r from v
  pub change : IsChange r v
  pub first : (other : ℕ) → IsOnWay r from other → IsChange r other → IsOnWay r v other

-- there is no change on the way
abbrev pub NeverChanged : Readings → (from : ℕ) → Type 0
NeverChanged r from = (v : ℕ) → IsOnWay r from v → ¬ (IsChange r v)

-- ---- the versions of a heap

-- the heap of a version, by its row
abbrev pub heap_from : {P : Type 0} → (P → Heap) → Option (VersionRow P) → Heap
heap_from heap None = empty
heap_from heap (Some row) = heap row.place

-- what a path reads at the versions of a heap
abbrev pub readings_of : {P R : Type 0} → State P R → (path : List PathStep) → Readings
readings_of s path = record { parent = parent_of s.versions; read = λ v. reading (heap_from s.heap (slice_get s.versions v)) path }
