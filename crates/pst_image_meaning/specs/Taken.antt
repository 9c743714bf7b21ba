-- What is asked of a store that is made of an image, in the words of a store's own parts.
use Rattle.std.specs.Prelude.{◌≡◌, ℕ, ◌+◌, ◌*◌, ◌<◌, ◌≤◌, length, slice_get, Some, map}
use Rattle.pst_base.specs.declared.shape.TypeShape.{TypeShape}
use Rattle.pst_base.specs.declared.names.TypeNo.{TypeNo}
use Rattle.pst_base.specs.Name.{root_name}
use Rattle.pst_base.specs.Shape.{type_at, root_type, IsValid}
use Rattle.pst_order.specs.Places.{rank}
use Rattle.pst_versions.specs.declared.versioned.TheConstants.{MOST_FORKS}
use Rattle.pst_rows.specs.declared.content.Stamp.{Stamp}
use Rattle.pst_rows.specs.Values.{RowValue, base_in}
use Rattle.pst_mirror.specs.Charts.{AllRows}
use Rattle.pst_mirror.specs.Kinds.{HasKind}
use Rattle.pst_mirror.specs.Potential.{potential}
use Rattle.pst_mirror.specs.Segments.{AreSegmentsMirrored}
use Rattle.pst_store_meaning.specs.declared.place.Place.{Place}
use Rattle.pst_store_meaning.specs.Store.{Node, Stored, arena, begin_of, end_of, AreWide, bound, loads}
use Rattle.pst_image_meaning.specs.Versions.{AreVersionsNested}
use Rattle.pst_image_meaning.specs.Chains.{AreRecordChains, AreRecordEnds}
use Rattle.pst_image_meaning.specs.Forks.{AreForksOfVersions, AreRelicsInside}

-- each base value of a row and each value that is stamped in it is of its slot's kind
pub record HasKinds (t : TypeShape) (ty : ℕ → TypeNo) (row : RowValue) : Type 0 where
  pub bases : (g : ℕ) → g < length row.slots → HasKind t ty g (base_in row g)
  pub stamps : (k : ℕ) (e : Stamp) → slice_get row.stamps k ≡ Some e → HasKind t ty e.slot.0 e.content

-- the record of node i lives over a relic
pub record HasRelic (s : Stored) (i : ℕ) : Type 0 where
  pub index : ℕ
  pub place : Place
  pub at : slice_get s.relics index ≡ Some place
  pub first : ℕ
  pub last : ℕ
  pub ends : AreRecordEnds (arena s) i first last
  pub begins : begin_of s place ≡ (arena s).lo first
  pub stops : end_of s place ≡ (arena s).hi last

-- A store that is made of an image, where `next` is the number of its next run: few runs, places, and nodes for what was counted;
-- versions and their forks; rows that are well formed, as wide as their types and of their slots' kinds; chains of nodes, of one type
-- each, and type 0 for the root record alone; pointers and entries that match; and relics that are stretches of places, one for each record.
pub record IsTaken (s : Stored) (next : ℕ) : Type 0 where
  pub valid : IsValid s.shape
  pub one : 1 ≤ next
  pub few : next ≤ 1048577
  pub two : 2 ≤ length s.places
  pub most : length s.places ≤ 2 * (s.calls + s.spent) + 2
  pub spent : s.spent ≤ MOST_FORKS
  pub versions : AreVersionsNested s next
  pub forks : AreForksOfVersions s
  pub rows : AllRows (rank s.places) (length s.places) (map (λ n. n.row) s.nodes)
  pub wide : AreWide s.shape s.nodes
  pub known : (i : ℕ) → i < length s.nodes → ((arena s).ty i).0 < length s.shape
  pub kinds : (i : ℕ) (n : Node) → slice_get s.nodes i ≡ Some n → HasKinds (type_at s.shape n.head.ty) (arena s).ty n.row
  pub chains : AreRecordChains (arena s) (end_of s s.start)
  pub types : (i j : ℕ) → i < length s.nodes → j < length s.nodes → (arena s).name i ≡ (arena s).name j → (arena s).ty i ≡ (arena s).ty j
  pub root_type_is : (arena s).ty 0 ≡ root_type
  pub root_alone : (i : ℕ) → i < length s.nodes → (arena s).ty i ≡ root_type → (arena s).name i ≡ root_name
  pub segments : AreSegmentsMirrored (arena s).chart
  pub inside : AreRelicsInside s
  pub relics : (i : ℕ) → i < length s.nodes → HasRelic s i
  pub bounded : length s.nodes + potential (loads s) ≤ bound s.counts
