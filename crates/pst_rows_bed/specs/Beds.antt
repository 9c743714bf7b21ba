use Rattle.std.specs.Prelude.{◌≡◌, ℕ, ◌<◌, List, length, All, Some, slice_get}
use Rattle.pst_order.specs.Places.{rank, IsIn}
use Rattle.pst_order.specs.declared.order.Pos.{Pos}
use Rattle.pst_rows.specs.declared.content.Content.{Content}
use Rattle.pst_rows.specs.Rows.{content_at, width_of, IsRowIn, IsInLife}
use Rattle.pst_rows_bed.specs.declared.bed.Bed.{Bed}
use Rattle.pst_rows_bed.specs.declared.bed.Written.{Written}

-- each of the places stands in the list
abbrev pub AreIn : List ℕ → List Pos → Type 0
AreIn list places = All (λ (p : Pos). IsIn list p.0) places

-- each stamp is at a place of the list
abbrev pub IsKnown : List ℕ → List Written → Type 0
IsKnown list stamps = All (λ (e : Written). rank list e.place.0 < length list) stamps

-- the row is over the list, and the places are in its life
pub record IsReady (list : List ℕ) (bed : Bed) : Type 0 where
  pub row_is : IsRowIn list bed.row
  pub width : width_of bed.row ≡ 5
  pub bases : length bed.base.items ≡ 5
  pub some : 0 < length bed.places.items
  pub alive : All (λ (p : Pos). IsInLife list bed.row p.0) bed.places.items
  pub known : IsKnown list bed.stamps.items

-- a content is what a slot of the row holds at the place with a number
abbrev pub IsHeldAt : List ℕ → Bed → (slot index : ℕ) → Content → Type 0
IsHeldAt list bed slot index content = (p : Pos) → slice_get bed.places.items index ≡ Some p → content ≡ content_at (rank list) bed.row slot (rank list p.0)
