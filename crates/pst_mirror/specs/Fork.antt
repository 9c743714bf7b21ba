-- A place comes into the list of places: each position behind it moves up, and reads what it read.
use Rattle.std.specs.Prelude.{◌≡◌, ◌≢◌, ℕ, suc, ◌-◌, ◌<◌, not, ◌&&◌, ◌==◌, nat_le, List, [], ◌∷◌, length, insert, if◌then◌else◌, ⊤}
use Rattle.pst_rows.specs.declared.content.Stamp.{Stamp}
use Rattle.pst_rows.specs.Values.{RowValue}
use Rattle.pst_order.specs.Places.{rank}
use Rattle.pst_mirror.specs.Mirror.{Chart, IsMirrored}
use Rattle.pst_mirror.specs.Charts.{chart_of, AllRows}

-- where a position stands once a place has come in directly behind position k, and where a position came from
abbrev pub shift : ℕ → ℕ → ℕ
shift k n = if nat_le n k then n else suc n

abbrev pub back : ℕ → ℕ → ℕ
back k m = if nat_le m k then m else m - 1

-- z comes in directly behind position k
pub record IsInsertedAfter (r r' : ℕ → ℕ) (k z : ℕ) : Type 0 where
  pub new : r' z ≡ suc k
  pub old : (p : ℕ) → p ≢ z → r' p ≡ shift k (r p)

abbrev pub RankLaw : Type 0
RankLaw = (qs : List ℕ) (k z : ℕ) → k < length qs → rank qs z ≡ length qs → IsInsertedAfter (rank qs) (rank (insert qs (suc k) z)) k z

-- a row that knows nothing of the place
abbrev pub Apart : ℕ → List Stamp → Type 0
Apart z [] = ⊤
Apart z (e ∷ es) = (e.place.0 ≢ z) × Apart z es

abbrev pub RowsApart : ℕ → List RowValue → Type 0
RowsApart z [] = ⊤
RowsApart z (row ∷ rows) = (row.lo.0 ≢ z) × (row.hi.0 ≢ z) × Apart z row.stamps × RowsApart z rows

-- the new position holds what the one before it holds, and no segment ends there
pub record IsReindexed (old new : Chart) (k : ℕ) : Type 0 where
  pub holds : (i g m : ℕ) → new.holds i g m ≡ old.holds i g (back k m)
  pub edges : (i g m : ℕ) → new.edge i g m ≡ (not (m == suc k) && old.edge i g (back k m))

abbrev pub InsertLaw : Type 0
InsertLaw = (r r' : ℕ → ℕ) (k z : ℕ) (rows : List RowValue) → IsInsertedAfter r r' k z → RowsApart z rows → IsReindexed (chart_of r rows) (chart_of r' rows) k

abbrev pub ReindexLaw : Type 0
ReindexLaw = (old new : Chart) (k : ℕ) → IsReindexed old new k → IsMirrored old → IsMirrored new

-- each row is one after a place has come in
abbrev pub RowsInsertLaw : Type 0
RowsInsertLaw = (r r' : ℕ → ℕ) (k z places : ℕ) (rows : List RowValue) → IsInsertedAfter r r' k z → RowsApart z rows → AllRows r places rows → AllRows r' (suc places) rows
