-- What a list of rows means by positions, and what changes of rows mean for it.
-- Letters: w is a chart, r gives the position of each place, i and x are nodes, f and g slots, m a position, c a content.
use Rattle.std.specs.Prelude.{◌≡◌, ◌≢◌, ℕ, zero, suc, ◌+◌, ◌<◌, ◌≤◌, Bool, false, ◌||◌, ◌&&◌, ◌==◌, nat_lt, nat_le, List, [], ◌∷◌, ◌++◌, length, get_or, set, if◌then◌else◌}
use Rattle.pst_rows.specs.declared.content.Content.{Content}
use Rattle.pst_rows.specs.declared.content.Content.TheVariants.{Null}
use Rattle.pst_rows.specs.Values.{RowValue, content_in, edge_in, IsValue, IsValueSet, IsValueCut, IsValueReplaced, IsValueSplit}
use Rattle.pst_order.specs.declared.order.Pos.{Pos}
use Rattle.pst_mirror.specs.Mirror.{Chart, IsSteady, is_there, is_slot, put_two, with_edges, moved}
use Rattle.pst_mirror.specs.Segments.{IsTiled, IsSegmentOf}

-- whether a position is inside the life of a row
abbrev pub is_alive : (ℕ → ℕ) → RowValue → ℕ → Bool
is_alive r row m = nat_le (r row.lo.0) m && nat_lt m (r row.hi.0)

-- what a slot of a row holds, Null outside its life
abbrev pub row_holds : (ℕ → ℕ) → RowValue → ℕ → ℕ → Content
row_holds r row g m = if is_alive r row m then content_in r row g m else Null

abbrev pub rows_hold : (ℕ → ℕ) → List RowValue → ℕ → ℕ → ℕ → Content
rows_hold r [] i g m = Null
rows_hold r (row ∷ rows) zero g m = row_holds r row g m
rows_hold r (row ∷ rows) (suc i) g m = rows_hold r rows i g m

abbrev pub rows_edge : (ℕ → ℕ) → List RowValue → ℕ → ℕ → ℕ → Bool
rows_edge r [] i g m = false
rows_edge r (row ∷ rows) zero g m = edge_in r row g m
rows_edge r (row ∷ rows) (suc i) g m = rows_edge r rows i g m

-- the chart of a list of rows, at the positions of the places
abbrev pub chart_of : (ℕ → ℕ) → List RowValue → Chart
chart_of r rows = record { holds = rows_hold r rows; edge = rows_edge r rows }

abbrev pub AllRows : (ℕ → ℕ) → ℕ → List RowValue → Type 0
AllRows r places [] = Unit {0}
AllRows r places (row ∷ rows) = IsValue r places row × AllRows r places rows

-- one slot of one node gets a content over one position
pub record IsSlotSet (old new : Chart) (x f b : ℕ) (c : Content) : Type 0 where
  pub holds : (i g m : ℕ) → new.holds i g m ≡ (if is_there x f b i g m then c else old.holds i g m)
  pub edges : (i g m : ℕ) → new.edge i g m ≡ ((is_slot x f i g && (m == b || m == b + 1)) || old.edge i g m)

abbrev pub RowSetLaw : Type 0
RowSetLaw = (r : ℕ → ℕ) (rows : List RowValue) (x : ℕ) (none new : RowValue) (f b : ℕ) (c : Content) → x < length rows → IsValueSet r (get_or rows x none) new f b c →
    IsSlotSet (chart_of r rows) (chart_of r (set rows x new)) x f b c

abbrev pub ChartsAreSteady : Type 0
ChartsAreSteady = (r : ℕ → ℕ) (places : ℕ) (rows : List RowValue) → AllRows r places rows → IsSteady (chart_of r rows)

abbrev pub ChartsAreTiled : Type 0
ChartsAreTiled = (r : ℕ → ℕ) (places : ℕ) (rows : List RowValue) → AllRows r places rows → IsTiled (chart_of r rows)

-- one slot of one node has an edge more
pub record HasOneEdgeMore (old new : Chart) (x f t : ℕ) : Type 0 where
  pub holds : (i g m : ℕ) → new.holds i g m ≡ old.holds i g m
  pub edges : (i g m : ℕ) → new.edge i g m ≡ (is_there x f t i g m || old.edge i g m)

abbrev pub RowCutLaw : Type 0
RowCutLaw = (r : ℕ → ℕ) (rows : List RowValue) (x : ℕ) (none new : RowValue) (f t : ℕ) (c : Content) → x < length rows → IsValueCut r (get_or rows x none) new f t c →
    c ≡ content_in r (get_or rows x none) f t → HasOneEdgeMore (chart_of r rows) (chart_of r (set rows x new)) x f t

-- x's part from a position on has moved to z, and nothing is renamed yet
pub record IsMovedApart (old new : Chart) (x z at : ℕ) : Type 0 where
  pub other : x ≢ z
  pub fresh : (g m : ℕ) → old.holds z g m ≡ Null
  pub early : (i g m : ℕ) → m < at → new.holds i g m ≡ old.holds i g m
  pub gone : (g m : ℕ) → at ≤ m → new.holds x g m ≡ Null
  pub late : (i g m : ℕ) → at ≤ m → i ≢ z → new.holds (moved x z i) g m ≡ old.holds i g m
  pub early_edges : (i g m : ℕ) → m < at → i ≢ z → new.edge i g m ≡ old.edge i g m
  pub late_edges : (i g m : ℕ) → at ≤ m → i ≢ z → new.edge (moved x z i) g m ≡ ((i == x) && (m == at) || old.edge i g m)

abbrev pub RowSplitLaw : Type 0
RowSplitLaw = (r : ℕ → ℕ) (rows : List RowValue) (x : ℕ) (none left right : RowValue) (s : Pos) → x < length rows → IsValueSplit r (get_or rows x none) left right s →
    IsMovedApart (chart_of r rows) (chart_of r (set rows x left ++ right ∷ [])) x (length rows) (r s.0)

-- two slots set over one position, one after the other
abbrev pub TwoSetsLaw : Type 0
TwoSetsLaw = (old mid new : Chart) (x f y s b : ℕ) (c d : Content) → (x ≡ y → f ≡ s → ⊥) → IsSlotSet old mid x f b c → IsSlotSet mid new y s b d →
    ((i g m : ℕ) → new.holds i g m ≡ put_two old x f c y s d b i g m) × ((i g m : ℕ) → new.edge i g m ≡ with_edges old x f y s b i g m)

-- one slot of one node gets another content over one of its segments
abbrev pub RowReplaceLaw : Type 0
RowReplaceLaw = (r : ℕ → ℕ) (rows : List RowValue) (x : ℕ) (none new : RowValue) (f a e : ℕ) (c : Content) → x < length rows → IsValueReplaced r (get_or rows x none) new f a c →
    IsSegmentOf (chart_of r rows) x f a e →
    ((i g m : ℕ) → rows_hold r (set rows x new) i g m ≡ (if (i == x && g == f) && (nat_le a m && nat_lt m e) then c else rows_hold r rows i g m))
    × ((i g m : ℕ) → rows_edge r (set rows x new) i g m ≡ rows_edge r rows i g m)
