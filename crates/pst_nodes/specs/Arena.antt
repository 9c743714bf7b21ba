-- What a list of nodes is, at the places of an order's list.
use Rattle.std.specs.Prelude.{◌≡◌, ℕ, ◌-◌, ◌<◌, ◌≤◌, vec_capacity, List, length, get_or, map, Option, None, true, false}
use Rattle.pst_rows.specs.declared.row.Row.{Row}
use Rattle.pst_order.specs.Places.{rank}
use Rattle.pst_mirror.specs.Mirror.{Chart, renamed}
use Rattle.pst_mirror.specs.Contents.{From}
use Rattle.pst_mirror.specs.Charts.{chart_of, AllRows}
use Rattle.pst_mirror.specs.Lives.{Lives, IsLive}
use Rattle.pst_mirror.specs.Degree.{is_other_entry}
use Rattle.pst_mirror.specs.Kinds.{IsInverse}
use Rattle.pst_base.specs.declared.names.TypeNo.{TypeNo}
use Rattle.pst_mirror.specs.Segments.{IsSegmentOf}
use Rattle.pst_rows.specs.Values.{RowValue}
use Rattle.pst_rows.specs.Rows.{width_of, spare_of, shown}
use Rattle.std.specs.Option.{option_map}
use Rattle.pst_base.specs.declared.names.Name.{Name}
use Rattle.pst_base.specs.Name.{root_name}
use Rattle.pst_base.specs.declared.shape.TypeShape.{TypeShape}
use Rattle.pst_base.specs.Shape.{type_at}
use Rattle.pst_rows.specs.Changes.{slot_count}
use Rattle.pst_nodes.specs.declared.links.Link.{Link}
use Rattle.pst_nodes.specs.declared.links.Link.TheVariants.{Out}
use Rattle.pst_nodes.specs.declared.node.Node.{Node}
use Rattle.pst_nodes.specs.declared.node.Nodes.{Nodes}

abbrev pub rows_of : List Node → List Row
rows_of ns = map (λ (n : Node). n.row) ns

abbrev pub row_at : List Node → ℕ → Row → Row
row_at ns i d = get_or (rows_of ns) i d

-- what the rows show
abbrev pub values_of : List Node → List RowValue
values_of ns = map (λ (n : Node). shown n.row) ns

-- how many nodes more an arena can take without memory
abbrev pub spare_nodes : Nodes → ℕ
spare_nodes ns = vec_capacity ns.list - length ns.list.items

-- a row can take so many stamped values more without memory
abbrev pub HasRoom : Row → ℕ → Type 0
HasRoom row k = k ≤ spare_of row

-- a node for a new record: no other node of the record comes behind it, and it does not wait
abbrev pub new_node : Name → TypeNo → Row → Node
new_node name ty row = record { header = record { name = name; ty = ty; later = None; link = Out }; row = row }

-- what a node is beside its row and its link, by numbers: the record's name, its type, and the next node of the record
pub record Frame : Type 0 where
  pub name : Name
  pub ty : ℕ
  pub later : Option ℕ

abbrev pub frame_of : Node → Frame
frame_of n = record { name = n.header.name; ty = n.header.ty.0; later = option_map (λ i. i.0) n.header.later }

-- for a node that is not there
abbrev pub no_frame : Frame
no_frame = record { name = root_name; ty = 0; later = None }

abbrev pub frames_of : List Node → List Frame
frames_of ns = map frame_of ns

abbrev pub frame_at : List Node → ℕ → Frame
frame_at ns i = get_or (frames_of ns) i no_frame

abbrev pub link_at : List Node → ℕ → Link
link_at ns i = get_or (map (λ (n : Node). n.header.link) ns) i Out

abbrev pub lo_at : List Node → ℕ → ℕ
lo_at ns i = get_or (map (λ (n : Node). n.row.lo.0) ns) i 0

abbrev pub hi_at : List Node → ℕ → ℕ
hi_at ns i = get_or (map (λ (n : Node). n.row.hi.0) ns) i 0

-- all rows are rows over the places
abbrev pub AreRows : List ℕ → List Node → Type 0
AreRows qs ns = AllRows (rank qs) (length qs) (values_of ns)

abbrev pub chart : List ℕ → List Node → Chart
chart qs ns = chart_of (rank qs) (values_of ns)

abbrev pub lives : List ℕ → List Node → Lives
lives qs ns = record {
  count = length ns;
  lo = λ i. rank qs (lo_at ns i);
  hi = λ i. rank qs (hi_at ns i);
  name = λ i. (frame_at ns i).name;
  later = λ i. (frame_at ns i).later;
}

-- a node is there and lives at a position
pub record IsAlive (qs : List ℕ) (ns : List Node) (x n : ℕ) : Type 0 where
  pub there : x < length ns
  pub low : (d : Row) → rank qs (row_at ns x d).lo.0 ≤ n
  pub high : (d : Row) → n < rank qs (row_at ns x d).hi.0

-- node i leads to node j of its record, which begins later and stands for the record at a position too
pub record LeadsTo (w : Lives) (i n j : ℕ) : Type 0 where
  pub live : IsLive w j n
  pub name : w.name j ≡ w.name i
  pub later : w.lo i < w.lo j

-- a slot of a node is there, and the node lives at a position
pub record IsSlot (qs : List ℕ) (ns : List Node) (x slot n : ℕ) : Type 0 where
  pub alive : IsAlive qs ns x n
  pub slot_there : (d : Row) → slot < width_of (row_at ns x d)

-- the segment of a slot that covers a position: from place a to place c, without c
pub record IsSegmentAt (qs : List ℕ) (ns : List Node) (x slot n a c : ℕ) : Type 0 where
  pub segment : IsSegmentOf (chart qs ns) x slot (rank qs a) (rank qs c)
  pub begun : rank qs a ≤ n
  pub not_over : n < rank qs c
  pub low : (d : Row) → rank qs (row_at ns x d).lo.0 ≤ rank qs a
  pub high : (d : Row) → rank qs c ≤ rank qs (row_at ns x d).hi.0

-- a slot of node y holds the entry of the field f of node z at a position, or the entry of this field of node x
abbrev pub HoldsEntryOf : List ℕ → List Node → (y slot n x z f : ℕ) → Type 0
HoldsEntryOf qs ns y slot n x z f = renamed x z ((chart qs ns).holds y slot n) ≡ From z f

-- ---- types

-- the number of a node's type
abbrev pub type_no : List Node → ℕ → TypeNo
type_no ns x = record { 0 = (frame_at ns x).ty }

-- the type of a node
abbrev pub type_of : List TypeShape → List Node → ℕ → TypeShape
type_of types ns x = type_at types (type_no ns x)

-- the type of a node is there, and its row has the slots of it
pub record IsTyped (types : List TypeShape) (ns : List Node) (x : ℕ) : Type 0 where
  pub there : (frame_at ns x).ty < length types
  pub width : (d : Row) → width_of (row_at ns x d) ≡ slot_count (type_of types ns x)

-- ---- inverse slots of a node at a position

-- one of them that holds no entry of another field than the field f of node i
pub record IsOpenSlot (types : List TypeShape) (qs : List ℕ) (ns : List Node) (x n i f s : ℕ) : Type 0 where
  pub inverse : IsInverse (type_of types ns x) s
  pub available : is_other_entry i f ((chart qs ns).holds x s n) ≡ false

-- each of them holds the entry of another field than the field f of node i
abbrev pub AreFullApart : List TypeShape → List ℕ → List Node → ℕ → ℕ → ℕ → ℕ → Type 0
AreFullApart types qs ns x n i f = (s : ℕ) → IsInverse (type_of types ns x) s → is_other_entry i f ((chart qs ns).holds x s n) ≡ true
