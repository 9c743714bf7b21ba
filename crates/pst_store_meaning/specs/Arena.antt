-- The nodes of a store, as laws see them: by node number and position of the order list (the fat nodes of Driscoll,
-- Sarnak, Sleator and Tarjan), and the ordinary heap that they denote at each position.
use Rattle.pst_mirror.specs.Kinds.{HasKind}
use Rattle.std.specs.Prelude.{◌≡◌, ℕ, ◌+◌, ◌<◌, Bool, false, ◌&&◌, nat_lt, nat_le, List, length, Option, Some, None}
use Rattle.pst_base.specs.declared.names.TypeNo.{TypeNo}
use Rattle.pst_base.specs.declared.names.Name.{Name}
use Rattle.pst_base.specs.declared.shape.TypeShape.{TypeShape}
use Rattle.pst_base.specs.Name.{root_name}
use Rattle.pst_base.specs.Shape.{type_at, root_type}
use Rattle.pst_base.specs.Below.{listed}
use Rattle.pst_base.specs.Showing.{Showing, heap_shown}
use Rattle.pst_base.specs.Heap.{Rec, Heap}
use Rattle.pst_rows.specs.Contents.{number}
use Rattle.pst_rows.specs.declared.content.Content.{Content}
use Rattle.pst_rows.specs.declared.content.Content.TheVariants.{Number, Null, Free, Target as TargetOf, From as FromOf}
use Rattle.pst_mirror.specs.Mirror.{Chart, IsMirrored, IsSteady}
use Rattle.pst_mirror.specs.Lives.{Lives, AreChained as AreLivesChained, IsIn as IsInLife, IsLive as IsLifeLive}

-- of each node: its record's name and type, where it begins and ends, the node that comes after it, how many values are
-- stamped in it, and what its slots hold
pub record Arena : Type 0 where
  pub count : ℕ
  pub name : ℕ → Name
  pub ty : ℕ → TypeNo
  pub lo : ℕ → ℕ
  pub hi : ℕ → ℕ
  pub later : ℕ → Option ℕ
  pub stamped : ℕ → ℕ
  pub chart : Chart

-- where each node begins and ends, of which record it is, and which node comes after it
abbrev pub lives_of : Arena → Lives
lives_of w = record { count = w.count; lo = w.lo; hi = w.hi; name = w.name; later = w.later }

-- the position is in the life of the node
abbrev pub IsIn : Arena → ℕ → ℕ → Type 0
IsIn w i n = IsInLife (lives_of w) i n

abbrev pub is_in : Arena → ℕ → ℕ → Bool
is_in w i n = nat_lt i w.count && (nat_le (w.lo i) n && nat_lt n (w.hi i))

-- ---- the heap at a position

-- a stored node number stands for the record's name
abbrev pub denoted : (ℕ → Name) → Content → Option Name
denoted name (Number n) = None
denoted name Null = None
denoted name (TargetOf y) = Some (name y.0)
denoted name Free = None
denoted name (FromOf y f) = None

-- the record of a type with these contents of its slots
abbrev pub record_of : List TypeShape → TypeNo → (ℕ → Name) → (ℕ → Content) → Rec
record_of shape ty name slots = record {
  ty = ty;
  values = listed (type_at shape ty).values (λ g. number (slots g));
  pointers = listed (length (type_at shape ty).targets) (λ k. denoted name (slots ((type_at shape ty).values + k)));
}

-- the record that a node shows at a position
abbrev pub record_at : List TypeShape → Arena → ℕ → ℕ → Rec
record_at shape w i n = record_of shape (w.ty i) w.name (λ g. w.chart.holds i g n)

-- what the nodes show at a position
abbrev pub showing : List TypeShape → Arena → ℕ → Showing
showing shape w n = record { count = w.count; shows = λ i. is_in w i n; name = w.name; rec = λ i. record_at shape w i n }

-- the heap at a position: a record for each node that lives there
abbrev pub heap_at : List TypeShape → Arena → ℕ → Heap
heap_at shape w n = heap_shown (showing shape w n)

-- ---- the nodes of one record

-- the nodes of a record cover its life without gap or overlap, in the order of `later`
abbrev pub AreChained : Arena → Type 0
AreChained w = AreLivesChained (lives_of w)

-- a node number stands for a record that lives at a position
abbrev pub IsLive : Arena → ℕ → ℕ → Type 0
IsLive w i n = IsLifeLive (lives_of w) i n

-- What is so of every arena that is made of rows: what is held changes at edges alone, and outside the life of a node
-- each of its slots holds Null.
pub record IsDrawn (w : Arena) : Type 0 where
  pub steady : IsSteady w.chart
  pub outside : (i g n : ℕ) → is_in w i n ≡ false → w.chart.holds i g n ≡ Null

-- ---- the arena of a store, over positions below `end`, at which the root record ends

-- The nodes of a record are chained and have one type; pointers and entries match; what a node holds while it lives is of
-- the slot's kind; and the root record lives everywhere, and is the only one of its type.
pub record IsArena (shape : List TypeShape) (end : ℕ) (w : Arena) : Type 0 where
  pub chained : AreChained w
  pub one_type : (i j : ℕ) → i < w.count → j < w.count → w.name i ≡ w.name j → w.ty i ≡ w.ty j
  pub known : (i : ℕ) → i < w.count → (w.ty i).0 < length shape
  pub mirrored : IsMirrored w.chart
  pub kinds : (i g n : ℕ) → IsIn w i n → HasKind (type_at shape (w.ty i)) w.ty g (w.chart.holds i g n)
  pub root : (n : ℕ) → n < end → (i : ℕ) × IsIn w i n × (w.name i ≡ root_name) × (w.ty i ≡ root_type)
  pub one_root : (i : ℕ) → i < w.count → w.ty i ≡ root_type → w.name i ≡ root_name
