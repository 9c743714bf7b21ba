-- The nodes of a linear history, as laws see them: by node number and stamp (node copying of Driscoll, Sarnak, Sleator and
-- Tarjan), and the ordinary heap that they denote at each stamp. A stamp is the number of a version, or that of the run
-- that is open.
-- Letters: w is a line, i, j, x and y nodes, f and g fields, s and u inverse slots, n a stamp, t the newest one.
use Rattle.std.specs.Prelude.{◌≡◌, ◌≢◌, ℕ, suc, ◌+◌, ◌<◌, ◌≤◌, ◌⊎◌, Bool, true, false, ◌&&◌, ◌==◌, not, nat_lt, nat_le, List, length, Option, Some, None, ℤ, pos, if◌then◌else◌}
use Rattle.pst_base.specs.declared.names.TypeNo.{TypeNo}
use Rattle.pst_base.specs.declared.names.Name.{Name}
use Rattle.pst_base.specs.declared.names.Kind.TheVariants.{Pointer}
use Rattle.pst_base.specs.declared.shape.TypeShape.{TypeShape}
use Rattle.pst_base.specs.Name.{root_name}
use Rattle.pst_base.specs.Shape.{type_at, field_kind, root_type}
use Rattle.pst_base.specs.Below.{listed, sum_below}
use Rattle.pst_base.specs.Showing.{Showing, heap_shown}
use Rattle.pst_base.specs.Heap.{Rec, Heap}
use Rattle.pst_line_nodes.specs.declared.content.Content.{Content}
use Rattle.pst_line_nodes.specs.declared.content.Content.TheVariants.{Number, Null, Target as TargetOf}
use Rattle.pst_line_nodes.specs.Contents.{Target}

-- Of each node: the first node of its record; the record's name and type, and whether the record is of a version or of the
-- open run (and not of a run that was undone); the first stamp; the node that comes after it; how many values are stamped
-- in it; what each field holds at each stamp; from which stamp on its newest content is in force; and, for a newest node,
-- which pointer field each inverse slot stands for: its node and slot.
pub record Line : Type 0 where
  pub count : ℕ
  pub home : ℕ → ℕ
  pub name : ℕ → Name
  pub ty : ℕ → TypeNo
  pub made : ℕ → Bool
  pub first : ℕ → ℕ
  pub later : ℕ → Option ℕ
  pub stamped : ℕ → ℕ
  pub holds : ℕ → ℕ → ℕ → Content
  pub since : ℕ → ℕ → ℕ
  pub entry : ℕ → ℕ → Option (ℕ × ℕ)

-- ---- which stamps a node covers: from its first one up to that of `later`

abbrev pub ends_by : (ℕ → ℕ) → Option ℕ → ℕ → Bool
ends_by first None n = false
ends_by first (Some j) n = nat_le (first j) n

abbrev pub is_over : Line → ℕ → ℕ → Bool
is_over w i n = ends_by w.first (w.later i) n

pub record Covers (w : Line) (i n : ℕ) : Type 0 where
  pub there : i < w.count
  pub begun : w.first i ≤ n
  pub still : is_over w i n ≡ false

-- a node of a made record that covers the stamp
pub record IsIn (w : Line) (i n : ℕ) : Type 0 where
  pub covers : Covers w i n
  pub made : w.made i ≡ true

abbrev pub is_in : Line → ℕ → ℕ → Bool
is_in w i n = w.made i && (nat_lt i w.count && (nat_le (w.first i) n && not (is_over w i n)))

-- a newest node of its record
pub record IsNewest (w : Line) (i : ℕ) : Type 0 where
  pub there : i < w.count
  pub last : w.later i ≡ None

-- A node number stands for a record that lives at a stamp: the record is made, and the node begins by then. (No record
-- ends: the walk along `later` leads to the node that covers the stamp.)
pub record IsLive (w : Line) (i n : ℕ) : Type 0 where
  pub there : i < w.count
  pub made : w.made i ≡ true
  pub begun : w.first i ≤ n

-- ---- the heap at a stamp

-- a stored node number stands for the record's name
abbrev pub denoted : (ℕ → Name) → Content → Option Name
denoted name (Number n) = None
denoted name Null = None
denoted name (TargetOf y) = Some (name y.0)

abbrev pub number : Content → ℤ
number (Number n) = n
number Null = pos 0
number (TargetOf y) = pos 0

-- the record of a type with these contents of its fields
abbrev pub record_of : List TypeShape → TypeNo → (ℕ → Name) → (ℕ → Content) → Rec
record_of shape ty name slots = record {
  ty = ty;
  values = listed (type_at shape ty).values (λ g. number (slots g));
  pointers = listed (length (type_at shape ty).targets) (λ k. denoted name (slots ((type_at shape ty).values + k)));
}

-- the record that a node shows at a stamp
abbrev pub record_at : List TypeShape → Line → ℕ → ℕ → Rec
record_at shape w i n = record_of shape (w.ty i) w.name (λ g. w.holds i g n)

-- what the nodes show at a stamp
abbrev pub showing : List TypeShape → Line → ℕ → Showing
showing shape w n = record { count = w.count; shows = λ i. is_in w i n; name = w.name; rec = λ i. record_at shape w i n }

-- the heap at a stamp: a record for each made node that covers it
abbrev pub heap_at : List TypeShape → Line → ℕ → Heap
heap_at shape w n = heap_shown (showing shape w n)

-- ---- the rules

-- The nodes of a record: first stamps rise strictly along `later`; no two nodes of a record cover one stamp; they have the
-- record's name and type; and made records have names of their own.
pub record AreChained (w : Line) : Type 0 where
  pub next : (i j : ℕ) → i < w.count → w.later i ≡ Some j → (j < w.count) × (w.home j ≡ w.home i) × (w.first i < w.first j)
  pub apart : (i j : ℕ) → i < w.count → j < w.count → i ≢ j → w.home i ≡ w.home j → (is_over w i (w.first j) ≡ true) ⊎ (is_over w j (w.first i) ≡ true)
  pub same : (i j : ℕ) → i < w.count → j < w.count → w.home i ≡ w.home j → (w.name i ≡ w.name j) × (w.ty i ≡ w.ty j) × (w.made i ≡ w.made j)
  pub named : (i j : ℕ) → i < w.count → j < w.count → w.made i ≡ true → w.made j ≡ true → w.name i ≡ w.name j → w.home i ≡ w.home j

-- a content of the field's kind
abbrev pub HasKind : TypeShape → (ℕ → TypeNo) → ℕ → Content → Type 0
HasKind t ty g (Number n) = g < t.values
HasKind t ty g Null = t.values ≤ g
HasKind t ty g (TargetOf y) = field_kind t g ≡ Some (Pointer (ty y.0))

-- the newest node that a newest pointer to y is to hold: y, or its copy
abbrev pub onward : Option ℕ → ℕ → ℕ
onward None y = y
onward (Some z) y = z

abbrev pub newest : Line → ℕ → ℕ
newest w y = onward (w.later y) y

-- The newest pointers and the inverse slots of newest nodes match one to one. A pointer to a node that was copied stands
-- for its copy.
pub record AreMatched (shape : List TypeShape) (t : ℕ) (w : Line) : Type 0 where
  pub found : (x f y : ℕ) → IsNewest w x → w.holds x f t ≡ Target y → (s : ℕ) × (s < (type_at shape (w.ty y)).limit) × (w.entry (newest w y) s ≡ Some (x, f))
  pub back : (y s x f : ℕ) → IsNewest w y → w.entry y s ≡ Some (x, f) → IsNewest w x × ((q : ℕ) × (w.holds x f t ≡ Target q) × (newest w q ≡ y))
  pub one : (y s u x f : ℕ) → IsNewest w y → w.entry y s ≡ Some (x, f) → w.entry y u ≡ Some (x, f) → s ≡ u

-- All rules, but for the newest pointers that are still to be redirected to a copy. The newest stamp is t. A pointer
-- segment below t lies in the stretch of the node that it holds; at t the node that it holds is a newest one, or was copied
-- at t.
pub record IsLine (shape : List TypeShape) (t : ℕ) (w : Line) : Type 0 where
  pub chained : AreChained w
  pub known : (i : ℕ) → i < w.count → (w.ty i).0 < length shape
  pub first : (i : ℕ) → i < w.count → w.first i ≤ t
  pub flat : (i g n : ℕ) → i < w.count → t ≤ n → w.holds i g n ≡ w.holds i g t
  pub kinds : (i g n : ℕ) → n ≤ t → Covers w i n → HasKind (type_at shape (w.ty i)) w.ty g (w.holds i g n)
  pub segments : (i g n y : ℕ) → n < t → Covers w i n → w.holds i g n ≡ Target y → Covers w y n
  pub newest : (i g y : ℕ) → IsNewest w i → w.holds i g t ≡ Target y → (y < w.count) × IsNewest w (newest w y) × ((z : ℕ) → w.later y ≡ Some z → w.first z ≡ t)
  pub lives : (i g n y : ℕ) → n ≤ t → Covers w i n → w.holds i g n ≡ Target y → (w.made i ≡ true) × (w.made y ≡ true)
  pub matched : AreMatched shape t w
  pub root : (0 < w.count) × (w.home 0 ≡ 0) × (w.first 0 ≡ 0) × (w.name 0 ≡ root_name) × (w.ty 0 ≡ root_type) × (w.made 0 ≡ true)
  pub one_root : (i : ℕ) → i < w.count → w.made i ≡ true → w.ty i ≡ root_type → w.home i ≡ 0

-- a newest pointer to a node that was copied: it is still to be redirected
pub record IsStale (w : Line) (t i g : ℕ) : Type 0 where
  pub newest : IsNewest w i
  pub held : ℕ
  pub holds : w.holds i g t ≡ Target held
  pub copy : ℕ
  pub copied : w.later held ≡ Some copy

-- no pointer is still to be redirected: then each pointer segment lies in the stretch of the node that it holds
pub record IsQuiet (w : Line) (t : ℕ) : Type 0 where
  pub none : (i g y : ℕ) → IsNewest w i → w.holds i g t ≡ Target y → w.later y ≡ None

-- the rule on pointer segments, in full
pub record AreSegmentsInside (w : Line) (t : ℕ) : Type 0 where
  pub inside : (i g n y : ℕ) → n ≤ t → Covers w i n → w.holds i g n ≡ Target y → Covers w y n

-- ---- the potential

abbrev pub if_newest : Option ℕ → ℕ → ℕ
if_newest None k = k
if_newest (Some j) k = 0

-- the stamped values over newest nodes
abbrev pub potential : Line → ℕ
potential w = sum_below w.count (λ i. if_newest (w.later i) (w.stamped i))

-- 1 where an inverse slot stands for a pointer that does not hold the node itself, but the one that it was copied from
abbrev pub if_other : ℕ → Content → ℕ
if_other y (Number n) = 0
if_other y Null = 0
if_other y (TargetOf q) = if q.0 == y then 0 else 1

abbrev pub if_stale : Line → ℕ → ℕ → Option (ℕ × ℕ) → ℕ
if_stale w t y None = 0
if_stale w t y (Some e) = if_other y (w.holds e.0 e.1 t)

-- how many pointers are still to be redirected
abbrev pub stale_at : List TypeShape → Line → ℕ → ℕ → ℕ
stale_at shape w t y = sum_below (type_at shape (w.ty y)).limit (λ s. if_stale w t y (w.entry y s))

abbrev pub stale : List TypeShape → Line → ℕ → ℕ
stale shape w t = sum_below w.count (λ y. if_newest (w.later y) (stale_at shape w t y))

-- how many stamped values a node may have: one more than the limit
abbrev pub most : TypeShape → ℕ
most t = suc t.limit

-- nodes, stamped values and pointers still to be redirected: what the writes have paid for
abbrev pub load : List TypeShape → Line → ℕ → ℕ
load shape w t = w.count + potential w + stale shape w t
