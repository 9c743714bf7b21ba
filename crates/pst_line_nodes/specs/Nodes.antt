-- The nodes of a store as a line.
use Rattle.std.specs.Prelude.{◌≡◌, ℕ, zero, suc, ◌<◌, ◌≤◌, Bool, true, List, [], ◌∷◌, length, get_or, Option, Some, None, slice_get, ◌==◌, ◌&&◌, if◌then◌else◌}
use Rattle.std.specs.Option.{option_map}
use Rattle.pst_base.specs.Name.{root_name}
use Rattle.pst_base.specs.declared.shape.TypeShape.{TypeShape}
use Rattle.pst_base.specs.Shape.{root_type, type_at, element_count}
use Rattle.pst_line_nodes.specs.declared.content.Content.{Content}
use Rattle.pst_line_nodes.specs.declared.content.Content.TheVariants.{Null}
use Rattle.pst_line_nodes.specs.declared.content.Entry.{Entry}
use Rattle.pst_line_nodes.specs.Line.{Line}
use Rattle.pst_line_nodes.specs.Changes.{IsSet}
use Rattle.pst_line_nodes.specs.Seen.{Seen}
use Rattle.pst_line_nodes.specs.Rows.{holds, since, IsRow}

-- what the node with a number has, or something else where there is none
abbrev pub of_node : {A : Type 0} → (Seen → A) → A → List Seen → ℕ → A
of_node f other [] i = other
of_node f other (n ∷ ns) zero = f n
of_node f other (n ∷ ns) (suc i) = of_node f other ns i

abbrev pub pair_of : Option Entry → Option (ℕ × ℕ)
pair_of e = option_map (λ e. (e.node.0, e.slot.0)) e

abbrev pub entry_of : Seen → ℕ → Option (ℕ × ℕ)
entry_of n s = pair_of (get_or n.inverse s None)

-- an entry of the node x as one of its copy z
abbrev pub entry_renamed : ℕ → ℕ → Option Entry → Option Entry
entry_renamed x z None = None
entry_renamed x z (Some e) = if e.node.0 == x then Some (record { node = record { 0 = z }; slot = e.slot }) else Some e

-- an entry, unless it is that of the field (x, f)
abbrev pub entry_without : ℕ → ℕ → Option Entry → Option Entry
entry_without x f None = None
entry_without x f (Some e) = if (e.node.0 == x) && (e.slot.0 == f) then None else Some e

-- where `made` tells for each first node of a record whether the record is of a version or of the open run
abbrev pub line_of : (ℕ → Bool) → List Seen → Line
line_of made nodes = record {
  count = length nodes;
  home = of_node (λ n. n.home) 0 nodes;
  name = of_node (λ n. n.name) root_name nodes;
  ty = of_node (λ n. n.ty) root_type nodes;
  made = λ i. made (of_node (λ n. n.home) 0 nodes i);
  first = of_node (λ n. n.first) 0 nodes;
  later = of_node (λ n. n.later) None nodes;
  stamped = of_node (λ n. length n.stamped) 0 nodes;
  holds = λ i g n. of_node (λ d. holds d g n) Null nodes i;
  since = λ i g. of_node (λ d. since d g) 0 nodes i;
  entry = λ i s. of_node (λ d. entry_of d s) None nodes i;
}

-- What a node keeps: its stamps rise, and it has a base for each field; a newest node has an inverse slot for each pointer
-- that its limit allows, and an older one has none.
pub record IsKept (shape : List TypeShape) (t : ℕ) (n : Seen) : Type 0 where
  pub row : IsRow t n
  pub width : length n.base ≡ element_count (type_at shape n.ty)
  pub slots : n.later ≡ None → length n.inverse ≡ (type_at shape n.ty).limit
  pub bare : (j : ℕ) → n.later ≡ Some j → n.inverse ≡ []

pub record AreKept (shape : List TypeShape) (t : ℕ) (nodes : List Seen) : Type 0 where
  pub each : (i : ℕ) (n : Seen) → slice_get nodes i ≡ Some n → IsKept shape t n

abbrev pub HasSlot : List Seen → ℕ → ℕ → Type 0
HasSlot nodes x slot = (n : Seen) → slice_get nodes x ≡ Some n → slot < length n.base

-- a field is written, and no entry changes; at most one value is stamped, and none where the newest segment begins at t
pub record IsFieldSet (old new : Line) (x f t : ℕ) (c : Content) : Type 0 where
  pub more : ℕ
  pub set : IsSet old new x f t c more
  pub replaced : old.since x f ≡ t → more ≡ 0
  pub entry : (y s : ℕ) → new.entry y s ≡ old.entry y s

-- the node after a node is of its record, and begins later
pub record AreLinked (w : Line) : Type 0 where
  pub next : (i j : ℕ) → i < w.count → w.later i ≡ Some j → (j < w.count) × (w.home j ≡ w.home i) × (w.first i < w.first j)

-- the node after a node, which begins by a stamp
pub record IsNext (nodes : List Seen) (id at next : ℕ) : Type 0 where
  pub later : (line_of (λ i. true) nodes).later id ≡ Some next
  pub there : next < length nodes
  pub first : (line_of (λ i. true) nodes).first next ≤ at
