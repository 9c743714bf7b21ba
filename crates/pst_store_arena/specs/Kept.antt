-- What an arena of fat nodes keeps: the nodes as a store sees them, and what is noted beside them.
use Rattle.std.specs.Prelude.{◌≡◌, ◌<◌, ◌≤◌, ℕ, suc, List, [], ◌∷◌, ◌++◌, length}
use Rattle.pst_base.specs.declared.names.Name.{Name}
use Rattle.pst_base.specs.declared.names.TypeNo.{TypeNo}
use Rattle.pst_base.specs.declared.shape.TypeShape.{TypeShape}
use Rattle.pst_base.specs.Shape.{type_at}
use Rattle.pst_rows.specs.declared.row.Row.{Row}
use Rattle.pst_rows.specs.Changes.{IsNewRow}
use Rattle.pst_nodes.specs.declared.links.Link.{Link}
use Rattle.pst_nodes.specs.declared.links.Link.TheVariants.{Out, Last, Before}
use Rattle.pst_nodes.specs.declared.queue.Queue.{Queue}
use Rattle.pst_nodes.specs.declared.node.Node.{Node}
use Rattle.pst_order.specs.Places.{rank}
use Rattle.pst_nodes.specs.Arena.{new_node, lives, frame_at, lo_at}
use Rattle.pst_mirror.specs.Lives.{IsIn as IsInLives}
use Rattle.pst_base.specs.Name.{root_name}
use Rattle.pst_repair.specs.Steps.{Queues}
use Rattle.pst_roots.specs.declared.roots.RootIndex.{RootIndex}
use Rattle.pst_roots.specs.Roots.{held_of}
use Rattle.pst_store_meaning.specs.declared.place.Place.{Place}
use Rattle.pst_store_meaning.specs.Store.{Node as Seen, Noted}
use Rattle.pst_repair.specs.Seen.{seen}

-- the list with a node's number before it, where the node's link is in the queue
abbrev pub waiting_with : Link → ℕ → List ℕ → List ℕ
waiting_with Out k xs = xs
waiting_with Last k xs = k ∷ xs
waiting_with (Before next) k xs = k ∷ xs

-- the numbers of the nodes whose links are in the queue, in their order, where the first node has the number k
abbrev pub waiting_from : ℕ → List Node → List ℕ
waiting_from k [] = []
waiting_from k (n ∷ ns) = waiting_with n.header.link k (waiting_from (suc k) ns)

abbrev pub waiting_of : List Node → List ℕ
waiting_of ns = waiting_from 0 ns

-- what is noted beside the nodes, where so many of them were looked at for the root index
abbrev pub noted_of : List Node → RootIndex → ℕ → Noted
noted_of ns roots looked_at = record { queue = waiting_of ns; roots = held_of roots; seen = looked_at }

pub record Kept : Type 0 where
  pub nodes : List Seen
  pub noted : Noted

abbrev pub kept_of : List Node → RootIndex → ℕ → Kept
kept_of ns roots looked_at = record { nodes = seen ns; noted = noted_of ns roots looked_at }

-- the links of the nodes hold a queue
abbrev pub AreLinked : List Node → Queue → Type 0
AreLinked ns queue = (xs : List ℕ) × Queues ns queue xs

-- a node with a new row was added, which does not wait
pub record IsRowAdded (shape : List TypeShape) (old new : List Node) (id : ℕ) (q : Name) (ty : TypeNo) (at : Place) : Type 0 where
  pub number : id ≡ length old
  pub row : Row
  pub list : new ≡ old ++ new_node q ty row ∷ []
  pub made : IsNewRow (type_at shape ty) at.begin at.end row

-- a node is one of the root record, and lives at a position
pub record IsRootAt (qs : List ℕ) (ns : List Node) (i n : ℕ) : Type 0 where
  pub inside : IsInLives (lives qs ns) i n
  pub root : (frame_at ns i).name ≡ root_name

-- a node is one of the root record, and does not begin after a position
pub record IsRootBy (qs : List ℕ) (ns : List Node) (i n : ℕ) : Type 0 where
  pub there : i < length ns
  pub begun : rank qs (lo_at ns i) ≤ n
  pub root : (frame_at ns i).name ≡ root_name
