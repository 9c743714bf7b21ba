-- A whole split.
use Rattle.std.specs.Prelude.{◌≡◌, ◌≢◌, ℕ, ◌+◌, ◌<◌, ◌≤◌, ◌⊎◌, List, length, true}
use Rattle.pst_rows.specs.declared.row.Row.{Row}
use Rattle.pst_mirror.specs.Mirror.{IsSplitWhole, names}
use Rattle.pst_mirror.specs.Lives.{IsSplitLife}
use Rattle.pst_rows.specs.Changes.{IsSplitStamp}
use Rattle.pst_rows.specs.Rows.{stamped_before, stamped_after}
use Rattle.pst_order.specs.Places.{rank}
use Rattle.pst_nodes.specs.declared.node.Node.{Node}
use Rattle.pst_nodes.specs.declared.node.Nodes.{Nodes}
use Rattle.pst_nodes.specs.declared.queue.Queue.{Queue}
use Rattle.pst_base.specs.declared.shape.TypeShape.{TypeShape}
use Rattle.pst_nodes.specs.Arena.{row_at, frame_at, chart, lives}
use Rattle.pst_repair.specs.Steps.{HasQueuedOnly}
use Rattle.pst_repair.specs.Load.{potential_of, IsOver, stamped_at, stamped_in_all, half_at}

-- a neighbour of a node: some pointer or entry in it names this node, at some position
abbrev pub IsNeighbour : List ℕ → List Node → ℕ → ℕ → Type 0
IsNeighbour qs ns x i = (s : ℕ) × (n : ℕ) × (names i ((chart qs ns).holds x s n) ≡ true)

-- one of the two halves, x and z, or a neighbour
abbrev pub IsHalfOrNeighbour : List ℕ → List Node → ℕ → ℕ → ℕ → Type 0
IsHalfOrNeighbour qs ns x z i = (i ≡ x) ⊎ ((i ≡ z) ⊎ IsNeighbour qs ns x i)

-- the queue got at most the two halves, x and z, and neighbours of x
abbrev pub HasQueuedRound : List ℕ → (old new : Nodes) → (queue queue' : Queue) → (x z : ℕ) → Type 0
HasQueuedRound qs old new queue queue' x z = HasQueuedOnly (IsHalfOrNeighbour qs old.list.items x z) old.list.items new.list.items queue queue'

-- Node x is split at a position that has at most half of its stamped values before it and at most half behind it.
pub record IsSplit (types : List TypeShape) (qs : List ℕ) (old new : List Node) (x z n : ℕ) : Type 0 where
  pub is_last : z ≡ length old
  pub one_more : length new ≡ length old + 1
  pub middle : (d : Row) → IsSplitStamp (rank qs) (row_at old x d) n
  pub whole : IsSplitWhole (chart qs old) (chart qs new) x z n
  pub life : IsSplitLife (lives qs old) (lives qs new) x n
  pub same_type : (i : ℕ) → i < length old → (frame_at new i).ty ≡ (frame_at old i).ty
  pub new_type : (frame_at new z).ty ≡ (frame_at old x).ty
  pub grown : (i : ℕ) → i ≢ x → IsOver types old i → IsOver types new i
  -- the halves keep what was stamped before and behind the position; at most half a capacity more is stamped elsewhere
  pub few : (d : Row) → stamped_in_all new + stamped_at old x ≤ stamped_in_all old + (stamped_before (rank qs) (row_at old x d) n + stamped_after (rank qs) (row_at old x d) n) + half_at types old x
  pub potential : potential_of types new + 1 ≤ potential_of types old
