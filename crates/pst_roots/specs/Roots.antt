-- What an index of the root record's nodes holds, and what it answers.
use Rattle.std.specs.Prelude.{◌≡◌, ℕ, suc, ◌<◌, ◌≤◌, List, length, get_or, map, insert}
use Rattle.pst_order.specs.Places.{rank}
use Rattle.pst_order.specs.Search.{AreRising}
use Rattle.pst_nodes.specs.declared.node.Node.{Node}
use Rattle.pst_nodes.specs.Arena.{lo_at}
use Rattle.pst_roots.specs.declared.roots.RootIndex.{RootIndex}

-- the numbers of the nodes that are held, in their order
abbrev pub held_of : RootIndex → List ℕ
held_of roots = roots.pieces.nodes

-- how many nodes more it can hold without memory
abbrev pub spare_of : RootIndex → ℕ
spare_of roots = roots.pieces.spare

-- the places where they begin
abbrev pub begins_of : List Node → List ℕ → List ℕ
begins_of nodes held = map (lo_at nodes) held

-- The held nodes are there and begin in the order of the list, and the first one does not begin after a place.
pub record AreRoots (list : List ℕ) (nodes : List Node) (held : List ℕ) (at : ℕ) : Type 0 where
  pub some : 0 < length held
  pub there : (k : ℕ) → k < length held → get_or held k 0 < length nodes
  pub rising : AreRising list (begins_of nodes held) 0 (length held)
  pub first : rank list (lo_at nodes (get_or held 0 0)) ≤ rank list at

-- The held node at an index does not begin after a place, and each one behind it does.
pub record IsLastIndex (list : List ℕ) (nodes : List Node) (held : List ℕ) (at index : ℕ) : Type 0 where
  pub within : index < length held
  pub early : rank list (lo_at nodes (get_or held index 0)) ≤ rank list at
  pub late : (k : ℕ) → index < k → k < length held → rank list at < rank list (lo_at nodes (get_or held k 0))

-- A held node does not begin after a place, and each one behind it does.
pub record IsLastBefore (list : List ℕ) (nodes : List Node) (held : List ℕ) (at id : ℕ) : Type 0 where
  pub index : ℕ
  pub within : index < length held
  pub held_there : get_or held index 0 ≡ id
  pub early : rank list (lo_at nodes id) ≤ rank list at
  pub late : (k : ℕ) → index < k → k < length held → rank list at < rank list (lo_at nodes (get_or held k 0))

-- A node came directly behind the last held one that does not begin after it.
pub record IsAddedRoot (list : List ℕ) (nodes : List Node) (old new : List ℕ) (right : ℕ) : Type 0 where
  pub left : ℕ
  pub before : IsLastBefore list nodes old (lo_at nodes right) left
  pub held : new ≡ insert old (suc before.index) right
