-- What a write of one slot means for what a store sees.
use Rattle.std.specs.Prelude.{◌≡◌, ℕ, ℤ, ◌+◌, ◌<◌, List, map, length}
use Rattle.pst_base.specs.declared.shape.TypeShape.{TypeShape}
use Rattle.pst_order.specs.Places.{rank}
use Rattle.pst_rows.specs.declared.content.Content.TheVariants.{Number}
use Rattle.pst_rows.specs.declared.row.Row.{Row}
use Rattle.pst_rows.specs.Rows.{stamped_count}
use Rattle.pst_mirror.specs.Charts.{IsSlotSet, AllRows}
use Rattle.pst_nodes.specs.declared.node.Node.{Node}
use Rattle.pst_nodes.specs.Arena.{row_at, chart, AreRows, IsTyped}
use Rattle.pst_nodes.specs.Changes.{IsTouched, added}
use Rattle.pst_store_meaning.specs.Store.{Node as Seen, arena_of, AreWide}
use Rattle.pst_store_meaning.specs.Changes.{IsNumberSet}
use Rattle.pst_store_meaning.specs.Steps.{HasGrownBy}
use Rattle.pst_repair.specs.Seen.{seen}

-- what the arena's set_over promises, of a number
pub record IsNumberPut (qs : List ℕ) (old new : List Node) (x f b : ℕ) (v : ℤ) : Type 0 where
  pub there : x < length old
  pub set : IsSlotSet (chart qs old) (chart qs new) x f b (Number v)
  pub rows : AreRows qs new
  pub touched : IsTouched 2 old new x
  pub stamped : (d : Row) → stamped_count (row_at new x d) ≡ stamped_count (row_at old x d) + added (chart qs old) x f b

-- what a store's law asks for
pub record IsNumberSeen (types : List TypeShape) (qs : List ℕ) (old new : List Seen) (x f b : ℕ) (v : ℤ) : Type 0 where
  pub rows : AllRows (rank qs) (length qs) (map (λ (n : Seen). n.row) new)
  pub wide : AreWide types new
  pub set : IsNumberSet (arena_of (rank qs) old) (arena_of (rank qs) new) x f b v
  pub grown : HasGrownBy types old new 2

abbrev pub NumbersAreSet : Type 0
NumbersAreSet = (types : List TypeShape) (qs : List ℕ) (old new : List Node) (x f b : ℕ) (v : ℤ) → IsNumberPut qs old new x f b v → ((i : ℕ) → i < length old → IsTyped types old i) → IsNumberSeen types qs (seen old) (seen new) x f b v
