-- What a pointer put in or taken away means for what a store sees.
use Rattle.std.specs.Prelude.{ℕ, ◌<◌, List, length}
use Rattle.pst_base.specs.declared.shape.TypeShape.{TypeShape}
use Rattle.pst_order.specs.Places.{rank}
use Rattle.pst_mirror.specs.Mirror.{IsLinked, IsUnlinked}
use Rattle.pst_nodes.specs.declared.node.Node.{Node}
use Rattle.pst_nodes.specs.Arena.{chart, IsTyped}
use Rattle.pst_nodes.specs.Changes.{AreTouched}
use Rattle.pst_store_meaning.specs.Store.{Node as Seen, arena_of, AreWide}
use Rattle.pst_store_meaning.specs.Changes.{IsPointerPut, IsPointerTaken}
use Rattle.pst_store_meaning.specs.Steps.{HasGrownBy}
use Rattle.pst_repair.specs.Seen.{seen}

-- two slots were set over one position: rows as wide as they were, and four stamped values more at most
pub record IsPairSeen (types : List TypeShape) (old new : List Seen) : Type 0 where
  pub wide : AreWide types new
  pub grown : HasGrownBy types old new 4

-- where the arena links, a store sees a pointer put in
abbrev pub LinksAreSeen : Type 0
LinksAreSeen = (types : List TypeShape) (qs : List ℕ) (old new : List Node) (x f y s b : ℕ) → x < length old → y < length old → IsLinked (chart qs old) (chart qs new) x f y s b → AreTouched qs old new x f y s b → ((i : ℕ) → i < length old → IsTyped types old i) →
    IsPointerPut (arena_of (rank qs) (seen old)) (arena_of (rank qs) (seen new)) x f y s b × IsPairSeen types (seen old) (seen new)

-- where it unlinks, one taken away
abbrev pub UnlinksAreSeen : Type 0
UnlinksAreSeen = (types : List TypeShape) (qs : List ℕ) (old new : List Node) (x f y s b : ℕ) → x < length old → y < length old → IsUnlinked (chart qs old) (chart qs new) x f y s b → AreTouched qs old new x f y s b → ((i : ℕ) → i < length old → IsTyped types old i) →
    IsPointerTaken (arena_of (rank qs) (seen old)) (arena_of (rank qs) (seen new)) x f y s b × IsPairSeen types (seen old) (seen new)
