-- How small the numbers in a node are, so that those of an image fit their types.
use Rattle.std.specs.Prelude.{◌≡◌, ℕ, ◌<◌, ◌≤◌, ◌^◌, Some, length, get_or, ⊤}
use Rattle.pst_base.specs.declared.names.NodeId.{NodeId}
use Rattle.pst_base.specs.declared.shape.TheConstants.{MOST_SLOTS}
use Rattle.pst_rows.specs.declared.content.Content.{Content}
use Rattle.pst_rows.specs.declared.content.Content.TheVariants.{Number, Null, Free, Target as TargetOf, From as FromOf}
use Rattle.pst_rows.specs.Rows.{no_stamp}
use Rattle.pst_rows.specs.Values.{base_in}
use Rattle.pst_store_meaning.specs.Store.{Node}

-- the node that a content names has a number of 56 bits: 128 times as much fits 64
abbrev pub IsSmallContent : Content → Type 0
IsSmallContent (Number n) = ⊤
IsSmallContent Null = ⊤
IsSmallContent (TargetOf y) = y.0 < 2 ^ 56
IsSmallContent Free = ⊤
IsSmallContent (FromOf x f) = x.0 < 2 ^ 56

-- a node with few slots, whose contents and whose next node have small numbers
pub record IsNarrow (n : Node) : Type 0 where
  pub slots : length n.row.slots ≤ MOST_SLOTS
  pub bases : (g : ℕ) → g < length n.row.slots → IsSmallContent (base_in n.row g)
  pub stamps : (k : ℕ) → k < length n.row.stamps → IsSmallContent (get_or n.row.stamps k no_stamp).content
  pub later : (j : NodeId) → n.head.later ≡ Some j → j.0 < 2 ^ 56
