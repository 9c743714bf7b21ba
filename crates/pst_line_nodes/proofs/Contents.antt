-- Contents that lead to nodes.
use Rattle.std.proofs.Common.{◌≡◌, ℕ, ap}
use Rattle.pst_line_nodes.specs.declared.content.Content.{Content}
use Rattle.pst_line_nodes.specs.declared.content.Content.TheVariants.{Number, Null, Target as TargetOf}
use Rattle.pst_line_nodes.specs.Contents.{Target}

-- the number of the node that a content leads to, or any
abbrev target_or : ℕ → Content → ℕ
target_or k (Number n) = k
target_or k Null = k
target_or k (TargetOf y) = y.0

-- contents that are the same lead to one node
pub one_target : (y z : ℕ) → Target y ≡ Target z → y ≡ z
one_target y z e = ap (target_or y) e
