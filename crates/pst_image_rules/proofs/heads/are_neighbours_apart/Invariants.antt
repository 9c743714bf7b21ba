use Rattle.std.proofs.Common.{ℕ, ◌+◌, ◌<◌, get_or}
use Rattle.pst_image_rules.specs.Heads.{no_head, IsApart}
use Rattle.pst_image_rules.proofs.heads.are_neighbours_apart.Given as goal

abbrev pub invariant-loop-i : goal.invariant-loop-i
invariant-loop-i l = (k : ℕ) → k + 1 < l.i → IsApart (get_or l.heads k no_head) (get_or l.heads (k + 1) no_head)
