use Rattle.std.proofs.Common.{ℕ, ◌+◌, ◌<◌, get_or}
use Rattle.pst_image_rules.specs.Nodes.{no_stamp, IsAfter}
use Rattle.pst_image_rules.proofs.nodes.are_sorted.Given as goal

abbrev pub invariant-loop-i : goal.invariant-loop-i
invariant-loop-i l = (j : ℕ) → j + 1 < l.i → IsAfter (get_or l.stamps j no_stamp) (get_or l.stamps (j + 1) no_stamp)
