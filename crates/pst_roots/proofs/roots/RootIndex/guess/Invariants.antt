use Rattle.std.proofs.Common.{◌-◌}
use Rattle.pst_roots.proofs.roots.RootIndex.guess.Given as goal

abbrev pub decreases-loop-place : goal.decreases-loop-place
decreases-loop-place g l = l.end - l.piece
