use Rattle.std.proofs.Common.{◌≡◌, ◌++◌, suc, map, take, drop}
use Rattle.pst_roots.proofs.pieces.raise.Given as goal

abbrev pub invariant-loop-start : goal.invariant-loop-start
invariant-loop-start l = l.starts ≡ map suc (take l.start-index l.fn.starts) ++ drop l.start-index l.fn.starts
