use Rattle.std.proofs.Common.{◌≡◌, ◌-◌, map, take, drop}
use Rattle.pst_linerun.proofs.answer.parents.Given as goal

abbrev pub invariant-loop-version : goal.invariant-loop-version
invariant-loop-version g l = l.items.items ≡ map (λ row. row.parent) (take (l.version - 1) (drop 1 (g.S.HeapAt.state l.store).versions))
