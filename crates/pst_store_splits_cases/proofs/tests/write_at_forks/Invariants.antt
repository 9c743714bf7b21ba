use Rattle.std.proofs.Common.{All, ◌-◌}
use Rattle.pst_store_splits_cases.specs.Trials.{HoldsNumber, IsReady}
use Rattle.pst_store_splits_cases.proofs.tests.write_at_forks.Given as goal

abbrev pub invariant-loop-n : goal.invariant-loop-n
invariant-loop-n g l = record { ready : IsReady (g.H.HeapAt.state l.heap) l.from l.field.0 (l.times - l.n); written : All (HoldsNumber (g.H.HeapAt.state l.heap) l.field.0) l.places.items }
