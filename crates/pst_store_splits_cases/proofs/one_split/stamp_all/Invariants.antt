use Rattle.std.proofs.Common.{All}
use Rattle.pst_store_meaning.specs.Store.{state_of}
use Rattle.pst_store_splits_cases.specs.Rings.{HasRing}
use Rattle.pst_store_splits_cases.proofs.one_split.stamp_all.Given as goal

-- the ring stands at the version and at the forks so far
abbrev pub invariant-loop-n : goal.invariant-loop-n
invariant-loop-n g l = record { version : HasRing (state_of l.store) l.fn.first l.fn.second l.fn.from; places : All (HasRing (state_of l.store) l.fn.first l.fn.second) l.places.items }
