use Rattle.std.proofs.Common.{All, ◌≡◌}
use Rattle.pst_store_meaning.specs.Store.{state_of}
use Rattle.pst_store_splits_cases.specs.Rings.{HasRing}
use Rattle.pst_store_splits_cases.proofs.repeated.make_versions.Given as goal

-- the ring stands at the last version and at those before it
abbrev pub invariant-loop-n : goal.invariant-loop-n
invariant-loop-n g l = record {
  last : HasRing (state_of l.store) l.fn.ring.2 l.fn.ring.3 l.last.1;
  first : l.last.2 ≡ l.fn.ring.2;
  second : l.last.3 ≡ l.fn.ring.3;
  places : All (HasRing (state_of l.store) l.fn.ring.2 l.fn.ring.3) l.places.items;
}
