use Rattle.std.proofs.Common.{All, sym, subst}
use Rattle.pst_store_meaning.specs.Store.{state_of}
use Rattle.pst_store_splits_cases.specs.Rings.{HasRing}
use Rattle.pst_store_splits_cases.proofs.Rings.{rings_grow}
use Rattle.pst_store_splits_cases.proofs.one_split.split.Goals as goal

pub readings-requires-2 : goal.readings-requires-2
readings-requires-2 g c = rings_grow _ _ c.args.ring.2 c.args.ring.3 _ c.repair.ensures.same.keeps.grows
    (subst (λ ps. All (HasRing (state_of c.stamp_all.new.store) c.args.ring.2 c.args.ring.3) ps) (sym c.as_slice-2.ensures.value) c.in_ok-places.ensures)
