use Rattle.pst_store_splits_cases.proofs.Rings.{ring_grows}
use Rattle.pst_store_splits_cases.proofs.Stamps.{one_ring, rings_stamped}
use Rattle.pst_store_splits_cases.proofs.one_split.stamp_all.Goals as goal

pub loop-n-init : goal.loop-n-init
loop-n-init g c = record { version = c.requires; places = one_ring _ c.args.first c.args.second c.args.from _ c.in_ok-places.ensures c.requires }

pub returns : goal.returns
returns g c = c.loop-n.invariant.places

pub loop-n-preserved : goal.loop-n-preserved
loop-n-preserved g c = record {
  version = ring_grows _ _ c.args.first c.args.second c.args.from c.in_ok-at.ensures.grows c.loop-n.invariant.version;
  places = rings_stamped _ _ c.args.first c.args.second c.args.from c.in_ok-at.at _ _ c.in_ok-at.ensures c.loop-n.invariant.version c.in-Ok.ensures.items c.loop-n.invariant.places;
}
