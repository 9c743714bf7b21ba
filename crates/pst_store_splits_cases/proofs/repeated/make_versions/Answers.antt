use Rattle.std.proofs.Common.{◌∙◌}
use Rattle.pst_versions.proofs.StateLemmas.{Grows_refl}
use Rattle.pst_store_splits_cases.proofs.Repeats.{ring_stamped, rings_pushed}
use Rattle.pst_store_splits_cases.proofs.repeated.make_versions.Goals as goal

pub loop-n-preserved : goal.loop-n-preserved
loop-n-preserved g c = record {
  last = ring_stamped _ _ c.args.ring.2 c.args.ring.3 c.loop-n.last.1 c.in_ok-next.next.1 c.in_ok-next.ensures.stamped c.loop-n.invariant.last;
  first = c.in_ok-next.ensures.first ∙ c.loop-n.invariant.first;
  second = c.in_ok-next.ensures.second ∙ c.loop-n.invariant.second;
  places = rings_pushed _ _ c.args.ring.2 c.args.ring.3 c.loop-n.last.1 _ _ c.in_ok-next.ensures.stamped.grows c.loop-n.invariant.last c.in-Ok.ensures.items c.loop-n.invariant.places;
}

pub returns-in-Ok-push : goal.returns-in-Ok-push
returns-in-Ok-push g c = rings_pushed _ _ c.args.ring.2 c.args.ring.3 c.loop-n.last.1 _ _ (Grows_refl _) c.loop-n.invariant.last c.in-Ok-push.ensures.items c.loop-n.invariant.places
