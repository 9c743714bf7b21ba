use Rattle.std.proofs.Common.{refl}
use Rattle.pst_store_splits_cases.proofs.StartedRings.{one_place, place_fresh, place_published, run_1}
use Rattle.pst_store_splits_cases.proofs.making.start_ring.Goals as goal

pub publish_ring-requires-clause-published : goal.publish_ring-requires-clause-published
publish_ring-requires-clause-published c = place_published _ _ _ (one_place _ c.args.shape.now c.in-Some.from c.in_ok-start.ensures.ok c.in-Some.ensures)

pub publish_ring-requires-clause-first_fresh : goal.publish_ring-requires-clause-first_fresh
publish_ring-requires-clause-first_fresh c = place_fresh _ _ _ (one_place _ c.args.shape.now c.in-Some.from c.in_ok-start.ensures.ok c.in-Some.ensures) _ (run_1 _ refl)

pub publish_ring-requires-clause-second_fresh : goal.publish_ring-requires-clause-second_fresh
publish_ring-requires-clause-second_fresh c = place_fresh _ _ _ (one_place _ c.args.shape.now c.in-Some.from c.in_ok-start.ensures.ok c.in-Some.ensures) _ (run_1 _ refl)
