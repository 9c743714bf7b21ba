use Rattle.pst_store_splits_cases.proofs.StartedRings.{one_place, place_published}
use Rattle.pst_store_splits_cases.proofs.tests.publish.Goals as goal

pub fork-requires-clause-published : goal.fork-requires-clause-published
fork-requires-clause-published g c = place_published _ _ _ (one_place _ c.args.shape.now c.in-Some.from c.in_ok-start.ensures.ok c.in-Some.ensures)
