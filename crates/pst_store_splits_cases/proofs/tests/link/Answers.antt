use Rattle.std.proofs.Common.{refl}
use Rattle.pst_store_splits_cases.proofs.StartedRings.{one_place, place_fresh, place_published, run_1}
use Rattle.pst_store_splits_cases.proofs.tests.link.Goals as goal

pub fork_and_link-requires-clause-published : goal.fork_and_link-requires-clause-published
fork_and_link-requires-clause-published g c = place_published _ _ _ (one_place _ c.args.shape.now c.in-Some.from c.in_ok-start.ensures.ok c.in-Some.ensures)

pub fork_and_link-requires-clause-first_fresh : goal.fork_and_link-requires-clause-first_fresh
fork_and_link-requires-clause-first_fresh g c = place_fresh _ _ _ (one_place _ c.args.shape.now c.in-Some.from c.in_ok-start.ensures.ok c.in-Some.ensures) _ (run_1 _ refl)

pub fork_and_link-requires-clause-second_fresh : goal.fork_and_link-requires-clause-second_fresh
fork_and_link-requires-clause-second_fresh g c = place_fresh _ _ _ (one_place _ c.args.shape.now c.in-Some.from c.in_ok-start.ensures.ok c.in-Some.ensures) _ (run_1 _ refl)
