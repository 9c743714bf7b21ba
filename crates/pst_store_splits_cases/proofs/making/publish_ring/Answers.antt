use Rattle.pst_store_splits_cases.proofs.Rings.{fork_open, some_version}
use Rattle.pst_store_splits_cases.proofs.making.publish_ring.Goals as goal

pub publish-requires-clause-there : goal.publish-requires-clause-there
publish-requires-clause-there g c = some_version _ _ _ c.args.from c.in_ok-at.at c.requires.version.0 c.in_ok-at.ensures.ok c.link_two.ensures.keeps c.requires.version.1 c.requires.version.2

pub publish-requires-clause-forked : goal.publish-requires-clause-forked
publish-requires-clause-forked g c = fork_open _ _ _ c.args.from c.in_ok-at.at c.requires.version.0 c.in_ok-at.ensures.ok c.link_two.ensures.keeps c.requires.version.1 c.requires.version.2
