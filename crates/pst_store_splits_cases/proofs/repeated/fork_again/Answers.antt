use Rattle.std.proofs.Common.{rules}
use Rattle.pst_versions.proofs.StateLemmas.{Grows_trans}
use Rattle.pst_store_splits_cases.proofs.Repeats.{fork_is_open, fork_stamped}
use Rattle.pst_store_splits_cases.proofs.Rings.{version_published}
use Rattle.pst_store_splits_cases.proofs.repeated.fork_again.Goals as goal

pub make_fork-requires-clause-published : goal.make_fork-requires-clause-published
make_fork-requires-clause-published g c = version_published _ c.args.version.0 c.args.from c.whole.ensures (search rules)

pub returns-in-Ok-clause-stamped : goal.returns-in-Ok-clause-stamped
returns-in-Ok-clause-stamped g c = fork_stamped _ _ _ c.args.from c.in-Ok.at c.loop.invariant c.in-Ok.ensures.ok

pub returns-in-Ok-clause-open : goal.returns-in-Ok-clause-open
returns-in-Ok-clause-open g c = fork_is_open _ _ c.args.from c.in-Ok.at c.in-Ok.ensures.ok

pub loop-preserved : goal.loop-preserved
loop-preserved g c = Grows_trans _ _ _ c.loop.invariant c.in-Err.ensures.err.grows
