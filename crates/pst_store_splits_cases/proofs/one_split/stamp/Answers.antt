use Rattle.std.proofs.Common.{rules}
use Rattle.pst_store_splits_cases.proofs.Rings.{version_published}
use Rattle.pst_store_splits_cases.proofs.Stamps.{stamped}
use Rattle.pst_store_splits_cases.proofs.one_split.stamp.Goals as goal

pub make_fork-requires-clause-published : goal.make_fork-requires-clause-published
make_fork-requires-clause-published g c = version_published _ c.args.version.0 c.args.from c.whole.ensures (search rules)

pub kind-requires : goal.kind-requires
kind-requires g c = c.in_ok-at.ensures.ok.live c.args.item c.requires

pub stamp_number-requires-clause-live : goal.stamp_number-requires-clause-live
stamp_number-requires-clause-live g c = c.in_ok-at.ensures.ok.live c.args.item c.requires

pub returns : goal.returns
returns g c = stamped _ _ _ c.args.from c.in_ok-at.at _ _ _ c.in_ok-at.ensures.ok c.in_ok-stamp_number.ensures.ok.0
