use Rattle.std.proofs.Common.{rules}
use Rattle.pst_store.proofs.Stores.{on_err}
use Rattle.pst_store.proofs.Forks.{publish_few, publish_place, publish_index, published_kept, published_done, unpublished}
use Rattle.pst_store.proofs.started.Started.make_version.Goals as goal

pub root-root-requires : goal.root-root-requires
root-root-requires g c =
    publish_place _ _ c.args.parent c.args.run c.args.at c.self.view_is c.self.invariant c.requires.there c.requires.forked

pub publish-requires-clause-few : goal.publish-requires-clause-few
publish-requires-clause-few g c =
    publish_few _ _ c.args.parent c.args.run c.args.at c.self.view_is c.self.invariant c.requires.there c.requires.forked

pub returns-in_err-version-clause-err : goal.returns-in_err-version-clause-err
returns-in_err-version-clause-err g c =
    on_err _ _ (unpublished _ _ _ c.self.view_is c.in_err-version.ensures.err)

pub mark_published-requires : goal.mark_published-requires
mark_published-requires g c =
    let below = publish_index _ _ c.args.parent c.args.run c.args.at c.self.view_is c.self.invariant c.requires.there c.requires.forked in search rules

pub invariant_of-self-2 : goal.invariant_of-self-2
invariant_of-self-2 g c =
    published_kept _ _ c.args.parent c.args.run c.args.at c.self.view_is c.self.invariant c.requires.there c.requires.forked
    c.mark_published.ensures.fork _ _ c.mark_published.ensures.read c.in_ok-version.ensures.ok c.mark_published.ensures.set_in

pub returns-clause-ok : goal.returns-clause-ok
returns-clause-ok g c =
    published_done _ _ c.args.parent c.args.run c.args.at c.self.view_is c.self.invariant c.requires.there c.requires.forked
    c.mark_published.ensures.fork _ _ c.mark_published.ensures.read c.in_ok-version.ensures.ok c.mark_published.ensures.set_in
    c.in_ok-version.version.0 c.in_ok-version.ensures.number
