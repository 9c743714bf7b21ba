use Rattle.std.proofs.Common.{rules, ◌≡◌, ◌∙◌, ap, length}
use Rattle.pst_store.proofs.Stores.{on_err}
use Rattle.pst_store.proofs.Forks.{fork_there, fork_few, refused_kept, refused_done, stopped_kept, stopped_done, forked_kept, forked_done}
use Rattle.pst_store.proofs.started.Started.make_fork.Goals as goal

pub invariant_of-self : goal.invariant_of-self
invariant_of-self g c =
    refused_kept _ _ c.args.from c.self.view_is c.self.invariant c.requires.published c.requires.calls _ _ (λ i. g.O.Order.places c.self.inside.order) c.in_err-reserve_one.ensures.forks

pub returns-in_err-reserve_one-clause-err : goal.returns-in_err-reserve_one-clause-err
returns-in_err-reserve_one-clause-err g c =
    on_err _ _ (refused_done _ _ c.args.from c.self.view_is c.self.invariant c.requires.published c.requires.calls _ _ (λ i. g.O.Order.places c.self.inside.order) c.in_err-reserve_one.ensures.forks)

pub insert_place-requires-clause-in_list : goal.insert_place-requires-clause-in_list
insert_place-requires-clause-in_list g c =
    fork_there _ _ c.args.from c.self.view_is c.self.invariant c.requires.published c.requires.calls

pub insert_place-requires-clause-few : goal.insert_place-requires-clause-few
insert_place-requires-clause-few g c =
    fork_few _ _ c.args.from c.self.view_is c.self.invariant c.requires.published c.requires.calls

pub invariant_of-self-in_err-place : goal.invariant_of-self-in_err-place
invariant_of-self-in_err-place g c =
    stopped_kept _ _ c.args.from c.self.view_is c.self.invariant c.requires.published c.requires.calls _ _ c.in_err-place.ensures.err c.in_ok-reserve_one.ensures.forks

pub returns-in_err-place-clause-err : goal.returns-in_err-place-clause-err
returns-in_err-place-clause-err g c =
    on_err _ _ (stopped_done _ _ c.args.from c.self.view_is c.self.invariant c.requires.published c.requires.calls _ _ c.in_err-place.ensures.err c.in_ok-reserve_one.ensures.forks)

pub invariant_of-self-2 : goal.invariant_of-self-2
invariant_of-self-2 g c =
    let len : c.len-number.result ≡ length c.reserve_one.new.forks.forks = search rules in
    let count : c.len-number.result ≡ length c.self.inside.forks.forks = len ∙ ap length c.in_ok-reserve_one.ensures.forks in
    forked_kept _ _ c.args.from c.self.view_is c.self.invariant c.requires.published c.requires.calls _ c.len-number.result c.in_ok-place.place
    c.in_ok-place.ensures.ok count _ _ c.push.ensures c.in_ok-reserve_one.ensures.forks

pub returns-clause-ok : goal.returns-clause-ok
returns-clause-ok g c =
    let len : c.len-number.result ≡ length c.reserve_one.new.forks.forks = search rules in
    let count : c.len-number.result ≡ length c.self.inside.forks.forks = len ∙ ap length c.in_ok-reserve_one.ensures.forks in
    forked_done _ _ c.args.from c.self.view_is c.self.invariant c.requires.published c.requires.calls _ c.len-number.result c.in_ok-place.place
    c.in_ok-place.ensures.ok count _ _ c.push.ensures c.in_ok-reserve_one.ensures.forks
