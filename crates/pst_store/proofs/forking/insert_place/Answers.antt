use Rattle.std.proofs.Common.{refl, sym, ap, subst, inl, inr}
use Rattle.pst_order.specs.Places.{IsInsertedAfter}
use Rattle.pst_store.proofs.Forks.{in_after, after_few}
use Rattle.pst_store.proofs.Stores.{on_err}
use Rattle.pst_store.proofs.forking.insert_place.Goals as goal

pub insert_after-requires-2-clause-in_list : goal.insert_after-requires-2-clause-in_list
insert_after-requires-2-clause-in_list g c = in_after _ _ _ _ c.requires.in_list c.in_ok-end.ensures.ok

pub insert_after-requires-2-clause-few : goal.insert_after-requires-2-clause-few
insert_after-requires-2-clause-few g c = after_few _ _ _ _ _ c.requires.in_list c.in_ok-end.ensures.ok c.requires.few

pub returns-in_err-end-clause-err : goal.returns-in_err-end-clause-err
returns-in_err-end-clause-err g c = on_err _ _ (inl (ap g.O.Order.places c.in_err-end.ensures.err))

pub returns-in_err-begin-clause-err : goal.returns-in_err-begin-clause-err
returns-in_err-begin-clause-err g c =
    on_err _ _ (inr (
      c.in_ok-end.end.0,
      subst (λ o. IsInsertedAfter (g.O.Order.places c.args.order.now) (g.O.Order.places o) c.args.behind.0
          c.in_ok-end.end.0) (sym c.in_err-begin.ensures.err) c.in_ok-end.ensures.ok,
    ))

pub returns-clause-ok : goal.returns-clause-ok
returns-clause-ok g c = record { number = refl; mid = _; end_in = c.in_ok-end.ensures.ok; begin_in = c.in_ok-begin.ensures.ok }
