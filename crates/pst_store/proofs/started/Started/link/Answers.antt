use Rattle.std.proofs.Common.{ap, inl, inr, ◌∙◌}
use Rattle.pst_store_meaning.specs.Store.{Stored}
use Rattle.pst_store_meaning.proofs.Around.{unchanged_after}
use Rattle.pst_store.proofs.Around.{may_still, link_around, linked_around, refused_around}
use Rattle.pst_store.proofs.Stores.{on_err}
use Rattle.pst_store.proofs.Stamping.{only_split}
use Rattle.pst_store.proofs.started.Started.link.Goals as goal

pub stamp_target-requires : goal.stamp_target-requires
stamp_target-requires g c = may_still c.args.self.now c.repair.new.self c.args.at c.args.r c.args.q c.args.field.0 c.repair.ensures.same c.repair.ensures.stays c.requires

pub returns-in_err-repair-clause-err : goal.returns-in_err-repair-clause-err
returns-in_err-repair-clause-err g c = on_err _ _ (inl c.repair.ensures.same)

pub returns-in_err-done-clause-err : goal.returns-in_err-done-clause-err
returns-in_err-done-clause-err g c = on_err _ _ (inl (unchanged_after _ _ _ c.repair.ensures.same c.in_err-done.ensures.err))

pub returns-then-not-done-clause-rested : goal.returns-then-not-done-clause-rested
returns-then-not-done-clause-rested g c = ap (λ (s : Stored). s.noted.queue) (c.in_ok-done.ensures.full c.if-not-done.true).1 ∙ c.in_ok-repair.ensures.rested

pub returns-then-not-done-clause-full : goal.returns-then-not-done-clause-full
returns-then-not-done-clause-full g c = λ u. refused_around c.args.self.now c.repair.new.self c.args.at c.args.r c.args.q c.args.field.0
    c.repair.ensures.same c.repair.ensures.stays c.requires c.stamp_target.new.self (c.in_ok-done.ensures.full c.if-not-done.true).0
    (c.in_ok-done.ensures.full c.if-not-done.true).1

pub returns-in_err-repair-2-clause-err : goal.returns-in_err-repair-2-clause-err
returns-in_err-repair-2-clause-err g c =
    on_err _ _ (inr (link_around c.args.self.now c.repair.new.self c.args.at c.args.r c.args.q c.args.field.0 c.repair.ensures.same
    c.repair.ensures.stays c.requires c.stamp_target.new.self c.repair-2.new.self (c.in_ok-done.ensures.written c.if-not-done.false).0
    c.repair-2.ensures.same))

pub returns-clause-written : goal.returns-clause-written
returns-clause-written g c =
    λ u. linked_around c.args.self.now c.repair.new.self c.args.at c.args.r c.args.q c.args.field.0 c.repair.ensures.same c.repair.ensures.stays
    c.requires c.stamp_target.new.self c.repair-2.new.self (c.in_ok-done.ensures.written c.if-not-done.false) c.repair-2.ensures.same
    c.repair-2.ensures.stays

pub returns-in_err-repair-clause-stamps : goal.returns-in_err-repair-clause-stamps
returns-in_err-repair-clause-stamps g c = only_split 6 c.args.self.now c.repair.new.self c.repair.ensures.splits
