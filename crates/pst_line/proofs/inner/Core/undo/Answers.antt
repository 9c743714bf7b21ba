use Rattle.pst_line.proofs.Back.{to_clear, to_restore, gone_held, gone_undone}
use Rattle.pst_line.proofs.inner.Core.undo.Goals as goal

pub take_back-requires : goal.take_back-requires
take_back-requires g c = (_, _, to_clear _ _ c.self.view_is c.self.invariant c.requires.open c.requires.whole _ c.stamp-stamp.ensures)

pub take_back-requires-2 : goal.take_back-requires-2
take_back-requires-2 g c = (
  _,
  _,
  to_restore _ _ c.self.view_is c.self.invariant c.requires.open c.requires.whole _ c.stamp-stamp.ensures _
      (c.take_back.ensures _ _ (to_clear _ _ c.self.view_is c.self.invariant c.requires.open c.requires.whole _ c.stamp-stamp.ensures)),
)

pub invariant_of-self : goal.invariant_of-self
invariant_of-self g c = gone_held _ _ c.self.view_is c.self.invariant c.requires.open c.requires.whole _ c.stamp-stamp.ensures _
    (c.take_back-2.ensures _ _ (to_restore _ _ c.self.view_is c.self.invariant c.requires.open c.requires.whole _ c.stamp-stamp.ensures _
    (c.take_back.ensures _ _ (to_clear _ _ c.self.view_is c.self.invariant c.requires.open c.requires.whole _ c.stamp-stamp.ensures))))
    _ c.new.ensures

pub returns-clause-undone : goal.returns-clause-undone
returns-clause-undone g c = gone_undone _ _ c.self.view_is c.self.invariant c.requires.open c.requires.whole _ c.stamp-stamp.ensures _
    (c.take_back-2.ensures _ _ (to_restore _ _ c.self.view_is c.self.invariant c.requires.open c.requires.whole _ c.stamp-stamp.ensures _
    (c.take_back.ensures _ _ (to_clear _ _ c.self.view_is c.self.invariant c.requires.open c.requires.whole _ c.stamp-stamp.ensures))))
    _ c.new.ensures
