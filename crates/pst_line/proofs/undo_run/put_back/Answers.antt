use Rattle.pst_line.proofs.Back.{ok_of, number_back_put, null_back_put, target_exists, slot_back, open_back, target_back_put}
use Rattle.pst_line.proofs.Linking.{some_of}
use Rattle.pst_line.proofs.undo_run.put_back.Goals as goal

pub cover-z-requires-clause-there : goal.cover-z-requires-clause-there
cover-z-requires-clause-there g c = target_exists _ _ _ _ _ _ c.requires.2 _ c.in-Target.is

pub unwrap-slot-requires : goal.unwrap-slot-requires
unwrap-slot-requires g c = slot_back _ _ _ _ _ _ c.requires.2 _ c.in-Target.is _ c.cover-z.ensures.covers c.cover-z.ensures.home _ c.open_slot.ensures.none

pub set_target-requires-clause-line : goal.set_target-requires-clause-line
set_target-requires-clause-line g c = open_back _ _ _ _ _ _ c.requires.2 _ c.in-Target.is _ c.cover-z.ensures.covers c.cover-z.ensures.home _ (some_of _ _ _ c.unwrap-slot.ensures c.open_slot.ensures.some)

pub returns-in-Number : goal.returns-in-Number
returns-in-Number g c = λ shape made m. number_back_put shape made _ _ _ _ m _ c.set.ensures.kept _ c.in-Number.is (ok_of _ _ _ c.unwrap.ensures c.set.ensures.ok)

pub returns-in-Null : goal.returns-in-Null
returns-in-Null g c = λ shape made m. null_back_put shape made _ _ _ _ m _ c.set_null.ensures.kept c.in-Null.is (ok_of _ _ _ c.unwrap-in-Null.ensures c.set_null.ensures.ok)

pub returns-in-Target : goal.returns-in-Target
returns-in-Target g c = λ shape made m. target_back_put shape made _ _ _ _ m _ c.in-Target.is _ c.cover-z.ensures.covers c.cover-z.ensures.home _ (some_of _ _ _ c.unwrap-slot.ensures c.open_slot.ensures.some) _ c.set_target.ensures.kept (ok_of _ _ _ c.unwrap-in-Target.ensures c.set_target.ensures.ok)
