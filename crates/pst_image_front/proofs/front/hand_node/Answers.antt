use Rattle.std.proofs.Common.{false}
use Rattle.pst_image_front.specs.Front.{Promise, counted, node}
use Rattle.pst_image_front.proofs.Promises.{told_true, told_false, told_then}
use Rattle.pst_image_front.proofs.Handing.{on_then, on_as}
use Rattle.pst_image_front.proofs.front.hand_node.Goals as goal

-- behind the six numbers
abbrev lists : Promise → Promise
lists behind = counted 8 (counted 24 behind)

pub returns-in-Ok-false-clause-told : goal.returns-in-Ok-false-clause-told
returns-in-Ok-false-clause-told g c = λ behind. told_false c.in-Ok-false.field-0 (node behind) (lists behind) _ _ c.in-Ok-false.field-0-test (c.in-Ok-false.ensures.told (lists behind))

pub returns-in-Err-clause-told : goal.returns-in-Err-clause-told
returns-in-Err-clause-told g c = λ behind. c.in-Err.ensures.told (lists behind)

pub returns-in-Ok-false-hand_counted-clause-on : goal.returns-in-Ok-false-hand_counted-clause-on
returns-in-Ok-false-hand_counted-clause-on g c =
    on_as _ _ _ _ _ _ _ (on_then c.in-Ok-true.field-0 _ _ _ _ _ _ c.in-Ok-true.ensures.on _ _ _ _ c.in-Ok-false-hand_counted.ensures.on) false

pub returns-in-Ok-false-hand_counted-clause-told : goal.returns-in-Ok-false-hand_counted-clause-told
returns-in-Ok-false-hand_counted-clause-told g c = λ behind p.
    told_false c.in-Ok-false-hand_counted.field-0 (lists behind) (counted 24 behind) _ _ c.in-Ok-false-hand_counted.field-0-test (c.in-Ok-false-hand_counted.ensures.told (counted 24 behind))
    (told_true c.in-Ok-true.field-0 (node behind) (lists behind) _ _ c.in-Ok-true.field-0-test (c.in-Ok-true.ensures.told (lists behind)) p)

pub returns-in-Err-hand_counted-clause-on : goal.returns-in-Err-hand_counted-clause-on
returns-in-Err-hand_counted-clause-on g c = on_then c.in-Ok-true.field-0 _ _ _ _ _ _ c.in-Ok-true.ensures.on _ _ _ _ c.in-Err-hand_counted.ensures.on

pub returns-in-Err-hand_counted-clause-told : goal.returns-in-Err-hand_counted-clause-told
returns-in-Err-hand_counted-clause-told g c = λ behind p.
    c.in-Err-hand_counted.ensures.told (counted 24 behind)
    (told_true c.in-Ok-true.field-0 (node behind) (lists behind) _ _ c.in-Ok-true.field-0-test (c.in-Ok-true.ensures.told (lists behind)) p)

pub returns-clause-on : goal.returns-clause-on
returns-clause-on g c =
    on_then c.in-Ok-true.field-0 _ _ _ _ _ _ c.in-Ok-true.ensures.on _ _ _ _
    (on_then c.in-Ok-true-hand_counted.field-0 _ _ _ _ _ _ c.in-Ok-true-hand_counted.ensures.on c.hand_counted-2.result _ _ _ c.hand_counted-2.ensures.on)

pub returns-clause-told : goal.returns-clause-told
returns-clause-told g c = λ behind.
    told_then c.hand_counted-2.result (node behind) (counted 24 behind) behind _ _ _
    (λ p. told_true c.in-Ok-true-hand_counted.field-0 (lists behind) (counted 24 behind) _ _ c.in-Ok-true-hand_counted.field-0-test (c.in-Ok-true-hand_counted.ensures.told (counted 24 behind))
    (told_true c.in-Ok-true.field-0 (node behind) (lists behind) _ _ c.in-Ok-true.field-0-test (c.in-Ok-true.ensures.told (lists behind)) p))
    (c.hand_counted-2.ensures.told behind)
