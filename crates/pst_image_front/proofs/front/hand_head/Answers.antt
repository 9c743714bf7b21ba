use Rattle.pst_image_front.specs.Front.{Promise, counted, then_behind}
use Rattle.pst_image_front.proofs.Promises.{told_true, told_false, told_then}
use Rattle.pst_image_front.proofs.Handing.{on_then}
use Rattle.pst_image_front.proofs.front.hand_head.Goals as goal

pub returns-in-Ok-true-clause-on : goal.returns-in-Ok-true-clause-on
returns-in-Ok-true-clause-on g c = on_then c.in-Ok-true.field-0 _ _ _ _ _ _ c.in-Ok-true.ensures.on c.hand_parts.result _ _ _ c.hand_parts.ensures.on

pub returns-in-Ok-true-clause-told : goal.returns-in-Ok-true-clause-told
returns-in-Ok-true-clause-told g c = λ behind.
    let six : Promise = then_behind 48 behind in
    let magic = c.in-Ok-true in
    told_then c.hand_parts.result (counted 1 six) six behind _ _ _ (told_true magic.field-0 (counted 1 six) six _ _ magic.field-0-test (magic.ensures.told six))
    (c.hand_parts.ensures.told behind)

pub returns-in-Ok-false-clause-told : goal.returns-in-Ok-false-clause-told
returns-in-Ok-false-clause-told g c = λ behind.
    let six : Promise = then_behind 48 behind in
    told_false c.in-Ok-false.field-0 (counted 1 six) six _ _ c.in-Ok-false.field-0-test (c.in-Ok-false.ensures.told six)

pub returns-in-Err-clause-told : goal.returns-in-Err-clause-told
returns-in-Err-clause-told g c = λ behind. c.in-Err.ensures.told (then_behind 48 behind)
