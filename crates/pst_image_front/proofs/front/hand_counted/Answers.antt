use Rattle.std.proofs.Common.{◌*◌, ℕ}
use Rattle.pst_image_front.specs.Front.{Promise, then_behind, counted}
use Rattle.pst_image_front.proofs.Promises.{told_some, told_none, told_then}
use Rattle.pst_image_front.proofs.Handing.{on_then}
use Rattle.pst_image_front.proofs.front.hand_counted.Goals as goal

abbrev sized : ℕ → Promise → ℕ → Promise
sized size behind n = then_behind (n * size) behind

pub returns-in-Ok-Some-clause-on : goal.returns-in-Ok-Some-clause-on
returns-in-Ok-Some-clause-on g c = on_then c.in-Ok-Some.field-0 _ _ _ _ _ _ c.in-Ok-Some.ensures.on c.hand_parts.result _ _ _ c.hand_parts.ensures.on

pub returns-in-Ok-Some-clause-told : goal.returns-in-Ok-Some-clause-told
returns-in-Ok-Some-clause-told g c = λ behind.
    told_then c.hand_parts.result (counted c.args.size behind) (then_behind (c.in-Ok-Some.count * c.args.size) behind) behind _ _ _
    (told_some c.in-Ok-Some.field-0 c.in-Ok-Some.count (sized c.args.size behind) _ _ c.in-Ok-Some.field-0-is (c.in-Ok-Some.ensures.told (sized c.args.size behind)))
    (c.hand_parts.ensures.told behind)

pub returns-in-Ok-None-clause-told : goal.returns-in-Ok-None-clause-told
returns-in-Ok-None-clause-told g c = λ behind. told_none c.in-Ok-None.field-0 (sized c.args.size behind) _ _ c.in-Ok-None.field-0-is (c.in-Ok-None.ensures.told (sized c.args.size behind))

pub returns-in-Err-clause-told : goal.returns-in-Err-clause-told
returns-in-Err-clause-told g c = λ behind. c.in-Err.ensures.told (sized c.args.size behind)
