use Rattle.std.proofs.Common.{false}
use Rattle.pst_image_front.specs.Front.{Promise, counted, counted_nodes, nodes, nothing, body}
use Rattle.pst_image_front.proofs.Promises.{told_true, told_false, told_some, told_none, told_then}
use Rattle.pst_image_front.proofs.Handing.{on_then, on_as, on_err}
use Rattle.pst_image_front.proofs.front.hand_body.Goals as goal

-- behind text and numbers
abbrev lists : Promise
lists = counted 32 counted_nodes

pub returns-in-Ok-false-clause-told : goal.returns-in-Ok-false-clause-told
returns-in-Ok-false-clause-told g c = told_false c.in-Ok-false.field-0 body lists _ _ c.in-Ok-false.field-0-test (c.in-Ok-false.ensures.told lists)

pub returns-in-Err-clause-told : goal.returns-in-Err-clause-told
returns-in-Err-clause-told g c = c.in-Err.ensures.told lists

pub returns-in-Ok-false-hand_counted-clause-on : goal.returns-in-Ok-false-hand_counted-clause-on
returns-in-Ok-false-hand_counted-clause-on g c =
    on_as _ _ _ _ _ _ _ (on_then c.in-Ok-true.field-0 _ _ _ _ _ _ c.in-Ok-true.ensures.on _ _ _ _ c.in-Ok-false-hand_counted.ensures.on) false

pub returns-in-Ok-false-hand_counted-clause-told : goal.returns-in-Ok-false-hand_counted-clause-told
returns-in-Ok-false-hand_counted-clause-told g c = λ p.
    told_false c.in-Ok-false-hand_counted.field-0 lists counted_nodes _ _ c.in-Ok-false-hand_counted.field-0-test (c.in-Ok-false-hand_counted.ensures.told counted_nodes)
    (told_true c.in-Ok-true.field-0 body lists _ _ c.in-Ok-true.field-0-test (c.in-Ok-true.ensures.told lists) p)

pub returns-in-Err-hand_counted-clause-on : goal.returns-in-Err-hand_counted-clause-on
returns-in-Err-hand_counted-clause-on g c = on_then c.in-Ok-true.field-0 _ _ _ _ _ _ c.in-Ok-true.ensures.on _ _ _ _ c.in-Err-hand_counted.ensures.on

pub returns-in-Err-hand_counted-clause-told : goal.returns-in-Err-hand_counted-clause-told
returns-in-Err-hand_counted-clause-told g c = λ p.
    c.in-Err-hand_counted.ensures.told counted_nodes (told_true c.in-Ok-true.field-0 body lists _ _ c.in-Ok-true.field-0-test (c.in-Ok-true.ensures.told lists) p)

pub returns-in-Ok-Some-clause-on : goal.returns-in-Ok-Some-clause-on
returns-in-Ok-Some-clause-on g c =
    on_then c.in-Ok-true.field-0 _ _ _ _ _ _ c.in-Ok-true.ensures.on _ _ _ _
    (on_then c.in-Ok-true-hand_counted.field-0 _ _ _ _ _ _ c.in-Ok-true-hand_counted.ensures.on _ _ _ _
    (on_then c.in-Ok-Some.field-0 _ _ _ _ _ _ c.in-Ok-Some.ensures.on c.hand_nodes.result _ _ _ c.hand_nodes.ensures.on))

pub returns-in-Ok-Some-clause-told : goal.returns-in-Ok-Some-clause-told
returns-in-Ok-Some-clause-told g c =
    told_then c.hand_nodes.result body (nodes c.in-Ok-Some.count) nothing _ _ _
    (λ p. told_some c.in-Ok-Some.field-0 c.in-Ok-Some.count nodes _ _ c.in-Ok-Some.field-0-is (c.in-Ok-Some.ensures.told nodes)
    (told_true c.in-Ok-true-hand_counted.field-0 lists counted_nodes _ _ c.in-Ok-true-hand_counted.field-0-test (c.in-Ok-true-hand_counted.ensures.told counted_nodes)
    (told_true c.in-Ok-true.field-0 body lists _ _ c.in-Ok-true.field-0-test (c.in-Ok-true.ensures.told lists) p)))
    c.hand_nodes.ensures.told

pub returns-in-Ok-None-clause-on : goal.returns-in-Ok-None-clause-on
returns-in-Ok-None-clause-on g c =
    on_as _ _ _ _ _ _ _ (on_then c.in-Ok-true.field-0 _ _ _ _ _ _ c.in-Ok-true.ensures.on _ _ _ _
    (on_then c.in-Ok-true-hand_counted.field-0 _ _ _ _ _ _ c.in-Ok-true-hand_counted.ensures.on _ _ _ _ c.in-Ok-None.ensures.on)) false

pub returns-in-Ok-None-clause-told : goal.returns-in-Ok-None-clause-told
returns-in-Ok-None-clause-told g c = λ p.
    told_none c.in-Ok-None.field-0 nodes _ _ c.in-Ok-None.field-0-is (c.in-Ok-None.ensures.told nodes)
    (told_true c.in-Ok-true-hand_counted.field-0 lists counted_nodes _ _ c.in-Ok-true-hand_counted.field-0-test (c.in-Ok-true-hand_counted.ensures.told counted_nodes)
    (told_true c.in-Ok-true.field-0 body lists _ _ c.in-Ok-true.field-0-test (c.in-Ok-true.ensures.told lists) p))

pub returns-in-Err-hand_number-clause-on : goal.returns-in-Err-hand_number-clause-on
returns-in-Err-hand_number-clause-on g c =
    on_err _ _ _ _ _ _ _ (on_then c.in-Ok-true.field-0 _ _ _ _ _ _ c.in-Ok-true.ensures.on _ _ _ _
    (on_then c.in-Ok-true-hand_counted.field-0 _ _ _ _ _ _ c.in-Ok-true-hand_counted.ensures.on _ _ _ _ c.in-Err-hand_number.ensures.on))

pub returns-in-Err-hand_number-clause-told : goal.returns-in-Err-hand_number-clause-told
returns-in-Err-hand_number-clause-told g c = λ p.
    c.in-Err-hand_number.ensures.told nodes
    (told_true c.in-Ok-true-hand_counted.field-0 lists counted_nodes _ _ c.in-Ok-true-hand_counted.field-0-test (c.in-Ok-true-hand_counted.ensures.told counted_nodes)
    (told_true c.in-Ok-true.field-0 body lists _ _ c.in-Ok-true.field-0-test (c.in-Ok-true.ensures.told lists) p))
