use Rattle.std.proofs.Common.{◌-◌, arith, true, false}
use Rattle.pst_image_front.specs.Front.{node, nodes}
use Rattle.pst_image_front.proofs.Promises.{told_true, told_false, next_node}
use Rattle.pst_image_front.proofs.Handing.{on_then, on_as}
use Rattle.pst_image_front.proofs.front.hand_nodes.Goals as goal

pub returns-in-Ok-false-clause-on : goal.returns-in-Ok-false-clause-on
returns-in-Ok-false-clause-on g c = on_as _ _ _ _ _ _ _ (on_then true _ _ _ _ _ _ c.handing.invariant.on _ _ _ _ c.in-Ok-false.ensures.on) false

pub returns-in-Ok-false-clause-told : goal.returns-in-Ok-false-clause-told
returns-in-Ok-false-clause-told g c = λ p.
    let next = nodes (c.handing.left - 1) in
    told_false c.in-Ok-false.field-0 (node next) next _ _ c.in-Ok-false.field-0-test (c.in-Ok-false.ensures.told next)
    (next_node c.handing.left _ (omega (arith, c.handing-test.true)) (c.handing.invariant.told p))

pub returns-in-Err-clause-on : goal.returns-in-Err-clause-on
returns-in-Err-clause-on g c = on_then true _ _ _ _ _ _ c.handing.invariant.on _ _ _ _ c.in-Err.ensures.on

pub returns-in-Err-clause-told : goal.returns-in-Err-clause-told
returns-in-Err-clause-told g c = λ p.
    c.in-Err.ensures.told (nodes (c.handing.left - 1)) (next_node c.handing.left _ (omega (arith, c.handing-test.true)) (c.handing.invariant.told p))

pub handing-preserved : goal.handing-preserved
handing-preserved g c =
    let next = nodes (c.handing.left - 1) in
    record {
      on = on_as _ _ _ _ _ _ _ (on_then true _ _ _ _ _ _ c.handing.invariant.on _ _ _ _ c.in-Ok-true.ensures.on) true;
      told = λ p.
          told_true c.in-Ok-true.field-0 (node next) next _ _ c.in-Ok-true.field-0-test (c.in-Ok-true.ensures.told next)
          (next_node c.handing.left _ (omega (arith, c.handing-test.true)) (c.handing.invariant.told p));
      later = grind arith;
    }
