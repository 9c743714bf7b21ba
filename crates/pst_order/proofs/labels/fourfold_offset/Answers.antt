use Rattle.std.proofs.Common.{ℕ, ◌+◌, ◌-◌, ◌*◌, ◌<◌, List, arith}
use Rattle.pst_order.specs.Labels.{circle, label_of}
use Rattle.pst_order.proofs.NumberLemmas.{circle_is, wrap_cases}
use Rattle.pst_order.proofs.OffsetLemmas.{offset_cases}
use Rattle.pst_order.proofs.RingLemmas.{label_low}
use Rattle.pst_order.proofs.labels.fourfold_offset.Goals as goal

pub overflow_add-result : goal.overflow_add-result
overflow_add-result c = let l : label_of c.args.labels.now c.args.place.0 < circle = label_low c.args.labels.now c.args.place.0 c.requires.low in omega (arith, circle_is, l)

pub overflow_sub-result : goal.overflow_sub-result
overflow_sub-result c = let l : label_of c.args.labels.now 0 < circle = label_low c.args.labels.now 0 c.requires.low in omega (arith, circle_is, l)

pub returns : goal.returns
returns c =
    let labels : List ℕ = c.args.labels.now in
    let p : ℕ = c.args.place.0 in
    let l : label_of labels p < circle = label_low labels p c.requires.low in
    let l0 : label_of labels 0 < circle = label_low labels 0 c.requires.low in
    let v : ℕ = (label_of labels p + 4611686018427387904 - label_of labels 0) * 4 in
    omega (arith, circle_is, l, l0, offset_cases labels p c.requires.low, wrap_cases 18446744073709551616 v (omega (arith, circle_is, l, l0)))
