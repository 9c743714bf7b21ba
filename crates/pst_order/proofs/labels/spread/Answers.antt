use Rattle.std.proofs.Common.{◌≡◌, ℕ, ◌+◌, ◌≤◌, ◌/◌, ◌%◌, ◌*◌, length, List, arith, ◌∙◌, ap, sym, length-set}
use Rattle.pst_order.specs.Labels.{circle, walk}
use Rattle.pst_order.proofs.NumberLemmas.{share_is, share_within, share_next}
use Rattle.pst_order.proofs.ListLemmas.{AreBelow-get, AreBelow-set, length-walk}
use Rattle.pst_order.proofs.StepLemmas.{share_step, walk_on}
use Rattle.pst_order.proofs.labels.spread.Goals as goal
use Rattle.pst_order.proofs.labels.spread.Goals.{In-loop-nth}

-- what has been added up is the share
share_there : (c : In-loop-nth) → c.args.room.now.width * c.loop-nth._nth / c.args.room.now.steps ≡ c.loop-nth.way.whole
share_there c = share_is c.args.room.now.width c.loop-nth._nth c.args.room.now.steps c.loop-nth.way.whole c.loop-nth.way.parts c.loop-nth.invariant.sum c.loop-nth.invariant.proper

-- which is within the width
share_low : (c : In-loop-nth) → c.loop-nth.way.whole ≤ circle
share_low c = omega (arith, share_there c, share_within c.args.room.now.width c.loop-nth._nth c.args.room.now.steps (omega (arith, c.loop-nth-test.true)), c.requires.width)

pub shifted-requires-clause-by : goal.shifted-requires-clause-by
shifted-requires-clause-by c = share_low c

pub mixed_sum-way-requires-clause-a : goal.mixed_sum-way-requires-clause-a
mixed_sum-way-requires-clause-a c = share_low (goal.at.mixed_sum-way-requires-clause-a c).In-loop-nth

pub loop-nth-preserved : goal.loop-nth-preserved
loop-nth-preserved c =
    let qs : List ℕ = walk c.args.next.now (length c.args.next.now) c.args.first in
    let n : length qs ≡ length c.args.next.now = length-walk c.args.next.now (length c.args.next.now) c.args.first in
    let i = c.loop-nth.invariant in
    let k : 1 ≤ c.loop-nth._nth = c.loop-nth.auto._nth in
    let share = sym (share_there (goal.at.loop-nth-preserved c).In-loop-nth) in
    let v : c.shifted.result ≡ (c.args.start + c.args.room.now.width * c.loop-nth._nth / c.args.room.now.steps) % circle = c.shifted.ensures.result
    ∙ ap (λ (t : ℕ). (c.args.start + t) % circle) share in
    record {
      here = walk_on c.args.next.now (length c.args.next.now) c.args.first c.loop-nth._nth c.loop-nth.at k (omega (arith, c.loop-nth-test.true, c.requires.steps)) i.here;
      there = AreBelow-get (length c.args.next.now) c.args.next.now c.loop-nth.at c.requires.inside i.there;
      low = AreBelow-set circle c.loop-nth.labels c.loop-nth.at c.shifted.result i.low c.shifted.ensures.low;
      same = length-set c.loop-nth.labels c.loop-nth.at c.shifted.result ∙ i.same;
      sum = share_next c.args.room.now.width c.loop-nth._nth c.args.room.now.steps c.loop-nth.way.whole c.loop-nth.way.parts
          c.mixed_sum-way.result.whole c.mixed_sum-way.result.parts i.sum c.mixed_sum-way.ensures.sum;
      proper = c.mixed_sum-way.ensures.proper;
      rest = share_step c.loop-nth.labels qs c.args.start c.args.room.now.width c.args.room.now.steps c.loop-nth._nth c.loop-nth.at c.shifted.result k
          c.loop-nth-test.true (omega (arith, n, c.requires.steps)) i.here v ∙ i.rest;
    }
