use Rattle.std.proofs.Common.{◌≡◌, ◌+◌, ◌-◌, ◌*◌, ◌<◌, length, get_or, drop, take}
use Rattle.pst_order.specs.Places.{AreBelow}
use Rattle.pst_order.specs.Labels.{circle, spread as spread_labels, walk}
use Rattle.pst_order.proofs.labels.spread.Given as goal

abbrev pub invariant-loop-nth : goal.invariant-loop-nth
invariant-loop-nth l =
    let qs = walk l.next (length l.next) l.first in
    record {
      here : l.at ≡ get_or qs (l._nth - 1) 0;
      there : l.at < length l.next;
      low : AreBelow circle l.labels;
      same : length l.labels ≡ length l.next;
      sum : l.way.whole * l.room.steps + l.way.parts ≡ l.room.width * l._nth;
      proper : l.way.parts < l.room.steps;
      rest : spread_labels l.labels (drop (l._nth - 1) (take (l.room.steps - 1) qs)) l.start l.room.width l.room.steps l._nth ≡ spread_labels
          l.initial.labels (take (l.room.steps - 1) qs) l.start l.room.width l.room.steps 1;
    }
