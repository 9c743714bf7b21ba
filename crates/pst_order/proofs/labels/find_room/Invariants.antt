use Rattle.std.proofs.Common.{◌≡◌, ◌-◌, ◌<◌, ◌≤◌, length, get_or, drop}
use Rattle.pst_order.specs.Labels.{ahead as way, label_of, reach, walk}
use Rattle.pst_order.proofs.labels.find_room.Given as goal

abbrev pub invariant-loop-width : goal.invariant-loop-width
invariant-loop-width l =
    let qs = walk l.next (length l.next) (get_or l.next l.place 0) in
    record {
      some : 1 ≤ l.steps;
      within : l.steps ≤ reach l.labels (label_of l.labels l.place) qs 1;
      here : l.at ≡ get_or qs (l.steps - 1) 0;
      there : l.at < length l.next;
      wide : l.width ≡ way (label_of l.labels l.place) (label_of l.labels l.at);
      rest : reach l.labels (label_of l.labels l.place) (drop (l.steps - 1) qs) l.steps ≡ reach l.labels (label_of l.labels l.place) qs 1;
      start : l.start ≡ label_of l.labels l.place;
    }

abbrev pub decreases-loop-width : goal.decreases-loop-width
decreases-loop-width l = length l.next - l.steps
