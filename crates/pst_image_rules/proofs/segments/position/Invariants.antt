use Rattle.std.proofs.Common.{◌≡◌, ℕ, ◌-◌, ◌<◌, ◌≤◌, true, false, length}
use Rattle.pst_image_rules.specs.Nodes.{stamp_of}
use Rattle.pst_image_rules.specs.Segments.{is_before}
use Rattle.pst_image_rules.proofs.segments.position.Given as goal

abbrev pub invariant-loop-low : goal.invariant-loop-low
invariant-loop-low l = record {
  between : l.low ≤ l.high;
  within : l.high ≤ length l.node.stamps;
  early : (i : ℕ) → i < l.low → is_before l.slot.0 l.place (stamp_of l.node i) ≡ true;
  late : (i : ℕ) → l.high ≤ i → i < length l.node.stamps → is_before l.slot.0 l.place (stamp_of l.node i) ≡ false;
}

abbrev pub decreases-loop-low : goal.decreases-loop-low
decreases-loop-low l = l.high - l.low
