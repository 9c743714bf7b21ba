use Rattle.std.proofs.Common.{sym, ◌∙◌, arith, ◌+◌, ◌-◌, ◌/◌}
use Rattle.pst_image_rules.proofs.Order.{early_to, late_from}
use Rattle.pst_image_rules.proofs.segments.position.Goals as goal

pub loop-low-preserved-then-is_before : goal.loop-low-preserved-then-is_before
loop-low-preserved-then-is_before c = record {
  between = omega arith;
  within = omega arith;
  early = early_to c.args.node.now c.args.slot.0 c.args.place (c.loop-low.low + (c.loop-low.high - c.loop-low.low) / 2) c.requires (omega arith) (sym c.is_before.ensures ∙ c.if-is_before.true);
  late = c.loop-low.invariant.late;
}

pub loop-low-preserved : goal.loop-low-preserved
loop-low-preserved c = record {
  between = omega arith;
  within = omega arith;
  early = c.loop-low.invariant.early;
  late = late_from c.args.node.now c.args.slot.0 c.args.place (c.loop-low.low + (c.loop-low.high - c.loop-low.low) / 2) c.requires (omega arith) (sym c.is_before.ensures ∙ c.if-is_before.false);
}
