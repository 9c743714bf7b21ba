use Rattle.std.proofs.Common.{arith}
use Rattle.pst_line_nodes.specs.Nodes.{line_of}
use Rattle.pst_line_nodes.proofs.Carrying.{carried_trans}
use Rattle.pst_line_nodes.proofs.Redirecting.{slot_below, slots_done}
use Rattle.pst_line_nodes.proofs.nodes.Nodes.redirect_to.Goals as goal

pub redirect_slot-requires-clause-line : goal.redirect_slot-requires-clause-line
redirect_slot-requires-clause-line c = (c.requires.line.0, (c.loop-slot.invariant.carried c.requires.line.0 c.requires.line.1).line)

pub redirect_slot-requires-clause-there : goal.redirect_slot-requires-clause-there
redirect_slot-requires-clause-there c = omega (arith, c.requires.there, (c.loop-slot.invariant.carried c.requires.line.0 c.requires.line.1).went.nodes.count)

pub redirect_slot-requires-clause-slot : goal.redirect_slot-requires-clause-slot
redirect_slot-requires-clause-slot c =
    let i = c.loop-slot.invariant in
    slot_below c.args.shape.now c.args.stamp.0 c.args.self.now c.loop-slot.self c.requires.line.0 c.args.z.0 c.loop-slot.slot c.node.result.now c.requires.kept i.kept c.requires.there c.node.ensures (c.requires.begun.copies c.args.z.0 (omega arith) c.requires.there).0
    (i.carried c.requires.line.0 c.requires.line.1) i.going (omega (arith, c.loop-slot-test.true, c.loop-slot.auto.slot-end, c.inverse_slots-slot-end.ensures))

pub returns-in_err-redirect_slot-clause-carried : goal.returns-in_err-redirect_slot-clause-carried
returns-in_err-redirect_slot-clause-carried c = λ made l.
    let one = c.loop-slot.invariant.carried made l in
    carried_trans c.args.shape.now c.args.stamp.0 (line_of made c.args.self.now) (line_of made c.loop-slot.self) (line_of made c.redirect_slot.new.self) one (c.redirect_slot.ensures.carried made one.line)

pub loop-slot-preserved : goal.loop-slot-preserved
loop-slot-preserved c = record {
  kept = c.redirect_slot.ensures.kept;
  carried = λ made l.
      let one = c.loop-slot.invariant.carried made l in
      carried_trans c.args.shape.now c.args.stamp.0 (line_of made c.args.self.now) (line_of made c.loop-slot.self) (line_of made c.redirect_slot.new.self) one (c.redirect_slot.ensures.carried made one.line);
  going = c.in_ok-redirect_slot.ensures.done;
}

pub returns-clause-done : goal.returns-clause-done
returns-clause-done c =
    let i = c.loop-slot.invariant in
    slots_done c.args.shape.now c.args.stamp.0 c.args.self.now c.loop-slot.self c.requires.line.0 c.args.z.0 c.loop-slot.slot c.node.result.now c.requires.kept c.requires.there c.node.ensures (c.requires.begun.copies c.args.z.0 (omega arith) c.requires.there).0
    (i.carried c.requires.line.0 c.requires.line.1) i.going (omega (arith, c.loop-slot-test.false, c.loop-slot.auto.slot-end, c.inverse_slots-slot-end.ensures))
