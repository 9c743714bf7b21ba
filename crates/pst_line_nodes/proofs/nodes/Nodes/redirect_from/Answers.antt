use Rattle.std.proofs.Common.{true, arith}
use Rattle.pst_line_nodes.specs.Nodes.{line_of}
use Rattle.pst_line_nodes.proofs.Carrying.{carried_trans}
use Rattle.pst_line_nodes.proofs.Redirecting.{redirecting_as, all_done}
use Rattle.pst_line_nodes.proofs.nodes.Nodes.redirect_from.Goals as goal

pub redirect_to-requires-clause-line : goal.redirect_to-requires-clause-line
redirect_to-requires-clause-line c = (c.requires.line.0, (c.loop-copy.invariant.carried c.requires.line.0 c.requires.line.1).line)

pub returns-in_err-redirect_to-clause-carried : goal.returns-in_err-redirect_to-clause-carried
returns-in_err-redirect_to-clause-carried c = λ made l.
    let one = c.loop-copy.invariant.carried made l in
    carried_trans c.args.shape.now c.args.stamp.0 (line_of made c.args.self.now) (line_of made c.loop-copy.self) (line_of made c.redirect_to.new.self) one (c.redirect_to.ensures.carried made one.line)

pub loop-copy-smaller : goal.loop-copy-smaller
loop-copy-smaller c =
    let one = c.loop-copy.invariant.carried c.requires.line.0 c.requires.line.1 in
    let two = c.redirect_to.ensures.carried c.requires.line.0 one.line in
    omega (arith, two.within, c.loop-copy-test.true, c.count.ensures)

pub loop-copy-preserved : goal.loop-copy-preserved
loop-copy-preserved c = record {
  kept = c.redirect_to.ensures.kept;
  carried = λ made l.
      let one = c.loop-copy.invariant.carried made l in
      carried_trans c.args.shape.now c.args.stamp.0 (line_of made c.args.self.now) (line_of made c.loop-copy.self) (line_of made c.redirect_to.new.self) one (c.redirect_to.ensures.carried made one.line);
  going = c.in_ok-redirect_to.ensures.done;
}

pub returns-clause-quiet : goal.returns-clause-quiet
returns-clause-quiet c =
    let l = (c.loop-copy.invariant.carried c.requires.line.0 c.requires.line.1).line in
    let q = all_done c.args.shape.now c.args.stamp.0 (line_of c.requires.line.0 c.loop-copy.self) c.loop-copy.copy.0 l (redirecting_as (λ i. true) c.requires.line.0 c.loop-copy.self c.args.stamp.0 c.loop-copy.copy.0 0 c.loop-copy.invariant.going) (omega (arith, c.loop-copy-test.false, c.count.ensures)) in
    record { none = λ i g y n. q.none i g y (record { there = n.there; last = n.last }) }
