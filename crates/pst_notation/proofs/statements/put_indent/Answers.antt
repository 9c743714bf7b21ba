use Rattle.pst_notation.proofs.Indents.{one_space}
use Rattle.pst_notation.proofs.statements.put_indent.Goals as goal

pub loop-preserved : goal.loop-preserved
loop-preserved c = one_space c.loop.out.items c.push.new.self.items _ c.args.indent c.loop.counter c.loop-test.true c.loop.invariant c.in_ok-push.ensures.items
