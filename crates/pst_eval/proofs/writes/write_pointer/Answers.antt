use Rattle.std.proofs.Common.{rules}
use Rattle.pst_eval.proofs.ReadyValues.{pointer-ready}
use Rattle.pst_eval.proofs.writes.write_pointer.Goals as goal

pub returns-clause-ready : goal.returns-clause-ready
returns-clause-ready c = pointer-ready _ _ _ _ _ _ _ c.requires.ready (c.set_pointer.ensures.written (search rules))
