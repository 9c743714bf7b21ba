use Rattle.pst_eval.proofs.ReadyValues.{value-ready}
use Rattle.pst_eval.proofs.writes.write.Goals as goal

pub returns-in-Some-Int-clause-ready : goal.returns-in-Some-Int-clause-ready
returns-in-Some-Int-clause-ready c = value-ready _ _ _ _ _ _ _ c.requires.ready c.set_value.ensures
