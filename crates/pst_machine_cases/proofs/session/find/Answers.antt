use Rattle.std.proofs.Common.{rules}
use Rattle.pst_machine_cases.proofs.Sessions.{takes}
use Rattle.pst_machine_cases.proofs.session.find.Goals as goal

pub returns : goal.returns
returns c = takes _ _ _ _ c.body.ensures c.parameters.ensures (search rules) (search rules)
