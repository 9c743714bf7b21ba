use Rattle.pst_cli_serve.proofs.Alike.{same_as_resumed, same_verdict}
use Rattle.pst_cli_serve.proofs.laws.served_as_resumed.Goals as goal

pub returns-clause-same : goal.returns-clause-same
returns-clause-same c = same_as_resumed

pub returns-clause-verdict : goal.returns-clause-verdict
returns-clause-verdict c = same_verdict
