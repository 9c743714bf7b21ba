use Rattle.pst_cli_serve.proofs.Alike.{served_law, served_behind_law, never_refused_serving_law}
use Rattle.pst_cli_serve.proofs.laws.served_behind.Goals as goal

pub returns-clause-packed : goal.returns-clause-packed
returns-clause-packed c = served_law

pub returns-clause-behind : goal.returns-clause-behind
returns-clause-behind c = served_behind_law

pub returns-clause-never_refused : goal.returns-clause-never_refused
returns-clause-never_refused c = never_refused_serving_law
