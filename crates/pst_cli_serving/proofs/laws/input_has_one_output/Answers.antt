use Rattle.pst_cli_serving.proofs.Outputs.{one_output}
use Rattle.pst_cli_serving.proofs.laws.input_has_one_output.Goals as goal

pub returns : goal.returns
returns c = one_output c.args.input.now
