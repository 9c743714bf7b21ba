use Rattle.pst_repair.proofs.StepLemmas.{splits_are_steps}
use Rattle.pst_repair.proofs.joint.splits_are_steps.Goals as goal

pub returns : goal.returns
returns c = splits_are_steps
