use Rattle.pst_front.proofs.Verdicts.{one_verdict}
use Rattle.pst_front.proofs.laws.text_has_one_verdict.Goals as goal

pub returns : goal.returns
returns c = one_verdict c.args.text.now
