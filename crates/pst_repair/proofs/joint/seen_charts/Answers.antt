use Rattle.pst_repair.proofs.SeenLemmas.{seen_chart}
use Rattle.pst_repair.proofs.joint.seen_charts.Goals as goal

pub returns : goal.returns
returns c = seen_chart
