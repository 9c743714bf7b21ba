use Rattle.pst_engine_runs.proofs.Standing.{still_stands_as}
use Rattle.pst_engine_runs.proofs.runs.known.Goals as goal

pub returns-clause-stays : goal.returns-clause-stays
returns-clause-stays g c = λ h k a w n y counts d l. (still_stands_as (g.C.Meant.meant c.args.code.now).parts (g.H.HeapAt.state h) (g.H.HeapAt.state k) a.stage w n y counts d.0 l, d.1)
