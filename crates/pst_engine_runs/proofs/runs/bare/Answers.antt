use Rattle.std.proofs.lemmas.Result.{IfOk-weaker}
use Rattle.pst_engine_runs.proofs.Standing.{bare_stands_as}
use Rattle.pst_engine_runs.proofs.runs.bare.Goals as goal

pub returns-clause-stands : goal.returns-clause-stands
returns-clause-stands g c =
    IfOk-weaker c.bare.result _ _
    (λ a d h b. bare_stands_as (g.C.Meant.meant c.args.code.now).parts (g.C.Meant.meant c.args.code.now).meaning c.code.ensures.means
    (g.H.HeapAt.state h) c.args.at c.args.run c.args.budget a.stage c.ranges.budget.fits b d)
    c.bare.ensures
