use Rattle.std.proofs.Common.{List, ◌∙◌, ap, sym, subst}
use Rattle.pst_base.specs.declared.shape.TypeShape.{TypeShape}
use Rattle.pst_program.specs.declared.program.Program.{Program}
use Rattle.pst_program.specs.View.{routines_of}
use Rattle.pst_history.specs.Direct.{meaning_of}
use Rattle.pst_line.specs.Store.{IsStarted}
use Rattle.pst_cli_serving.proofs.Keeping.{meaning_shape}
use Rattle.pst_cli_serving.proofs.lining.LiningSession.begin.Goals as goal

pub a_new_session_stands-requires-clause-store : goal.a_new_session_stands-requires-clause-store
a_new_session_stands-requires-clause-store g c =
    let shape = ap (λ (p : Program). (meaning_of p).shape) c.new-code.ensures ∙ meaning_shape (routines_of c.args.program) in
    subst (λ (types : List TypeShape). IsStarted types (g.L.LineCalls.stored c.start.new.self)) (sym shape) c.in_ok-start.ensures.ok
