use Rattle.std.proofs.Common.{◌∙◌, ap}
use Rattle.pst_program.specs.declared.program.Program.{Program}
use Rattle.pst_program.specs.View.{routines_of}
use Rattle.pst_history.specs.Direct.{meaning_of}
use Rattle.pst_cli_serving.proofs.Keeping.{meaning_shape, started}
use Rattle.pst_cli_serving.proofs.running.RunningSession.begin.Goals as goal

pub a_new_engine_stands-requires-clause-heap : goal.a_new_engine_stands-requires-clause-heap
a_new_engine_stands-requires-clause-heap g c =
    let shape = ap (λ (p : Program). (meaning_of p).shape) c.new-code.ensures ∙ meaning_shape (routines_of c.args.program) in
    started (meaning_of c.new-code.result) c.args.program.shape c.start.new.self shape c.in_ok-start.ensures.ok
