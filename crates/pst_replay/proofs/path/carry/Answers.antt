use Rattle.std.proofs.Common.{ap, sym, ◌∙◌, subst}
use Rattle.pst_base.specs.Heap.{Heap}
use Rattle.pst_program.specs.View.{routines_of}
use Rattle.pst_history.specs.Meaning.{CanBeDone}
use Rattle.pst_history.specs.History.{work_of}
use Rattle.pst_history.specs.Direct.{meaning_of}
use Rattle.pst_history.proofs.DirectLemmas.{direct_is_lawful}
use Rattle.pst_replay.proofs.Paths.{version-run, version-made}
use Rattle.pst_replay.proofs.Numbers.{calls_found}
use Rattle.pst_replay.proofs.path.carry.Goals as goal

pub run_of-run-requires : goal.run_of-run-requires
run_of-run-requires c = version-run (meaning_of c.args.program.now) c.args.history.now.since c.requires.sound c.args.version c.version_of-made.result c.version_of-made.ensures

pub execute-requires-clause-ready : goal.execute-requires-clause-ready
execute-requires-clause-ready c =
    let m = meaning_of c.args.program.now in
    let law = direct_is_lawful (routines_of c.args.program.now) c.requires.typed.valid in
    let made = version-made m law c.args.history.now.since c.requires.sound c.args.version c.version_of-made.result c.run_of-run.result.now
    c.version_of-made.ensures c.run_of-run.ensures c.requires.above in
    let P : Heap → Type 0 = λ x. CanBeDone m (work_of c.version_of-made.result.run.0 c.run_of-run.result.now) x in
    subst P (sym c.requires.heap) made.ready

pub returns-clause-heap : goal.returns-clause-heap
returns-clause-heap c =
    let m = meaning_of c.args.program.now in
    let law = direct_is_lawful (routines_of c.args.program.now) c.requires.typed.valid in
    let run = c.run_of-run.result.now in
    let made = version-made m law c.args.history.now.since c.requires.sound c.args.version c.version_of-made.result run c.version_of-made.ensures c.run_of-run.ensures c.requires.above in
    let w = work_of c.version_of-made.result.run.0 run in
    c.in_ok-execute.ensures.heap ∙ ap (λ (x : Heap). (m.outcome w run.budget x).heap) c.requires.heap ∙ sym made.heap

pub execute-requires-clause-calls : goal.execute-requires-clause-calls
execute-requires-clause-calls c = calls_found c.args.program.now c.args.history.now c.requires.numbered c.version_of-made.result.run.0
    c.calls_of_run-calls.result.now c.run_of-run.result.now c.calls_of_run-calls.ensures c.run_of-run.ensures
