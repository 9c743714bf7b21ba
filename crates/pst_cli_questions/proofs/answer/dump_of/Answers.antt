use Rattle.std.proofs.Common.{◌∙◌, sym, slice_get}
use Rattle.std.proofs.lemmas.Result.{IfOk-weaker}
use Rattle.pst_questions.specs.Dump.{IsDump}
use Rattle.pst_questions.specs.Change.{heap_from}
use Rattle.pst_cli_questions.proofs.Telling.{none_there, placed, place_has, dump_there}
use Rattle.pst_cli_questions.proofs.answer.dump_of.Goals as goal

pub returns-in-None : goal.returns-in-None
returns-in-None g c =
    let s = g.H.HeapAt.state c.args.heap.now in
    let Is = IsDump c.args.program.now.names (heap_from s.heap (slice_get s.versions c.args.version.0)) in
    IfOk-weaker c.text_of.result _ _ (λ out e. none_there s c.args.version Is out (sym c.place_of.ensures ∙ c.in-None.is) e) c.text_of.ensures

pub dump-requires-clause-place : goal.dump-requires-clause-place
dump-requires-clause-place g c =
    let s = g.H.HeapAt.state c.args.heap.now in
    place_has s c.args.version c.in-Some.place c.known_versions.ensures (placed s c.args.version c.in-Some.place (sym c.place_of.ensures ∙ c.in-Some.is))

pub returns-in-Some : goal.returns-in-Some
returns-in-Some g c =
    let s = g.H.HeapAt.state c.args.heap.now in
    let at = placed s c.args.version c.in-Some.place (sym c.place_of.ensures ∙ c.in-Some.is) in
    IfOk-weaker c.dump.result _ _ (λ out is. dump_there s c.args.version c.args.program.now.names c.in-Some.place out at is) c.dump.ensures
