use Rattle.std.proofs.Common.{◌∙◌, sym}
use Rattle.std.proofs.lemmas.Result.{IfOk-weaker}
use Rattle.pst_cli_questions.proofs.Telling.{dump_told, change_told}
use Rattle.pst_cli_questions.proofs.Telling.{no_path, path_told}
use Rattle.pst_cli_questions.proofs.answer.tell.Goals as goal

pub returns-in-Dump : goal.returns-in-Dump
returns-in-Dump g c =
    rw c.in-Dump.is (IfOk-weaker c.dump_of.result _ _ (λ out w m h sound holds. dump_told m (g.H.HeapAt.state c.args.heap.now) h holds
    c.args.program.now.names c.in-Dump.version out w) c.dump_of.ensures)

pub returns-in-None : goal.returns-in-None
returns-in-None g c =
    let none = sym c.in-None.is ∙ c.in_ok-resolve-in-Changed.ensures.exact in
    rw c.in-Changed.is (IfOk-weaker c.text_of.result _ _ (λ out e m h sound holds. no_path c.args.program.now m h c.in-Changed.version c.args.path.now out none e) c.text_of.ensures)

pub returns-in-Some : goal.returns-in-Some
returns-in-Some g c =
    let steps = c.in-Some.fields in
    let some = sym c.in-Some.is ∙ c.in_ok-resolve-in-Changed.ensures.exact in
    rw c.in-Changed.is (IfOk-weaker c.change_of.result _ _ (λ out w m h sound holds.
    path_told c.args.program.now m h c.in-Changed.version c.args.path.now out steps some
    (change_told m (g.H.HeapAt.state c.args.heap.now) h holds c.versions_there_decide.ensures c.known.ensures sound steps c.in-Changed.version out w)) c.change_of.ensures)
