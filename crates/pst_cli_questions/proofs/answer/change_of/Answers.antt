use Rattle.std.proofs.Common.{◌≤◌, ◌<◌, ◌∙◌, inl, arith, length}
use Rattle.std.proofs.lemmas.Result.{IfOk-weaker}
use Rattle.pst_cli_questions.proofs.Telling.{none_changed, first_changed}
use Rattle.pst_cli_questions.proofs.answer.change_of.Goals as goal

pub returns-then-version-count : goal.returns-then-version-count
returns-then-version-count g c =
    let over : length (g.H.HeapAt.state c.args.heap.now).versions ≤ c.args.version.0 = omega (arith, c.if-version-count.true, c.count.ensures) in
    IfOk-weaker c.text_of.result _ _ (λ out e. inl (over, e)) c.text_of.ensures

pub returns-in-None : goal.returns-in-None
returns-in-None g c =
    let s = g.H.HeapAt.state c.args.heap.now in
    let there : c.args.version.0 < length (g.H.HeapAt.state c.args.heap.now).versions = omega (arith, c.if-version-count.false, c.count.ensures) in
    IfOk-weaker c.text_of-in-None.result _ _ (λ out e. none_changed s c.args.version c.args.path.now out there c.in-None.ensures.never e) c.text_of-in-None.ensures

pub returns-in_ok-line-in-Some : goal.returns-in_ok-line-in-Some
returns-in_ok-line-in-Some g c =
    let s = g.H.HeapAt.state c.args.heap.now in
    let there : c.args.version.0 < length (g.H.HeapAt.state c.args.heap.now).versions = omega (arith, c.if-version-count.false, c.count.ensures) in
    IfOk-weaker c.text_of-in-Some.result _ _ (λ out e. first_changed s c.args.version c.args.path.now c.in-Some.first out there
    c.in-Some.ensures.first (e ∙ c.as_str.ensures.value ∙ c.in_ok-line-in-Some.ensures.ok))
    c.text_of-in-Some.ensures
