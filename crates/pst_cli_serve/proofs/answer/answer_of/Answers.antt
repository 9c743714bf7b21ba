use Rattle.std.proofs.Common.{◌≡◌, ◌<◌, List, ℕ, sym, subst, arith}
use Rattle.std.proofs.lemmas.Result.{IfOk-weaker}
use Rattle.pst_cli_words.specs.declared.job.Question.{Question}
use Rattle.pst_cli_words.specs.declared.job.Question.TheVariants.{Dump}
use Rattle.pst_cli_questions.specs.Telling.{Tells}
use Rattle.pst_cli_serve.specs.Served.{AnswersQuestion}
use Rattle.pst_cli_serve.proofs.Replies.{dump_ended}
use Rattle.pst_cli_serve.proofs.answer.answer_of.Goals as goal

pub returns-then-version-count : goal.returns-then-version-count
returns-then-version-count g c =
    let program = c.args.program.now in
    let path = c.args.asked.path.now in
    let version = c.in-Dump.version in
    rw c.in-Dump.is (IfOk-weaker c.ended.result _ _ (λ whole e m h sound holds.
    let told = subst (λ (q : Question). Tells program m h q path c.in_ok-answer.answer) c.in-Dump.is (c.in_ok-answer.ensures m h sound holds) in
    subst (λ (t : List ℕ). AnswersQuestion program m h (Dump version) path t) (sym e)
    (dump_ended program m h version path c.in_ok-answer.answer (omega (arith, c.if-version-count.true, c.count.ensures, holds.many)) told))
    c.ended.ensures)
