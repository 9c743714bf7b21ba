use Rattle.std.proofs.Common.{◌≡◌, ◌∙◌, Some, None, List, ℕ, sym, ap, subst}
use Rattle.pst_program.specs.declared.program.Program.{Program}
use Rattle.pst_program.specs.View.{routines_of}
use Rattle.pst_history.specs.Meaning.{Meaning}
use Rattle.pst_history.specs.History.{History}
use Rattle.pst_cli_words.specs.Asked.{Asked, is_asked, question_in}
use Rattle.pst_cli_serving.specs.Storing.{IsLeft, IsBroken, IsRunning}
use Rattle.pst_cli_serving.proofs.Keeping.{meaning_shape}
use Rattle.pst_cli_serve.specs.Served.{AnswersQuestion, Says}
use Rattle.pst_cli_serve.proofs.Commands.{after_question}
use Rattle.pst_cli_serve.proofs.Replies.{said_command, said_answer, says_answer, held_answer, on_ok}
use Rattle.pst_cli_serve.proofs.answer.answer_served.Goals as goal

pub answer_of-requires : goal.answer_of-requires
answer_of-requires g c =
    let (m, h, now) = c.requires in
    let code = c.args.session.now.code in
    record { shape = now.stands.shape ∙ ap (λ (x : Meaning). x.shape) now.meaning ∙ meaning_shape (routines_of code) ∙ ap (λ (p : Program). p.shape) (sym c.program.ensures) }

pub returns-in-None-clause-answered : goal.returns-in-None-clause-answered
returns-in-None-clause-answered g c = λ m h now.
    let (out, written, said) = c.answer_line.ensures.answered m h now in
    let none : question_in c.args.line.now ≡ None = sym c.question_in.ensures ∙ ap is_asked c.in-None.is in
    (out, written, said_command c.answer_line.result c.args.session.now.code m h c.args.line.now out none said)

pub returns-in-Ok-clause-answered : goal.returns-in-Ok-clause-answered
returns-in-Ok-clause-answered g c = λ m h now.
    let (out, written, said) = c.say.ensures.said in
    let code = c.args.session.now.code in
    let line = c.args.line.now in
    let asked : Asked = record { question = c.in-Some.asked.question; path = c.in-Some.asked.path.now } in
    let some : question_in line ≡ Some asked = sym c.question_in.ensures ∙ ap is_asked c.in-Some.is in
    let left = c.known.ensures.leaves m h now in
    let answer = subst (λ (p : Program). AnswersQuestion p m h asked.question asked.path c.in-Ok.answer) c.program.ensures (c.in-Ok.ensures m h now.stands.sound left.versions) in
    (out, written, said_answer c.say.result (Says code m h line) c.in-Ok.answer c.as_slice.result.now out c.as_slice.ensures (says_answer code m h line asked c.in-Ok.answer some answer) said)

pub returns-in-Ok-clause-stands : goal.returns-in-Ok-clause-stands
returns-in-Ok-clause-stands g c =
    let line = c.args.line.now in
    let asked : Asked = record { question = c.in-Some.asked.question; path = c.in-Some.asked.path.now } in
    let some : question_in line ≡ Some asked = sym c.question_in.ensures ∙ ap is_asked c.in-Some.is in
    on_ok c.say.result _ (λ m h now.
    subst (λ (x : History). IsRunning c.args.session.now.code c.args.session.now.engine c.args.store.now m x) (sym (after_question line asked m h some)) now)

pub returns-in-Ok-clause-held : goal.returns-in-Ok-clause-held
returns-in-Ok-clause-held g c =
    let (out, written, said) = c.say.ensures.said in
    let line = c.args.line.now in
    let asked : Asked = record { question = c.in-Some.asked.question; path = c.in-Some.asked.path.now } in
    let some : question_in line ≡ Some asked = sym c.question_in.ensures ∙ ap is_asked c.in-Some.is in
    held_answer c.say.result line c.as_slice.result.now out asked IsLeft IsBroken c.args.store.now
    (λ m h. IsRunning c.args.session.now.code c.args.session.now.engine c.args.store.now m h) some said c.known.ensures.leaves c.known.ensures.breaks
