use Rattle.std.proofs.Common.{sym, ap, ◌∙◌}
use Rattle.pst_program.specs.declared.program.Program.{Program}
use Rattle.pst_program.specs.View.{routines_of}
use Rattle.pst_history.specs.Meaning.{Meaning}
use Rattle.pst_cli_serving.proofs.Keeping.{meaning_shape}
use Rattle.persist_live.proofs.questions.answer_to.Goals as goal

pub tell-requires : goal.tell-requires
tell-requires c =
    let (m, h, now) = c.requires in
    let code = c.args.live.now.session.code in
    record { shape = now.stands.shape ∙ ap (λ (x : Meaning). x.shape) now.meaning ∙ meaning_shape (routines_of code) ∙ ap (λ (p : Program). p.shape) (sym c.program.ensures) }
