use Rattle.std.proofs.Common.{inl, refl, sym, ap, ◌∙◌}
use Rattle.std.proofs.lemmas.Result.{err_from_is_err_and}
use Rattle.pst_program.specs.View.{routines_of}
use Rattle.pst_program.specs.declared.program.Program.{Program}
use Rattle.pst_history.specs.Direct.{meaning_of}
use Rattle.pst_cli_scripts.specs.Script.{by_tree}
use Rattle.pst_cli_scripts.specs.Kept.{kept_by, first_history, history_after}
use Rattle.pst_cli_serving.specs.Storing.{IsLeft, IsBroken}
use Rattle.pst_cli_serving.proofs.Keeping.{meaning_shape}
use Rattle.pst_cli_questions.proofs.Finding.{carrying_stopped, found_stopped, answer_found, answer_lacks}
use Rattle.pst_cli_questions.proofs.asking.answer_to.Goals as goal

pub returns-in_default-clause-found : goal.returns-in_default-clause-found
returns-in_default-clause-found g c = inl (c.in_default.ensures.err, (refl, refl))

pub returns-in_err-carry_script-clause-found : goal.returns-in_err-carry_script-clause-found
returns-in_err-carry_script-clause-found g c =
    let m = meaning_of c.args.program in
    let p = err_from_is_err_and c.from_residual.result c.from_residual.ensures.1 in
    let s = c.in_err-carry_script.field-0.0 in
    let (lines, stops) = c.in_err-carry_script.ensures.carried m (first_history by_tree m) c.in-Ok.ensures.stands in
    found_stopped (kept_by by_tree IsLeft IsBroken c.args.store.now c.carry_script.new.held) c.args.program m c.args.question c.args.path.now _ _ _ _ c.from_residual.result s p.0 p.1 p.2
    (carrying_stopped by_tree IsLeft IsBroken c.args.store.now c.carry_script.new.held m s _ _ _ _ lines stops)

pub tell-requires : goal.tell-requires
tell-requires g c =
    let m = meaning_of c.args.program in
    let (lines, all, now) = c.in_ok-carry_script.ensures.carried m (first_history by_tree m) c.in-Ok.ensures.stands in
    let same = c.program.ensures ∙ c.in_ok-carry_script.ensures.about ∙ c.in-Ok.ensures.about in
    record { shape = now.stands.shape ∙ meaning_shape (routines_of c.args.program) ∙ ap (λ (p : Program). p.shape) (sym same) }

pub returns-in-Ok-tell-clause-found : goal.returns-in-Ok-tell-clause-found
returns-in-Ok-tell-clause-found g c =
    let m = meaning_of c.args.program in
    let (lines, all, now) = c.in_ok-carry_script.ensures.carried m (first_history by_tree m) c.in-Ok.ensures.stands in
    let h = history_after by_tree m lines in
    let same = c.program.ensures ∙ c.in_ok-carry_script.ensures.about ∙ c.in-Ok.ensures.about in
    let left = c.known.ensures.leaves m h now in
    answer_found (kept_by by_tree IsLeft IsBroken c.args.store.now c.carry_script.new.held) c.args.program m c.args.question c.args.path.now _ _ _ _
    c.program.result.now lines c.in-Ok-tell.text same all left
    (c.in-Ok-tell.ensures m h now.stands.sound left.versions)

pub returns-clause-found : goal.returns-clause-found
returns-clause-found g c =
    let m = meaning_of c.args.program in
    let (lines, all, now) = c.in_ok-carry_script.ensures.carried m (first_history by_tree m) c.in-Ok.ensures.stands in
    answer_lacks (kept_by by_tree IsLeft IsBroken c.args.store.now c.carry_script.new.held) c.args.program m c.args.question c.args.path.now _ _ _ _
    lines all (c.known.ensures.leaves m (history_after by_tree m lines) now)
