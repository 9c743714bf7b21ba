use Rattle.std.proofs.Common.{◌^◌, inl, refl, sym, subst}
use Rattle.std.proofs.lemmas.Result.{err_from_is_err_and}
use Rattle.pst_base.specs.declared.names.Counts.{Counts}
use Rattle.pst_program.specs.Sound.{CountsWithin}
use Rattle.pst_program.specs.View.{routines_of}
use Rattle.pst_history.specs.Direct.{meaning_of}
use Rattle.pst_history.proofs.DirectLemmas.{direct_is_lawful}
use Rattle.pst_history.specs.History.{counts_of, next_run}
use Rattle.pst_cli_scripts.specs.Script.{by_tree}
use Rattle.pst_cli_scripts.specs.Kept.{kept_by, first_history, history_after}
use Rattle.pst_cli_serving.specs.Storing.{IsLeft, IsBroken}
use Rattle.pst_cli_questions.proofs.Finding.{carrying_stopped}
use Rattle.pst_image_engine.proofs.Counted.{few_counts_law}
use Rattle.pst_cli_images.proofs.Found.{image_stopped, image_lacks}
use Rattle.pst_cli_images.proofs.Counted.{script_counts_law}
use Rattle.pst_cli_images.proofs.packing.image_of.Goals as goal

pub returns-in_default-clause-found : goal.returns-in_default-clause-found
returns-in_default-clause-found g c = inl (c.in_default.ensures.err, (refl, refl))

pub returns-in_err-carry_script-clause-found : goal.returns-in_err-carry_script-clause-found
returns-in_err-carry_script-clause-found g c =
    let m = meaning_of c.args.program in
    let p = err_from_is_err_and c.from_residual.result c.from_residual.ensures.1 in
    let s = c.in_err-carry_script.field-0.0 in
    let (lines, stops) = c.in_err-carry_script.ensures.carried m (first_history by_tree m) c.in-Ok.ensures.stands in
    image_stopped (kept_by by_tree IsLeft IsBroken c.args.store.now c.carry_script.new.held) c.carry_script.new.held m c.args.text.now _ _ _ _ c.from_residual.result s p.0 p.1 p.2
    (carrying_stopped by_tree IsLeft IsBroken c.args.store.now c.carry_script.new.held m s _ _ _ _ lines stops)

pub image_of_session-requires-clause-stands : goal.image_of_session-requires-clause-stands
image_of_session-requires-clause-stands g c =
    let m = meaning_of c.args.program in
    let (lines, all, now) = c.in_ok-carry_script.ensures.carried m (first_history by_tree m) c.in-Ok.ensures.stands in
    (m, history_after by_tree m lines, now)

pub image_of_session-requires-clause-counts : goal.image_of_session-requires-clause-counts
image_of_session-requires-clause-counts g c =
    let m = meaning_of c.args.program in
    let (lines, all, now) = c.in_ok-carry_script.ensures.carried m (first_history by_tree m) c.in-Ok.ensures.stands in
    let h = history_after by_tree m lines in
    let few = few_counts_law (counts_of m h) (next_run h) (script_counts_law m (direct_is_lawful (routines_of c.args.program) c.requires.typed.valid) lines) now.stands.sound.few in
    let Q : Counts → Type 0 = λ k. CountsWithin k (2 ^ 50) in
    subst Q (sym now.stands.counts) few

pub returns-in-Ok-image_of_session-clause-found : goal.returns-in-Ok-image_of_session-clause-found
returns-in-Ok-image_of_session-clause-found g c =
    let m = meaning_of c.args.program in
    let (lines, all, now) = c.in_ok-carry_script.ensures.carried m (first_history by_tree m) c.in-Ok.ensures.stands in
    let h = history_after by_tree m lines in
    (lines, all, c.known.ensures.leaves m h now, c.in-Ok-image_of_session.ensures.image m h now)

pub returns-clause-found : goal.returns-clause-found
returns-clause-found g c =
    let m = meaning_of c.args.program in
    let (lines, all, now) = c.in_ok-carry_script.ensures.carried m (first_history by_tree m) c.in-Ok.ensures.stands in
    image_lacks (kept_by by_tree IsLeft IsBroken c.args.store.now c.carry_script.new.held) c.carry_script.new.held m c.args.text.now _ _ _ _ lines all
    (c.known.ensures.leaves m (history_after by_tree m lines) now)
