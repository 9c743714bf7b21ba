use Rattle.std.proofs.Common.{◌≡◌, ◌∙◌, ap, sym, refl, subst, [], ◌∷◌, ◌++◌, append-nil}
use Rattle.pst_io.specs.Text.{lines_of}
use Rattle.pst_cli_scripts.specs.Pieces.{state_after}
use Rattle.pst_cli_scripts.specs.Script.{script_of}
use Rattle.pst_cli_scripts.proofs.Writing.{line_more, state_more, breaks_in}
use Rattle.pst_cli_images.proofs.repacking.carry_text.Goals as goal

pub carrying-init : goal.carrying-init
carrying-init g c = record { given = λ m h stands. ([], refl, stands); about = refl }

pub reply_to-requires : goal.reply_to-requires
reply_to-requires g c =
    let (m, h, stands) = c.requires.stands in
    let (given, first, now) = c.carrying.invariant.given m h stands in
    (m, state_after (script_of g.X.Session.rules m) h given, now)

pub returns-in-None-clause-carried : goal.returns-in-None-clause-carried
returns-in-None-clause-carried g c = λ m h stands.
    let (given, first, now) = c.carrying.invariant.given m h stands in
    let s = script_of g.X.Session.rules m in
    let whole : lines_of c.args.text.now ≡ given = first ∙ ap (λ l. given ++ lines_of l) c.in-None.ensures.lines ∙ append-nil given in
    subst (λ l. g.X.Session.stands c.carrying.session c.carrying.held m (state_after s h l)) (sym whole) now

pub returns-in-Err-clause-carried : goal.returns-in-Err-clause-carried
returns-in-Err-clause-carried g c = λ m h stands.
    let (given, first, now) = c.carrying.invariant.given m h stands in
    let s = script_of g.X.Session.rules m in
    let line = c.in-Some.line.now in (
      given ++ line ∷ [],
      lines_of c.in-Some.behind.now,
      line_more (lines_of c.args.text.now) given (lines_of c.in-Some.behind.now) (lines_of c.carrying.rest.now) line first c.in-Some.ensures.lines,
      breaks_in s h (g.X.Session.breaks m c.reply_to.new.held) given line (c.in-Err.ensures.breaks m (state_after s h given) now),
    )

pub carrying-preserved : goal.carrying-preserved
carrying-preserved g c = record {
  given = λ m h stands.
      let (given, first, now) = c.carrying.invariant.given m h stands in
      let s = script_of g.X.Session.rules m in
      let line = c.in-Some.line.now in (
        given ++ line ∷ [],
        line_more (lines_of c.args.text.now) given (lines_of c.in-Some.behind.now) (lines_of c.carrying.rest.now) line first c.in-Some.ensures.lines,
        state_more s h (g.X.Session.stands c.reply_to.new.session c.reply_to.new.held m) given line (c.in-Ok.ensures.stands m (state_after s h given) now),
      );
  about = c.in-Ok.ensures.about ∙ c.carrying.invariant.about;
}
