use Rattle.std.proofs.Common.{◌≡◌, ◌∙◌, ap, sym, refl, subst, arith, [], ◌∷◌, ◌++◌, append-nil}
use Rattle.std.proofs.KnownBytes.{Appends-nil, Appends-trans}
use Rattle.pst_io.specs.Text.{lines_of}
use Rattle.pst_cli_scripts.specs.Pieces.{pieces_from, state_after, IsAll}
use Rattle.pst_cli_scripts.specs.Script.{script_of}
use Rattle.pst_cli_scripts.proofs.Reading.{stops_at}
use Rattle.pst_cli_scripts.proofs.Writing.{all_more, line_more, state_more}
use Rattle.pst_cli_scripts.proofs.text.answer_text.Goals as goal

pub answering-init : goal.answering-init
answering-init g c = record {
  given = λ m h stands. ([], [], refl, Appends-nil _, refl, stands);
  sink_later = grind arith;
}

pub answer_line-requires : goal.answer_line-requires
answer_line-requires g c =
    let (m, h, stands) = c.requires in
    let (given, out, first, written, all, now) = c.answering.invariant.given m h stands in
    (m, state_after (script_of g.X.Session.rules m) h given, now)

pub returns-in-None-clause-answered : goal.returns-in-None-clause-answered
returns-in-None-clause-answered g c = λ m h stands.
    let (given, out, first, written, all, now) = c.answering.invariant.given m h stands in
    let s = script_of g.X.Session.rules m in
    let whole : lines_of c.args.text.now ≡ given = first ∙ ap (λ l. given ++ lines_of l) c.in-None.ensures.lines ∙ append-nil given in (
      out,
      written,
      (
        subst (λ l. IsAll (pieces_from s h l) out) (sym whole) all,
        subst (λ l. g.X.Session.leaves m c.answering.held (state_after s h l)) (sym whole) (c.known.ensures.leaves m _ now),
      ),
    )

pub returns-in-Err-clause-answered : goal.returns-in-Err-clause-answered
returns-in-Err-clause-answered g c = λ m h stands.
    let (given, out, first, written, all, now) = c.answering.invariant.given m h stands in
    let s = script_of g.X.Session.rules m in
    let (more, appended, said) = c.in-Err.ensures.answered m (state_after s h given) now in
    let line = c.in-Some.line.now in
    let further = line_more (lines_of c.args.text.now) given (lines_of c.in-Some.behind.now) (lines_of c.answering.rest.now) line first c.in-Some.ensures.lines in (
      out ++ more,
      Appends-trans _ _ _ out more written appended,
      stops_at s h (g.X.Session.leaves m c.answer_line.new.held) (g.X.Session.breaks m c.answer_line.new.held) c.in-Err.stop
          (lines_of c.args.text.now) given (lines_of c.in-Some.behind.now) line out more all said
          (c.in-Err.ensures.held m (state_after s h given) now) further,
    )

pub answering-preserved : goal.answering-preserved
answering-preserved g c = record {
  given = λ m h stands.
      let (given, out, first, written, all, now) = c.answering.invariant.given m h stands in
      let s = script_of g.X.Session.rules m in
      let (more, appended, said) = c.in-Ok.ensures.answered m (state_after s h given) now in
      let line = c.in-Some.line.now in (
        given ++ line ∷ [],
        out ++ more,
        line_more (lines_of c.args.text.now) given (lines_of c.in-Some.behind.now) (lines_of c.answering.rest.now) line first c.in-Some.ensures.lines,
        Appends-trans _ _ _ out more written appended,
        all_more s h given line out more all said,
        state_more s h (g.X.Session.stands c.answer_line.new.session c.answer_line.new.held m) given line (c.in-Ok.ensures.stands m (state_after s h given) now),
      );
  sink_later = grind arith;
}
