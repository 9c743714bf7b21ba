use Rattle.std.proofs.Common.{◌∙◌, ap, refl, arith, Ok, Err, [], ◌∷◌, ◌++◌}
use Rattle.std.proofs.KnownBytes.{Appends-nil, Appends-trans}
use Rattle.pst_io.proofs.Handing.{gives_none, gives_then}
use Rattle.pst_cli_scripts.specs.Pieces.{state_after}
use Rattle.pst_cli_scripts.specs.Script.{script_of}
use Rattle.pst_cli_scripts.proofs.Reading.{until_fault, until_answered, until_reply, then_reads, still_near}
use Rattle.pst_cli_scripts.proofs.Writing.{all_more, state_more}
use Rattle.pst_cli_scripts.proofs.script.answer_script.Goals as goal

pub answering-init : goal.answering-init
answering-init g c = record {
  given = λ m h stands. ([], [], gives_none _ _, Appends-nil _, refl, stands);
  near = c.requires.near;
  limit = refl;
  opened = c.requires.open;
  later = grind arith;
  sink_later = grind arith;
}

pub answer_line-requires : goal.answer_line-requires
answer_line-requires g c =
    let (m, h, stands) = c.requires.stands in
    let (given, out, p, written, all, now) = c.answering.invariant.given m h stands in
    (m, state_after (script_of g.X.Session.rules m) h given, now)

pub returns-in-Ok-false-clause-answered : goal.returns-in-Ok-false-clause-answered
returns-in-Ok-false-clause-answered g c = λ m h stands.
    let (given, out, p, written, all, now) = c.answering.invariant.given m h stands in
    let r = c.in-Ok-false.ensures in
    let (reads, over) = r.end (ap (λ b. Ok b) c.in-Ok-false.field-0-test) in
    (out, written, (given, then_reads _ _ _ _ _ _ given p reads, over, r.open.seen over.1, all, c.known.ensures.leaves m _ now))

pub returns-in-Err-clause-answered : goal.returns-in-Err-clause-answered
returns-in-Err-clause-answered g c = λ m h stands.
    let (given, out, p, written, all, now) = c.answering.invariant.given m h stands in
    let r = c.in-Err.ensures in
    let until = until_fault c.in-Err.fault _ _ _ _ _ _ given p r.reads (λ e. r.too_long (ap (λ f. Err f) e)) r.cut_off in (
      out,
      written,
      (
        given,
        rw c.from.ensures (until_answered (script_of g.X.Session.rules m) h (g.X.Session.leaves m c.answering.held)
            (g.X.Session.breaks m c.answering.held) c.in-Err.fault _ _ _ _ given out until r.cut_off all (c.known.ensures.leaves m _ now)),
      ),
    )

pub answering-preserved : goal.answering-preserved
answering-preserved g c =
    let r = c.in-Ok-true.ensures in
    let is = ap (λ b. Ok b) c.in-Ok-true.field-0-test in
    let line = c.next.new.self.line in
    record {
      given = λ m h stands.
          let (given, out, p, written, all, now) = c.answering.invariant.given m h stands in
          let (more, appended, said) = c.in-Ok.ensures.answered m (state_after (script_of g.X.Session.rules m) h given) now in (
            given ++ line ∷ [],
            out ++ more,
            gives_then _ _ _ _ _ _ given (line ∷ []) p (r.line is),
            Appends-trans _ _ _ out more written appended,
            all_more (script_of g.X.Session.rules m) h given line out more all (rw c.line.ensures at said),
            state_more (script_of g.X.Session.rules m) h (g.X.Session.stands c.answer_line.new.session c.answer_line.new.held m) given line
                (rw c.line.ensures at (c.in-Ok.ensures.stands m (state_after (script_of g.X.Session.rules m) h given) now)),
          );
      near = still_near c.answering.lines.input c.next.new.self.input c.answering.invariant.near (r.ahead is);
      limit = r.limit ∙ c.answering.invariant.limit;
      opened = r.open;
      later = grind arith;
      sink_later = grind arith;
    }

pub returns-in-Err-answer_line-clause-answered : goal.returns-in-Err-answer_line-clause-answered
returns-in-Err-answer_line-clause-answered g c = λ m h stands.
    let (given, out, p, written, all, now) = c.answering.invariant.given m h stands in
    let (more, appended, said) = c.in-Err-answer_line.ensures.answered m (state_after (script_of g.X.Session.rules m) h given) now in
    let r = c.in-Ok-true.ensures in
    let is = ap (λ b. Ok b) c.in-Ok-true.field-0-test in
    let line = c.next.new.self.line in (
      out ++ more,
      Appends-trans _ _ _ out more written appended,
      (
        given ++ line ∷ [],
        until_reply (script_of g.X.Session.rules m) h (g.X.Session.leaves m c.answer_line.new.held) (g.X.Session.breaks m c.answer_line.new.held)
            c.in-Err-answer_line.stop _ _ _ _ given line out more all (rw c.line.ensures at said)
            (rw c.line.ensures at (c.in-Err-answer_line.ensures.held m (state_after (script_of g.X.Session.rules m) h given) now)) (gives_then _ _ _ _ _ _ given (line ∷ []) p (r.line is))
            (still_near c.answering.lines.input c.next.new.self.input c.answering.invariant.near (r.ahead is)),
      ),
    )
