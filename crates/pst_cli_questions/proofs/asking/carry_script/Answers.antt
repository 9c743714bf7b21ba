use Rattle.std.proofs.Common.{ap, refl, ◌∙◌, arith, inr, Ok, Err, [], ◌∷◌, ◌++◌}
use Rattle.pst_io.proofs.Handing.{gives_none, gives_then}
use Rattle.pst_cli_scripts.specs.Pieces.{state_after}
use Rattle.pst_cli_scripts.specs.Script.{script_of}
use Rattle.pst_cli_scripts.proofs.Reading.{until_fault, then_reads, still_near}
use Rattle.pst_cli_scripts.proofs.Writing.{state_more, breaks_in}
use Rattle.pst_cli_questions.proofs.Finding.{until_carried}
use Rattle.pst_cli_questions.proofs.asking.carry_script.Goals as goal

pub carrying-init : goal.carrying-init
carrying-init g c = record {
  given = λ m h stands. ([], gives_none _ _, stands);
  about = refl;
  near = c.requires.near;
  limit = refl;
  opened = c.requires.open;
  later = grind arith;
}

pub reply_to-requires : goal.reply_to-requires
reply_to-requires g c =
    let (m, h, stands) = c.requires.stands in
    let (given, p, now) = c.carrying.invariant.given m h stands in
    (m, state_after (script_of g.X.Session.rules m) h given, now)

pub returns-in-Ok-false-clause-carried : goal.returns-in-Ok-false-clause-carried
returns-in-Ok-false-clause-carried g c = λ m h stands.
    let (given, p, now) = c.carrying.invariant.given m h stands in
    let r = c.in-Ok-false.ensures in
    let (reads, over) = r.end (ap (λ b. Ok b) c.in-Ok-false.field-0-test) in
    (given, (then_reads _ _ _ _ _ _ given p reads, over, r.open.seen over.1), now)

pub returns-in-Err-clause-carried : goal.returns-in-Err-clause-carried
returns-in-Err-clause-carried g c = λ m h stands.
    let (given, p, now) = c.carrying.invariant.given m h stands in
    let r = c.in-Err.ensures in
    let until = until_fault c.in-Err.fault _ _ _ _ _ _ given p r.reads (λ e. r.too_long (ap (λ f. Err f) e)) r.cut_off in (
      given,
      rw c.from.ensures (until_carried (script_of g.X.Session.rules m) h (g.X.Session.leaves m c.carrying.held)
          (g.X.Session.breaks m c.carrying.held) c.in-Err.fault _ _ _ _ given until r.cut_off (c.known.ensures.leaves m _ now)),
    )

pub carrying-preserved : goal.carrying-preserved
carrying-preserved g c =
    let r = c.in-Ok-true.ensures in
    let is = ap (λ b. Ok b) c.in-Ok-true.field-0-test in
    let line = c.next.new.self.line in
    record {
      given = λ m h stands.
          let (given, p, now) = c.carrying.invariant.given m h stands in (
            given ++ line ∷ [],
            gives_then _ _ _ _ _ _ given (line ∷ []) p (r.line is),
            state_more (script_of g.X.Session.rules m) h (g.X.Session.stands c.reply_to.new.session c.reply_to.new.held m) given line
                (rw c.line.ensures at (c.in-Ok.ensures.stands m (state_after (script_of g.X.Session.rules m) h given) now)),
          );
      about = c.in-Ok.ensures.about ∙ c.carrying.invariant.about;
      near = still_near c.carrying.lines.input c.next.new.self.input c.carrying.invariant.near (r.ahead is);
      limit = r.limit ∙ c.carrying.invariant.limit;
      opened = r.open;
      later = grind arith;
    }

pub returns-in-Err-reply_to-clause-carried : goal.returns-in-Err-reply_to-clause-carried
returns-in-Err-reply_to-clause-carried g c = λ m h stands.
    let (given, p, now) = c.carrying.invariant.given m h stands in
    let r = c.in-Ok-true.ensures in
    let is = ap (λ b. Ok b) c.in-Ok-true.field-0-test in
    let line = c.next.new.self.line in (
      given ++ line ∷ [],
      (
        gives_then _ _ _ _ _ _ given (line ∷ []) p (r.line is),
        inr (
          still_near c.carrying.lines.input c.next.new.self.input c.carrying.invariant.near (r.ahead is),
          breaks_in (script_of g.X.Session.rules m) h (g.X.Session.breaks m c.reply_to.new.held) given line
              (rw c.line.ensures at (c.in-Err-reply_to.ensures.breaks m (state_after (script_of g.X.Session.rules m) h given) now)),
        ),
      ),
    )
