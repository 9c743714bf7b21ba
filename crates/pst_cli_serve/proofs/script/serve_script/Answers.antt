use Rattle.std.proofs.Common.{◌≡◌, ◌∙◌, ap, refl, sym, arith, subst, Option, Ok, Err, [], ◌∷◌, ◌++◌, List, ℕ}
use Rattle.std.specs.List.{concat}
use Rattle.std.specs.Option.{option_to_list}
use Rattle.std.proofs.KnownBytes.{Appends-nil, Appends-trans}
use Rattle.pst_io.proofs.Handing.{gives_none, gives_then}
use Rattle.pst_program.specs.declared.program.Program.{Program}
use Rattle.pst_history.specs.Meaning.{Meaning}
use Rattle.pst_history.specs.History.{History}
use Rattle.pst_cli_scripts.specs.declared.stop.Stop.{Stop}
use Rattle.pst_cli_scripts.specs.declared.stop.Stop.TheVariants as stop
use Rattle.pst_cli_scripts.specs.Pieces.{state_after}
use Rattle.pst_cli_scripts.specs.Script.{by_tree, script_of}
use Rattle.pst_cli_scripts.proofs.Reading.{until_fault, then_reads, still_near}
use Rattle.pst_cli_scripts.proofs.Writing.{state_more}
use Rattle.pst_cli_serving.specs.Storing.{IsLeft, IsBroken, IsRunning}
use Rattle.pst_cli_serve.specs.Served.{Says, StopsAtTold}
use Rattle.pst_cli_serve.proofs.Replies.{never_read, answered_none, answered_more, until_served, until_answer}
use Rattle.pst_cli_serve.proofs.script.serve_script.Goals as goal

-- a line was answered, as it was read, by the program that was at hand first
said_by : {p q : Program} {l line : List ℕ} (m : Meaning) (h : History) (out : List ℕ) → p ≡ q → l ≡ line → (reply : Option (List ℕ)) × Says p m h l reply × (out ≡ concat (option_to_list reply))
    → (reply : Option (List ℕ)) × Says q m h line reply × (out ≡ concat (option_to_list reply))
said_by {p} {q} {l} {line} m h out about same (reply, says, is) =
    (reply, subst (λ (x : Program). Says x m h line reply) about (subst (λ (x : List ℕ). Says p m h x reply) same says), is)

stops_by : (s : Stop) {p q : Program} {l line : List ℕ} (m : Meaning) (h : History) (out : List ℕ) → p ≡ q → l ≡ line → StopsAtTold s (Says p m h l) out → StopsAtTold s (Says q m h line) out
stops_by s {p} {q} {l} {line} m h out about same stops =
    subst (λ (x : Program). StopsAtTold s (Says x m h line) out) about (subst (λ (x : List ℕ). StopsAtTold s (Says p m h x) out) same stops)

pub answering-init : goal.answering-init
answering-init g c = record {
  given = λ m h stands. ([], [], gives_none _ _, Appends-nil _, answered_none (Says c.args.session.now.code m) (script_of by_tree m) h, stands);
  about = refl;
  near = c.requires.near;
  limit = refl;
  opened = c.requires.open;
  later = grind arith;
  sink_later = grind arith;
}

pub answer_served-requires : goal.answer_served-requires
answer_served-requires g c =
    let (m, h, stands) = c.requires.stands in
    let (given, out, p, written, all, now) = c.answering.invariant.given m h stands in
    (m, state_after (script_of by_tree m) h given, now)

pub returns-in-Ok-false-clause-served : goal.returns-in-Ok-false-clause-served
returns-in-Ok-false-clause-served g c = λ m h stands.
    let (given, out, p, written, all, now) = c.answering.invariant.given m h stands in
    let r = c.in-Ok-false.ensures in
    let (reads, over) = r.end (ap (λ b. Ok b) c.in-Ok-false.field-0-test) in
    (out, written, (given, then_reads _ _ _ _ _ _ given p reads, over, r.open.seen over.1, all, c.known.ensures.leaves m _ now))

pub returns-in-Err-clause-served : goal.returns-in-Err-clause-served
returns-in-Err-clause-served g c = λ m h stands.
    let (given, out, p, written, all, now) = c.answering.invariant.given m h stands in
    let r = c.in-Err.ensures in
    let until = until_fault c.in-Err.fault _ _ _ _ _ _ given p r.reads (λ e. r.too_long (ap (λ f. Err f) e)) r.cut_off in (
      out,
      written,
      (
        given,
        rw c.from.ensures (until_served (Says c.args.session.now.code m) (script_of by_tree m) h (IsLeft m c.answering.store) (IsBroken m c.answering.store)
            c.in-Err.fault _ _ _ _ given out until r.cut_off all (c.known.ensures.leaves m _ now)),
      ),
    )

pub answering-preserved : goal.answering-preserved
answering-preserved g c =
    let r = c.in-Ok-true.ensures in
    let is = ap (λ b. Ok b) c.in-Ok-true.field-0-test in
    let line = c.next.new.self.line in
    let about = c.answering.invariant.about in
    record {
      given = λ m h stands.
          let (given, out, p, written, all, now) = c.answering.invariant.given m h stands in
          let script = script_of by_tree m in
          let state = state_after script h given in
          let after = c.answer_served.new in
          let Stands : History → Type 0 = λ x. IsRunning after.session.code after.session.engine after.store m x in
          let (more, appended, said) = c.in-Ok.ensures.answered m state now in (
            given ++ line ∷ [],
            out ++ more,
            gives_then _ _ _ _ _ _ given (line ∷ []) p (r.line is),
            Appends-trans _ _ _ out more written appended,
            answered_more (Says c.args.session.now.code m) script h given line out more all (said_by m state more about c.line.ensures said),
            state_more script h Stands given line (rw c.line.ensures at (c.in-Ok.ensures.stands m state now)),
          );
      about = c.in-Ok.ensures.about ∙ about;
      near = still_near c.answering.lines.input c.next.new.self.input c.answering.invariant.near (r.ahead is);
      limit = r.limit ∙ c.answering.invariant.limit;
      opened = r.open;
      later = grind arith;
      sink_later = grind arith;
    }

pub returns-in-Err-answer_served-clause-served : goal.returns-in-Err-answer_served-clause-served
returns-in-Err-answer_served-clause-served g c = λ m h stands.
    let (given, out, p, written, all, now) = c.answering.invariant.given m h stands in
    let script = script_of by_tree m in
    let state = state_after script h given in
    let (more, appended, said) = c.in-Err-answer_served.ensures.answered m state now in
    let r = c.in-Ok-true.ensures in
    let is = ap (λ b. Ok b) c.in-Ok-true.field-0-test in
    let line = c.next.new.self.line in
    let s = c.in-Err-answer_served.stop in (
      out ++ more,
      Appends-trans _ _ _ out more written appended,
      (
        given ++ line ∷ [],
        until_answer (Says c.args.session.now.code m) script h (IsLeft m c.answer_served.new.store) (IsBroken m c.answer_served.new.store)
            s _ _ _ _ given line out more all (stops_by s m state more c.answering.invariant.about c.line.ensures said)
            (rw c.line.ensures at (c.in-Err-answer_served.ensures.held m state now)) (gives_then _ _ _ _ _ _ given (line ∷ []) p (r.line is))
            (still_near c.answering.lines.input c.next.new.self.input c.answering.invariant.near (r.ahead is)),
      ),
    )

pub returns-in-Err-answer_served-clause-read : goal.returns-in-Err-answer_served-clause-read
returns-in-Err-answer_served-clause-read g c = λ e.
    let (m, h, stands) = c.requires.stands in
    let (given, out, p, written, all, now) = c.answering.invariant.given m h stands in
    let s : c.in-Err-answer_served.stop ≡ stop.Read = cc in
    never_read c.in-Err-answer_served.stop c.line.result.now IsLeft IsBroken c.answer_served.new.store m (state_after (script_of by_tree m) h given) s
    (c.in-Err-answer_served.ensures.held m (state_after (script_of by_tree m) h given) now)
