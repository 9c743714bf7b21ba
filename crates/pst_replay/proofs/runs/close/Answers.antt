use Rattle.std.proofs.Common.{◌∙◌, ap, subst, sym, refl, []}
use Rattle.std.specs.Prelude.{IsSome, Option}
use Rattle.std.proofs.lemmas.Option.{same_Some}
use Rattle.std.proofs.lemmas.Result.{on_ok_weaker}
use Rattle.pst_history.specs.declared.history.Run.{Run}
use Rattle.pst_history.specs.Direct.{meaning_of}
use Rattle.pst_history.specs.History.{run_at, closed_run}
use Rattle.pst_history.proofs.Refusals.{is_some-open}
use Rattle.pst_history.specs.Since.{history_for}
use Rattle.pst_replay.specs.Replay.{kept_for}
use Rattle.pst_replay.proofs.Progress.{closed-changed, closed-end, closed-replies, closed-histories}
use Rattle.pst_replay.proofs.Numbers.{ended_numbered, still_numbered}
use Rattle.pst_replay.proofs.runs.close.Goals as goal

pub shut-requires : goal.shut-requires
shut-requires c = is_some-open (run_at (kept_for c.args.program.now c.args.history.now) c.args.number.0) c.requires.open

pub outcome_under-requires-clause-sound : goal.outcome_under-requires-clause-sound
outcome_under-requires-clause-sound c =
    let m = meaning_of c.args.program.now in
    (closed-changed m (kept_for c.args.program.now c.args.history.now) (history_for c.args.program.now c.shut.new.history) c.args.number.0
    c.requires.sound c.requires.open (c.shut.ensures m.shape)).sound

pub outcome_under-requires-clause-there : goal.outcome_under-requires-clause-there
outcome_under-requires-clause-there c =
    let m = meaning_of c.args.program.now in
    let P : Option Run → Type 0 = λ o. IsSome o in
    subst P (sym (closed-changed m (kept_for c.args.program.now c.args.history.now) (history_for c.args.program.now c.shut.new.history)
    c.args.number.0 c.requires.sound c.requires.open (c.shut.ensures m.shape)).now) refl

pub returns-clause-reply : goal.returns-clause-reply
returns-clause-reply c =
    let m = meaning_of c.args.program.now in
    let h = kept_for c.args.program.now c.args.history.now in
    let new = history_for c.args.program.now c.shut.new.history in
    let x = closed-changed m h new c.args.number.0 c.requires.sound c.requires.open (c.shut.ensures m.shape) in
    closed-replies m h new c.args.number c.in_ok-outcome.outcome c.finish.result x (closed-end m h new c.args.number.0 c.in_ok-outcome.outcome x c.in_ok-outcome.ensures) c.finish.ensures.reply

pub returns-clause-closed : goal.returns-clause-closed
returns-clause-closed c =
    let m = meaning_of c.args.program.now in
    let h = kept_for c.args.program.now c.args.history.now in
    let new = history_for c.args.program.now c.shut.new.history in
    let x = closed-changed m h new c.args.number.0 c.requires.sound c.requires.open (c.shut.ensures m.shape) in
    let run = same_Some c.run_of.result.now (closed_run x.run) (sym c.run_of.ensures ∙ x.now) in
    closed-histories m h new c.finish.new.history c.args.number.0 c.in_ok-outcome.outcome c.run_of.result.now.parent c.finish.result x
    (closed-end m h new c.args.number.0 c.in_ok-outcome.outcome x c.in_ok-outcome.ensures) (ap (λ r. r.parent) run)
    (on_ok_weaker c.finish.result (λ all. all m.shape) c.finish.ensures.version)

pub outcome_under-requires-clause-numbered : goal.outcome_under-requires-clause-numbered
outcome_under-requires-clause-numbered c = still_numbered c.args.program.now c.args.history.now c.shut.new.history c.args.number.0 closed_run (λ r. refl) c.shut.ensures c.requires.numbered

pub run_of-requires : goal.run_of-requires
run_of-requires c =
    let m = meaning_of c.args.program.now in
    let P : Option Run → Type 0 = λ o. IsSome o in
    subst P (sym (closed-changed m (kept_for c.args.program.now c.args.history.now) (history_for c.args.program.now c.shut.new.history)
    c.args.number.0 c.requires.sound c.requires.open (c.shut.ensures m.shape)).now) refl

pub returns-clause-numbered : goal.returns-clause-numbered
returns-clause-numbered c =
    let one = still_numbered c.args.program.now c.args.history.now c.shut.new.history c.args.number.0 closed_run (λ r. refl) c.shut.ensures c.requires.numbered in
    on_ok_weaker c.finish.result (λ made. ended_numbered c.args.program.now (record { since = c.shut.new.history; calls = c.args.history.now.calls })
    c.finish.new.history c.args.number.0 c.run_of.result.now.parent c.in_ok-outcome.outcome.ended (made []) one) c.finish.ensures.version
