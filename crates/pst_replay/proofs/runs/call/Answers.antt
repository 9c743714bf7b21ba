use Rattle.std.proofs.Common.{◌≡◌, ◌∙◌, ap, subst, sym, refl}
use Rattle.std.specs.Prelude.{IsSome, Option}
use Rattle.pst_history.specs.declared.history.NamedCall.{NamedCall}
use Rattle.pst_history.specs.declared.history.Run.{Run}
use Rattle.pst_history.specs.Direct.{meaning_of}
use Rattle.pst_history.proofs.Accepting.{call-open}
use Rattle.pst_history.proofs.Refusals.{is_some-open}
use Rattle.pst_history.specs.History.{run_at, called_more, with_run}
use Rattle.pst_replay.specs.Replay.{kept_for}
use Rattle.pst_replay.proofs.Progress.{called-changed, progress-replies}
use Rattle.pst_replay.proofs.runs.call.Goals as goal

pub add-requires-clause-there : goal.add-requires-clause-there
add-requires-clause-there c =
    let h = kept_for c.args.program.now c.args.history.now in
    is_some-open (run_at h c.args.number.0) (call-open (meaning_of c.args.program.now) h c.args.number c.args.procedure.now c.args.arguments.now c.requires.accepted)

pub progress-requires-clause-sound : goal.progress-requires-clause-sound
progress-requires-clause-sound c =
    let m = meaning_of c.args.program.now in
    let h = kept_for c.args.program.now c.args.history.now in
    let new = kept_for c.args.program.now c.add.new.self in
    let call : NamedCall = record { procedure = c.args.procedure.now; arguments = c.args.arguments.now } in
    let is : new ≡ with_run h c.args.number.0 (called_more call) (run_at h c.args.number.0) = c.in_ok-add.ensures.adds m.shape
    ∙ ap (λ x. with_run h c.args.number.0 (called_more x) (run_at h c.args.number.0)) c.in_ok-named_call.ensures in
    (called-changed m h new c.args.number call c.requires.sound c.requires.accepted is).sound

pub progress-requires-clause-there : goal.progress-requires-clause-there
progress-requires-clause-there c =
    let m = meaning_of c.args.program.now in
    let h = kept_for c.args.program.now c.args.history.now in
    let new = kept_for c.args.program.now c.add.new.self in
    let call : NamedCall = record { procedure = c.args.procedure.now; arguments = c.args.arguments.now } in
    let is : new ≡ with_run h c.args.number.0 (called_more call) (run_at h c.args.number.0) = c.in_ok-add.ensures.adds m.shape
    ∙ ap (λ x. with_run h c.args.number.0 (called_more x) (run_at h c.args.number.0)) c.in_ok-named_call.ensures in
    let P : Option Run → Type 0 = λ o. IsSome o in
    subst P (sym (called-changed m h new c.args.number call c.requires.sound c.requires.accepted is).now) refl

pub returns-clause-reply : goal.returns-clause-reply
returns-clause-reply c =
    let m = meaning_of c.args.program.now in
    let h = kept_for c.args.program.now c.args.history.now in
    let new = kept_for c.args.program.now c.add.new.self in
    let call : NamedCall = record { procedure = c.args.procedure.now; arguments = c.args.arguments.now } in
    let is : new ≡ with_run h c.args.number.0 (called_more call) (run_at h c.args.number.0) = c.in_ok-add.ensures.adds m.shape
    ∙ ap (λ x. with_run h c.args.number.0 (called_more x) (run_at h c.args.number.0)) c.in_ok-named_call.ensures in
    progress-replies m h new c.args.number (called_more call) c.progress.result (called-changed m h new c.args.number call c.requires.sound c.requires.accepted is) c.progress.ensures
