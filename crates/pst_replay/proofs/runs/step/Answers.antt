use Rattle.std.proofs.Common.{subst, sym, refl}
use Rattle.std.specs.Prelude.{IsSome, Option}
use Rattle.pst_history.specs.declared.history.Run.{Run}
use Rattle.pst_history.specs.Direct.{meaning_of}
use Rattle.pst_history.proofs.Accepting.{step-open}
use Rattle.pst_history.proofs.Refusals.{is_some-open}
use Rattle.pst_history.specs.History.{run_at, granted_more}
use Rattle.pst_history.specs.Since.{history_for}
use Rattle.pst_replay.specs.Replay.{kept_for}
use Rattle.pst_replay.proofs.Progress.{stepped-changed, progress-replies}
use Rattle.pst_replay.proofs.Numbers.{always, still_numbered}
use Rattle.pst_replay.proofs.runs.step.Goals as goal

pub grant-requires : goal.grant-requires
grant-requires c =
    let h = kept_for c.args.program.now c.args.history.now in
    is_some-open (run_at h c.args.number.0) (step-open (meaning_of c.args.program.now) h c.args.number c.args.charges c.requires.accepted)

pub progress-requires-clause-sound : goal.progress-requires-clause-sound
progress-requires-clause-sound c =
    let m = meaning_of c.args.program.now in
    (stepped-changed m (kept_for c.args.program.now c.args.history.now) (history_for c.args.program.now c.grant.new.history) c.args.number
    c.args.charges c.requires.sound c.requires.accepted (c.grant.ensures m.shape)).sound

pub progress-requires-clause-there : goal.progress-requires-clause-there
progress-requires-clause-there c =
    let m = meaning_of c.args.program.now in
    let P : Option Run → Type 0 = λ o. IsSome o in
    subst P (sym (stepped-changed m (kept_for c.args.program.now c.args.history.now) (history_for c.args.program.now c.grant.new.history)
    c.args.number c.args.charges c.requires.sound c.requires.accepted (c.grant.ensures m.shape)).now) refl

pub returns-clause-reply : goal.returns-clause-reply
returns-clause-reply c =
    let m = meaning_of c.args.program.now in
    let h = kept_for c.args.program.now c.args.history.now in
    let new = history_for c.args.program.now c.grant.new.history in
    progress-replies m h new c.args.number (granted_more c.args.charges) c.progress.result
    (stepped-changed m h new c.args.number c.args.charges c.requires.sound c.requires.accepted (c.grant.ensures m.shape)) c.progress.ensures

pub progress-requires-clause-numbered : goal.progress-requires-clause-numbered
progress-requires-clause-numbered c = still_numbered c.args.program.now c.args.history.now c.grant.new.history c.args.number.0
    (granted_more c.args.charges) (λ r. refl) c.grant.ensures c.requires.numbered

pub returns-clause-numbered : goal.returns-clause-numbered
returns-clause-numbered c = always c.progress.result (still_numbered c.args.program.now c.args.history.now c.grant.new.history c.args.number.0
    (granted_more c.args.charges) (λ r. refl) c.grant.ensures c.requires.numbered)
