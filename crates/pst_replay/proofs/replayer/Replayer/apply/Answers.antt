use Rattle.std.proofs.Common.{◌≡◌, ◌∙◌, ap, sym, subst, rules, None}
use Rattle.std.specs.Prelude.{count_by}
use Rattle.pst_program.specs.View.{routines_of}
use Rattle.pst_history.specs.History.{History, is_open, refusal}
use Rattle.pst_history.specs.Sound.{IsSoundHistory}
use Rattle.pst_history.specs.Direct.{meaning_of}
use Rattle.pst_history.proofs.After.{changed-extends}
use Rattle.pst_history.proofs.DirectLemmas.{direct_is_lawful}
use Rattle.pst_replay.specs.Replay.{kept_for, open_after}
use Rattle.pst_replay.proofs.Counting.{counted-after, few-open_runs}
use Rattle.pst_replay.proofs.Opening.{accepted-other}
use Rattle.pst_replay.proofs.replayer.Replayer.apply.Goals as goal

pub open_after-self-requires : goal.open_after-self-requires
open_after-self-requires c =
    let may = c.requires.may c.if-self.false in
    few-open_runs (meaning_of c.args.program.now) (kept_for c.args.program.now c.args.self.now.history) c.args.self.now.open_runs may.sound may.counted

pub returns-clause-refused : goal.returns-clause-refused
returns-clause-refused c = λ why e.
    let accepted : refusal (meaning_of c.args.program.now) (kept_for c.args.program.now c.args.self.now.history) c.args.command.now ≡ None = search rules in
    absurd (accepted-other (meaning_of c.args.program.now) (kept_for c.args.program.now c.args.self.now.history) c.args.command.now accepted why (sym c.in_ok-reply.ensures.reply ∙ e))

pub returns-clause-may : goal.returns-clause-may
returns-clause-may c = λ given.
    let m = meaning_of c.args.program.now in
    let h = kept_for c.args.program.now c.args.self.now.history in
    let may = c.requires.may c.if-self.false in
    let accepted : refusal m h c.args.command.now ≡ None = search rules in
    let extends = changed-extends m (direct_is_lawful (routines_of c.args.program.now) c.requires.typed.valid) h c.args.command.now given may.sound accepted in
    let P : History → Type 0 = λ x. IsSoundHistory m x in
    record {
      sound = subst P (sym c.in_ok-reply.ensures.changed) extends.sound;
      numbered = c.in_ok-reply.ensures.numbered;
      counted = c.open_after-self.ensures ∙ ap (λ n. open_after n c.args.command.now) may.counted ∙ counted-after m h c.args.command.now accepted
          ∙ ap (λ (x : History). count_by is_open x.runs) (sym c.in_ok-reply.ensures.changed);
    }
