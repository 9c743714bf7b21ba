use Rattle.std.proofs.Common.{◌≡◌, refl, subst, None}
use Rattle.pst_script.specs.declared.command.Command.{Command}
use Rattle.pst_history.specs.History.{dropped_run, refusal}
use Rattle.pst_history.specs.Direct.{meaning_of}
use Rattle.pst_history.proofs.Accepting.{close-open, drop-some}
use Rattle.pst_replay.specs.Replay.{kept_for}
use Rattle.pst_replay.proofs.Numbers.{still_numbered}
use Rattle.pst_replay.proofs.answer.answer.Goals as goal

pub close-requires-clause-open : goal.close-requires-clause-open
close-requires-clause-open c =
    let m = meaning_of c.args.program.now in
    let h = kept_for c.args.program.now c.args.history.now in
    let Q : Command → Type 0 = λ x. refusal m h x ≡ None in
    close-open m h c.in-CloseRun.run' (subst Q c.in-CloseRun.is c.requires.accepted)

pub give_up-requires : goal.give_up-requires
give_up-requires c =
    let m = meaning_of c.args.program.now in
    let h = kept_for c.args.program.now c.args.history.now in
    let Q : Command → Type 0 = λ x. refusal m h x ≡ None in
    drop-some m h c.in-DropRun.run' (subst Q c.in-DropRun.is c.requires.accepted)

pub returns-in-DropRun-clause-numbered : goal.returns-in-DropRun-clause-numbered
returns-in-DropRun-clause-numbered c = still_numbered c.args.program.now c.args.history.now c.give_up.new.history c.in-DropRun.run'.0 dropped_run (λ r. refl) c.give_up.ensures c.requires.numbered
