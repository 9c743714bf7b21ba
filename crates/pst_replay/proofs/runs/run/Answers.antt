use Rattle.std.proofs.Common.{◌≡◌, ◌∙◌, ap, sym, subst, List, [], ◌∷◌}
use Rattle.std.specs.Prelude.{IfOk, OnOk, Result, Ok, Err}
use Rattle.std.specs.declared.alloc.AllocError.{AllocError}
use Rattle.pst_base.specs.declared.names.RunNo.{RunNo}
use Rattle.pst_script.specs.declared.command.Command.TheVariants as command
use Rattle.pst_script.specs.declared.reply.Reply.{Reply}
use Rattle.pst_history.specs.declared.history.NamedCall.{NamedCall}
use Rattle.pst_history.specs.History.{History, opened, next_run, run_at, is_open_run, closed, close_reply, answered, call_of}
use Rattle.pst_history.specs.Sound.{IsSoundHistory}
use Rattle.pst_history.specs.Direct.{meaning_of}
use Rattle.pst_history.proofs.After.{run_at-new, close_reply-new, may_open-sound, run-opens}
use Rattle.pst_replay.specs.Replay.{kept_for}
use Rattle.pst_replay.proofs.runs.run.Goals as goal

numbered_so : (n : RunNo) (k : _) → n.0 ≡ k → n ≡ record { 0 = k }
numbered_so n k e = ap (λ x. let r : RunNo = record { 0 = x } in r) e

pub close-requires-clause-sound : goal.close-requires-clause-sound
close-requires-clause-sound c =
    let m = meaning_of c.args.program.now in
    let h = kept_for c.args.program.now c.args.history.now in
    let call = c.args.call.now in
    let is : kept_for c.args.program.now c.open.new.self ≡ opened h call.version (call_of call ∷ []) = c.in_ok-open.ensures.opens m.shape ∙ ap (opened h call.version) c.in_ok-one_call.ensures in
    let P : History → Type 0 = λ x. IsSoundHistory m x in
    subst P (sym is) (may_open-sound m h call.version (call_of call ∷ []) c.requires.sound (run-opens m h call c.requires.accepted))

pub close-requires-clause-open : goal.close-requires-clause-open
close-requires-clause-open c =
    let m = meaning_of c.args.program.now in
    let h = kept_for c.args.program.now c.args.history.now in
    let call = c.args.call.now in
    let is : kept_for c.args.program.now c.open.new.self ≡ opened h call.version (call_of call ∷ []) = c.in_ok-open.ensures.opens m.shape ∙ ap (opened h call.version) c.in_ok-one_call.ensures in
    ap (λ (x : History). is_open_run (run_at x c.next_number-number.result.0)) is
    ∙ ap (λ n. is_open_run (run_at (opened h call.version (call_of call ∷ [])) n)) c.next_number-number.ensures
    ∙ ap is_open_run (run_at-new h call.version (call_of call ∷ []))

replied : (r : Result Reply AllocError) (a b : Reply) → a ≡ b → IfOk r (λ x. x ≡ a) → IfOk r (λ x. x ≡ b)
replied (Ok r) a b e q = q ∙ e
replied (Err x) a b e q = tt

pub returns-clause-reply : goal.returns-clause-reply
returns-clause-reply c =
    let m = meaning_of c.args.program.now in
    let h = kept_for c.args.program.now c.args.history.now in
    let call = c.args.call.now in
    let calls : List NamedCall = call_of call ∷ [] in
    let one = kept_for c.args.program.now c.open.new.self in
    let number = c.next_number-number.result in
    let is : one ≡ opened h call.version calls = c.in_ok-open.ensures.opens m.shape ∙ ap (opened h call.version) c.in_ok-one_call.ensures in
    let same : number ≡ record { 0 = next_run h } = numbered_so number (next_run h) c.next_number-number.ensures in
    let reply : close_reply m one number (run_at one number.0) ≡ answered m h (command.Run call) =
    ap (λ (x : History). close_reply m x number (run_at x number.0)) is
    ∙ ap (λ (n : RunNo). close_reply m (opened h call.version calls) n (run_at (opened h call.version calls) n.0)) same
    ∙ close_reply-new m h call c.requires.sound in
    replied c.close.result (close_reply m one number (run_at one number.0)) (answered m h (command.Run call)) reply c.close.ensures.reply

changed_so : (r : Result Reply AllocError) (new a b : History) → a ≡ b → OnOk r (new ≡ a) → OnOk r (new ≡ b)
changed_so (Ok r) new a b e q = q ∙ e
changed_so (Err x) new a b e q = tt

pub returns-clause-changed : goal.returns-clause-changed
returns-clause-changed c =
    let m = meaning_of c.args.program.now in
    let h = kept_for c.args.program.now c.args.history.now in
    let call = c.args.call.now in
    let calls : List NamedCall = call_of call ∷ [] in
    let one = kept_for c.args.program.now c.open.new.self in
    let number = c.next_number-number.result in
    let is : one ≡ opened h call.version calls = c.in_ok-open.ensures.opens m.shape ∙ ap (opened h call.version) c.in_ok-one_call.ensures in
    let all : closed m one number.0 ≡ closed m (opened h call.version calls) (next_run h) = ap (λ (x : History). closed m x number.0) is
    ∙ ap (closed m (opened h call.version calls)) c.next_number-number.ensures in
    changed_so c.close.result (kept_for c.args.program.now c.close.new.history) (closed m one number.0) (closed m (opened h call.version calls) (next_run h)) all c.close.ensures.closed
