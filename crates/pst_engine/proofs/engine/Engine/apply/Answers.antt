use Rattle.std.proofs.Common.{◌≡◌, Some, None, ◌∙◌}
use Rattle.pst_history.specs.History.{refusal, after}
use Rattle.pst_engine_runs.specs.Runs.{machine_runs}
use Rattle.pst_engine_runs.proofs.Slicing.{on-err, stay-holds}
use Rattle.pst_engine_runs.proofs.Entries.{refusal-told}
use Rattle.pst_engine.proofs.Commands.{carried-stands, carried-reply, refused-stands, refused-reply, not-refused}
use Rattle.pst_engine.proofs.engine.Engine.apply.Goals as goal

pub answer-requires : goal.answer-requires
answer-requires g c =
    let m = (g.C.Meant.meant c.args.code.now).meaning in
    let x = machine_runs {H = g.row.H.Denot} {P = g.row.H-Place.Denot} {R = g.row.H-Ref.Denot} (g.C.Meant.meant c.args.code.now).parts in
    let s = g.H.HeapAt.state c.args.heap.now in
    let engine = c.args.self.now in
    let may = c.requires c.if-self.false in
    let none : refusal m may.history c.args.command.now ≡ None =
    refusal-told m x s engine.active.items.items engine.budget engine.next_run.0 may.history may.stands c.args.command.now
    c.as_slice-active.result.now c.refused.result c.as_slice-active.ensures.value c.refused.ensures ∙ c.in_default.is in
    record { history = may.history; stands = may.stands; accepted = none }

pub returns-clause-answers : goal.returns-clause-answers
returns-clause-answers g c = λ h stand.
    let m = (g.C.Meant.meant c.args.code.now).meaning in
    let x = machine_runs {H = g.row.H.Denot} {P = g.row.H-Place.Denot} {R = g.row.H-Ref.Denot} (g.C.Meant.meant c.args.code.now).parts in
    let s = g.H.HeapAt.state c.args.heap.now in
    let engine = c.args.self.now in
    let new = c.answer.new.engine in
    let none : refusal m h c.args.command.now ≡ None = refusal-told m x s engine.active.items.items engine.budget engine.next_run.0 h stand
    c.args.command.now c.as_slice-active.result.now c.refused.result c.as_slice-active.ensures.value c.refused.ensures ∙ c.in_default.is in
    let is = c.in_ok-reply.ensures.ok h stand none in record {
      stands = λ range. carried-stands m x (g.H.HeapAt.state c.answer.new.heap) new.active.items.items new.budget new.next_run.0 h c.args.command.now none (is.stands range);
      reply = carried-reply m h c.args.command.now c.in_ok-reply.reply none is.reply;
    }

pub returns-clause-may : goal.returns-clause-may
returns-clause-may g c = λ range.
    let m = (g.C.Meant.meant c.args.code.now).meaning in
    let x = machine_runs {H = g.row.H.Denot} {P = g.row.H-Place.Denot} {R = g.row.H-Ref.Denot} (g.C.Meant.meant c.args.code.now).parts in
    let s = g.H.HeapAt.state c.args.heap.now in
    let engine = c.args.self.now in
    let new = c.answer.new.engine in
    let may = c.requires c.if-self.false in
    let none : refusal m may.history c.args.command.now ≡ None =
    refusal-told m x s engine.active.items.items engine.budget engine.next_run.0 may.history may.stands c.args.command.now
    c.as_slice-active.result.now c.refused.result c.as_slice-active.ensures.value c.refused.ensures ∙ c.in_default.is in
    let is = c.in_ok-reply.ensures.ok may.history may.stands none in record {
      history = after m may.history c.args.command.now;
      stands = carried-stands m x (g.H.HeapAt.state c.answer.new.heap) new.active.items.items new.budget new.next_run.0 may.history c.args.command.now none (is.stands range);
    }

pub returns-clause-refused : goal.returns-clause-refused
returns-clause-refused g c = λ why is.
    let m = (g.C.Meant.meant c.args.code.now).meaning in
    let x = machine_runs {H = g.row.H.Denot} {P = g.row.H-Place.Denot} {R = g.row.H-Ref.Denot} (g.C.Meant.meant c.args.code.now).parts in
    let s = g.H.HeapAt.state c.args.heap.now in
    let engine = c.args.self.now in
    let may = c.requires c.if-self.false in
    let none : refusal m may.history c.args.command.now ≡ None =
    refusal-told m x s engine.active.items.items engine.budget engine.next_run.0 may.history may.stands c.args.command.now
    c.as_slice-active.result.now c.refused.result c.as_slice-active.ensures.value c.refused.ensures ∙ c.in_default.is in
    absurd (not-refused m may.history c.args.command.now c.in_ok-reply.reply why none
    (carried-reply m may.history c.args.command.now c.in_ok-reply.reply none (c.in_ok-reply.ensures.ok may.history may.stands none).reply) is)

pub returns-in_err-reply-clause-wants : goal.returns-in_err-reply-clause-wants
returns-in_err-reply-clause-wants g c =
    let m = (g.C.Meant.meant c.args.code.now).meaning in
    let s = g.H.HeapAt.state c.args.heap.now in
    let t = g.H.HeapAt.state c.answer.new.heap in
    let stays = c.in_err-reply.ensures.err in
    on-err c.from_residual.result (record { rows = stays.rows; holds = λ h stand. stay-holds m s t h stays stand.versions })

pub returns-in-Some-clause-answers : goal.returns-in-Some-clause-answers
returns-in-Some-clause-answers g c = λ h stand.
    let m = (g.C.Meant.meant c.args.code.now).meaning in
    let x = machine_runs {H = g.row.H.Denot} {P = g.row.H-Place.Denot} {R = g.row.H-Ref.Denot} (g.C.Meant.meant c.args.code.now).parts in
    let s = g.H.HeapAt.state c.args.heap.now in
    let engine = c.args.self.now in
    let some : refusal m h c.args.command.now ≡ Some c.in-Some.refusal =
    refusal-told m x s engine.active.items.items engine.budget engine.next_run.0 h stand c.args.command.now c.as_slice-active.result.now
    c.refused.result c.as_slice-active.ensures.value c.refused.ensures ∙ c.in-Some.is in record {
      stands = λ range. refused-stands m x s engine.active.items.items engine.budget engine.next_run.0 h c.args.command.now c.in-Some.refusal some stand;
      reply = refused-reply m h c.args.command.now c.in-Some.refusal some;
    }

pub returns-in-Some-clause-may : goal.returns-in-Some-clause-may
returns-in-Some-clause-may g c = λ range. c.requires c.if-self.false
