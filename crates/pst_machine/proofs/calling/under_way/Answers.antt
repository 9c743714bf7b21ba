use Rattle.std.proofs.Common.{Bool, subst, Option, Some, None, IfSome, refl, ◌≡◌, ◌<◌, List, length}
use Rattle.std.specs.Prelude.{slice_get}
use Rattle.std.proofs.lemmas.Option.{slice_get_within}
use Rattle.std.proofs.lemmas.Result.{IfOk-weaker}
use Rattle.pst_code.specs.declared.procedure.Parts.{Parts}
use Rattle.pst_versions.specs.State.{State}
use Rattle.pst_machine.specs.declared.pending.ProcCall.{ProcCall}
use Rattle.pst_machine.specs.Advance.{AllMayCall, CanGoOn}
use Rattle.pst_machine.proofs.Beginning.{first_there, goes_next}
use Rattle.pst_machine.proofs.calling.under_way.Goals as goal

known : {P R : Type 0} (parts : Parts) (s : State P R) (at : P) (calls : List ProcCall) → AllMayCall parts s at calls → (o : Option ProcCall)
    → slice_get calls 0 ≡ o → IfSome o (λ c. c.procedure.0 < length parts.procedures)
known parts s at calls all None e = tt
known parts s at calls all (Some c) e = let k = first_there parts s at calls all c e in slice_get_within parts.procedures c.procedure.0 k.procedure k.found

pub begin_next-requires-clause-there : goal.begin_next-requires-clause-there
begin_next-requires-clause-there g c =
    let s = g.H.HeapAt.state c.args.heap.now in
    let old = c.args.stage.now in
    known c.args.code.now s old.standing.place old.waiting c.requires.may.calls (slice_get old.waiting 0) refl

pub begin_next-requires-clause-empty : goal.begin_next-requires-clause-empty
begin_next-requires-clause-empty g c =
    let s = g.H.HeapAt.state c.args.heap.now in
    let old = c.args.stage.now in
    (subst (λ (u : Bool). CanGoOn u c.args.code.now s old.standing) c.if-stage.false c.requires.may.goes).empty

pub returns-clause-goes : goal.returns-clause-goes
returns-clause-goes g c =
    let s = g.H.HeapAt.state c.args.heap.now in
    IfOk-weaker c.begin_next.result _ _
    (λ there d. goes_next c.args.code.now c.requires.valid s c.known.ensures c.args.stage.now c.begin_next.new.stage c.requires.may there c.if-stage.false d)
    c.begin_next.ensures.begins
