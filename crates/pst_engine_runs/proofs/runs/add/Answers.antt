use Rattle.std.proofs.Common.{sym, subst, ◌≡◌, length}
use Rattle.std.specs.Prelude.{IsSome, slice_get}
use Rattle.std.proofs.lemmas.Result.{on_ok_weaker}
use Rattle.pst_code.specs.declared.procedure.Parts.{Parts}
use Rattle.pst_code.specs.Procedures.{procedure_named}
use Rattle.pst_history.specs.declared.history.NamedCall.{NamedCall}
use Rattle.pst_engine_runs.specs.Coded.{code_call}
use Rattle.pst_machine.specs.Advance.{TakesNumbers, task_call}
use Rattle.pst_engine_runs.specs.Runs.{runs_of}
use Rattle.pst_engine_runs.proofs.Fits.{call_may, named_some}
use Rattle.pst_engine_runs.proofs.Standing.{added_stands_as}
use Rattle.pst_engine_runs.proofs.runs.add.Goals as goal

pub call_of-requires : goal.call_of-requires
call_of-requires g c =
    let parts = (g.C.Meant.meant c.args.code.now).parts in
    let some = c.requires.1 in
    subst (λ (x : Parts). IsSome (procedure_named x c.args.procedure.now)) (sym c.code-code.ensures.code)
    (named_some parts (g.C.Meant.meant c.args.code.now).meaning c.code-code.ensures.means (runs_of (λ a. a.stage) parts)
    (g.H.HeapAt.state c.requires.0) c.args.activation.now some.0 some.1 some.2 some.3 _ some.4)

pub add-requires-clause-fits : goal.add-requires-clause-fits
add-requires-clause-fits g c =
    let parts = (g.C.Meant.meant c.args.code.now).parts in
    let some = c.requires.1 in
    let call : NamedCall = record { procedure = c.args.procedure.now; arguments = c.args.arguments.now } in
    let d = c.in_ok-call.call in
    let same : task_call d ≡ code_call parts call = subst (λ (x : Parts). task_call d ≡ code_call x call) c.code-code.ensures.code c.in_ok-call.ensures in
    subst (λ (x : Parts). TakesNumbers (slice_get x.procedures d.procedure.0) (length d.arguments)) (sym c.code-code.ensures.code)
    (call_may parts (g.C.Meant.meant c.args.code.now).meaning c.code-code.ensures.means (runs_of (λ a. a.stage) parts) (g.H.HeapAt.state c.requires.0)
    c.args.activation.now some.0 some.1 some.2 some.3 call some.4 d same).takes

pub returns-clause-waits : goal.returns-clause-waits
returns-clause-waits g c =
    let parts = (g.C.Meant.meant c.args.code.now).parts in
    let call : NamedCall = record { procedure = c.args.procedure.now; arguments = c.args.arguments.now } in
    let d = c.in_ok-call.call in
    let same : task_call d ≡ code_call parts call = subst (λ (x : Parts). task_call d ≡ code_call x call) c.code-code.ensures.code c.in_ok-call.ensures in
    on_ok_weaker c.add.result
    (λ added h w k y counts may. added_stands_as parts (g.C.Meant.meant c.args.code.now).meaning c.code-code.ensures.means (λ a. a.stage)
    (g.H.HeapAt.state h) c.args.activation.now c.add.new.self.stage w k y counts call d may same added)
    c.add.ensures.ok
