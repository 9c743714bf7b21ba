use Rattle.std.proofs.Common.{◌≡◌, ◌+◌, ◌<◌, ◌^◌, sym, ◌∙◌, subst, refl, arith, slice_get, Some}
use Rattle.pst_history.specs.declared.history.NamedCall.{NamedCall}
use Rattle.pst_history.specs.History.{History}
use Rattle.pst_base.specs.declared.names.RunNo.{RunNo}
use Rattle.pst_engine_runs.specs.Stands.{MayCall, VersionsStay}
use Rattle.pst_engine_runs.specs.Runs.{machine_runs}
use Rattle.pst_engine_runs.proofs.Slicing.{room, run-is, entry-at, may-add, few-calls, called-waits, called-keeps, slice-stays}
use Rattle.pst_engine_runs.proofs.slices.call.Given.{Over}
use Rattle.pst_engine_runs.proofs.slices.call.Goals.{After-index_mut-entry, After-advance}
use Rattle.pst_engine_runs.proofs.slices.call.Goals as goal
use Rattle.pst_history.specs.declared.history.TheConstants.{CALLS}

found : (g : Over) (c : After-index_mut-entry g) → slice_get c.args.active.now.items c.args.at ≡ Some c.index_mut-entry.result.now
found g c = entry-at c.args.active.now.items c.args.at c.index_mut-entry.result.now c.requires.at c.index_mut-entry.ensures.value

number : (g : Over) (c : After-index_mut-entry g) → c.index_mut-entry.result.now.run ≡ c.args.run
number g c = run-is c.args.active.now.items c.args.at c.index_mut-entry.result.now c.args.run (found g c) c.requires.run

-- the run of the entry can be given the call
may-call : (g : Over) (c : After-index_mut-entry g) (h : History)
    → MayCall (g.C.Meant.meant c.args.code.now).meaning h c.args.run.0 (record { procedure = c.args.procedure.now; arguments = c.args.arguments.now })
    → MayCall (g.C.Meant.meant c.args.code.now).meaning h c.index_mut-entry.result.now.run.0 (record { procedure = c.args.procedure.now; arguments = c.args.arguments.now })
may-call g c h may =
    let new : NamedCall = record { procedure = c.args.procedure.now; arguments = c.args.arguments.now } in
    subst (λ (n : RunNo). MayCall (g.C.Meant.meant c.args.code.now).meaning h n.0 new) (sym (number g c)) may

-- the slice changes no version
stays : (g : Over) (c : After-advance g) → c.add.new.activation.stage.standing.place ≡ c.index_mut-entry.result.now.activation.stage.standing.place
    → VersionsStay (g.H.HeapAt.state c.args.heap.now) (g.H.HeapAt.state c.advance.new.heap)
stays g c same =
    let some = c.requires.stands in
    slice-stays (g.C.Meant.meant c.args.code.now).meaning (machine_runs (g.C.Meant.meant c.args.code.now).parts) c.known-2.ensures.lawful
    (g.H.HeapAt.state c.args.heap.now) (c.known-2.ensures.waits c.args.heap.now) c.known_versions.ensures c.known.ensures.written
    c.args.active.now.items some.budget some.next some.history some.stands c.args.at c.index_mut-entry.result.now
    (entry-at c.args.active.now.items c.args.at c.index_mut-entry.result.now c.requires.at c.index_mut-entry.ensures.value)
    (g.H.HeapAt.state c.advance.new.heap) c.add.new.activation same c.advance.ensures.kept

pub add-requires : goal.add-requires
add-requires g c =
    let some = c.requires.stands in
    let w = (goal.at.add-requires g c).After-index_mut-entry in (
      c.args.heap.now,
      (
        _,
        _,
        _,
        _,
        may-add (g.C.Meant.meant c.args.code.now).meaning (machine_runs (g.C.Meant.meant c.args.code.now).parts) c.known-2.ensures.lawful
            (g.H.HeapAt.state c.args.heap.now) (c.known-2.ensures.waits c.args.heap.now) c.known_versions.ensures c.known.ensures.written
            c.args.active.now.items some.budget some.next some.history some.stands c.args.at c.index_mut-entry.result.now (found g w)
            (record { procedure = c.args.procedure.now; arguments = c.args.arguments.now }) (may-call g w some.history some.may),
      ),
    )

pub overflow_add-entry : goal.overflow_add-entry
overflow_add-entry g c =
    let some = c.requires.stands in
    let e = c.index_mut-entry.result.now in
    let w = (goal.at.overflow_add-entry g c).After-index_mut-entry in
    let few : e.calls < CALLS = few-calls (g.C.Meant.meant c.args.code.now).meaning (machine_runs (g.C.Meant.meant c.args.code.now).parts)
    c.known-2.ensures.lawful (g.H.HeapAt.state c.args.heap.now) (c.known-2.ensures.waits c.args.heap.now) c.known_versions.ensures c.known.ensures.written
    c.args.active.now.items some.budget some.next some.history some.stands c.args.at e (found g w)
    (record { procedure = c.args.procedure.now; arguments = c.args.arguments.now }) (may-call g w some.history some.may) in
    let fits : e.calls + 1 < 2 ^ 32 = omega arith in
    search

pub advance-requires-clause-ready : goal.advance-requires-clause-ready
advance-requires-clause-ready g c =
    let some = c.requires.stands in
    let w = (goal.at.advance-requires-clause-ready g c).After-index_mut-entry in (
      _,
      _,
      _,
      _,
      called-waits (g.C.Meant.meant c.args.code.now).meaning (machine_runs (g.C.Meant.meant c.args.code.now).parts) c.known-2.ensures.lawful
          (g.H.HeapAt.state c.args.heap.now) (c.known-2.ensures.waits c.args.heap.now) c.known_versions.ensures c.known.ensures.written
          c.args.active.now.items some.budget some.next some.history some.stands c.args.at c.index_mut-entry.result.now (found g w)
          (record { procedure = c.args.procedure.now; arguments = c.args.arguments.now }) c.add.new.activation (may-call g w some.history some.may)
          (c.in_ok-add.ensures.waits c.args.heap.now),
    )

pub advance-requires-clause-room : goal.advance-requires-clause-room
advance-requires-clause-room g c =
    let some = c.requires.stands in
    room (g.C.Meant.meant c.args.code.now).meaning (machine_runs (g.C.Meant.meant c.args.code.now).parts) c.known-2.ensures.lawful
    (g.H.HeapAt.state c.args.heap.now) c.args.active.now.items some.budget some.next some.history some.stands

pub returns-in_err-end-clause-stay : goal.returns-in_err-end-clause-stay
returns-in_err-end-clause-stay g c = stays g (goal.at.returns-in_err-end-clause-stay g c).After-advance c.in_ok-add.ensures.place

pub returns-clause-stay : goal.returns-clause-stay
returns-clause-stay g c = stays g (goal.at.returns-clause-stay g c).After-advance c.in_ok-add.ensures.place

pub returns-clause-ok : goal.returns-clause-ok
returns-clause-ok g c = λ budget next h stand may_call.
    let m = (g.C.Meant.meant c.args.code.now).meaning in
    let x = machine_runs {H = g.row.H.Denot} {P = g.row.H-Place.Denot} {R = g.row.H-Ref.Denot} (g.C.Meant.meant c.args.code.now).parts in
    let law = c.known-2.ensures.lawful in
    let s = g.H.HeapAt.state c.args.heap.now in
    let waits = c.known-2.ensures.waits c.args.heap.now in
    let active = c.args.active.now.items in
    let e = c.index_mut-entry.result.now in
    let a = c.add.new.activation in
    let w = (goal.at.returns-clause-ok g c).After-index_mut-entry in
    let there = found g w in
    let new : NamedCall = record { procedure = c.args.procedure.now; arguments = c.args.arguments.now } in
    let may = may-call g w h may_call in
    let t = g.H.HeapAt.state c.advance.new.heap in
    let waiting = called-waits m x law s waits c.known_versions.ensures c.known.ensures.written active budget next h stand c.args.at e there new a may (c.in_ok-add.ensures.waits c.args.heap.now) in
    let both = called-keeps m x law s waits c.known_versions.ensures c.known.ensures.written active budget next h stand c.args.at e there t
    (c.known-2.ensures.stays c.args.heap.now c.advance.new.heap) c.args.run (number g w) new (e.calls + 1) refl a c.advance.new.activation
    c.in_ok-end.end may
    c.in_ok-add.ensures.place c.advance.ensures.kept c.in_ok-end.ensures.writes waiting c.in_ok-end.ensures.ok in
    record { stands = both.0; reply = c.stepped.ensures ∙ both.1 }
