use Rattle.std.proofs.Common.{◌≡◌, ◌∙◌, refl, slice_get, Some}
use Rattle.pst_engine_runs.specs.Stands.{VersionsStay}
use Rattle.pst_engine_runs.specs.Runs.{machine_runs}
use Rattle.pst_engine_runs.proofs.Slicing.{room, run-is, entry-at, entry-waits, slice-stays, granted-keeps}
use Rattle.pst_engine_runs.proofs.slices.step.Given.{Over}
use Rattle.pst_engine_runs.proofs.slices.step.Goals.{After-index_mut, After-advance}
use Rattle.pst_engine_runs.proofs.slices.step.Goals as goal

found : (g : Over) (c : After-index_mut g) → slice_get c.args.active.now.items c.args.at ≡ Some c.index_mut.result.now
found g c = entry-at c.args.active.now.items c.args.at c.index_mut.result.now c.requires.at c.index_mut.ensures.value

-- the slice changes no version
stays : (g : Over) (c : After-advance g) → VersionsStay (g.H.HeapAt.state c.args.heap.now) (g.H.HeapAt.state c.advance.new.heap)
stays g c =
    let some = c.requires.stands in
    let e = c.index_mut.result.now in
    slice-stays (g.C.Meant.meant c.args.code.now).meaning (machine_runs (g.C.Meant.meant c.args.code.now).parts) c.known-2.ensures.lawful
    (g.H.HeapAt.state c.args.heap.now) (c.known-2.ensures.waits c.args.heap.now) c.known_versions.ensures c.known.ensures.written
    c.args.active.now.items some.budget some.next some.history some.stands c.args.at e
    (entry-at c.args.active.now.items c.args.at e c.requires.at c.index_mut.ensures.value) (g.H.HeapAt.state c.advance.new.heap) e.activation refl
    c.advance.ensures.kept

pub advance-requires-clause-ready : goal.advance-requires-clause-ready
advance-requires-clause-ready g c =
    let some = c.requires.stands in
    let e = c.index_mut.result.now in (
      _,
      _,
      _,
      _,
      entry-waits (g.C.Meant.meant c.args.code.now).meaning (machine_runs (g.C.Meant.meant c.args.code.now).parts) c.known-2.ensures.lawful
          (g.H.HeapAt.state c.args.heap.now) (c.known-2.ensures.waits c.args.heap.now) c.known_versions.ensures c.known.ensures.written
          c.args.active.now.items some.budget some.next some.history some.stands c.args.at e (found g (goal.at.advance-requires-clause-ready g c).After-index_mut),
    )

pub advance-requires-clause-room : goal.advance-requires-clause-room
advance-requires-clause-room g c =
    let some = c.requires.stands in
    room (g.C.Meant.meant c.args.code.now).meaning (machine_runs (g.C.Meant.meant c.args.code.now).parts) c.known-2.ensures.lawful
    (g.H.HeapAt.state c.args.heap.now) c.args.active.now.items some.budget some.next some.history some.stands

pub returns-in_err-end-clause-stay : goal.returns-in_err-end-clause-stay
returns-in_err-end-clause-stay g c = stays g (goal.at.returns-in_err-end-clause-stay g c).After-advance

pub returns-clause-stay : goal.returns-clause-stay
returns-clause-stay g c = stays g (goal.at.returns-clause-stay g c).After-advance

pub returns-clause-ok : goal.returns-clause-ok
returns-clause-ok g c = λ budget next h stand.
    let m = (g.C.Meant.meant c.args.code.now).meaning in
    let x = machine_runs {H = g.row.H.Denot} {P = g.row.H-Place.Denot} {R = g.row.H-Ref.Denot} (g.C.Meant.meant c.args.code.now).parts in
    let e = c.index_mut.result.now in
    let there = found g (goal.at.returns-clause-ok g c).After-index_mut in
    let number : e.run ≡ c.args.run = run-is c.args.active.now.items c.args.at e c.args.run there c.requires.run in
    let t = g.H.HeapAt.state c.advance.new.heap in
    let both = granted-keeps m x c.known-2.ensures.lawful (g.H.HeapAt.state c.args.heap.now) (c.known-2.ensures.waits c.args.heap.now) c.known_versions.ensures c.known.ensures.written
    c.args.active.now.items budget next h stand c.args.at e there t (c.known-2.ensures.stays c.args.heap.now c.advance.new.heap) c.args.run number
    c.args.charges c.advance.new.activation c.in_ok-end.end c.advance.ensures.kept c.in_ok-end.ensures.writes c.in_ok-end.ensures.ok in
    record { stands = both.0; reply = c.stepped.ensures ∙ both.1 }
