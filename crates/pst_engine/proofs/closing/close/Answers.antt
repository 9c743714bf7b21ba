use Rattle.std.proofs.Common.{◌≡◌, ℕ, zero, suc, ◌<◌, List, [], ◌∷◌, length, arith, sym, ap, ◌∙◌, subst, refl, slice_get, slice_index_or, slice_set, Some, Result, Ok, Err, OnErr}
use Rattle.std.proofs.lemmas.Result.{IfOk-weaker}
use Rattle.pst_engine_runs.proofs.Slicing.{room, run-is, entry-at, entry-waits, slice-stays, stay-trans, on-err}
use Rattle.pst_engine.proofs.Ending.{may-publish, closed-answers}
use Rattle.pst_history.specs.History.{closed}
use Rattle.pst_engine_runs.specs.declared.entry.OpenEntry.{OpenEntry}
use Rattle.pst_engine_runs.specs.Stands.{StandsFor, VersionsStay}
use Rattle.pst_engine_runs.specs.Runs.{machine_runs}
use Rattle.pst_engine.specs.Stands.{Settled, MayPublish}
use Rattle.pst_engine.proofs.closing.close.Given.{Over}
use Rattle.pst_engine.proofs.closing.close.Goals.{After-index_mut-entry, After-advance}
use Rattle.pst_engine.proofs.closing.close.Goals as goal

found : (g : Over) (c : After-index_mut-entry g) → slice_get c.args.active.now.items c.args.at ≡ Some c.index_mut-entry.result.now
found g c = entry-at c.args.active.now.items c.args.at c.index_mut-entry.result.now c.requires.at c.index_mut-entry.ensures.value

-- what is taken out of a list where it was set
taken : {X : Type 0} (xs : List X) (i : ℕ) (y z : X) → i < length xs → z ≡ slice_index_or (slice_set xs i y) i z → z ≡ y
taken [] i y z h e = absurd (omega arith)
taken (x ∷ xs) zero y z h e = e
taken (x ∷ xs) (suc i) y z h e = taken xs i y z (omega arith) e

on-err-weaker : {A E P Q : Type 0} (r : Result A E) → (P → Q) → OnErr r P → OnErr r Q
on-err-weaker (Ok a) f h = h
on-err-weaker (Err x) f h = f h

-- the slice changes no version
stays : (g : Over) (c : After-advance g) → VersionsStay (g.H.HeapAt.state c.args.heap.now) (g.H.HeapAt.state c.advance.new.heap)
stays g c =
    let some = c.requires.stands in
    let e = c.index_mut-entry.result.now in
    slice-stays (g.C.Meant.meant c.args.code.now).meaning (machine_runs (g.C.Meant.meant c.args.code.now).parts) c.known-2.ensures.lawful
    (g.H.HeapAt.state c.args.heap.now) (c.known-2.ensures.waits c.args.heap.now) c.known_versions.ensures c.known.ensures.written
    c.args.active.now.items some.budget some.next some.history some.stands c.args.at e
    (entry-at c.args.active.now.items c.args.at e c.requires.at c.index_mut-entry.ensures.value) (g.H.HeapAt.state c.advance.new.heap)
    e.activation refl c.advance.ensures.kept

pub advance-requires-clause-ready : goal.advance-requires-clause-ready
advance-requires-clause-ready g c =
    let some = c.requires.stands in
    let e = c.index_mut-entry.result.now in (
      _,
      _,
      _,
      _,
      entry-waits (g.C.Meant.meant c.args.code.now).meaning (machine_runs (g.C.Meant.meant c.args.code.now).parts) c.known-2.ensures.lawful
          (g.H.HeapAt.state c.args.heap.now) (c.known-2.ensures.waits c.args.heap.now) c.known_versions.ensures c.known.ensures.written
          c.args.active.now.items some.budget some.next some.history some.stands c.args.at e (found g (goal.at.advance-requires-clause-ready g c).After-index_mut-entry),
    )

pub advance-requires-clause-room : goal.advance-requires-clause-room
advance-requires-clause-room g c =
    let some = c.requires.stands in
    room (g.C.Meant.meant c.args.code.now).meaning (machine_runs (g.C.Meant.meant c.args.code.now).parts) c.known-2.ensures.lawful
    (g.H.HeapAt.state c.args.heap.now) c.args.active.now.items some.budget some.next some.history some.stands

pub settle-requires : goal.settle-requires
settle-requires g c =
    let some = c.requires.stands in
    let e = c.index_mut-entry.result.now in
    let b = c.advance.new.activation in
    let may = may-publish (g.C.Meant.meant c.args.code.now).meaning (machine_runs (g.C.Meant.meant c.args.code.now).parts) c.known-2.ensures.lawful
    (g.H.HeapAt.state c.args.heap.now) (c.known-2.ensures.waits c.args.heap.now) c.known_versions.ensures c.known.ensures.written
    c.args.active.now.items some.budget some.next some.history some.stands c.args.at e (found g (goal.at.settle-requires g c).After-index_mut-entry)
    (g.H.HeapAt.state c.advance.new.heap) (c.known-2.ensures.stays c.args.heap.now c.advance.new.heap) b c.in_ok-end.end c.advance.ensures.kept c.in_ok-end.ensures.writes c.in_ok-end.ensures.ok in
    subst (λ p. MayPublish (g.H.HeapAt.state c.advance.new.heap) e.parent p) (sym c.place-place.ensures) may

pub returns-clause-ok : goal.returns-clause-ok
returns-clause-ok g c = IfOk-weaker c.settle.result _ _ (λ r settled. λ budget next h stand.
    let m = (g.C.Meant.meant c.args.code.now).meaning in
    let x = machine_runs {H = g.row.H.Denot} {P = g.row.H-Place.Denot} {R = g.row.H-Ref.Denot} (g.C.Meant.meant c.args.code.now).parts in
    let s = g.H.HeapAt.state c.args.heap.now in
    let t = g.H.HeapAt.state c.advance.new.heap in
    let u = g.H.HeapAt.state c.settle.new.heap in
    let active = c.args.active.now.items in
    let e = c.index_mut-entry.result.now in
    let b = c.advance.new.activation in
    let there = found g (goal.at.returns-clause-ok g c).After-index_mut-entry in
    let number : e.run ≡ c.args.run = run-is active c.args.at e c.args.run there c.requires.run in
    let out = taken active c.args.at (record e { activation = b }) c.remove-closed.result c.requires.at c.remove-closed.ensures.value in
    let is_printed : c.into_printed-printed.result ≡ x.printed b = c.into_printed-printed.ensures
    ∙ ap (λ (z : OpenEntry g.row.H.Denot g.row.H-Ref.Denot g.row.H-Place.Denot). x.printed z.activation) out in
    let settled : Settled t e.parent c.args.run (x.place b) c.into_printed-printed.result c.in_ok-end.end r u (c.settle.new.heap ≡ c.advance.new.heap) =
    subst (λ p. Settled t e.parent c.args.run p c.into_printed-printed.result c.in_ok-end.end r u (c.settle.new.heap ≡ c.advance.new.heap)) c.place-place.ensures settled in
    let both = closed-answers m x c.known-2.ensures.lawful s (c.known-2.ensures.waits c.args.heap.now) c.known_versions.ensures c.known.ensures.written active budget next h stand c.args.at e there
    t (c.known-2.ensures.stays c.args.heap.now c.advance.new.heap) b c.in_ok-end.end c.advance.ensures.kept c.in_ok-end.ensures.writes c.in_ok-end.ensures.ok
    c.known_versions-2.ensures c.known-3.ensures.written u (c.known-2.ensures.stays c.advance.new.heap c.settle.new.heap)
    c.into_printed-printed.result is_printed r (c.settle.new.heap ≡ c.advance.new.heap)
    (λ same Q q. subst (λ z. Q (g.H.HeapAt.state z)) (sym same) q) c.args.run number settled in
    record { stands = subst (λ items. StandsFor m x items budget next u (closed m h c.args.run.0)) (sym c.remove-closed.ensures.items) both.0; reply = both.1 }) c.settle.ensures.ok

pub returns-clause-err : goal.returns-clause-err
returns-clause-err g c =
    on-err-weaker c.settle.result (stay-trans (g.H.HeapAt.state c.args.heap.now) (g.H.HeapAt.state c.advance.new.heap)
    (g.H.HeapAt.state c.settle.new.heap) (stays g (goal.at.returns-clause-err g c).After-advance)) c.settle.ensures.err

pub returns-in_err-end-clause-err : goal.returns-in_err-end-clause-err
returns-in_err-end-clause-err g c = on-err c.from_residual.result (stays g (goal.at.returns-in_err-end-clause-err g c).After-advance)
