use Rattle.std.proofs.Common.{◌≡◌, ◌∙◌, arith, List, []}
use Rattle.pst_program.specs.Outcome.{no_counts}
use Rattle.pst_versions.specs.State.{Unchanged}
use Rattle.pst_history.specs.History.{History, call_of}
use Rattle.pst_history.specs.Accepted.{IsAccepted}
use Rattle.pst_engine_runs.specs.Runs.{MayAdd, machine_runs}
use Rattle.pst_engine_runs.specs.declared.entry.OpenEntry.{OpenEntry}
use Rattle.pst_engine_runs.specs.Stands.{StandsFor}
use Rattle.pst_engine_runs.proofs.Slicing.{room, stay-refl, stay-unchanged}
use Rattle.pst_engine_runs.proofs.Queries.{read-keeps}
use Rattle.pst_engine_runs.proofs.Queries.{query-begins, query-may-add, query-waits, query-closed, query-answers}
use Rattle.pst_engine_runs.proofs.reading.query.Given.{Over}
use Rattle.pst_engine_runs.proofs.reading.query.Goals.{In_ok-activation, After-advance}
use Rattle.pst_engine_runs.proofs.reading.query.Goals as goal

-- the call can be added to the run without a call
may-add : (g : Over) (c : In_ok-activation g) (active : List (OpenEntry g.row.H.Denot g.row.H-Ref.Denot g.row.H-Place.Denot)) (h : History)
    → StandsFor (g.C.Meant.meant c.args.code.now).meaning (machine_runs (g.C.Meant.meant c.args.code.now).parts) active c.args.budget c.args.number.0
    (g.H.HeapAt.state c.args.heap.now) h → IsAccepted h ((g.C.Meant.meant c.args.code.now).meaning.query c.args.first.now.procedure) c.args.first.now
    → MayAdd (g.C.Meant.meant c.args.code.now).meaning (machine_runs (g.C.Meant.meant c.args.code.now).parts) (g.H.HeapAt.state c.args.heap.now)
    c.in_ok-activation.activation (record { run = c.args.number; calls = []; budget = c.args.budget }) 0
    ((g.H.HeapAt.state c.args.heap.now).heap c.place_at-at.result) no_counts (call_of c.args.first.now)
may-add g c active h stand accepted =
    let m = (g.C.Meant.meant c.args.code.now).meaning in
    let x = machine_runs {H = g.row.H.Denot} {P = g.row.H-Place.Denot} {R = g.row.H-Ref.Denot} (g.C.Meant.meant c.args.code.now).parts in
    let s = g.H.HeapAt.state c.args.heap.now in
    let begins = query-begins m x c.known-2.ensures.lawful s c.known.ensures active c.args.budget c.args.number h stand c.args.first.now accepted c.place_at-at.result c.place_at-at.ensures in
    let stands = c.in_ok-activation.ensures.stands c.args.heap.now begins in
    query-may-add m x c.known-2.ensures.lawful s c.known.ensures active c.args.budget c.args.number h stand c.args.first.now accepted
    c.place_at-at.result c.place_at-at.ensures c.in_ok-activation.activation stands

-- the place is a version's, so the slice changes nothing
reads : (g : Over) (c : After-advance g) → c.add.new.activation.stage.standing.place ≡ c.place_at-at.result → Unchanged (g.H.HeapAt.state c.args.heap.now) (g.H.HeapAt.state c.advance.new.heap)
reads g c same =
    let m = (g.C.Meant.meant c.args.code.now).meaning in
    let x = machine_runs {H = g.row.H.Denot} {P = g.row.H-Place.Denot} {R = g.row.H-Ref.Denot} (g.C.Meant.meant c.args.code.now).parts in
    let asks = c.requires in
    c.advance.ensures.reads (query-closed m x c.known-2.ensures.lawful (g.H.HeapAt.state c.args.heap.now) c.known.ensures asks.active c.args.budget
    c.args.number asks.history asks.stands c.args.first.now asks.accepted c.place_at-at.result c.place_at-at.ensures c.known_versions.ensures
    c.add.new.activation same)

pub place_at-at-requires : goal.place_at-at-requires
place_at-at-requires g c = let many = c.requires.stands.versions.many in let there = c.requires.accepted.there in omega arith

pub add-requires : goal.add-requires
add-requires g c =
    let asks = c.requires in
    (c.args.heap.now, (_, _, _, _, may-add g (goal.at.add-requires g c).In_ok-activation asks.active asks.history asks.stands asks.accepted))

pub advance-requires-clause-ready : goal.advance-requires-clause-ready
advance-requires-clause-ready g c =
    let m = (g.C.Meant.meant c.args.code.now).meaning in
    let x = machine_runs {H = g.row.H.Denot} {P = g.row.H-Place.Denot} {R = g.row.H-Ref.Denot} (g.C.Meant.meant c.args.code.now).parts in
    let asks = c.requires in
    let may = may-add g (goal.at.advance-requires-clause-ready g c).In_ok-activation asks.active asks.history asks.stands asks.accepted in
    let waits = c.in_ok-add.ensures.waits c.args.heap.now _ _ _ _ may in (
      _,
      _,
      _,
      _,
      query-waits m x c.known-2.ensures.lawful (g.H.HeapAt.state c.args.heap.now) c.known.ensures asks.active c.args.budget c.args.number
          asks.history asks.stands c.args.first.now asks.accepted c.place_at-at.result c.place_at-at.ensures c.add.new.activation waits,
    )

pub advance-requires-clause-room : goal.advance-requires-clause-room
advance-requires-clause-room g c = room (g.C.Meant.meant c.args.code.now).meaning (machine_runs (g.C.Meant.meant c.args.code.now).parts)
    c.known-2.ensures.lawful (g.H.HeapAt.state c.args.heap.now) c.requires.active c.args.budget c.args.number.0 c.requires.history c.requires.stands

pub returns-clause-ok : goal.returns-clause-ok
returns-clause-ok g c = λ active h stand accepted.
    let m = (g.C.Meant.meant c.args.code.now).meaning in
    let x = machine_runs {H = g.row.H.Denot} {P = g.row.H-Place.Denot} {R = g.row.H-Ref.Denot} (g.C.Meant.meant c.args.code.now).parts in
    let s = g.H.HeapAt.state c.args.heap.now in
    let t = g.H.HeapAt.state c.advance.new.heap in
    let at = goal.at.returns-clause-ok g c in
    let waits = c.in_ok-add.ensures.waits c.args.heap.now _ _ _ _ (may-add g at.In_ok-activation active h stand accepted) in
    let waiting = query-waits m x c.known-2.ensures.lawful s c.known.ensures active c.args.budget c.args.number h stand c.args.first.now accepted
    c.place_at-at.result c.place_at-at.ensures c.add.new.activation waits in
    let adv = c.in_ok-end.ensures.ok _ _ _ _ waiting in
    let same = reads g at.After-advance (c.in_ok-add.ensures.place ∙ c.in_ok-activation.ensures.place) in record {
      stands = read-keeps m x s t (c.known-2.ensures.stays c.args.heap.now c.advance.new.heap) c.known_versions.ensures c.known.ensures.written active
          c.args.budget c.args.number.0 h stand same c.in_ok-end.ensures.writes;
      reply = c.queried.ensures ∙ query-answers m x c.known-2.ensures.lawful s c.known.ensures active c.args.budget c.args.number h stand
          c.args.first.now accepted c.place_at-at.result c.place_at-at.ensures t c.add.new.activation c.advance.new.activation c.in_ok-end.end
          c.ranges.budget.fits adv c.into_printed.result c.into_printed.ensures;
    }

pub returns-clause-stay : goal.returns-clause-stay
returns-clause-stay g c = stay-unchanged (g.H.HeapAt.state c.args.heap.now) (g.H.HeapAt.state c.advance.new.heap) c.known_versions.ensures
    (reads g (goal.at.returns-clause-stay g c).After-advance (c.in_ok-add.ensures.place ∙ c.in_ok-activation.ensures.place))

pub returns-in_err-end-clause-stay : goal.returns-in_err-end-clause-stay
returns-in_err-end-clause-stay g c = stay-unchanged (g.H.HeapAt.state c.args.heap.now) (g.H.HeapAt.state c.advance.new.heap) c.known_versions.ensures
    (reads g (goal.at.returns-in_err-end-clause-stay g c).After-advance (c.in_ok-add.ensures.place ∙ c.in_ok-activation.ensures.place))

pub returns-in_err-add-clause-stay : goal.returns-in_err-add-clause-stay
returns-in_err-add-clause-stay g c = stay-refl (g.H.HeapAt.state c.args.heap.now) c.known_versions.ensures
