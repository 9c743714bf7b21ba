use Rattle.std.proofs.Common.{◌≡◌, ◌+◌, [], ◌∷◌, ◌++◌, ap, sym, ◌∙◌, subst, refl, arith, slice_get, length-append}
use Rattle.pst_history.proofs.Lists.{slice_get-last}
use Rattle.pst_engine_runs.proofs.Entries.{if-some}
use Rattle.std.specs.Prelude.{length}
use Rattle.pst_history.specs.History.{opened}
use Rattle.pst_versions.specs.State.{Forked, IsPublished}
use Rattle.pst_engine_runs.specs.declared.entry.OpenEntry.{OpenEntry}
use Rattle.pst_engine_runs.specs.Stands.{StandsFor}
use Rattle.pst_engine_runs.specs.Runs.{machine_runs}
use Rattle.pst_engine_runs.proofs.Slicing.{stay-forked, stay-refused}
use Rattle.pst_engine_runs.proofs.NewRuns.{row-at, begins-forked}
use Rattle.pst_engine.proofs.Begin.{open-keeps}
use Rattle.pst_engine.proofs.opening.open.Goals as goal

pub place_at-requires : goal.place_at-requires
place_at-requires g c = let many = c.requires.stands.versions.many in let there = c.requires.may.there in omega arith

pub fork-requires-clause-published : goal.fork-requires-clause-published
fork-requires-clause-published g c =
    let s = g.H.HeapAt.state c.args.heap.now in
    let many = c.requires.stands.versions.many in
    let there = c.requires.may.there in
    let w = row-at s.versions c.args.version.0 c.place_at.result (omega arith) c.place_at.ensures in
    subst (λ p. IsPublished s p) w.2 (c.known_versions.ensures.places c.args.version.0 w.0 w.1)

pub fork-requires-clause-calls : goal.fork-requires-clause-calls
fork-requires-clause-calls g c =
    let stand = c.requires.stands in
    let calls = stand.calls in
    let next = stand.same_next in
    let room = c.requires.may.room in
    omega arith

pub returns-clause-ok : goal.returns-clause-ok
returns-clause-ok g c = λ h stand may.
    let m = (g.C.Meant.meant c.args.code.now).meaning in
    let x = machine_runs {H = g.row.H.Denot} {P = g.row.H-Place.Denot} {R = g.row.H-Ref.Denot} (g.C.Meant.meant c.args.code.now).parts in
    let s = g.H.HeapAt.state c.args.heap.now in
    let t = g.H.HeapAt.state c.fork.new.self in
    let place = c.in_ok-place.place in
    let a = c.in_ok-activation.activation in
    let many = stand.versions.many in
    let there = may.there in
    let w = row-at s.versions c.args.version.0 c.place_at.result (omega arith) c.place_at.ensures in
    let f : Forked s w.0.place place t = subst (λ p. Forked s p place t) (sym w.2) c.in_ok-place.ensures.ok in
    let source = (stand.versions.versions c.args.version.0 w.0 w.1).has in
    let begins = begins-forked m x s c.args.active.now.items c.args.budget c.args.next_run.0 h stand t w.0.place place f source c.known-3.ensures c.args.next_run refl in
    let stands = c.in_ok-activation.ensures.stands c.fork.new.self begins in
    let e : OpenEntry _ _ _ = record { run = c.args.next_run; parent = c.args.version; calls = 0; activation = a } in
    let items : c.push.new.self.items ≡ c.args.active.now.items ++ e ∷ [] = c.in_ok-push.ensures.items in
    subst (λ items. StandsFor m x items c.args.budget (c.args.next_run.0 + 1) t (opened h c.args.version [])) (sym items)
    (open-keeps m x c.known-2.ensures.lawful s t (c.known-2.ensures.stays c.args.heap.now c.fork.new.self) c.known_versions.ensures
    c.known.ensures.written c.args.active.now.items c.args.budget c.args.next_run.0 h stand c.args.version may w.0 w.1 place a c.args.next_run
    refl f c.in_ok-activation.ensures.place stands)

pub returns-clause-at : goal.returns-clause-at
returns-clause-at g c =
    let active = c.args.active.now.items in
    let e : OpenEntry _ _ _ = record { run = c.args.next_run; parent = c.args.version; calls = 0; activation = c.in_ok-activation.activation } in
    let items : c.push.new.self.items ≡ active ++ e ∷ [] = c.in_ok-push.ensures.items in
    let ok = c.args.active.now.ok in let at : c.len-at.result ≡ length active = c.len-at.ensures ∙ ok.0 in
    let more : length c.push.new.self.items ≡ length active + 1 = ap (λ xs. length xs) items ∙ length-append active (e ∷ []) in (
      omega arith,
      if-some (λ f. f.run ≡ c.args.next_run) (slice_get c.push.new.self.items c.len-at.result) e
          (ap (slice_get c.push.new.self.items) at ∙ ap (λ xs. slice_get xs (length active)) items ∙ slice_get-last active e) refl,
    )

pub returns-clause-stay : goal.returns-clause-stay
returns-clause-stay g c = stay-forked (g.H.HeapAt.state c.args.heap.now) (g.H.HeapAt.state c.fork.new.self) c.place_at.result c.in_ok-place.place c.known_versions.ensures c.in_ok-place.ensures.ok

pub returns-in_err-activation-clause-stay : goal.returns-in_err-activation-clause-stay
returns-in_err-activation-clause-stay g c = stay-forked (g.H.HeapAt.state c.args.heap.now) (g.H.HeapAt.state c.fork.new.self) c.place_at.result
    c.in_ok-place.place c.known_versions.ensures c.in_ok-place.ensures.ok

pub returns-in_err-place-clause-stay : goal.returns-in_err-place-clause-stay
returns-in_err-place-clause-stay g c = stay-refused (g.H.HeapAt.state c.args.heap.now) (g.H.HeapAt.state c.fork.new.self) c.known_versions.ensures c.in_err-place.ensures.err

pub returns-in_err-push-clause-stay : goal.returns-in_err-push-clause-stay
returns-in_err-push-clause-stay g c = stay-forked (g.H.HeapAt.state c.args.heap.now) (g.H.HeapAt.state c.fork.new.self) c.place_at.result
    c.in_ok-place.place c.known_versions.ensures c.in_ok-place.ensures.ok
