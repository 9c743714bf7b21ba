use Rattle.std.proofs.Common.{◌≡◌, ◌∙◌, ap, sym, subst, arith}
use Rattle.std.specs.Prelude.{length}
use Rattle.std.proofs.lemmas.Option.{same_Some}
use Rattle.pst_history.specs.History.{call_of}
use Rattle.pst_line.specs.declared.place.LinePlace.{LinePlace}
use Rattle.pst_linerun.specs.Carried.{CameTo, MayCarryOut, one_call}
use Rattle.pst_linerun.proofs.Asking.{ask-below, ask-closed, ask-may, ask-reply, read-closed, read-stands, some-place}
use Rattle.pst_linerun.proofs.Holding.{many-rows, some-version}
use Rattle.pst_linerun.proofs.lines.ask.Given.{Over}
use Rattle.pst_linerun.proofs.lines.ask.Goals.{After-carry_out, After-unwrap-at}
use Rattle.pst_linerun.proofs.lines.ask.Goals as goal

-- the place is that of the version
place-is : (g : Over) (c : After-unwrap-at g) → c.unwrap-at.result ≡ record { stamp = record { 0 = c.args.call.now.version.0 } }
place-is g c =
    let m = (g.C.Meant.meant c.args.code.now).meaning in
    let s = g.S.HeapAt.state c.args.store.now in
    let stored = g.S.LineCalls.stored c.args.store.now in
    let below = ask-below m c.known.ensures.lawful c.args.budget c.args.number s stored c.requires.history c.requires.stands
    c.known_line.ensures.means c.known_line.ensures.chain c.known-2.ensures c.args.call.now c.requires.accepted in
    same_Some c.unwrap-at.result (record { stamp = record { 0 = c.args.call.now.version.0 } })
    (sym c.unwrap-at.ensures ∙ some-place c.args.call.now.version.0 (length s.versions) c.at.result below c.at.ensures.number)

pub carry_out-requires : goal.carry_out-requires
carry_out-requires g c =
    let m = (g.C.Meant.meant c.args.code.now).meaning in
    let s = g.S.HeapAt.state c.args.store.now in
    let stored = g.S.LineCalls.stored c.args.store.now in
    let may = ask-may m c.known.ensures.lawful c.args.budget c.args.number s stored c.requires.history c.requires.stands c.known_line.ensures.means
    c.known_line.ensures.chain c.known-2.ensures c.args.call.now c.requires.accepted in
    let Q : LinePlace → Type 0 = λ p. MayCarryOut m s p c.args.number c.args.budget (call_of c.args.call.now) in
    subst Q (sym (place-is g (goal.at.carry_out-requires g c).After-unwrap-at)) may

pub returns-clause-ok : goal.returns-clause-ok
returns-clause-ok g c = λ h stand accepted.
    let m = (g.C.Meant.meant c.args.code.now).meaning in
    let s = g.S.HeapAt.state c.args.store.now in
    let t = g.S.HeapAt.state c.carry_out.new.heap in
    let stored = g.S.LineCalls.stored c.args.store.now in
    let stored_t = g.S.LineCalls.stored c.carry_out.new.heap in
    let law = c.known.ensures.lawful in
    let means = c.known_line.ensures.means in
    let chain = c.known_line.ensures.chain in
    let is = place-is g (goal.at.returns-clause-ok g c).After-unwrap-at in
    let closed : ¬ (s.writable c.unwrap-at.result) = λ w. ask-closed m law c.args.budget c.args.number s stored h stand means chain c.known-2.ensures
    c.args.call.now accepted (subst s.writable is w) in
    let same = c.carry_out.ensures.reads closed in
    let means_t = c.known_line-2.ensures.means in
    let came : CameTo m s (record { stamp = record { 0 = c.args.call.now.version.0 } }) (one_call c.args.number c.args.budget (call_of c.args.call.now)) c.in_ok-printed.printed c.in_ok-printed.end t =
    let Q : LinePlace → Type 0 = λ p. CameTo m s p (one_call c.args.number c.args.budget (call_of c.args.call.now)) c.in_ok-printed.printed
    c.in_ok-printed.end t in subst Q is c.in_ok-printed.ensures.ok in
    let some = some-version m law c.args.budget c.args.number.0 s stored h stand means chain in
    let many = many-rows t stored_t means_t in
    let rows : length t.versions ≡ length s.versions = ap (λ xs. length xs) same.keeps.versions in
    let shut = read-closed m law c.args.budget c.args.number.0 s stored h stand means chain t same stored_t means_t in
    record {
      stands = λ range. read-stands m law c.args.budget c.args.number.0 s stored h stand means chain t same stored_t means_t (c.known_line-2.ensures.closed (omega arith) shut).0;
      reply = c.queried.ensures ∙ ask-reply m law c.args.budget c.args.number s stored h stand means chain c.known-2.ensures c.args.call.now accepted
          t c.in_ok-printed.printed c.in_ok-printed.end came;
    }
