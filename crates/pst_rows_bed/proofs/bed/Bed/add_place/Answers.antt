use Rattle.std.proofs.Common.{refl, subst}
use Rattle.pst_order.specs.declared.order.Pos.{Pos}
use Rattle.pst_order.specs.Places.{IsInsertedAfter}
use Rattle.pst_rows_bed.proofs.BedLemmas.{ready_inserted}
use Rattle.pst_rows_bed.proofs.bed.Bed.add_place.Goals as goal

pub returns-clause-ready : goal.returns-clause-ready
returns-clause-ready g c =
    let ins : IsInsertedAfter (g.O.Order.places c.args.order.now) (g.O.Order.places c.insert_after.new.self) c.args.self.now.row.lo.0
    c.in_ok-place.place.0 = subst (λ (p : Pos). IsInsertedAfter (g.O.Order.places c.args.order.now) (g.O.Order.places c.insert_after.new.self) p.0
    c.in_ok-place.place.0) c.lo.ensures c.in_ok-place.ensures.ok in
    (ready_inserted (g.O.Order.places c.args.order.now) (g.O.Order.places c.insert_after.new.self) c.args.self.now _ c.in_ok-place.place
    c.requires.ready ins refl refl refl c.in_ok-push.ensures.items).0

pub returns-clause-behind : goal.returns-clause-behind
returns-clause-behind g c =
    let ins : IsInsertedAfter (g.O.Order.places c.args.order.now) (g.O.Order.places c.insert_after.new.self) c.args.self.now.row.lo.0
    c.in_ok-place.place.0 = subst (λ (p : Pos). IsInsertedAfter (g.O.Order.places c.args.order.now) (g.O.Order.places c.insert_after.new.self) p.0
    c.in_ok-place.place.0) c.lo.ensures c.in_ok-place.ensures.ok in
    (ready_inserted (g.O.Order.places c.args.order.now) (g.O.Order.places c.insert_after.new.self) c.args.self.now
    (record { row = c.args.self.now.row; places = c.push.new.self; base = c.args.self.now.base; stamps = c.args.self.now.stamps })
    c.in_ok-place.place c.requires.ready ins refl refl refl c.in_ok-push.ensures.items).1
