use Rattle.std.proofs.Common.{◌≡◌, ◌-◌, ℕ, sym, ap, ◌∙◌, subst, ⊎_elim, arith}
use Rattle.std.proofs.lemmas.Bool.{cases_eq}
use Rattle.pst_order.specs.Places.{rank}
use Rattle.pst_mirror.specs.Mirror.{Chart, IsMirrored, names}
use Rattle.pst_nodes.specs.Arena.{chart}
use Rattle.pst_nodes.proofs.NodeLemmas.{some_row, narrow_slot}
use Rattle.pst_repair.proofs.RoomLemmas.{same_holds, same_chart, same_rows, same_slot, same_on}
use Rattle.pst_repair.proofs.room.make_room.Goals as goal

pub overflow_cast-slot : goal.overflow_cast-slot
overflow_cast-slot g c =
    let s = c.requires.slots c.loop-index.index c.loop-index-test.true in
    let n = narrow_slot (g.O.Order.places c.args.order.now) c.args.nodes.now.list.items c.args.x.0
    ((rank (g.O.Order.places c.args.order.now)) c.args.at.0) c.loop-index.index (some_row c.args.nodes.now.list.items c.args.x.0 s.alive.there)
    c.requires.rows s in
    omega (arith, n)

pub reserve_partner-requires-clause-rows : goal.reserve_partner-requires-clause-rows
reserve_partner-requires-clause-rows g c = same_rows c.args.nodes.now.list.items c.loop-index.nodes.list.items c.loop-index.invariant.same (g.O.Order.places c.args.order.now) c.requires.rows

pub reserve_partner-requires-clause-mirrored : goal.reserve_partner-requires-clause-mirrored
reserve_partner-requires-clause-mirrored g c = subst (λ (w : Chart). IsMirrored w)
    (sym (same_chart c.args.nodes.now.list.items c.loop-index.nodes.list.items c.loop-index.invariant.same (g.O.Order.places c.args.order.now)))
    c.requires.mirrored

pub reserve_partner-requires-clause-slot : goal.reserve_partner-requires-clause-slot
reserve_partner-requires-clause-slot g c = same_slot c.args.nodes.now.list.items c.loop-index.nodes.list.items c.loop-index.invariant.same
    (g.O.Order.places c.args.order.now) c.args.x.0 c.loop-index.index ((rank (g.O.Order.places c.args.order.now)) c.args.at.0)
    (c.requires.slots c.loop-index.index c.loop-index-test.true)

pub returns-in_err-reserve_partner-clause-same : goal.returns-in_err-reserve_partner-clause-same
returns-in_err-reserve_partner-clause-same g c = same_on c.args.nodes.now.list.items c.loop-index.nodes.list.items
    c.reserve_partner.new.nodes.list.items c.loop-index.invariant.same c.reserve_partner.ensures.same

pub loop-index-preserved : goal.loop-index-preserved
loop-index-preserved g c = record {
  same = same_on c.args.nodes.now.list.items c.loop-index.nodes.list.items c.reserve_partner.new.nodes.list.items c.loop-index.invariant.same c.reserve_partner.ensures.same;
  room = λ s j d a b e ne. ⊎_elim
      (λ (q : s ≡ c.loop-index.index). c.in_ok-reserve_partner.ensures.room j d
      (ap (names j) (same_holds c.args.nodes.now.list.items c.loop-index.nodes.list.items c.loop-index.invariant.same
      (g.O.Order.places c.args.order.now) c.args.x.0 c.loop-index.index ((rank (g.O.Order.places c.args.order.now)) c.args.at.0)
      ∙ ap (λ (k : ℕ). (chart (g.O.Order.places c.args.order.now) c.args.nodes.now.list.items).holds c.args.x.0 k
      ((rank (g.O.Order.places c.args.order.now)) c.args.at.0)) (sym q)) ∙ e) ne)
      (λ (q : s ≡ c.loop-index.index → ⊥). c.reserve_partner.ensures.same.room j d (c.args.end - c.args.first) (c.loop-index.invariant.room s j d a (omega arith) e ne))
      (cases_eq s c.loop-index.index);
  spare = c.reserve_partner.ensures.spare ∙ c.loop-index.invariant.spare;
}

pub returns-clause-room : goal.returns-clause-room
returns-clause-room g c s j d a b e ne = c.loop-index.invariant.room s j d a (omega (arith, c.loop-index-test.false))
    (ap (names j) (sym (same_holds c.args.nodes.now.list.items c.loop-index.nodes.list.items c.loop-index.invariant.same
    (g.O.Order.places c.args.order.now) c.args.x.0 s ((rank (g.O.Order.places c.args.order.now)) c.args.at.0))) ∙ e) ne
