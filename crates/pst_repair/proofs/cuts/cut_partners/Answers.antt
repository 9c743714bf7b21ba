use Rattle.std.proofs.Common.{◌≡◌, ◌+◌, ◌-◌, ℕ, true, refl, sym, ap, ◌∙◌, subst, arith}
use Rattle.pst_order.specs.Places.{rank}
use Rattle.pst_mirror.specs.Mirror.{names}
use Rattle.pst_nodes.specs.Arena.{HasRoom, chart, row_at}
use Rattle.pst_nodes.proofs.NodeLemmas.{some_row, narrow_slot}
use Rattle.pst_repair.specs.Steps.{ArePartnersCutUpTo, AreGrown}
use Rattle.pst_repair.proofs.LoadLemmas.{grown_same, grown_on, grown_more, queue_on, over_grown, only_none, only_on, only_weaker}
use Rattle.pst_repair.proofs.CutLemmas.{slot_grown, all_typed, parted_same, none_cut, one_more_cut, held_after, queue_never, queue_nothing}
use Rattle.pst_repair.proofs.cuts.cut_partners.Goals as goal

pub loop-index-init : goal.loop-index-init
loop-index-init g c = record {
  rows = c.requires.rows;
  cut = none_cut (chart (g.O.Order.places c.args.order.now) c.args.nodes.now.list.items) c.args.x.0 c.args.z.0 ((rank (g.O.Order.places c.args.order.now)) c.args.at.0) c.args.first;
  grown = grown_more 0 (c.args.first - c.args.first) c.args.shape.now c.args.nodes.now.list.items c.args.nodes.now.list.items (omega arith)
      (grown_same c.args.shape.now c.args.nodes.now.list.items c.args.nodes.now.list.items refl refl refl);
  queue = queue_nothing c.args.shape.now c.args.nodes.now.list.items c.args.queue.now;
  named = only_none (λ i. (s : ℕ) × (names i ((chart (g.O.Order.places c.args.order.now) c.args.nodes.now.list.items).holds c.args.z.0 s
      (rank (g.O.Order.places c.args.order.now) c.args.at.0)) ≡ true)) c.args.nodes.now.list.items c.args.nodes.now.list.items c.args.queue.now (λ xs h. h);
}

pub overflow_cast-slot : goal.overflow_cast-slot
overflow_cast-slot g c =
    let s = slot_grown (c.loop-index.index - c.args.first) c.args.shape.now c.args.nodes.now.list.items c.loop-index.nodes.list.items
    c.loop-index.invariant.grown (g.O.Order.places c.args.order.now) c.args.z.0 c.loop-index.index
    ((rank (g.O.Order.places c.args.order.now)) c.args.at.0) (c.requires.slots c.loop-index.index c.loop-index-test.true) in
    let n = narrow_slot (g.O.Order.places c.args.order.now) c.loop-index.nodes.list.items c.args.z.0
    ((rank (g.O.Order.places c.args.order.now)) c.args.at.0) c.loop-index.index (some_row c.loop-index.nodes.list.items c.args.z.0 s.alive.there)
    c.loop-index.invariant.rows s in
    omega (arith, n)

pub cut_partner-requires-clause-slot : goal.cut_partner-requires-clause-slot
cut_partner-requires-clause-slot g c = slot_grown (c.loop-index.index - c.args.first) c.args.shape.now c.args.nodes.now.list.items
    c.loop-index.nodes.list.items c.loop-index.invariant.grown (g.O.Order.places c.args.order.now) c.args.z.0 c.loop-index.index
    ((rank (g.O.Order.places c.args.order.now)) c.args.at.0) (c.requires.slots c.loop-index.index c.loop-index-test.true)

pub cut_partner-requires-clause-parted : goal.cut_partner-requires-clause-parted
cut_partner-requires-clause-parted g c = (
  c.requires.parted.0,
  parted_same c.requires.parted.0 (chart (g.O.Order.places c.args.order.now) c.args.nodes.now.list.items)
      (chart (g.O.Order.places c.args.order.now) c.loop-index.nodes.list.items) c.args.x.0 c.args.z.0
      ((rank (g.O.Order.places c.args.order.now)) c.args.at.0) c.loop-index.invariant.cut.holds c.requires.parted.1,
)

pub cut_partner-requires-clause-typed : goal.cut_partner-requires-clause-typed
cut_partner-requires-clause-typed g c = all_typed (c.loop-index.index - c.args.first) c.args.shape.now c.args.nodes.now.list.items
    c.loop-index.nodes.list.items c.loop-index.invariant.grown c.requires.typed

pub cut_partner-requires-clause-room : goal.cut_partner-requires-clause-room
cut_partner-requires-clause-room g c s j d e ne =
    let was : names j ((chart (g.O.Order.places c.args.order.now) c.args.nodes.now.list.items).holds c.args.z.0 s
    ((rank (g.O.Order.places c.args.order.now)) c.args.at.0)) ≡ true =
    ap (names j) (sym (c.loop-index.invariant.cut.holds c.args.z.0 s ((rank (g.O.Order.places c.args.order.now)) c.args.at.0))) ∙ e in
    let some : HasRoom (row_at c.args.nodes.now.list.items j d) (1 + (c.loop-index.index - c.args.first)) =
    omega (arith, c.requires.room s j d was ne, c.loop-index-test.true, c.loop-index.auto.index) in
    c.loop-index.invariant.grown.room j d 1 some

pub cut_partner-requires-clause-held : goal.cut_partner-requires-clause-held
cut_partner-requires-clause-held g c = held_after c.args.shape.now (λ _. ⊥) c.args.nodes.now.list.items c.loop-index.nodes.list.items c.args.queue.now
    c.loop-index.queue c.requires.held c.loop-index.invariant.queue

pub loop-index-preserved : goal.loop-index-preserved
loop-index-preserved g c = record {
  rows = c.cut_partner.ensures.rows;
  cut = one_more_cut (chart (g.O.Order.places c.args.order.now) c.args.nodes.now.list.items)
      (chart (g.O.Order.places c.args.order.now) c.loop-index.nodes.list.items)
      (chart (g.O.Order.places c.args.order.now) c.cut_partner.new.nodes.list.items) c.args.x.0 c.args.z.0
      ((rank (g.O.Order.places c.args.order.now)) c.args.at.0) c.args.first c.loop-index.index c.loop-index.auto.index c.loop-index.invariant.cut
      c.cut_partner.ensures.cut;
  grown = grown_more (c.loop-index.index - c.args.first + 1) (c.loop-index.index + 1 - c.args.first) c.args.shape.now c.args.nodes.now.list.items
      c.cut_partner.new.nodes.list.items (omega (arith, c.loop-index.auto.index))
      (grown_on (c.loop-index.index - c.args.first) 1 c.args.shape.now c.args.nodes.now.list.items c.loop-index.nodes.list.items
      c.cut_partner.new.nodes.list.items c.loop-index.invariant.grown c.cut_partner.ensures.grown);
  queue = queue_never c.args.shape.now c.args.nodes.now.list.items c.cut_partner.new.nodes.list.items c.args.queue.now c.cut_partner.new.queue
      (queue_on (λ _. ⊥) (λ _. ⊥) c.args.shape.now c.args.nodes.now.list.items c.loop-index.nodes.list.items c.cut_partner.new.nodes.list.items
      c.args.queue.now c.loop-index.queue c.cut_partner.new.queue
      (λ i o. over_grown 1 c.args.shape.now c.loop-index.nodes.list.items c.cut_partner.new.nodes.list.items i c.cut_partner.ensures.grown o)
      c.loop-index.invariant.queue c.cut_partner.ensures.queue);
  named = only_on (λ i. (s : ℕ) × (names i ((chart (g.O.Order.places c.args.order.now) c.args.nodes.now.list.items).holds c.args.z.0 s
      (rank (g.O.Order.places c.args.order.now) c.args.at.0)) ≡ true)) c.args.nodes.now.list.items c.loop-index.nodes.list.items
      c.cut_partner.new.nodes.list.items c.args.queue.now c.loop-index.queue c.cut_partner.new.queue c.loop-index.invariant.named
      (only_weaker (λ i. names i ((chart (g.O.Order.places c.args.order.now) c.loop-index.nodes.list.items).holds c.args.z.0 c.loop-index.index
      (rank (g.O.Order.places c.args.order.now) c.args.at.0)) ≡ true)
      (λ i. (s : ℕ) × (names i ((chart (g.O.Order.places c.args.order.now) c.args.nodes.now.list.items).holds c.args.z.0 s
      (rank (g.O.Order.places c.args.order.now) c.args.at.0)) ≡ true)) c.loop-index.nodes.list.items c.cut_partner.new.nodes.list.items
      c.loop-index.queue c.cut_partner.new.queue
      (λ i e. (
        c.loop-index.index,
        ap (names i) (sym (c.loop-index.invariant.cut.holds c.args.z.0 c.loop-index.index
            (rank (g.O.Order.places c.args.order.now) c.args.at.0))) ∙ e,
      )) c.cut_partner.ensures.named);
}

pub returns-clause-cut : goal.returns-clause-cut
returns-clause-cut g c =
    let e : c.loop-index.index ≡ c.args.end = omega (arith, c.loop-index-test.false, c.loop-index.auto.index-end, c.requires.few) in
    subst (λ (k : ℕ). ArePartnersCutUpTo (chart (g.O.Order.places c.args.order.now) c.args.nodes.now.list.items)
    (chart (g.O.Order.places c.args.order.now) c.loop-index.nodes.list.items) c.args.x.0 c.args.z.0
    ((rank (g.O.Order.places c.args.order.now)) c.args.at.0) c.args.first k) e c.loop-index.invariant.cut

pub returns-clause-grown : goal.returns-clause-grown
returns-clause-grown g c =
    let e : c.loop-index.index ≡ c.args.end = omega (arith, c.loop-index-test.false, c.loop-index.auto.index-end, c.requires.few) in
    subst (λ (k : ℕ). AreGrown (k - c.args.first) c.args.shape.now c.args.nodes.now.list.items c.loop-index.nodes.list.items) e c.loop-index.invariant.grown
