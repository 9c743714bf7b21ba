use Rattle.std.proofs.Common.{◌≡◌, ◌-◌, ℕ, true}
use Rattle.pst_order.specs.Places.{rank}
use Rattle.pst_nodes.specs.Arena.{AreRows, chart}
use Rattle.pst_repair.specs.Steps.{ArePartnersCutUpTo, AreGrown, KeepsQueue, HasQueuedOnly}
use Rattle.pst_mirror.specs.Mirror.{names}
use Rattle.pst_repair.proofs.cuts.cut_partners.Given as goal

abbrev pub invariant-loop-index : goal.invariant-loop-index
invariant-loop-index g l =
    let qs = g.O.Order.places l.order in
    record {
      rows : AreRows qs l.nodes.list.items;
      cut : ArePartnersCutUpTo (chart qs l.fn.nodes.list.items) (chart qs l.nodes.list.items) l.x.0 l.z.0 (rank qs l.at.0) l.first l.index;
      grown : AreGrown (l.index - l.first) l.shape l.fn.nodes.list.items l.nodes.list.items;
      queue : KeepsQueue (λ _. ⊥) l.shape l.fn.nodes.list.items l.nodes.list.items l.fn.queue l.queue;
      named : HasQueuedOnly (λ i. (s : ℕ) × (names i ((chart qs l.fn.nodes.list.items).holds l.z.0 s (rank qs l.at.0)) ≡ true)) l.fn.nodes.list.items l.nodes.list.items l.fn.queue l.queue;
    }
