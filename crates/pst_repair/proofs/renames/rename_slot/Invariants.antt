use Rattle.std.proofs.Common.{◌≡◌, ◌≤◌, ◌-◌, ℕ, true}
use Rattle.pst_order.specs.Places.{rank}
use Rattle.pst_mirror.specs.Partners.{IsHalfway}
use Rattle.pst_mirror.specs.SplitBody.{finished}
use Rattle.pst_nodes.specs.Arena.{AreRows, chart, lo_at, hi_at}
use Rattle.pst_repair.specs.Steps.{AreReplaced, begin_of, slot_done_to}
use Rattle.pst_repair.proofs.renames.rename_slot.Given as goal

abbrev pub invariant-loop-at : goal.invariant-loop-at
invariant-loop-at g l =
    let qs = g.O.Order.places l.order in
    let old = l.fn.nodes.list.items in
    let now = l.nodes.list.items in
    record {
      half : IsHalfway (chart qs old) (finished (chart qs old) l.x.0 l.z.0 (begin_of qs old l.z.0)) (chart qs now) l.z.0 (slot_done_to l.slot.0 (rank qs l.at.0));
      edges : (i g m : ℕ) → (chart qs now).edge i g m ≡ (chart qs old).edge i g m;
      rows : AreRows qs now;
      same : AreReplaced old now;
      low : rank qs (lo_at old l.z.0) ≤ rank qs l.at.0;
      high : rank qs l.at.0 ≤ rank qs (hi_at old l.z.0);
      begins : (chart qs old).edge l.z.0 l.slot.0 (rank qs l.at.0) ≡ true;
    }

abbrev pub decreases-loop-at : goal.decreases-loop-at
decreases-loop-at g l = rank (g.O.Order.places l.order) (hi_at l.fn.nodes.list.items l.z.0) - rank (g.O.Order.places l.order) l.at.0
