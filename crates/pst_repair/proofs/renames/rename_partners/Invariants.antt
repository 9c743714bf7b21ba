use Rattle.std.proofs.Common.{◌≡◌, ℕ}
use Rattle.pst_mirror.specs.Partners.{IsHalfway}
use Rattle.pst_mirror.specs.SplitBody.{finished}
use Rattle.pst_nodes.specs.Arena.{AreRows, chart}
use Rattle.pst_repair.specs.Steps.{AreReplaced, begin_of, slots_done}
use Rattle.pst_repair.proofs.renames.rename_partners.Given as goal

abbrev pub invariant-loop-index : goal.invariant-loop-index
invariant-loop-index g l =
    let qs = g.O.Order.places l.order in
    let old = l.fn.nodes.list.items in
    let now = l.nodes.list.items in
    record {
      half : IsHalfway (chart qs old) (finished (chart qs old) l.x.0 l.z.0 (begin_of qs old l.z.0)) (chart qs now) l.z.0 (slots_done l.first l.index);
      edges : (i g m : ℕ) → (chart qs now).edge i g m ≡ (chart qs old).edge i g m;
      rows : AreRows qs now;
      same : AreReplaced old now;
    }
