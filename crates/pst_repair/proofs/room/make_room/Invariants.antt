use Rattle.std.proofs.Common.{◌≡◌, ◌≢◌, ◌≤◌, ◌<◌, ◌-◌, ℕ, true}
use Rattle.pst_rows.specs.declared.row.Row.{Row}
use Rattle.pst_order.specs.Places.{rank}
use Rattle.pst_mirror.specs.Mirror.{names}
use Rattle.pst_nodes.specs.Arena.{spare_nodes, HasRoom, row_at, chart}
use Rattle.pst_nodes.specs.Changes.{AreSameNodes}
use Rattle.pst_repair.proofs.room.make_room.Given as goal

abbrev pub invariant-loop-index : goal.invariant-loop-index
invariant-loop-index g l =
    let qs = g.O.Order.places l.order in
    record {
      same : AreSameNodes l.fn.nodes.list.items l.nodes.list.items;
      room : (s j : ℕ) (d : Row) → l.first ≤ s → s < l.index → names j ((chart qs l.fn.nodes.list.items).holds l.x.0 s (rank qs l.at.0)) ≡ true
          → j ≢ l.x.0 → HasRoom (row_at l.nodes.list.items j d) (l.end - l.first);
      spare : spare_nodes l.nodes ≡ spare_nodes l.fn.nodes;
    }
