use Rattle.std.proofs.Common.{◌≡◌, ◌≤◌, ◌<◌, ℕ, true}
use Rattle.pst_order.specs.Places.{rank}
use Rattle.pst_mirror.specs.Degree.{is_other_entry}
use Rattle.pst_nodes.specs.Arena.{chart}
use Rattle.pst_nodes.proofs.node.Nodes.open_slot.Given as goal

abbrev pub invariant-loop-index : goal.invariant-loop-index
invariant-loop-index g l = (s : ℕ) → l.first ≤ s → s < l.index
    → is_other_entry l.x.0 l.field.0 ((chart (g.O.Order.places l.order) l.self.list.items).holds l.id.0 s (rank (g.O.Order.places l.order) l.at.0)) ≡ true
