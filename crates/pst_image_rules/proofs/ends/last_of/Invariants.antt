use Rattle.std.proofs.Common.{◌≡◌, ◌<◌, ◌-◌, ◌^◌, length}
use Rattle.pst_image_rules.specs.Nodes.{node_at}
use Rattle.pst_image_rules.specs.Chains.{Leads}
use Rattle.pst_image_rules.proofs.ends.last_of.Given as goal

abbrev pub invariant-loop-later : goal.invariant-loop-later
invariant-loop-later l = record { there : l.node < length l.nodes; same : l.later ≡ (node_at l.nodes l.node).later; leads : Leads l.nodes l.from l.node }

abbrev pub decreases-loop-later : goal.decreases-loop-later
decreases-loop-later l = 2 ^ 32 - (node_at l.nodes l.node).lo
