use Rattle.std.proofs.Common.{◌≡◌, ◌-◌, ◌<◌, ◌≤◌, true, length}
use Rattle.pst_line_nodes.specs.Nodes.{line_of}
use Rattle.pst_line_nodes.proofs.nodes.Nodes.cover.Given as goal

abbrev pub invariant-loop-next : goal.invariant-loop-next
invariant-loop-next l = record {
  there : l.found.0 < length l.self;
  begun : (line_of (λ i. true) l.self).first l.found.0 ≤ l.at.0;
  home : (line_of (λ i. true) l.self).home l.found.0 ≡ (line_of (λ i. true) l.self).home l.fn.id.0;
}

abbrev pub decreases-loop-next : goal.decreases-loop-next
decreases-loop-next l = l.at.0 - (line_of (λ i. true) l.self).first l.found.0
