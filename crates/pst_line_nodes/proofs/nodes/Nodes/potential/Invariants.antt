use Rattle.std.proofs.Common.{◌≡◌, true}
use Rattle.pst_base.specs.Below.{sum_below}
use Rattle.pst_line_nodes.specs.Line.{if_newest}
use Rattle.pst_line_nodes.specs.Nodes.{line_of}
use Rattle.pst_line_nodes.proofs.nodes.Nodes.potential.Given as goal

abbrev pub invariant-loop-id : goal.invariant-loop-id
invariant-loop-id l = l.stamped ≡ sum_below l.id (λ i. if_newest ((line_of (λ j. true) l.self).later i) ((line_of (λ j. true) l.self).stamped i))
