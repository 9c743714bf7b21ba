use Rattle.std.proofs.Common.{◌≤◌}
use Rattle.pst_image_front.specs.Front.{HandsOn, Promises, nodes}
use Rattle.std.specs.Prelude.{Ok, true}
use Rattle.pst_image_front.proofs.front.hand_nodes.Given as goal

-- so many nodes are promised still
abbrev pub invariant-handing : goal.invariant-handing
invariant-handing g l = record {
  on : HandsOn (Ok true) l.fn.lines (g.S.Source.left l.fn.source) l.lines (g.S.Source.left l.source) l.fn.bytes.items l.bytes.items;
  told : Promises l.fn.bytes.items (nodes l.fn.count) → Promises l.bytes.items (nodes l.left);
  later : g.S.Source.faults l.fn.source ≤ g.S.Source.faults l.source;
}

abbrev pub decreases-handing : goal.decreases-handing
decreases-handing g l = l.left
