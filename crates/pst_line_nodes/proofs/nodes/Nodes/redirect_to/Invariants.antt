use Rattle.std.proofs.Common.{ℕ, Bool, true}
use Rattle.pst_line_nodes.specs.Line.{IsLine}
use Rattle.pst_line_nodes.specs.Nodes.{line_of, AreKept}
use Rattle.pst_line_nodes.specs.Carried.{IsCarried, IsRedirecting}
use Rattle.pst_line_nodes.proofs.nodes.Nodes.redirect_to.Given as goal

abbrev pub invariant-loop-slot : goal.invariant-loop-slot
invariant-loop-slot l = record {
  kept : AreKept l.shape l.stamp.0 l.self;
  carried : (made : ℕ → Bool) → IsLine l.shape l.stamp.0 (line_of made l.fn.self) → IsCarried l.shape l.stamp.0 (line_of made l.fn.self) (line_of made l.self);
  going : IsRedirecting (line_of (λ i. true) l.self) l.stamp.0 l.z.0 l.slot;
}
