use Rattle.std.proofs.Common.{◌≡◌, ℕ, ◌<◌, true, length, get_or}
use Rattle.pst_line_nodes.specs.declared.content.Content.TheVariants.{Null}
use Rattle.pst_line_nodes.specs.Changes.{redirected}
use Rattle.pst_line_nodes.specs.Nodes.{line_of}
use Rattle.pst_line_nodes.proofs.nodes.Nodes.contents.Given as goal

abbrev pub invariant-loop-slot : goal.invariant-loop-slot
invariant-loop-slot l = record {
  count : length l.contents.items ≡ l.slot;
  each : (g : ℕ) → g < l.slot → get_or l.contents.items g Null ≡ redirected (line_of (λ i. true) l.self) l.x.0 l.z.0 ((line_of (λ i. true) l.self).holds l.x.0 g l.stamp.0);
}
