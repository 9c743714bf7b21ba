use Rattle.std.proofs.Common.{◌≡◌, ℕ, ◌<◌, length, get_or}
use Rattle.pst_line_nodes.specs.declared.content.Content.TheVariants.{Null}
use Rattle.pst_line_nodes.specs.Changes.{default_content}
use Rattle.pst_line_nodes.proofs.node.default_contents.Given as goal

abbrev pub invariant-loop-slot : goal.invariant-loop-slot
invariant-loop-slot l = record {
  count : length l.contents.items ≡ l.slot;
  each : (g : ℕ) → g < l.slot → get_or l.contents.items g Null ≡ default_content l.shape g;
}
