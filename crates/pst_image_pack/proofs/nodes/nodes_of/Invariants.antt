use Rattle.std.proofs.Common.{◌≡◌, ℕ, ◌<◌, Some, map, take}
use Rattle.std.specs.Prelude.{slice_get}
use Rattle.std.specs.List.{AllByRecursion}
use Rattle.pst_store_meaning.specs.Store.{Node as Seen}
use Rattle.pst_repair.specs.Seen.{seen}
use Rattle.pst_image_form.specs.Bytes.{FitsNode}
use Rattle.pst_image_meaning.specs.Parts.{node_part as part_of_node}
use Rattle.pst_image_meaning.specs.Denoted.{IsShort}
use Rattle.pst_image_pack.specs.Positions.{position_in}
use Rattle.pst_image_pack.proofs.nodes.nodes_of.Given as goal

abbrev pub invariant-loop-node : goal.invariant-loop-node
invariant-loop-node l = record {
  made : l.parts.items ≡ map (part_of_node (position_in l.positions)) (take l.node-index (seen l.nodes.list.items));
  short : (i : ℕ) (n : Seen) → i < l.node-index → slice_get (seen l.nodes.list.items) i ≡ Some n → IsShort n;
  fits : AllByRecursion FitsNode l.parts.items;
}
