use Rattle.std.proofs.Common.{◌≡◌, ℕ, take}
use Rattle.pst_nodes.specs.declared.links.Link.TheVariants.{Out}
use Rattle.pst_repair.specs.Seen.{seen}
use Rattle.pst_nodes.specs.Arena.{link_at}
use Rattle.pst_image_meaning.specs.Denoted.{nodes_of as denoted_nodes}
use Rattle.pst_image_unpack.proofs.nodes.nodes_of.Given as goal

abbrev pub invariant-loop-part : goal.invariant-loop-part
invariant-loop-part l = record {
  nodes : seen l.list.items ≡ denoted_nodes l.shape (take l.part-index l.parts);
  out : (i : ℕ) → link_at l.list.items i ≡ Out;
}
