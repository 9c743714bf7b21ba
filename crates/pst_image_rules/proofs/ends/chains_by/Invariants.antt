use Rattle.pst_image_rules.specs.Heads.{AreChainsTo}
use Rattle.pst_image_rules.proofs.ends.chains_by.Given as goal

abbrev pub invariant-loop-i : goal.invariant-loop-i
invariant-loop-i l = AreChainsTo l.nodes l.marks l.i l.chains.items
