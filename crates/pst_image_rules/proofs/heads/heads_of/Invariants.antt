use Rattle.pst_image_rules.specs.Heads.{AreHeads}
use Rattle.pst_image_rules.proofs.heads.heads_of.Given as goal

abbrev pub invariant-loop-i : goal.invariant-loop-i
invariant-loop-i l = AreHeads l.nodes l.marks l.i l.heads.items
