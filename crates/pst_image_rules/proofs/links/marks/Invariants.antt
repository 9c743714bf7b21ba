use Rattle.pst_image_rules.specs.Heads.{AreLinked, AreMarked}
use Rattle.pst_image_rules.proofs.links.marks.Given as goal

abbrev pub invariant-loop-i : goal.invariant-loop-i
invariant-loop-i l = record { linked : AreLinked l.nodes l.i; marked : AreMarked l.nodes l.i l.marks.items }
