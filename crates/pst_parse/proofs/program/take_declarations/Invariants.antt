use Rattle.std.proofs.Common.{length}
use Rattle.pst_parse.proofs.Taken.{IsAt}
use Rattle.pst_parse.proofs.program.take_declarations.Given as goal

abbrev pub invariant-loop-rest : goal.invariant-loop-rest
invariant-loop-rest l = IsAt l.language l.tokens l.rest l.initial.items.items l.items.items

abbrev pub decreases-loop-rest : goal.decreases-loop-rest
decreases-loop-rest l = length l.rest
