use Rattle.std.proofs.Common.{◌≡◌, ◌++◌, drop}
use Rattle.std.specs.List.{flat_map}
use Rattle.pst_questions.specs.Dump.{value_word}
use Rattle.pst_questions.specs.Walk.{values_of}
use Rattle.pst_questions.proofs.text.put_values.Given as goal

abbrev pub invariant-loop-slot : goal.invariant-loop-slot
invariant-loop-slot g l = l.out.items ++ flat_map value_word (drop l.slot (values_of (g.H.HeapAt.state l.heap) l.at l.r)) ≡ l.fn.out.items ++ flat_map
    value_word (values_of (g.H.HeapAt.state l.heap) l.at l.r)
