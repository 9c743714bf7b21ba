use Rattle.std.proofs.Common.{◌≡◌, ◌++◌, ◌-◌, drop}
use Rattle.std.specs.List.{flat_map}
use Rattle.pst_questions.specs.Walk.{names_of, pointers_of, pointer_word}
use Rattle.pst_questions.proofs.text.put_targets.Given as goal

abbrev pub invariant-loop-slot : goal.invariant-loop-slot
invariant-loop-slot g l =
    l.out.items ++ flat_map (pointer_word (names_of l.found)) (drop (l.slot - l.first) (pointers_of (g.H.HeapAt.state l.heap) l.at l.r))
    ≡ l.fn.out.items ++ flat_map (pointer_word (names_of l.found)) (pointers_of (g.H.HeapAt.state l.heap) l.at l.r)
