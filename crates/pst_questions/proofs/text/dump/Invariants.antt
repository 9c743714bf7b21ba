use Rattle.std.proofs.Common.{◌≡◌, ◌++◌, drop}
use Rattle.pst_questions.specs.Dump.{lines_text, lines_of, dump_text}
use Rattle.pst_questions.specs.Walk.{names_of}
use Rattle.pst_questions.proofs.text.dump.Given as goal

abbrev pub invariant-loop-number : goal.invariant-loop-number
invariant-loop-number g l =
    l.out.items ++ lines_text l.program.names l.number (drop l.number (lines_of ((g.H.HeapAt.state l.heap).heap l.at) (names_of l.found)))
    ≡ dump_text l.program.names ((g.H.HeapAt.state l.heap).heap l.at) (names_of l.found)
