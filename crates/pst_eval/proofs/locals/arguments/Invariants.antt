use Rattle.std.proofs.Common.{◌≡◌, drop, map}
use Rattle.pst_program.specs.Meaning.{values}
use Rattle.pst_program.specs.View.{expr_of}
use Rattle.pst_eval.specs.Answers.{after}
use Rattle.pst_eval.proofs.locals.arguments.Given as goal

abbrev pub invariant-loop-e : goal.invariant-loop-e
invariant-loop-e l = after l.all.items (values l.heap.shape (map expr_of (drop l.e-index l.list)) l.env l.heap.heap) ≡ values l.heap.shape (map expr_of l.list) l.env l.heap.heap
