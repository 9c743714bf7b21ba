use Rattle.std.proofs.Common.{◌≡◌, drop, map}
use Rattle.pst_program.specs.View.{expr_of}
use Rattle.pst_translation.specs.Needs.{arguments_needs, noted}
use Rattle.pst_codegen_expressions.specs.Ready.{HasAll, AreArguments}
use Rattle.pst_codegen_expressions.proofs.needs.note_arguments.Given as goal

abbrev pub invariant-loop-e : goal.invariant-loop-e
invariant-loop-e l = record {
  ready : AreArguments l.shape HasAll (map expr_of (drop l.e-index l.list)) l.level;
  rest : noted l.table (arguments_needs l.shape (map expr_of (drop l.e-index l.list)) l.level) ≡ noted l.fn.table (arguments_needs l.shape (map expr_of l.list) 0);
}
