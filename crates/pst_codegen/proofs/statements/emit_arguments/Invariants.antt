use Rattle.std.proofs.Common.{◌≡◌, ◌++◌, drop, map}
use Rattle.pst_program.specs.View.{expr_of}
use Rattle.pst_translation.specs.Code.{arguments_code, registers}
use Rattle.pst_translation.specs.Needs.{temp_of}
use Rattle.pst_codegen_expressions.specs.Ready.{HasNoted, AreArguments}
use Rattle.pst_codegen.proofs.statements.emit_arguments.Given as goal

abbrev pub invariant-loop-e : goal.invariant-loop-e
invariant-loop-e l = record {
  ready : AreArguments l.layout.shape.now (HasNoted l.layout.table) (map expr_of (drop l.e-index l.list)) l.level;
  code : l.code.items ++ arguments_code l.layout.shape.now (temp_of l.layout.locals l.layout.table) (map expr_of (drop l.e-index l.list)) l.level
      ≡ l.fn.code.items ++ arguments_code l.layout.shape.now (temp_of l.layout.locals l.layout.table) (map expr_of l.list) 0;
  registers : l.values.items ++ registers l.layout.shape.now (temp_of l.layout.locals l.layout.table) (map expr_of (drop l.e-index l.list)) l.level
      ≡ registers l.layout.shape.now (temp_of l.layout.locals l.layout.table) (map expr_of l.list) 0;
}
