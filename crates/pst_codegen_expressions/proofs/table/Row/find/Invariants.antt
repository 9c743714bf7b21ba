use Rattle.std.proofs.Common.{◌≡◌, drop}
use Rattle.pst_codegen_expressions.specs.Rows.{found_in}
use Rattle.pst_codegen_expressions.proofs.table.Row.find.Given as goal

abbrev pub invariant-loop-temporary : goal.invariant-loop-temporary
invariant-loop-temporary l = found_in (drop l.temporary-index l.temporary-items) l.kind ≡ found_in l.self l.kind
