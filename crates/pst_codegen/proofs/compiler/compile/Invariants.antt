use Rattle.std.proofs.Common.{◌≡◌, map, take}
use Rattle.pst_program.specs.View.{procedure_of}
use Rattle.pst_translation.specs.Compiled.{procedure_code}
use Rattle.pst_codegen.proofs.compiler.compile.Given as goal

abbrev pub invariant-loop-p : goal.invariant-loop-p
invariant-loop-p l = l.procedures.items ≡ map (procedure_code l.program.shape) (map procedure_of (take l.p-index l.program.procedures.items.items))
