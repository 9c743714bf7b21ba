use Rattle.std.proofs.Common.{rules, subst, sym}
use Rattle.pst_program.specs.View.{routines_of, procedure_of}
use Rattle.pst_translation.proofs.Valid.{compiled_is_valid}
use Rattle.pst_code.specs.Valid.{IsValidCode}
use Rattle.pst_codegen_expressions.specs.Ready.{IsReadyProcedure}
use Rattle.pst_codegen.proofs.Whole.{ready_at, code_is}
use Rattle.pst_codegen.proofs.compiler.compile.Goals as goal

pub compile_procedure-requires : goal.compile_procedure-requires
compile_procedure-requires c =
    subst (λ shape. IsReadyProcedure shape (procedure_of c.p-item.result)) (sym c.as_slice-shape.ensures)
    (ready_at c.args.program.now c.requires c.loop-p.p-index c.p-item.result (search rules) (search rules))

pub from_valid-requires : goal.from_valid-requires
from_valid-requires c =
    subst IsValidCode (code_is c.args.program.now c.in_ok-copy.field-0 c.from_vec.result c.loop-p.p-index (search rules) (search rules) (search rules))
    (compiled_is_valid (routines_of c.args.program.now) c.requires)
