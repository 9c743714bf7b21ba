-- The code of a whole program.
use Rattle.std.specs.Prelude.{List, length, map, ◌++◌}
use Rattle.pst_base.specs.declared.shape.TypeShape.{TypeShape}
use Rattle.pst_program.specs.Syntax as syntax
use Rattle.pst_code.specs.declared.procedure.Procedure.{Procedure}
use Rattle.pst_code.specs.declared.procedure.Parts.{Parts}
use Rattle.pst_translation.specs.Code.{body_code}
use Rattle.pst_translation.specs.Needs.{table_of, temp_of}

-- the code of a procedure: its registers are the parameters, the locals and the temporary ones
abbrev pub procedure_code : List TypeShape → syntax.Procedure → Procedure
procedure_code shape p = record {
  name = p.name;
  query = p.query;
  arguments = p.arguments;
  result = p.result;
  kinds = p.kinds ++ map (λ n. n.kind) (table_of shape p);
  instructions = body_code shape (temp_of (length p.kinds) (table_of shape p)) p;
}

-- the code of a program
-- (carried out by `pst_codegen::compile`)
abbrev pub code_of : syntax.Routines → Parts
code_of r = record { shape = r.shape; procedures = map (procedure_code r.shape) r.procedures }
