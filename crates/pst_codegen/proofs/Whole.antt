-- The code of a whole program.
use Rattle.std.proofs.Common.{◌≡◌, ℕ, ◌<◌, ◌≤◌, List, map, take, length, Some, get_or, ap, sym, ◌∙◌, take_all}
use Rattle.std.specs.Option.{option_map}
use Rattle.std.proofs.lemmas.Option.{slice_get-map, slice_get-get_or}
use Rattle.pst_base.specs.declared.shape.TypeShape.{TypeShape}
use Rattle.pst_program.specs.declared.program.TypedProc.{TypedProc}
use Rattle.pst_program.specs.declared.program.Program.{Program}
use Rattle.pst_program.specs.Typed.{IsTyped}
use Rattle.pst_program.specs.View.{routines_of, procedure_of}
use Rattle.pst_code.specs.declared.procedure.Procedure.{Procedure}
use Rattle.pst_code.specs.declared.procedure.Parts.{Parts}
use Rattle.pst_translation.specs.Compiled.{procedure_code, code_of}
use Rattle.pst_codegen_expressions.specs.Ready.{IsReadyProcedure}
use Rattle.pst_codegen.proofs.Typed.{procedure_ready}

pub ready_at : (program : Program) → IsTyped (routines_of program) → (i : ℕ) (p : TypedProc) → i < length program.procedures.items.items
    → p ≡ get_or program.procedures.items.items i p → IsReadyProcedure program.shape (procedure_of p)
ready_at program typed i p lt is =
    procedure_ready (routines_of program) typed i (procedure_of p)
    (slice_get-map procedure_of program.procedures.items.items i ∙ ap (option_map procedure_of) (slice_get-get_or program.procedures.items.items i p lt ∙ ap Some (sym is)))

pub code_is : (program : Program) (shape : List TypeShape) (procedures : List Procedure) (n : ℕ) → shape ≡ program.shape
    → procedures ≡ map (procedure_code program.shape) (map procedure_of (take n program.procedures.items.items)) → length program.procedures.items.items ≤ n
    → code_of (routines_of program) ≡ record { shape = shape; procedures = procedures }
code_is program shape procedures n is_shape is_code all =
    let whole : procedures ≡ (code_of (routines_of program)).procedures = is_code ∙ ap (λ l. map (procedure_code program.shape) (map procedure_of l)) (take_all n program.procedures.items.items all) in
    ap (λ (s : List TypeShape). let p : Parts = record { shape = s; procedures = (code_of (routines_of program)).procedures } in p) (sym is_shape)
    ∙ ap (λ (ps : List Procedure). let p : Parts = record { shape = shape; procedures = ps } in p) (sym whole)
