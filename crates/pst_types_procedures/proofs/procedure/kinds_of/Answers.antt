use Rattle.std.proofs.Common.{◌≡◌, ◌∙◌, length, ap, arith, Ok}
use Rattle.pst_types_scope.specs.View.{scope_of}
use Rattle.pst_types_procedures.proofs.Held.{kinds_done}
use Rattle.pst_types_procedures.proofs.procedure.kinds_of.Goals as goal

pub returns : goal.returns
returns c =
    let end : c.loop-variable.variable-index ≡ length c.as_slice-variable-items.result.now = omega arith in
    ap Ok (kinds_done (scope_of c.args.scope.now) c.args.variables.now.entries c.as_slice-variable-items.result.now c.loop-variable.variable-index _ _
    (c.as_slice-variable-items.ensures ∙ c.values.ensures.rest) end c.loop-variable.invariant c.from_vec.ensures)
