use Rattle.std.proofs.Common.{arith}
use Rattle.pst_types_scope.specs.View.{scope_of}
use Rattle.pst_types_procedures.proofs.Few.{few_parameters}
use Rattle.pst_types_procedures.proofs.procedure.declare.Goals as goal

pub add_variables-requires-2 : goal.add_variables-requires-2
add_variables-requires-2 c = let few = few_parameters (scope_of c.args.scope.now) _ c.args.variables.now.entries c.add_variables.new.variables.entries
    c.len-parameters.result c.requires c.in_ok-add_variables.ensures c.len-parameters.ensures.len in omega (arith, few)

pub overflow_cast-result : goal.overflow_cast-result
overflow_cast-result c = let few = few_parameters (scope_of c.args.scope.now) _ c.args.variables.now.entries c.add_variables.new.variables.entries
    c.len-parameters.result c.requires c.in_ok-add_variables.ensures c.len-parameters.ensures.len in omega (arith, few)
