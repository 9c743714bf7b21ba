use Rattle.std.proofs.Common.{◌∙◌, length}
use Rattle.pst_history.proofs.Fitting.{fits-lengths, unfit-lengths, unequal}
use Rattle.pst_history.proofs.arguments.fits.Goals as goal

pub returns-then-parameters-arguments : goal.returns-then-parameters-arguments
returns-then-parameters-arguments c = c.all_numbers.ensures ∙ fits-lengths c.args.parameters.now c.args.arguments.now c.if-parameters-arguments.true

pub returns-else-parameters-arguments : goal.returns-else-parameters-arguments
returns-else-parameters-arguments c = unequal (length c.args.parameters.now) (length c.args.arguments.now) c.if-parameters-arguments.false
    ∙ unfit-lengths c.args.parameters.now c.args.arguments.now c.if-parameters-arguments.false
