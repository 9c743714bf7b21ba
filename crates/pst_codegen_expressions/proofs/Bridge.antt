-- A block as the list of its statements.
use Rattle.std.proofs.Common.{◌≡◌, refl, ap, ◌∙◌, sym}
use Rattle.pst_program.specs.declared.block.TypedBlock.{TypedBlock, TypedBlock', out-TypedBlock, outs-TypedBlock', Row_of-TypedStatement, end_of-TypedStatement}
use Rattle.pst_program.specs.declared.block.TypedBlock.{more_of-TypedStatement, items-the_row-TypedStatement, items_shown-the_row-TypedStatement-0}
use Rattle.pst_program.specs.Syntax as syntax
use Rattle.pst_program.specs.View.{action_of, actions_of, row_of, statements_of}

row_is_list : {m : _} (row : Row_of-TypedStatement m) → row_of row ≡ statements_of (items-the_row-TypedStatement m row)
row_is_list end_of-TypedStatement = refl
row_is_list (more_of-TypedStatement line form rest) = ap (syntax.Then line (action_of form)) (row_is_list rest)

pub block_is_list : (b : TypedBlock) → actions_of b ≡ statements_of (out-TypedBlock b).items.items
block_is_list (TypedBlock' shape row) =
    row_is_list row ∙ sym (ap statements_of (ap (λ o. o.items.items) (outs-TypedBlock' shape row) ∙ items_shown-the_row-TypedStatement-0 shape row))
