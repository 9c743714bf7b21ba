-- A block as the list of its statements.
use Rattle.std.proofs.Common.{◌≡◌, refl, ap, ◌∙◌, sym}
use Rattle.pst_grammar.specs.declared.statement.Block.{Block, Block', out-Block, outs-Block', Row_of-Statement, end_of-Statement, more_of-Statement}
use Rattle.pst_grammar.specs.declared.statement.Block.{items-the_row-Statement, items_shown-the_row-Statement-0}
use Rattle.pst_grammar.specs.Syntax as tree
use Rattle.pst_grammar.specs.View.{phrase_of, phrases_of, row_of, statements_of}

row_is_list : {m : _} (row : Row_of-Statement m) → row_of row ≡ statements_of (items-the_row-Statement m row)
row_is_list end_of-Statement = refl
row_is_list (more_of-Statement line form rest) = ap (tree.Then line (phrase_of form)) (row_is_list rest)

pub block_is_list : (b : Block) → phrases_of b ≡ statements_of (out-Block b).items.items
block_is_list (Block' shape row) =
    row_is_list row ∙ sym (ap statements_of (ap (λ o. o.items.items) (outs-Block' shape row) ∙ items_shown-the_row-Statement-0 shape row))
