use Rattle.std.proofs.Common.{◌≡◌, ◌++◌, drop, map}
use Rattle.std.specs.List.{flat_map}
use Rattle.pst_grammar.specs.View.{expr_of}
use Rattle.pst_notation.specs.Texts.{expr_text, behind_comma}
use Rattle.pst_notation.proofs.statements.put_more_arguments.Given as goal

abbrev pub invariant-loop-e : goal.invariant-loop-e
invariant-loop-e l = l.out.items ++ flat_map (behind_comma expr_text) (map expr_of (drop l.e-index l.list)) ≡ l.fn.out.items ++ flat_map (behind_comma expr_text) (map expr_of l.list)
