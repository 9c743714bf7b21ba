-- What judged expressions in the code stand for in the definitions.
use Rattle.std.specs.Prelude.{ℕ, Result, Ok}
use Rattle.pst_grammar.specs.Syntax as tree
use Rattle.pst_grammar.specs.View as tree_view
use Rattle.pst_program.specs.Syntax as program
use Rattle.pst_program.specs.View.{expr_of}
use Rattle.pst_typing.specs.declared.fault.TypeFault.{TypeFault}
use Rattle.pst_typing.specs.Answers.{and_then}
use Rattle.pst_typing.specs.Names.{Setting}
use Rattle.pst_typing.specs.Expressions as expressions
use Rattle.pst_types_expressions.specs.declared.expression.Sort.{Sort}
use Rattle.pst_types_expressions.specs.declared.expression.Sort.TheVariants as sort
use Rattle.pst_types_expressions.specs.declared.expression.Judged.{Judged}
use Rattle.pst_types_expressions.specs.declared.expression.Judged.TheVariants as judged
use Rattle.pst_types_expressions.specs.declared.expression.Object.{Object}
use Rattle.pst_types_expressions.specs.declared.expression.Array.{Array}
use Rattle.pst_types_expressions.specs.declared.expression.Written.{Written}
use Rattle.pst_types_scope.specs.View.{kind_word}

abbrev pub sort_seen : Sort → expressions.Sort
sort_seen sort.Int = expressions.Int
sort_seen sort.Truth = expressions.Truth
sort_seen (sort.Pointer t) = expressions.Pointer t.now

abbrev pub judged_of : Judged → expressions.Judged
judged_of judged.Bare = expressions.Bare
judged_of (judged.Known e s) = expressions.Known (expr_of e) (sort_seen s)

abbrev pub object_of : Object → expressions.Object
object_of o = record { pointer = expr_of o.pointer; type = o.ty.now }

abbrev pub array_of : Array → expressions.Array
array_of a = record { slot = a.slot.0; elements = a.elements; kind = kind_word a.kind }

-- an operator with its operands, as it stands in the text
abbrev pub binary_of : Written → tree.Expr
binary_of w = tree.Binary w.op (tree_view.expr_of w.left.now) (tree_view.expr_of w.right.now)

-- a number with its sign turned
abbrev pub negated : (line : ℕ) → expressions.Judged → Result expressions.Judged TypeFault
negated line j = and_then (expressions.operand line expressions.Int j) (λ v. Ok (expressions.Known (program.Negate v) expressions.Int))

-- the other truth
abbrev pub inverted : (line : ℕ) → expressions.Judged → Result expressions.Judged TypeFault
inverted line j = and_then (expressions.operand line expressions.Truth j) (λ v. Ok (expressions.Known (program.Not v) expressions.Truth))

-- an equality that stands in the text, of its judged operands
abbrev pub equality_of : Setting → (line : ℕ) → Written → (left right : expressions.Judged) → Result expressions.Judged TypeFault
equality_of setting line w left right = expressions.equality setting line w.op (tree_view.expr_of w.left.now) (tree_view.expr_of w.right.now) left right

-- an operator that stands in the text, of its judged operands
abbrev pub operator_of : Setting → (line : ℕ) → Written → (left right : expressions.Judged) → Result expressions.Judged TypeFault
operator_of setting line w left right = expressions.combined setting line w.op (tree_view.expr_of w.left.now) (tree_view.expr_of w.right.now) left right
