use Rattle.std.proofs.Common.{◌≡◌, List, length, map}
use Rattle.std.specs.Iterator.Adapters.{zip_first, zip_second}
use Rattle.std.specs.Slice.Iter.{iter_rest}
use Rattle.std.specs.Vec.Iter.{into_iter_items}
use Rattle.pst_grammar.specs.Syntax.{Item}
use Rattle.pst_grammar.specs.View.{item_of, phrases_of}
use Rattle.pst_grammar.specs.declared.statement.Block.{Block}
use Rattle.pst_grammar.specs.declared.declaration.Declaration.{Declaration}
use Rattle.pst_typing.specs.Answers.{through}
use Rattle.pst_typing.specs.Declarations.{declared, root_alone}
use Rattle.pst_types_scope.specs.View.{scope_of}
use Rattle.pst_types.specs.View.{draft_of}
use Rattle.pst_types.specs.Bodies.{with_bodies}
use Rattle.pst_types.proofs.walks.judge_all.Given as goal

abbrev text : List Declaration → List Block → List Item
text heads bodies = with_bodies (map phrases_of bodies) (map item_of heads)

-- what is left of both lists gives, after the draft, what all of them give
abbrev pub invariant-loop-declaration : goal.invariant-loop-declaration
invariant-loop-declaration l =
    let judge = declared (scope_of l.scope) in
    let heads = iter_rest (zip_first l.declaration-iterator) in
    let bodies = into_iter_items (zip_second l.declaration-iterator) in
    (length bodies ≡ length heads) × (through judge (draft_of l.draft) (text heads bodies) ≡ through judge (root_alone (scope_of l.scope)) (text l.declarations l.fn.bodies.items))
