use Rattle.std.proofs.Common.{◌≡◌, List, length, map, ap, ◌∙◌, subst, rules}
use Rattle.pst_grammar.specs.Syntax.{Item}
use Rattle.pst_grammar.specs.View.{item_of, items_of, phrases_of}
use Rattle.pst_grammar.specs.declared.declaration.Declaration.{Declaration}
use Rattle.pst_typing.specs.View.{Answers, program_of}
use Rattle.pst_typing.specs.Declarations.{checked}
use Rattle.pst_types.specs.Bodies.{with_bodies}
use Rattle.pst_types.proofs.Accepted.{answered}
use Rattle.pst_types.proofs.Bodies.{all_taken}
use Rattle.pst_types.proofs.walks.check.Goals as goal

pub returns-clause-typed : goal.returns-clause-typed
returns-clause-typed c =
    let count : c.args.tree.declarations.items.len ≡ length c.take_bodies.new.declarations = search rules in
    let heads : c.deref.result.now ≡ c.take_bodies.new.declarations = c.deref.ensures.value ∙ all_taken _ _ _ count in
    let before : map item_of c.deref_mut.result.now ≡ items_of c.args.tree = search rules in
    let whole = ap (λ (ds : List Declaration). with_bodies (map phrases_of c.in_ok-bodies.bodies.items) (map item_of ds)) heads ∙ c.in_ok-bodies.ensures.whole ∙ before in
    answered c.accepted_programs_are_typed.ensures (items_of c.args.tree) c.walk.result c.requires
    (subst (λ (items : List Item). Answers program_of c.walk.result (checked items)) whole c.walk.ensures.answer)
