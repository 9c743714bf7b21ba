use Rattle.std.proofs.Common.{◌<◌, ◌∙◌, List, length, map, ap, rules, arith}
use Rattle.std.proofs.Math.ListN.{set}
use Rattle.pst_grammar.specs.View.{item_of, phrases_of}
use Rattle.pst_grammar.specs.declared.statement.Block.{Block}
use Rattle.pst_types.specs.Bodies.{with_bodies}
use Rattle.pst_types.proofs.Bodies.{taken_out}
use Rattle.pst_types.proofs.walks.take_bodies.Goals as goal

pub loop-declaration-preserved : goal.loop-declaration-preserved
loop-declaration-preserved c =
    let l = c.loop-declaration in
    let below : l.declaration-index < length l.declarations = omega (arith, c.loop-declaration-test.true, l.auto.declarations) in
    let heads = set l.declarations l.declaration-index c.take_body.new.declaration in (
      search rules,
      ap (λ (bodies : List Block). with_bodies (map phrases_of bodies) (map item_of heads)) c.in_ok-push.ensures.items
          ∙ taken_out l.bodies.items c.take_body.result l.declarations l.declaration-index c.take_body.new.declaration _ l.invariant.0 below c.take_body.ensures ∙ l.invariant.1,
    )
