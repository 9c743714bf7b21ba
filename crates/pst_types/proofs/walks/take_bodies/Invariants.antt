use Rattle.std.proofs.Common.{◌≡◌, map, length}
use Rattle.pst_grammar.specs.View.{item_of, phrases_of}
use Rattle.pst_types.specs.Bodies.{with_bodies}
use Rattle.pst_types.proofs.walks.take_bodies.Given as goal

abbrev pub invariant-loop-declaration : goal.invariant-loop-declaration
invariant-loop-declaration l =
    (length l.bodies.items ≡ l.declaration-index) × (with_bodies (map phrases_of l.bodies.items) (map item_of l.declarations) ≡ map item_of l.fn.declarations)
