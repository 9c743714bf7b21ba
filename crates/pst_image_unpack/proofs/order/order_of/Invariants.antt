use Rattle.std.proofs.Common.{◌≡◌, suc}
use Rattle.pst_image_meaning.specs.Denoted.{places_of}
use Rattle.pst_image_unpack.proofs.order.order_of.Given as goal

-- a place for each turn and one more, of which the last one has the highest number
abbrev pub invariant-loop : goal.invariant-loop
invariant-loop g l = record { places : g.O.Order.places l.order ≡ places_of l.counter; last : suc l.last.0 ≡ l.counter }
