use Rattle.std.proofs.Common.{◌≡◌, ◌+◌, ◌*◌, length}
use Rattle.pst_rows_bed.specs.Beds.{IsReady}
use Rattle.pst_rows_bed.proofs.reads.fill.Given as goal

abbrev pub invariant-loop-turn : goal.invariant-loop-turn
invariant-loop-turn l = record { ready : IsReady l.order.places l.bed; places : length l.order.places ≡ 2 + 17 * l.turn }

abbrev pub invariant-loop : goal.invariant-loop
invariant-loop l = record { ready : IsReady l.order.places l.bed; places : length l.order.places ≡ length l.initial.order.places + l.counter }
