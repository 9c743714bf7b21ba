use Rattle.std.proofs.Common.{◌≡◌, ◌+◌, length}
use Rattle.pst_rows_bed.specs.Beds.{IsReady}
use Rattle.pst_rows_times.proofs.checks.stamp_by_turns.Given as goal

abbrev pub invariant-loop-turn : goal.invariant-loop-turn
invariant-loop-turn l = record { ready : IsReady l.order.places l.bed; places : length l.order.places ≡ 2 + l.turn }
