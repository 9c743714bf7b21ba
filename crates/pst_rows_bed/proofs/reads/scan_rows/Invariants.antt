use Rattle.std.proofs.Common.{◌<◌, length}
use Rattle.pst_rows_bed.proofs.reads.scan_rows.Given as goal

abbrev pub invariant-loop : goal.invariant-loop
invariant-loop l = record { slot : l.walk.slot < l.slots; index : l.walk.index < length l.bed.places.items }
