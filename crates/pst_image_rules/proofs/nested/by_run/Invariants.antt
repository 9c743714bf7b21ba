use Rattle.std.proofs.Common.{◌≡◌, length}
use Rattle.pst_image_rules.specs.Walk.{IsTable}
use Rattle.pst_image_rules.proofs.nested.by_run.Given as goal

abbrev pub invariant-loop-number : goal.invariant-loop-number
invariant-loop-number l = record { wide : length l.table.items ≡ l.next_run; table : IsTable l.versions l.number l.table.items }
