-- Counts that are added.
use Rattle.std.specs.Prelude.{◌+◌}
use Rattle.pst_base.specs.declared.names.Counts.{Counts}

-- the sum of two counts, each with its like
abbrev pub counts_plus : Counts → Counts → Counts
counts_plus a b = record { records = a.records + b.records; pointer_writes = a.pointer_writes + b.pointer_writes; value_writes = a.value_writes + b.value_writes }
