-- Counts add up in any order.
use Rattle.std.proofs.Common.{◌≡◌, arith}
use Rattle.pst_base.specs.declared.names.Counts.{Counts}
use Rattle.pst_base.specs.Counts.{counts_plus}

-- counts with equal numbers are the same
pub same_counts : (a b : Counts) → a.records ≡ b.records → a.pointer_writes ≡ b.pointer_writes → a.value_writes ≡ b.value_writes → a ≡ b
same_counts a b r p v i = record { records = r i; pointer_writes = p i; value_writes = v i }

pub counts_plus-assoc : (a b c : Counts) → counts_plus a (counts_plus b c) ≡ counts_plus (counts_plus a b) c
counts_plus-assoc a b c = same_counts (counts_plus a (counts_plus b c)) (counts_plus (counts_plus a b) c) (omega arith) (omega arith) (omega arith)

pub counts_plus-comm : (a b : Counts) → counts_plus a b ≡ counts_plus b a
counts_plus-comm a b = same_counts (counts_plus a b) (counts_plus b a) (omega arith) (omega arith) (omega arith)
