use Rattle.std.proofs.Common.{◌≡◌, ℕ, true, false, leb, arith, rules}
use Rattle.std.specs.List.Sorted.{IsPartitionPoint}
use Rattle.std.proofs.lemmas.List.Sorted.{IsPartitionPoint-from_clause, IsPartitionedBy-leb}
use Rattle.pst_roots.proofs.PieceLemmas.{some_start, piece_found}
use Rattle.pst_roots.proofs.pieces.piece_at.Goals as goal

-- the starts before the one that was found are not behind the index, and the others are
parted : (c : goal.After-partition_point) → IsPartitionPoint (λ (s : ℕ). leb s c.args.index ≡ true) (λ (s : ℕ). leb s c.args.index ≡ false) c.args.starts.now c.partition_point.result
parted c = IsPartitionPoint-from_clause (λ s. leb s c.args.index) c.args.starts.now c.partition_point.result c.partition_point.ensures.partitioned
    (IsPartitionedBy-leb (λ s. s) c.args.starts.now c.args.index c.requires.rising) (λ a r q k. search rules)

pub overflow_sub-result : goal.overflow_sub-result
overflow_sub-result c = omega (arith, some_start c.args.starts.now c.args.index c.partition_point.result c.requires.first (parted c))

pub returns : goal.returns
returns c = piece_found c.args.starts.now c.args.index c.partition_point.result c.requires.first (parted c) c.partition_point.ensures.bound
