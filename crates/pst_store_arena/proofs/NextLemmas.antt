-- What one split leaves, whether it was made, none was due, or it was refused.
use Rattle.std.proofs.Common.{◌≡◌, ℕ, ◌+◌, List, [], length, Bool, false, Result, Ok, Err, arith}
use Rattle.std.specs.Prelude.{IfOk, OnErr}
use Rattle.std.specs.declared.alloc.AllocError.{AllocError}
use Rattle.pst_base.specs.declared.shape.TypeShape.{TypeShape}
use Rattle.pst_nodes.specs.declared.queue.Queue.{Queue}
use Rattle.pst_nodes.specs.declared.node.Node.{Node}
use Rattle.pst_nodes.specs.declared.node.Nodes.{Nodes}
use Rattle.pst_store_meaning.specs.Store.{Node as Seen}
use Rattle.pst_store_meaning.specs.Steps.{AreSplits}
use Rattle.pst_repair.specs.Seen.{seen}
use Rattle.pst_repair.proofs.SeenLemmas.{seen_count}
use Rattle.pst_repair.specs.Repair.{IsDone, splits_in}
use Rattle.pst_store_arena.specs.Kept.{waiting_of}
use Rattle.pst_store_arena.proofs.WaitingLemmas.{waiting_none}

-- one split or none
pub some_splits : (types : List TypeShape) (qs : List ℕ) (old new : List Seen) (r : Result Bool AllocError)
    → IfOk r (λ more. AreSplits types qs (splits_in more) old new) → OnErr r (new ≡ old) → (k : ℕ) × AreSplits types qs k old new
some_splits types qs old new (Ok more) made refused = (splits_in more, made)
some_splits types qs old new (Err e) made refused = (0, refused)

pub none_left : (types : List TypeShape) (old new : Nodes) (queue queue' : Queue) (r : Result Bool AllocError) → IfOk r (λ more. more ≡ false → IsDone types old new queue queue')
    → IfOk r (λ more. more ≡ false → waiting_of new.list.items ≡ [])
none_left types old new queue queue' (Ok more) done = λ none. waiting_none new.list.items queue' (done none).empty
none_left types old new queue queue' (Err e) done = done

pub counted : (old new : List Node) (r : Result Bool AllocError) → IfOk r (λ more. length new ≡ length old + splits_in more) → IfOk r (λ more. length (seen new) ≡ length (seen old) + splits_in more)
counted old new (Ok more) count = omega (arith, count, seen_count new, seen_count old)
counted old new (Err e) count = count
