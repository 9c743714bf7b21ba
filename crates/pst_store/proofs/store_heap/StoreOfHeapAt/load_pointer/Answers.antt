use Rattle.std.proofs.Common.{Option}
use Rattle.pst_store_meaning.specs.Store.{Stored}
use Rattle.pst_store.specs.Whole.{state_in}
use Rattle.pst_store.proofs.Wholes.{is_begun}
use Rattle.pst_store.proofs.store_heap.StoreOfHeapAt.load_pointer.Goals as goal

pub begun-requires : goal.begun-requires
begun-requires g c = is_begun _ (λ (o : Option Stored). (state_in o).live c.args.at c.args.r) (λ p. p) c.requires.live
