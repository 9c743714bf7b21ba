use Rattle.pst_store.proofs.Wholes.{whole_sound}
use Rattle.pst_store.proofs.store_heap.StoreOfHeapAt.known.Goals as goal

pub returns : goal.returns
returns g c = whole_sound _ c.whole.ensures.store
