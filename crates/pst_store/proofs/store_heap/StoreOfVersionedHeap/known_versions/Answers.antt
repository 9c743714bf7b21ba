use Rattle.pst_store.proofs.Wholes.{whole_versioned}
use Rattle.pst_store.proofs.store_heap.StoreOfVersionedHeap.known_versions.Goals as goal

pub returns : goal.returns
returns g c = whole_versioned _ c.whole.ensures.store
