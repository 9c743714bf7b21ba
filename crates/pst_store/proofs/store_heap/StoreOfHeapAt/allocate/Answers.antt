use Rattle.std.proofs.Common.{Option}
use Rattle.pst_store.specs.Whole.{state_in}
use Rattle.pst_store_meaning.specs.Store.{Stored}
use Rattle.pst_store.proofs.Wholes.{inside_open, not_started}
use Rattle.pst_store.proofs.store_heap.StoreOfHeapAt.allocate.Goals as goal

pub make-requires-clause-writable : goal.make-requires-clause-writable
make-requires-clause-writable g c = inside_open _ _ c.in-Some.started c.args.at c.self.view_is c.in-Some.is c.requires.writable

pub first_of-requires : goal.first_of-requires
first_of-requires g c = absurd (not_started _ _ (λ (o : Option Stored). (state_in o).writable c.args.at) c.self.view_is c.in-None.is c.requires.writable)
