use Rattle.pst_store.proofs.Stores.{potential_few}
use Rattle.pst_store.proofs.started.Started.potential.Goals as goal

pub potential-requires : goal.potential-requires
potential-requires g c =
    potential_few _ c.self.invariant
