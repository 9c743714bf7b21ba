use Rattle.pst_store.proofs.Stores.{kept_repaired, repaired_same, repaired_to, writes_repaired}
use Rattle.pst_store.proofs.started.Started.repair.Goals as goal

pub invariant_of-self : goal.invariant_of-self
invariant_of-self g c =
    kept_repaired _ _ _ c.self.invariant (repaired_to _ _ _ c.self.invariant c.repair.ensures.repaired c.repair.ensures.waiting c.repair.ensures.held)

pub returns-clause-same : goal.returns-clause-same
returns-clause-same g c =
    repaired_same _ _ _ _ c.self.view_is c.self.invariant (repaired_to _ _ _ c.self.invariant c.repair.ensures.repaired c.repair.ensures.waiting c.repair.ensures.held)

pub returns-clause-stays : goal.returns-clause-stays
returns-clause-stays g c =
    writes_repaired _ _ _ _ c.self.view_is c.self.invariant (repaired_to _ _ _ c.self.invariant c.repair.ensures.repaired c.repair.ensures.waiting c.repair.ensures.held)
