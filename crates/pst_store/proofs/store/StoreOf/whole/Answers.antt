use Rattle.pst_store.proofs.Wholes.{whole_small}
use Rattle.pst_store.proofs.store.StoreOf.whole.Goals as goal

pub returns-in-Some-clause-small : goal.returns-in-Some-clause-small
returns-in-Some-clause-small g c = whole_small _ _ _ c.self.view_is c.in-Some.is c.whole.ensures
