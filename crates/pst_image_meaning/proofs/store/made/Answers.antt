use Rattle.pst_image_meaning.proofs.Rebuilt.{made_is_store, made_is_rebuilt}
use Rattle.pst_image_meaning.proofs.store.made.Goals as goal

pub returns : goal.returns
returns c = record { store = made_is_store; rebuilt = made_is_rebuilt }
