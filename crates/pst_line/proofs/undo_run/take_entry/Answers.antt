use Rattle.pst_line.proofs.Back.{entry_there, entry_begun, some_may, gone_on}
use Rattle.pst_line.proofs.undo_run.take_entry.Goals as goal

pub cover-x-requires-clause-there : goal.cover-x-requires-clause-there
cover-x-requires-clause-there g c = entry_there _ _ _ _ _ c.requires.2

pub cover-x-requires-clause-begun : goal.cover-x-requires-clause-begun
cover-x-requires-clause-begun g c = entry_begun _ _ _ _ _ c.requires.2

pub put_back-requires : goal.put_back-requires
put_back-requires g c = some_may _ _ _ _ _ c.requires.2 c.cover-x.result.0 c.cover-x.ensures.covers c.cover-x.ensures.home

pub returns : goal.returns
returns g c = λ h rest i. gone_on _ _ _ _ _ i c.cover-x.result.0 c.cover-x.ensures.covers c.cover-x.ensures.home _ c.put_back.ensures
