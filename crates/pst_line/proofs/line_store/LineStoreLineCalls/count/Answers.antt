use Rattle.pst_line.proofs.Wholes.{version_count}
use Rattle.pst_line.proofs.line_store.LineStoreLineCalls.count.Goals as goal

pub returns-in-Some : goal.returns-in-Some
returns-in-Some c = version_count _ _ c.in-Some.core _ c.self.view_is c.in-Some.is c.count.ensures
