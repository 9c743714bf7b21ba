use Rattle.pst_line.proofs.Wholes.{place_number, place_row}
use Rattle.pst_line.proofs.line_store.LineStoreLineCalls.at.Goals as goal

pub returns-in-Some-clause-place : goal.returns-in-Some-clause-place
returns-in-Some-clause-place c = place_row _ _ c.in-Some.core c.args.version.0 _ c.self.view_is c.in-Some.is c.place_of.ensures

pub returns-in-Some-clause-number : goal.returns-in-Some-clause-number
returns-in-Some-clause-number c = place_number _ _ c.in-Some.core c.args.version.0 _ c.self.view_is c.in-Some.is c.place_of.ensures
