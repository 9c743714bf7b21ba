use Rattle.std.proofs.Common.{ap}
use Rattle.pst_line.specs.Store.{Began}
use Rattle.pst_line.specs.Held.{state_in}
use Rattle.pst_line.proofs.Wholes.{none_started, changed}
use Rattle.pst_line.proofs.line_store.LineStoreLineCalls.begin.Goals as goal
use Rattle.pst_line.proofs.line_store.LineStoreLineCalls.begin.Goals.{in-None, in-Some}

pub returns : goal.returns
returns c = elim c.match-self.branch [
  | in-None w ↦ absurd (none_started _ _ c.self.view_is w.in-None.is c.requires.started)
  | in-Some w ↦ changed _ _ w.in-Some.core c.self.view_is w.in-Some.is _ w.begin.new.self (ap (λ v. v.core) w.self-inside-is) _ _ w.result-is (λ a b r. Began (state_in a) (state_in b) r) w.begin.ensures
]
