use Rattle.std.proofs.Common.{ap}
use Rattle.pst_line.specs.Store.{Undone}
use Rattle.pst_line.specs.Held.{state_in}
use Rattle.pst_line.proofs.Wholes.{open_inside, whole_inside, none_open, changed_alone}
use Rattle.pst_line.proofs.line_store.LineStoreLineCalls.undo.Goals as goal
use Rattle.pst_line.proofs.line_store.LineStoreLineCalls.undo.Goals.{in-None, in-Some}

pub undo-requires-clause-open : goal.undo-requires-clause-open
undo-requires-clause-open c = open_inside _ _ c.in-Some.core c.self.view_is c.in-Some.is c.requires

pub undo-requires-clause-whole : goal.undo-requires-clause-whole
undo-requires-clause-whole c = whole_inside _ _ c.in-Some.core c.self.view_is c.in-Some.is c.requires

pub returns-clause-undone : goal.returns-clause-undone
returns-clause-undone c = elim c.match-self.branch [
  | in-None w ↦ absurd (none_open _ _ c.self.view_is w.in-None.is c.requires.0 c.requires.1)
  | in-Some w ↦ changed_alone _ _ w.in-Some.core c.self.view_is w.in-Some.is _ w.undo.new.self (ap (λ v. v.core) w.self-inside-is) (λ a b. Undone (state_in a) (state_in b)) w.undo.ensures.undone
]
