use Rattle.std.specs.Prelude.{IfOk}
use Rattle.std.proofs.Common.{ap}
use Rattle.pst_versions.specs.State.{IsFresh, Allocated}
use Rattle.pst_line.specs.Held.{state_in}
use Rattle.pst_line.proofs.Wholes.{inside, none_open, changed}
use Rattle.pst_line.proofs.line_heap.LineStoreHeapAt.allocate.Goals as goal
use Rattle.pst_line.proofs.line_heap.LineStoreHeapAt.allocate.Goals.{in-None, in-Some}

pub make-requires-clause-writable : goal.make-requires-clause-writable
make-requires-clause-writable c = inside _ _ c.in-Some.core (λ o. (state_in o).writable c.args.at) c.self.view_is c.in-Some.is c.requires.writable

pub make-requires-clause-fresh : goal.make-requires-clause-fresh
make-requires-clause-fresh c = inside _ _ c.in-Some.core (λ o. IsFresh (state_in o) c.args.name) c.self.view_is c.in-Some.is c.requires.fresh

pub returns-clause-ok : goal.returns-clause-ok
returns-clause-ok c = elim c.match-self.branch [
  | in-None w ↦ absurd (none_open _ _ c.self.view_is w.in-None.is c.args.at c.requires.writable)
  | in-Some w ↦ changed _ _ w.in-Some.core c.self.view_is w.in-Some.is _ w.make.new.self (ap (λ v. v.core) w.self-inside-is) _ _ w.result-is (λ a b r. IfOk r (λ r. Allocated (state_in a) c.args.at c.args.ty c.args.name r (state_in b))) w.make.ensures.ok
]
