use Rattle.std.proofs.Common.{ap}
use Rattle.pst_versions.specs.Store.{MayStorePointer, PointerOutcome}
use Rattle.pst_line.specs.Held.{state_in}
use Rattle.pst_line.proofs.Wholes.{inside, none_open, changed}
use Rattle.pst_line.proofs.line_heap.LineStoreHeapAt.store_pointer.Goals as goal
use Rattle.pst_line.proofs.line_heap.LineStoreHeapAt.store_pointer.Goals.{in-None, in-Some}

pub point-requires : goal.point-requires
point-requires c = inside _ _ c.in-Some.core (λ o. MayStorePointer (state_in o) c.args.at c.args.r c.args.field.0 c.args.target) c.self.view_is c.in-Some.is c.requires

pub returns : goal.returns
returns c = elim c.match-self.branch [
  | in-None w ↦ absurd (none_open _ _ c.self.view_is w.in-None.is c.args.at c.requires.writable)
  | in-Some w ↦ changed _ _ w.in-Some.core c.self.view_is w.in-Some.is _ w.point.new.self (ap (λ v. v.core) w.self-inside-is) _ _ w.result-is (λ a b r. PointerOutcome (state_in a) c.args.at c.args.r c.args.field.0 c.args.target r (state_in b)) w.point.ensures
]
