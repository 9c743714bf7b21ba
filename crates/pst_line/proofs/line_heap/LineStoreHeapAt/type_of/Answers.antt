use Rattle.std.proofs.Common.{◌≡◌, Some}
use Rattle.pst_base.specs.Heap.{type_in}
use Rattle.pst_line.specs.declared.place.LinePlace.{LinePlace}
use Rattle.pst_line.specs.Held.{state_in}
use Rattle.pst_line.proofs.Wholes.{outside}
use Rattle.pst_line.proofs.line_heap.LineStoreHeapAt.type_of.Goals as goal

pub returns-in-Some : goal.returns-in-Some
returns-in-Some c = outside _ _ c.in-Some.core (λ o. (p : LinePlace) → (state_in o).live p c.args.r → type_in ((state_in o).heap p) ((state_in o).name c.args.r) ≡ Some c.ty.result) c.self.view_is c.in-Some.is c.ty.ensures
