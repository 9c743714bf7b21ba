use Rattle.pst_machine.proofs.Stands.{slices_add_up}
use Rattle.pst_machine.proofs.laws.slices_add_up.Goals as goal

pub returns : goal.returns
returns g c = λ h k l. slices_add_up (g.H.HeapAt.state h) (g.H.HeapAt.state k) (g.H.HeapAt.state l)
