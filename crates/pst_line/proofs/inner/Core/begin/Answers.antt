use Rattle.pst_line.proofs.Running.{begun_held, begun_done}
use Rattle.pst_line.proofs.inner.Core.begin.Goals as goal

pub invariant_of-self : goal.invariant_of-self
invariant_of-self g c = begun_held _ _ c.self.view_is c.self.invariant c.requires _ c.count.ensures

pub returns : goal.returns
returns g c = begun_done _ _ c.self.view_is c.self.invariant c.requires _ c.count.ensures _ c.stamp.ensures
