use Rattle.std.proofs.Common.{refl}
use Rattle.pst_line.proofs.Running.{published_held, published_done}
use Rattle.pst_line.proofs.inner.Core.publish.Goals as goal

pub invariant_of-self-2 : goal.invariant_of-self-2
invariant_of-self-2 g c =
    published_held _ _ c.self.view_is c.self.invariant c.args.run c.requires.open c.requires.whole c.requires.few _ _ _ _ _ refl c.count-to.ensures c.unwrap_or-from.ensures c.in_ok-push.ensures.items c.new.ensures

pub returns-clause-ok : goal.returns-clause-ok
returns-clause-ok g c =
    published_done _ _ c.self.view_is c.self.invariant c.args.run c.requires.open c.requires.whole c.requires.few _ _ _ _ _ refl c.count-to.ensures c.unwrap_or-from.ensures c.in_ok-push.ensures.items c.new.ensures _ c.stamp.ensures
