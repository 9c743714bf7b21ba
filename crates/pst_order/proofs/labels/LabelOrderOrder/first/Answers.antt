use Rattle.pst_order.proofs.StepLemmas.{first_is}
use Rattle.pst_order.proofs.labels.LabelOrderOrder.first.Goals as goal

pub returns-clause-in_list : goal.returns-clause-in_list
returns-clause-in_list c = (first_is c.self.inside.next.items c.self.inside.labels.items c.args.self.now c.self.view_is c.self.invariant).in_list

pub returns-clause-first : goal.returns-clause-first
returns-clause-first c = (first_is c.self.inside.next.items c.self.inside.labels.items c.args.self.now c.self.view_is c.self.invariant).first

pub returns-clause-distinct : goal.returns-clause-distinct
returns-clause-distinct c = (first_is c.self.inside.next.items c.self.inside.labels.items c.args.self.now c.self.view_is c.self.invariant).distinct
