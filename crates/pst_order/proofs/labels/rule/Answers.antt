use Rattle.pst_order.proofs.RuleLemmas.{least, ahead_law}
use Rattle.pst_order.proofs.labels.rule.Goals as goal

pub returns-clause-least : goal.returns-clause-least
returns-clause-least c = least

pub returns-clause-ahead : goal.returns-clause-ahead
returns-clause-ahead c = ahead_law
