use Rattle.std.proofs.Common.{arith}
use Rattle.pst_order.proofs.NumberLemmas.{circle_is}
use Rattle.pst_order.proofs.labels.mixed_sum.Goals as goal

pub overflow_add-whole : goal.overflow_add-whole
overflow_add-whole c = omega (arith, circle_is, c.requires.a, c.requires.b)

pub overflow_add-result-else-a-missing : goal.overflow_add-result-else-a-missing
overflow_add-result-else-a-missing c = omega (arith, circle_is, c.requires.a, c.requires.b)
