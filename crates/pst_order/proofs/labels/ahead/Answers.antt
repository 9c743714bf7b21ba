use Rattle.std.proofs.Common.{arith, refl}
use Rattle.std.proofs.lemmas.Bool.{le-ltb}
use Rattle.pst_order.proofs.NumberLemmas.{circle_is}
use Rattle.pst_order.proofs.labels.ahead.Goals as goal

pub overflow_add-result : goal.overflow_add-result
overflow_add-result c = omega (arith, circle_is, c.requires.b)

pub overflow_sub-result-else-a-b : goal.overflow_sub-result-else-a-b
overflow_sub-result-else-a-b c = omega (arith, circle_is, c.requires.a)

pub returns-else-a-b-clause-result : goal.returns-else-a-b-clause-result
returns-else-a-b-clause-result c = rw (circle_is, le-ltb c.args.a c.args.b c.if-a-b.false) refl

pub returns-else-a-b-clause-low : goal.returns-else-a-b-clause-low
returns-else-a-b-clause-low c = omega (arith, circle_is)
