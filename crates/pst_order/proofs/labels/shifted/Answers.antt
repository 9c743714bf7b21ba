use Rattle.std.proofs.Common.{ℕ, ◌+◌, ◌%◌, arith, sym, ap}
use Rattle.pst_order.proofs.NumberLemmas.{circle_is}
use Rattle.pst_order.proofs.labels.shifted.Goals as goal

pub overflow_add-result : goal.overflow_add-result
overflow_add-result c = omega (arith, circle_is, c.requires.a, c.requires.by)

pub returns-clause-result : goal.returns-clause-result
returns-clause-result c = ap (λ (m : ℕ). (c.args.a + c.args.by) % m) (sym circle_is)

pub returns-clause-low : goal.returns-clause-low
returns-clause-low c = omega (arith, circle_is)
