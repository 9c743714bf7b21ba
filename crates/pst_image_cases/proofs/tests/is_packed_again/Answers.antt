use Rattle.std.proofs.Common.{◌≡◌, ap, arith}
use Rattle.pst_base.specs.declared.names.RunNo.{RunNo}
use Rattle.pst_image_rules.specs.declared.rule.Rule.TheVariants.{Ranges}
use Rattle.pst_image_cases.proofs.tests.is_packed_again.Goals as goal

pub pack-requires-clause-numbers : goal.pack-requires-clause-numbers
pack-requires-clause-numbers c =
    let (p, told, rebuilt) = c.in_ok-taken.ensures.taken in
    let range = told.accepted.rules Ranges in
    let next : c.in_ok-taken.taken.next_run.0 ≡ p.next_run.0 = ap (λ (r : RunNo). r.0) told.next_run_is in
    let budget = told.budget_is in
    record {
      next_low = (let low = range.run_low in omega (arith, next, low));
      next_high = (let high = range.run_high in omega (arith, next, high));
      budget_low = (let low = range.budget_low in omega (arith, budget, low));
      budget_high = (let high = range.budget_high in omega (arith, budget, high));
    }
