use Rattle.std.proofs.Common.{refl, ap, length, arith}
use Rattle.pst_image_rules.proofs.Order.{next_at, next_not, not_true, never}
use Rattle.pst_image_rules.proofs.segments.next_position.Goals as goal

pub returns-then-count-position : goal.returns-then-count-position
returns-then-count-position c = next_not _ _ _ _ c.requires.sorted c.requires.position (λ lt. absurd (omega (arith, ap length c.as_slice-count.ensures)))

pub returns-then-is_there : goal.returns-then-is_there
returns-then-is_there c = let there = c.if-is_there.ensures.0 refl in next_at _ _ _ _ c.requires.sorted c.requires.position there.0 there.1

pub returns : goal.returns
returns c = next_not _ _ _ _ c.requires.sorted c.requires.position (λ lt. not_true _ (λ at. never (c.if-is_there.ensures.1 (lt, at))))
