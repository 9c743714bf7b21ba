-- Depths that are worked by hand.
use Rattle.std.proofs.Common.{refl, arith}
use Rattle.pst_grammar.specs.Worked.{WorkedDepths, WorkedLimits}

pub worked_depths : WorkedDepths
worked_depths = record { of_element = refl; of_comparison = refl; of_choice = refl; loop_nests = refl; choice_nests = refl }

pub worked_limits : WorkedLimits
worked_limits = record {
  deepest = record { height = omega arith; nesting = omega arith };
  too_deep = λ shallow. absurd (omega (shallow.height, arith));
  most_nested = record { height = omega arith; nesting = omega arith };
  too_nested = λ shallow. absurd (omega (shallow.nesting, arith));
}
