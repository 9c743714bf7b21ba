use Rattle.std.proofs.Common.{◌≡◌, ◌++◌, map, drop}
use Rattle.pst_program.specs.declared.meaning.Value.TheVariants.{Number}
use Rattle.pst_eval.proofs.calls.numbers.Given as goal

abbrev pub invariant-loop-n : goal.invariant-loop-n
invariant-loop-n l = l.values.items ++ map Number (drop l.n-index l.arguments) ≡ map Number l.arguments
