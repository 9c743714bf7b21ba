use Rattle.std.proofs.Common.{◌≡◌, true, is_some, length}
use Rattle.pst_script.specs.Words.{words}
use Rattle.pst_script.specs.Commands.{arguments_of, all_fit}
use Rattle.pst_script.proofs.call.fit_arguments.Given as goal

-- the words that are left are arguments, and they decide
abbrev pub invariant-loop-word : goal.invariant-loop-word
invariant-loop-word l = record {
  written : is_some (arguments_of (words l.left)) ≡ true;
  fit : all_fit (arguments_of (words l.left)) ≡ all_fit (arguments_of (words l.fn.rest));
}

abbrev pub decreases-loop-word : goal.decreases-loop-word
decreases-loop-word l = length l.left
