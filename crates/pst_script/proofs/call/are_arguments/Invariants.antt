use Rattle.std.proofs.Common.{◌≡◌, is_some, length}
use Rattle.pst_script.specs.Words.{words}
use Rattle.pst_script.specs.Commands.{arguments_of}
use Rattle.pst_script.proofs.call.are_arguments.Given as goal

-- the words that are left decide
abbrev pub invariant-loop-word : goal.invariant-loop-word
invariant-loop-word l = is_some (arguments_of (words l.left)) ≡ is_some (arguments_of (words l.fn.rest))

abbrev pub decreases-loop-word : goal.decreases-loop-word
decreases-loop-word l = length l.left
