use Rattle.std.proofs.Common.{◌≡◌, true, length, ◌++◌}
use Rattle.std.specs.Option.{option_map}
use Rattle.std.specs.List.{list_all}
use Rattle.pst_script.specs.Words.{words}
use Rattle.pst_script.specs.Numerals.{fits_64_bits}
use Rattle.pst_script.specs.Commands.{arguments_of}
use Rattle.pst_script.proofs.call.read_arguments.Given as goal

-- the numbers so far fit, and with those of the words that are left they are the arguments
abbrev pub invariant-loop-word : goal.invariant-loop-word
invariant-loop-word l = record {
  fit : list_all fits_64_bits l.arguments.items ≡ true;
  whole : option_map (λ ns. l.arguments.items ++ ns) (arguments_of (words l.left)) ≡ arguments_of (words l.fn.rest);
}

abbrev pub decreases-loop-word : goal.decreases-loop-word
decreases-loop-word l = length l.left
