use Rattle.std.proofs.Common.{◌≡◌, take, true}
use Rattle.std.specs.List.{list_all}
use Rattle.pst_script.specs.Numerals.{fits_64_bits}
use Rattle.persist_live.proofs.arguments.all_fit.Given as goal

abbrev pub invariant-loop-number : goal.invariant-loop-number
invariant-loop-number l = list_all fits_64_bits (take l.number-index l.numbers) ≡ true
