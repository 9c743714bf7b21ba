use Rattle.std.proofs.Common.{◌≡◌, ◌++◌, take}
use Rattle.pst_script.specs.Texts.{printed_lines}
use Rattle.pst_script.proofs.text.push_printed.Given as goal

abbrev pub invariant-loop-number : goal.invariant-loop-number
invariant-loop-number l = l.text.items ≡ l.initial.text.items ++ printed_lines (take l.number-index l.printed)
