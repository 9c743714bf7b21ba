use Rattle.std.proofs.Common.{◌≡◌, ◌++◌, take}
use Rattle.pst_script.specs.Texts.{version_lines}
use Rattle.pst_script.proofs.text.push_versions.Given as goal

abbrev pub invariant-loop-index : goal.invariant-loop-index
invariant-loop-index l = l.text.items ≡ l.initial.text.items ++ version_lines 1 (take l.index l.parents)
