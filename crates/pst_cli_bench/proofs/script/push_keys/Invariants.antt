use Rattle.std.proofs.Common.{◌≡◌, ◌-◌, ◌++◌}
use Rattle.std.specs.List.{flat_map, range_with_len}
use Rattle.pst_cli_bench.specs.Script.{key_line}
use Rattle.pst_cli_bench.proofs.script.push_keys.Given as goal

abbrev pub invariant-loop-branch : goal.invariant-loop-branch
invariant-loop-branch l = l.text.items ≡ l.fn.text.items ++ flat_map (key_line l.size) (range_with_len 1 (l.branch - 1))
