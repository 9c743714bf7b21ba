use Rattle.std.proofs.Common.{◌≡◌, ◌-◌, ◌++◌}
use Rattle.std.specs.List.{flat_map, range_with_len}
use Rattle.pst_cli_bench.specs.Script.{count_line}
use Rattle.pst_cli_bench.proofs.script.push_counts.Given as goal

abbrev pub invariant-loop-branch : goal.invariant-loop-branch
invariant-loop-branch l = l.text.items ≡ l.fn.text.items ++ flat_map count_line (range_with_len 1 (l.branch - 1))
