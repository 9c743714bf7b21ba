use Rattle.std.proofs.Common.{◌≡◌, ◌-◌, ◌++◌}
use Rattle.std.specs.List.{flat_map, range_with_len}
use Rattle.pst_cli_bench.specs.Script.{path_line}
use Rattle.pst_cli_bench.proofs.script.push_path.Given as goal

abbrev pub invariant-loop-version : goal.invariant-loop-version
invariant-loop-version l = l.text.items ≡ l.fn.text.items ++ flat_map (path_line l.number) (range_with_len 2 (l.version - 2))
