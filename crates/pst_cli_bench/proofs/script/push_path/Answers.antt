use Rattle.std.proofs.Common.{arith}
use Rattle.pst_cli_bench.specs.Script.{path_line}
use Rattle.pst_cli_bench.proofs.LineLemmas.{lines_more}
use Rattle.pst_cli_bench.proofs.script.push_path.Goals as goal

pub loop-version-preserved : goal.loop-version-preserved
loop-version-preserved c = lines_more (path_line c.args.number) 2 c.loop-version.version _ _ _ (omega arith) c.loop-version.invariant c.in_ok-push_path_line.ensures
