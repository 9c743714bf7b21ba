use Rattle.std.proofs.Common.{arith}
use Rattle.pst_cli_bench.specs.Script.{key_line}
use Rattle.pst_cli_bench.proofs.LineLemmas.{lines_more}
use Rattle.pst_cli_bench.proofs.script.push_keys.Goals as goal

pub loop-branch-preserved : goal.loop-branch-preserved
loop-branch-preserved c = lines_more (key_line c.args.size) 1 c.loop-branch.branch _ _ _ (omega arith) c.loop-branch.invariant c.in_ok-push_key_line.ensures
