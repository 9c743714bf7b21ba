use Rattle.std.proofs.Common.{arith}
use Rattle.pst_cli_bench.specs.Script.{branch_line}
use Rattle.pst_cli_bench.proofs.LineLemmas.{lines_more}
use Rattle.pst_cli_bench.proofs.script.push_branches.Goals as goal

pub loop-branch-preserved : goal.loop-branch-preserved
loop-branch-preserved c = lines_more (branch_line c.args.number) 1 c.loop-branch.branch _ _ _ (omega arith) c.loop-branch.invariant c.in_ok-push_branch_line.ensures
