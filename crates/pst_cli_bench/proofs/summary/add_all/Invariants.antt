use Rattle.std.proofs.Common.{◌≡◌, ◌+ℤ◌, take, fold}
use Rattle.pst_cli_bench.proofs.summary.add_all.Given as goal

abbrev pub invariant-loop-number : goal.invariant-loop-number
invariant-loop-number l = l.all ≡ fold ◌+ℤ◌ l.sum (take l.number-index l.numbers)
