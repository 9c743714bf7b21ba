use Rattle.std.proofs.Common.{◌≡◌, take}
use Rattle.pst_store.proofs.fork_list.ForkList.of_list.Given as goal

abbrev pub invariant-loop-fork : goal.invariant-loop-fork
invariant-loop-fork l = l.list.forks ≡ take l.fork-index l.forks
