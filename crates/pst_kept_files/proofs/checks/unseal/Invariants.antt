use Rattle.pst_kept_files.proofs.CheckLemmas.{UnsealedTo}
use Rattle.pst_kept_files.proofs.checks.unseal.Given as goal

abbrev pub invariant-loop-i : goal.invariant-loop-i
invariant-loop-i l = UnsealedTo l.fn.first l.text l.begin l.i l.commands.items l.check
