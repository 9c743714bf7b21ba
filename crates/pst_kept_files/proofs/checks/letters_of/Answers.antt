use Rattle.std.proofs.Common.{arith, rules}
use Rattle.pst_kept_files.proofs.CheckLemmas.{letters_are}
use Rattle.pst_kept_files.proofs.checks.letters_of.Goals as goal

pub returns : goal.returns
returns c = letters_are c.args.digest.now c.loop-i.letters (search rules) c.loop-i.invariant.size (λ j low. c.loop-i.invariant.each j (omega (arith, low)))
