use Rattle.std.proofs.Common.{◌≡◌, ◌++◌, map, drop}
use Rattle.pst_program.specs.Meaning.{default_of, first_env}
use Rattle.pst_eval.proofs.locals.first_env.Given as goal

abbrev pub invariant-loop-i : goal.invariant-loop-i
invariant-loop-i l = l.env.items ++ map default_of (drop l.i l.kinds) ≡ first_env l.kinds l.fn.arguments.items
