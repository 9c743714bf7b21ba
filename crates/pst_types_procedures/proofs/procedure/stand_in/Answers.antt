use Rattle.std.proofs.Common.{rules}
use Rattle.pst_types_procedures.proofs.procedure.stand_in.Goals as goal

pub returns-in_err-arguments : goal.returns-in_err-arguments
returns-in_err-arguments c = λ body. let names = c.in_err-arguments.ensures body in search (rules, names)

pub returns : goal.returns
returns c = λ body. let names = c.in_ok-arguments.ensures body in search (rules, names)
