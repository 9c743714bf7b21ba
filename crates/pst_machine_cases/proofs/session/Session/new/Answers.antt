use Rattle.std.proofs.Common.{sym, subst}
use Rattle.pst_forest.specs.Forest.{state_of, ForestOf}
use Rattle.pst_machine_cases.specs.Session.{IsUntouched}
use Rattle.pst_machine_cases.proofs.Sessions.{began}
use Rattle.pst_machine_cases.proofs.session.Session.new.Goals as goal

pub returns : goal.returns
returns c = subst (λ (f : ForestOf). IsUntouched c.in_ok-code.code (state_of f)) (sym c.in_ok-forest.ensures) (began c.in_ok-code.code c.shape.result.now c.shape.ensures)
