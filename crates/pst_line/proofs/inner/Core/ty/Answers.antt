use Rattle.std.proofs.Common.{◌∙◌, ap, sym, Some}
use Rattle.pst_line.proofs.Answered.{type_of_ref}
use Rattle.pst_line.proofs.inner.Core.ty.Goals as goal

pub returns : goal.returns
returns g c = λ p l. type_of_ref _ _ c.self.view_is c.self.invariant c.args.r p l ∙ ap Some (sym c.ty.ensures)
