use Rattle.std.proofs.Common.{◌∷◌, [], ◌++◌, ℤ, ap, ◌∙◌, arith, rules}
use Rattle.std.proofs.lemmas.Int.{to_z-of_z}
use mir.Syntax.{w64}
use mir.Val.{SFits}
use Rattle.pst_machine_frames.proofs.running.print.Goals as goal

pub returns : goal.returns
returns g c = λ parts name.
    let fits : SFits w64 c.operand-n.result = search rules in
    (omega arith, c.in_ok-push.ensures.items ∙ ap (λ (n : ℤ). c.args.printed.now.items ++ n ∷ []) (to_z-of_z w64 c.operand-n.result fits ∙ c.operand-n.ensures parts name))
