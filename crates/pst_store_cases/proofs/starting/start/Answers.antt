use Rattle.std.proofs.Common.{◌∙◌, sym, ap}
use Rattle.pst_code.specs.declared.procedure.Parts.{Parts}
use Rattle.pst_history.specs.Direct.{meaning_of}
use Rattle.pst_store_cases.proofs.Sessions.{started_store}
use Rattle.pst_store_cases.proofs.starting.start.Goals as goal

pub returns : goal.returns
returns g c =
    let shape = c.code.ensures.means.shape ∙ sym (ap (λ (parts : Parts). parts.shape) c.code.ensures.code) ∙ sym c.shape.ensures in
    started_store (meaning_of c.args.code.now) c.shape.result.now c.start.new.self shape c.in_ok-start.ensures.ok
