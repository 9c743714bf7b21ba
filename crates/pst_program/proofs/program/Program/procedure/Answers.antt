use Rattle.std.proofs.Common.{◌∙◌, sym, ap}
use Rattle.std.specs.Prelude.{position, bytes_eq}
use Rattle.pst_program.specs.Typed.{signature}
use Rattle.pst_program.specs.View.{procedure_of}
use Rattle.pst_program.proofs.Lookups.{number_named-map}
use Rattle.pst_program.proofs.program.Program.procedure.Goals as goal

pub returns-in-None : goal.returns-in-None
returns-in-None c = c.in-None.ensures ∙ ap (position (λ p. bytes_eq p.name c.args.name.now)) c.as_slice.ensures.value
    ∙ sym (number_named-map signature procedure_of c.args.self.now.procedures.items.items c.args.name.now)

pub returns-in-Some : goal.returns-in-Some
returns-in-Some c = c.in-Some.ensures ∙ ap (position (λ p. bytes_eq p.name c.args.name.now)) c.as_slice.ensures.value
    ∙ sym (number_named-map signature procedure_of c.args.self.now.procedures.items.items c.args.name.now)
