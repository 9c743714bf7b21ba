use Rattle.std.proofs.Common.{FitsSigned, w64, ◌∙◌, ap}
use Rattle.std.proofs.lemmas.Int.{to_z-of_z}
use Rattle.pst_base.specs.declared.names.Kind.TheVariants.{Int}
use Rattle.pst_line_nodes.specs.Line.{number}
use Rattle.pst_line.proofs.Answered.{slot_of, number_of_field}
use Rattle.pst_line.proofs.inner.Core.number.Goals as goal

pub read-requires-clause-slot : goal.read-requires-clause-slot
read-requires-clause-slot g c = slot_of _ _ c.self.view_is c.self.invariant c.args.at c.args.r c.args.field.0 c.cover-x.result.0 c.requires.live c.cover-x.ensures.covers c.cover-x.ensures.home Int c.requires.field

pub returns : goal.returns
returns g c =
    let fits : FitsSigned w64 c.number_of.result = record { sfits = c.number_of.type_inv } in
    simp to_z-of_z (c.number_of.ensures ∙ ap number c.read.ensures ∙ number_of_field _ _ c.self.view_is c.self.invariant c.args.at c.args.r c.args.field.0 c.cover-x.result.0 c.requires.live c.cover-x.ensures.covers c.cover-x.ensures.home c.requires.field)
