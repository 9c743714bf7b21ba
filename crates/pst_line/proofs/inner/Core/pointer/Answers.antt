use Rattle.std.proofs.Common.{◌∙◌, ap}
use Rattle.pst_line.specs.Held.{target}
use Rattle.pst_line.proofs.Answered.{pointer_slot_of, target_of_field, live_target}
use Rattle.pst_line.proofs.inner.Core.pointer.Goals as goal

pub read-requires-clause-slot : goal.read-requires-clause-slot
read-requires-clause-slot g c = pointer_slot_of _ _ c.self.view_is c.self.invariant c.args.at c.args.r c.args.field.0 c.cover-x.result.0 c.requires.live c.cover-x.ensures.covers c.cover-x.ensures.home c.requires.field

pub returns-clause-target : goal.returns-clause-target
returns-clause-target g c = target_of_field _ _ c.self.view_is c.self.invariant c.args.at c.args.r c.args.field.0 c.cover-x.result.0 c.requires.live c.cover-x.ensures.covers c.cover-x.ensures.home _ c.requires.field (c.target_of.ensures ∙ ap target c.read.ensures)

pub returns-clause-live : goal.returns-clause-live
returns-clause-live g c = live_target _ _ c.self.view_is c.self.invariant c.args.at c.args.r c.args.field.0 c.cover-x.result.0 c.requires.live c.cover-x.ensures.covers c.cover-x.ensures.home _ (c.target_of.ensures ∙ ap target c.read.ensures)
