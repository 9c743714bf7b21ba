use Rattle.std.proofs.Common.{◌∙◌, ap, arith}
use Rattle.pst_rows.specs.Contents.{target}
use Rattle.pst_store.proofs.Stores.{nodes_of}
use Rattle.pst_store.proofs.Answered.{pointer_slot, pointer_target, pointer_live}
use Rattle.pst_store.proofs.started.Started.pointer.Goals as goal

pub cover-id-requires-clause-nodes : goal.cover-id-requires-clause-nodes
cover-id-requires-clause-nodes g c =
    nodes_of _ c.self.invariant.store

pub held_at-requires-clause-nodes : goal.held_at-requires-clause-nodes
held_at-requires-clause-nodes g c =
    nodes_of _ c.self.invariant.store

pub held_at-requires-clause-slot : goal.held_at-requires-clause-slot
held_at-requires-clause-slot g c =
    omega (
      arith,
      pointer_slot _ _ c.args.at c.args.r c.args.field.0 c.cover-id.result.0 c.self.view_is c.self.invariant c.requires.live
          c.requires.field c.cover-id.ensures.inside c.cover-id.ensures.same,
    )

pub returns-clause-target : goal.returns-clause-target
returns-clause-target g c =
    pointer_target _ _ c.args.at c.args.r c.args.field.0 c.cover-id.result.0 c.self.view_is c.self.invariant c.requires.live c.requires.field
    c.cover-id.ensures.inside c.cover-id.ensures.same _ (c.target.ensures ∙ ap target c.held_at.ensures)

pub returns-clause-live : goal.returns-clause-live
returns-clause-live g c =
    pointer_live _ _ c.args.at c.args.r c.args.field.0 c.cover-id.result.0 c.self.view_is c.self.invariant c.requires.live c.requires.field
    c.cover-id.ensures.inside c.cover-id.ensures.same _ (c.target.ensures ∙ ap target c.held_at.ensures)
