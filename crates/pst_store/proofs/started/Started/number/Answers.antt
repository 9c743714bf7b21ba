use Rattle.std.proofs.Common.{FitsSigned, w64, ◌∙◌, ap, arith}
use Rattle.std.proofs.lemmas.Int.{to_z-of_z}
use Rattle.pst_rows.specs.Contents.{number}
use Rattle.pst_store.proofs.Stores.{read_int, read_value, nodes_of}
use Rattle.pst_store.proofs.started.Started.number.Goals as goal

pub cover-node-requires-clause-nodes : goal.cover-node-requires-clause-nodes
cover-node-requires-clause-nodes g c =
    nodes_of _ c.self.invariant.store

pub held_at-requires-clause-nodes : goal.held_at-requires-clause-nodes
held_at-requires-clause-nodes g c =
    nodes_of _ c.self.invariant.store

pub held_at-requires-clause-slot : goal.held_at-requires-clause-slot
held_at-requires-clause-slot g c =
    omega (
      arith,
      read_int _ _ c.args.at c.args.r c.args.field.0 c.cover-node.result.0 c.self.view_is c.self.invariant.store c.requires.live
          c.requires.field c.cover-node.ensures.inside c.cover-node.ensures.same,
    )

pub returns : goal.returns
returns g c =
    let fits : FitsSigned w64 c.number.result = record { sfits = c.number.type_inv } in
    simp to_z-of_z (c.number.ensures ∙ ap number c.held_at.ensures
    ∙ read_value _ _ c.args.at c.args.r c.args.field.0 c.cover-node.result.0 c.self.view_is c.self.invariant.store c.requires.live
    c.requires.field c.cover-node.ensures.inside c.cover-node.ensures.same)
