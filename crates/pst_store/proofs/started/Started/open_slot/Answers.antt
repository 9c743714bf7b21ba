use Rattle.std.proofs.Common.{subst}
use Rattle.std.specs.Prelude.{IfNone, IfSome}
use Rattle.pst_store_arena.specs.Calls.{AreOthers, IsOpenTo}
use Rattle.pst_store_meaning.specs.Store.{Stored, arena, begin_of}
use Rattle.pst_store.proofs.Stores.{nodes_of}
use Rattle.pst_store.proofs.started.Started.open_slot.Goals as goal

pub open_slot-requires-clause-nodes : goal.open_slot-requires-clause-nodes
open_slot-requires-clause-nodes g c =
    nodes_of _ c.self.invariant.store

pub returns-clause-none : goal.returns-clause-none
returns-clause-none g c =
    subst (λ (s : Stored). IfNone c.open_slot.result (AreOthers s.shape (arena s) c.args.y.0 (begin_of s c.args.at) c.args.x.0 c.args.field.0)) c.self.view_is c.open_slot.ensures.none

pub returns-clause-some : goal.returns-clause-some
returns-clause-some g c =
    subst (λ (s : Stored). IfSome c.open_slot.result (λ i. IsOpenTo s.shape (arena s) c.args.y.0 (begin_of s c.args.at) c.args.x.0 c.args.field.0 i.0)) c.self.view_is c.open_slot.ensures.some
