use Rattle.pst_store.proofs.Links.{found, found_pointer, null_kept, null_stored, null_writes}
use Rattle.pst_store.proofs.Stores.{behind, failed_kept, failed_same, live_at, nodes_of, on_err}
use Rattle.pst_store.proofs.Stamping.{stamped_failed}
use Rattle.pst_store.proofs.started.Started.stamp_null.Goals as goal

pub cover-id-requires-clause-nodes : goal.cover-id-requires-clause-nodes
cover-id-requires-clause-nodes g c =
    nodes_of _ c.self.invariant.store

pub set_null-requires-clause-nodes : goal.set_null-requires-clause-nodes
set_null-requires-clause-nodes g c =
    nodes_of _ c.self.invariant.store

pub cover-id-requires-clause-live : goal.cover-id-requires-clause-live
cover-id-requires-clause-live g c =
    live_at _ _ c.args.at c.args.r c.self.view_is c.requires.live

pub set_null-requires-clause-waiting : goal.set_null-requires-clause-waiting
set_null-requires-clause-waiting g c = c.self.invariant.waiting

pub set_null-requires-clause-inside : goal.set_null-requires-clause-inside
set_null-requires-clause-inside g c = c.cover-id.ensures.inside

pub set_null-requires-clause-behind : goal.set_null-requires-clause-behind
set_null-requires-clause-behind g c =
    behind _ _ c.args.at c.self.view_is c.self.invariant.store c.requires.writable

pub set_null-requires-clause-field : goal.set_null-requires-clause-field
set_null-requires-clause-field g c =
    let w = found _ _ c.args.at c.args.r c.cover-id.result.0 c.self.view_is c.self.invariant c.requires.live c.cover-id.ensures.inside c.cover-id.ensures.same in
    found_pointer _ _ c.args.at c.args.r c.cover-id.result.0 w c.args.field.0 c.requires.field

pub invariant_of-self : goal.invariant_of-self
invariant_of-self g c =
    failed_kept _ _ _ c.self.invariant c.in_err-set_null.ensures.err.0 c.in_err-set_null.ensures.err.1

pub returns-in_err-set_null-clause-err : goal.returns-in_err-set_null-clause-err
returns-in_err-set_null-clause-err g c =
    on_err _ _ (failed_same _ _ _ _ c.self.view_is c.in_err-set_null.ensures.err.0 c.in_err-set_null.ensures.err.1)

pub invariant_of-self-2 : goal.invariant_of-self-2
invariant_of-self-2 g c =
    let w = found _ _ c.args.at c.args.r c.cover-id.result.0 c.self.view_is c.self.invariant c.requires.live c.cover-id.ensures.inside c.cover-id.ensures.same in
    null_kept _ _ _ _ c.args.at c.args.r c.cover-id.result.0 c.args.field.0 w c.requires.writable c.requires.field c.in_ok-set_null.ensures.set c.in_ok-set_null.ensures.kept c.requires.room

pub returns-clause-ok : goal.returns-clause-ok
returns-clause-ok g c =
    let w = found _ _ c.args.at c.args.r c.cover-id.result.0 c.self.view_is c.self.invariant c.requires.live c.cover-id.ensures.inside c.cover-id.ensures.same in (
      null_stored _ _ _ _ c.args.at c.args.r c.cover-id.result.0 c.args.field.0 w c.requires.writable c.requires.field c.in_ok-set_null.ensures.set
          c.in_ok-set_null.ensures.kept c.requires.room,
      null_writes _ _ _ _ c.args.at c.args.r c.cover-id.result.0 c.args.field.0 w c.requires.writable
          c.requires.field c.in_ok-set_null.ensures.set c.in_ok-set_null.ensures.kept c.requires.room,
    )

pub returns-in_err-set_null-clause-stamped : goal.returns-in_err-set_null-clause-stamped
returns-in_err-set_null-clause-stamped g c = stamped_failed 6 _ _ _ _ c.self.view_is c.in_err-set_null.ensures.err.0
