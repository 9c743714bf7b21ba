use Rattle.std.proofs.lemmas.Int.{to_z-of_z}
use Rattle.pst_store.proofs.Numbers.{written_kept, written_stored, written_writes}
use Rattle.pst_store.proofs.Stores.{behind, failed_kept, failed_same, live_at, nodes_of, on_err, read_int}
use Rattle.pst_store.proofs.Stamping.{stamped_failed}
use Rattle.pst_store.proofs.started.Started.stamp_number.Goals as goal

pub cover-id-requires-clause-nodes : goal.cover-id-requires-clause-nodes
cover-id-requires-clause-nodes g c =
    nodes_of _ c.self.invariant.store

pub set_number-requires-clause-nodes : goal.set_number-requires-clause-nodes
set_number-requires-clause-nodes g c =
    nodes_of _ c.self.invariant.store

pub cover-id-requires-clause-live : goal.cover-id-requires-clause-live
cover-id-requires-clause-live g c =
    live_at _ _ c.args.at c.args.r c.self.view_is c.requires.live

pub set_number-requires-clause-waiting : goal.set_number-requires-clause-waiting
set_number-requires-clause-waiting g c = c.self.invariant.waiting

pub set_number-requires-clause-inside : goal.set_number-requires-clause-inside
set_number-requires-clause-inside g c = c.cover-id.ensures.inside

pub set_number-requires-clause-behind : goal.set_number-requires-clause-behind
set_number-requires-clause-behind g c =
    behind _ _ c.args.at c.self.view_is c.self.invariant.store c.requires.writable

pub set_number-requires-clause-field : goal.set_number-requires-clause-field
set_number-requires-clause-field g c =
    read_int _ _ c.args.at c.args.r c.args.field.0 c.cover-id.result.0 c.self.view_is c.self.invariant.store c.requires.live c.requires.field c.cover-id.ensures.inside c.cover-id.ensures.same

pub invariant_of-self : goal.invariant_of-self
invariant_of-self g c =
    failed_kept _ _ _ c.self.invariant c.in_err-set_number.ensures.err.0 c.in_err-set_number.ensures.err.1

pub returns-in_err-set_number-clause-err : goal.returns-in_err-set_number-clause-err
returns-in_err-set_number-clause-err g c =
    on_err _ _ (failed_same _ _ _ _ c.self.view_is c.in_err-set_number.ensures.err.0 c.in_err-set_number.ensures.err.1)

pub invariant_of-self-2 : goal.invariant_of-self-2
invariant_of-self-2 g c =
    let fits = c.ranges.n in
    written_kept _ _ _ _ c.args.at c.args.r c.cover-id.result.0 c.args.field.0 c.args.n c.self.view_is c.self.invariant c.requires.writable
    c.requires.live c.requires.field c.cover-id.ensures.inside c.cover-id.ensures.same (simp to_z-of_z at c.in_ok-set_number.ensures.set)
    c.in_ok-set_number.ensures.kept c.requires.room

pub returns-clause-ok : goal.returns-clause-ok
returns-clause-ok g c =
    let fits = c.ranges.n in (
      written_stored _ _ _ _ c.args.at c.args.r c.cover-id.result.0 c.args.field.0 c.args.n c.self.view_is c.self.invariant c.requires.writable
          c.requires.live c.requires.field c.cover-id.ensures.inside c.cover-id.ensures.same (simp to_z-of_z at c.in_ok-set_number.ensures.set)
          c.in_ok-set_number.ensures.kept c.requires.room,
      written_writes _ _ _ _ c.args.at c.args.r c.cover-id.result.0 c.args.field.0 c.args.n
          c.self.view_is c.self.invariant c.requires.writable c.requires.live c.requires.field c.cover-id.ensures.inside c.cover-id.ensures.same
          (simp to_z-of_z at c.in_ok-set_number.ensures.set) c.in_ok-set_number.ensures.kept c.requires.room,
    )

pub returns-in_err-set_number-clause-stamped : goal.returns-in_err-set_number-clause-stamped
returns-in_err-set_number-clause-stamped g c = stamped_failed 2 _ _ _ _ c.self.view_is c.in_err-set_number.ensures.err.0
