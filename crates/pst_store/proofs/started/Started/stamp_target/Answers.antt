use Rattle.std.proofs.Common.{refl, subst}
use Rattle.pst_store_meaning.specs.Arena.{IsIn}
use Rattle.pst_store_meaning.specs.Store.{Stored, arena, begin_of}
use Rattle.pst_store.proofs.Links.{found, link_kind, link_full, link_slot, link_room, link_kept, link_stored, link_writes}
use Rattle.pst_store.proofs.Stores.{behind, failed_kept, failed_same, live_at, nodes_of, on_err}
use Rattle.pst_store.proofs.Stamping.{stamped_failed, stamped_nothing}
use Rattle.pst_store.proofs.started.Started.stamp_target.Goals as goal

pub cover-x-requires-clause-nodes : goal.cover-x-requires-clause-nodes
cover-x-requires-clause-nodes g c =
    nodes_of _ c.self.invariant.store

pub cover-y-requires-clause-nodes : goal.cover-y-requires-clause-nodes
cover-y-requires-clause-nodes g c =
    nodes_of _ c.self.invariant.store

pub cover-x-requires-clause-live : goal.cover-x-requires-clause-live
cover-x-requires-clause-live g c =
    live_at _ _ c.args.at c.args.r c.self.view_is c.requires.live

pub cover-y-requires-clause-live : goal.cover-y-requires-clause-live
cover-y-requires-clause-live g c =
    live_at _ _ c.args.at c.args.q c.self.view_is c.requires.target_live

pub open_slot-requires : goal.open_slot-requires
open_slot-requires g c =
    subst (λ (s : Stored). IsIn (arena s) c.cover-y.result.0 (begin_of s c.args.at)) c.self.view_is c.cover-y.ensures.inside

pub returns-in-None-clause-full : goal.returns-in-None-clause-full
returns-in-None-clause-full g c =
    let w = found _ _ c.args.at c.args.r c.cover-x.result.0 c.self.view_is c.self.invariant c.requires.live c.cover-x.ensures.inside c.cover-x.ensures.same in
    let v = found _ _ c.args.at c.args.q c.cover-y.result.0 c.self.view_is c.self.invariant c.requires.target_live c.cover-y.ensures.inside c.cover-y.ensures.same in
    λ u. (link_full _ _ c.args.at c.args.r c.args.q c.cover-x.result.0 c.cover-y.result.0 c.args.field.0 w v c.requires.fits c.in-None.ensures.none, refl)

pub set_target-requires-clause-nodes : goal.set_target-requires-clause-nodes
set_target-requires-clause-nodes g c =
    nodes_of _ c.self.invariant.store

pub set_target-requires-clause-waiting : goal.set_target-requires-clause-waiting
set_target-requires-clause-waiting g c = c.self.invariant.waiting

pub set_target-requires-clause-inside : goal.set_target-requires-clause-inside
set_target-requires-clause-inside g c = c.cover-x.ensures.inside

pub set_target-requires-clause-target : goal.set_target-requires-clause-target
set_target-requires-clause-target g c = c.cover-y.ensures.inside

pub set_target-requires-clause-behind : goal.set_target-requires-clause-behind
set_target-requires-clause-behind g c =
    behind _ _ c.args.at c.self.view_is c.self.invariant.store c.requires.writable

pub set_target-requires-clause-field : goal.set_target-requires-clause-field
set_target-requires-clause-field g c =
    let w = found _ _ c.args.at c.args.r c.cover-x.result.0 c.self.view_is c.self.invariant c.requires.live c.cover-x.ensures.inside c.cover-x.ensures.same in
    let v = found _ _ c.args.at c.args.q c.cover-y.result.0 c.self.view_is c.self.invariant c.requires.target_live c.cover-y.ensures.inside c.cover-y.ensures.same in
    link_kind _ _ c.args.at c.args.r c.args.q c.cover-x.result.0 c.cover-y.result.0 c.args.field.0 w v c.requires.fits

pub set_target-requires-clause-slot : goal.set_target-requires-clause-slot
set_target-requires-clause-slot g c =
    let w = found _ _ c.args.at c.args.r c.cover-x.result.0 c.self.view_is c.self.invariant c.requires.live c.cover-x.ensures.inside c.cover-x.ensures.same in
    let v = found _ _ c.args.at c.args.q c.cover-y.result.0 c.self.view_is c.self.invariant c.requires.target_live c.cover-y.ensures.inside c.cover-y.ensures.same in
    link_slot _ _ c.args.at c.args.r c.args.q c.cover-x.result.0 c.cover-y.result.0 c.args.field.0 w v c.requires.fits c.in-Some.slot.0 c.in-Some.ensures.some

pub invariant_of-self : goal.invariant_of-self
invariant_of-self g c =
    failed_kept _ _ _ c.self.invariant c.in_err-set_target-in-Some.ensures.err.0 c.in_err-set_target-in-Some.ensures.err.1

pub returns-in_err-set_target-in-Some-clause-err : goal.returns-in_err-set_target-in-Some-clause-err
returns-in_err-set_target-in-Some-clause-err g c =
    on_err _ _ (failed_same _ _ _ _ c.self.view_is c.in_err-set_target-in-Some.ensures.err.0 c.in_err-set_target-in-Some.ensures.err.1)

pub invariant_of-self-in-Some : goal.invariant_of-self-in-Some
invariant_of-self-in-Some g c =
    let w = found _ _ c.args.at c.args.r c.cover-x.result.0 c.self.view_is c.self.invariant c.requires.live c.cover-x.ensures.inside c.cover-x.ensures.same in
    let v = found _ _ c.args.at c.args.q c.cover-y.result.0 c.self.view_is c.self.invariant c.requires.target_live c.cover-y.ensures.inside c.cover-y.ensures.same in
    link_kept _ _ c.args.at c.args.r c.args.q c.cover-x.result.0 c.cover-y.result.0 c.args.field.0 w v c.requires.fits _ _ c.in-Some.slot.0
    c.requires.writable c.in_ok-set_target-in-Some.ensures.set c.in_ok-set_target-in-Some.ensures.kept c.requires.room

pub returns-in_ok-set_target-in-Some-clause-written : goal.returns-in_ok-set_target-in-Some-clause-written
returns-in_ok-set_target-in-Some-clause-written g c =
    let w = found _ _ c.args.at c.args.r c.cover-x.result.0 c.self.view_is c.self.invariant c.requires.live c.cover-x.ensures.inside c.cover-x.ensures.same in
    let v = found _ _ c.args.at c.args.q c.cover-y.result.0 c.self.view_is c.self.invariant c.requires.target_live c.cover-y.ensures.inside c.cover-y.ensures.same in
    λ u. (
      link_stored _ _ c.args.at c.args.r c.args.q c.cover-x.result.0 c.cover-y.result.0 c.args.field.0 w v c.requires.fits _ _ c.in-Some.slot.0
          c.requires.writable c.in_ok-set_target-in-Some.ensures.set c.in_ok-set_target-in-Some.ensures.kept c.requires.room,
      link_writes _ _ c.args.at c.args.r c.args.q c.cover-x.result.0 c.cover-y.result.0 c.args.field.0 w v c.requires.fits _ _ c.in-Some.slot.0
          c.requires.writable c.in_ok-set_target-in-Some.ensures.set c.in_ok-set_target-in-Some.ensures.kept c.requires.room,
      link_room _ _ c.args.at c.args.r c.args.q c.cover-x.result.0 c.cover-y.result.0 c.args.field.0 w v c.requires.fits c.in-Some.slot.0
          c.in-Some.ensures.some,
    )

pub returns-in_err-set_target-in-Some-clause-stamped : goal.returns-in_err-set_target-in-Some-clause-stamped
returns-in_err-set_target-in-Some-clause-stamped g c = stamped_failed 6 _ _ _ _ c.self.view_is c.in_err-set_target-in-Some.ensures.err.0

pub returns-in-None-clause-stamped : goal.returns-in-None-clause-stamped
returns-in-None-clause-stamped g c = stamped_nothing 6 c.args.self.now
