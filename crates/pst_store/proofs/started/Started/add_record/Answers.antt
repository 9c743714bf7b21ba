use Rattle.pst_store.proofs.Links.{make_kept, make_allocated, make_held}
use Rattle.pst_store.proofs.Stores.{failed_kept, failed_same, on_err}
use Rattle.pst_store.proofs.started.Started.add_record.Goals as goal

pub invariant_of-self : goal.invariant_of-self
invariant_of-self g c =
    failed_kept _ _ _ c.self.invariant c.in_err-id.ensures.err c.in_err-id.ensures.noted

pub returns-in_err-id-clause-err : goal.returns-in_err-id-clause-err
returns-in_err-id-clause-err g c =
    on_err _ _ (failed_same _ _ _ _ c.self.view_is c.in_err-id.ensures.err c.in_err-id.ensures.noted)

pub invariant_of-self-2 : goal.invariant_of-self-2
invariant_of-self-2 g c =
    make_kept _ _ _ _ c.args.at _ c.args.ty c.args.name c.self.view_is c.self.invariant c.requires.writable c.requires.known_type c.requires.fresh
    c.in_ok-id.ensures.ok c.in_ok-id.ensures.noted c.requires.room

pub returns-clause-ok : goal.returns-clause-ok
returns-clause-ok g c =
    make_allocated _ _ _ _ c.args.at _ c.args.ty c.args.name c.self.view_is c.self.invariant c.requires.writable c.requires.known_type
    c.requires.fresh c.in_ok-id.ensures.ok c.in_ok-id.ensures.noted c.requires.room

pub returns-clause-held : goal.returns-clause-held
returns-clause-held g c =
    make_held _ _ _ _ c.args.at _ c.args.ty c.args.name c.self.view_is c.self.invariant c.requires.writable c.requires.known_type c.requires.fresh
    c.in_ok-id.ensures.ok c.in_ok-id.ensures.noted c.requires.room
