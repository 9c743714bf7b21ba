use Rattle.std.proofs.Common.{ap, ◌∙◌}
use Rattle.pst_versions.proofs.StateLemmas.{IsFresh_unchanged, IsNewType_kept}
use Rattle.pst_store_meaning.specs.Store.{Noted, state_of}
use Rattle.pst_store.proofs.Around.{made_after, refused_after, room_kept}
use Rattle.pst_store.proofs.Stores.{if_ok, on_err}
use Rattle.pst_store.proofs.started.Started.make.Goals as goal

pub add_record-requires-clause-writable : goal.add_record-requires-clause-writable
add_record-requires-clause-writable g c = c.repair.ensures.stays.kept c.args.at c.requires.writable

pub add_record-requires-clause-known_type : goal.add_record-requires-clause-known_type
add_record-requires-clause-known_type g c = IsNewType_kept (state_of c.args.self.now) (state_of c.repair.new.self) c.args.ty c.requires.known_type c.repair.ensures.same.keeps.grows

pub add_record-requires-clause-fresh : goal.add_record-requires-clause-fresh
add_record-requires-clause-fresh g c = IsFresh_unchanged (state_of c.args.self.now) (state_of c.repair.new.self) c.args.name c.requires.fresh c.repair.ensures.same

pub add_record-requires-clause-room : goal.add_record-requires-clause-room
add_record-requires-clause-room g c = room_kept c.args.self.now c.repair.new.self c.repair.ensures.same c.requires.room

pub returns-in_err-repair-clause-err : goal.returns-in_err-repair-clause-err
returns-in_err-repair-clause-err g c = on_err _ _ c.repair.ensures.same

pub returns-clause-rested : goal.returns-clause-rested
returns-clause-rested g c = if_ok _ _ (ap (λ (n : Noted). n.queue) c.add_record.ensures.noted ∙ c.in_ok-repair.ensures.rested)

pub returns-clause-ok : goal.returns-clause-ok
returns-clause-ok g c = made_after c.args.self.now c.repair.new.self c.add_record.new.self c.args.at c.args.ty c.args.name c.add_record.result
    c.requires.writable c.repair.ensures.same c.repair.ensures.stays c.add_record.ensures.ok

pub returns-clause-err : goal.returns-clause-err
returns-clause-err g c = refused_after c.args.self.now c.repair.new.self c.add_record.new.self c.add_record.result c.repair.ensures.same c.add_record.ensures.err

pub returns-clause-held : goal.returns-clause-held
returns-clause-held g c = c.add_record.ensures.held c.in_ok-repair.ensures.held
