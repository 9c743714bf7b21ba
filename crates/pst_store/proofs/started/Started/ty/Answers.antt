use Rattle.pst_store.proofs.Answered.{live_there, type_read}
use Rattle.pst_store.proofs.started.Started.ty.Goals as goal

pub ty-requires : goal.ty-requires
ty-requires g c =
    live_there _ _ c.args.r c.self.view_is c.requires

pub returns : goal.returns
returns g c =
    type_read _ _ c.args.r _ c.self.view_is c.self.invariant c.ty.ensures
