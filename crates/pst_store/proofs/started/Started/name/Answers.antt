use Rattle.pst_store.proofs.Answered.{live_there}
use Rattle.pst_store.proofs.started.Started.name.Goals as goal

pub name-requires : goal.name-requires
name-requires g c =
    live_there _ _ c.args.r c.self.view_is c.requires
