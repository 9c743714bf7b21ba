use Rattle.pst_versions.proofs.StateLemmas.{Grows_trans, Keeps_trans}
use Rattle.pst_store_splits_cases.proofs.repeated.publish_again.Goals as goal

pub returns-in-Ok : goal.returns-in-Ok
returns-in-Ok g c = Grows_trans _ _ _ c.loop.invariant.grows c.in-Ok.ensures.ok.grows

pub loop-preserved : goal.loop-preserved
loop-preserved g c = Keeps_trans _ _ _ c.loop.invariant c.in-Err.ensures.err.0.keeps
