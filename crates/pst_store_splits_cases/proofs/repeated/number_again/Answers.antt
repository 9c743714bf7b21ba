use Rattle.pst_versions.proofs.StateLemmas.{Keeps_trans}
use Rattle.pst_store_splits_cases.proofs.Repeats.{number_keeps, open_kept, open_writable}
use Rattle.pst_store_splits_cases.proofs.repeated.number_again.Goals as goal

pub kind-requires : goal.kind-requires
kind-requires g c = c.loop.invariant.grows.live c.args.at c.args.item c.requires.live

pub write_number-requires-clause-writable : goal.write_number-requires-clause-writable
write_number-requires-clause-writable g c = open_writable _ c.args.at c.whole.ensures (open_kept _ _ c.args.at c.loop.invariant c.requires.open)

pub write_number-requires-clause-live : goal.write_number-requires-clause-live
write_number-requires-clause-live g c = c.loop.invariant.grows.live c.args.at c.args.item c.requires.live

pub returns-in-Ok : goal.returns-in-Ok
returns-in-Ok g c = Keeps_trans _ _ _ c.loop.invariant c.in-Ok.ensures.ok.0.keeps

pub loop-preserved : goal.loop-preserved
loop-preserved g c = Keeps_trans _ _ _ c.loop.invariant (number_keeps _ _ c.args.at _ _ _ c.in-Err.ensures.err)
