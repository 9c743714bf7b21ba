use Rattle.persist_c.proofs.Stood.{taken_out}
use Rattle.persist_c.proofs.exports.persist_run.Goals as goal

pub run-requires : goal.run-requires
run-requires c = taken_out _ _ _ c.in-Some.ensures.taken c.deref_mut.ensures.value c.requires
