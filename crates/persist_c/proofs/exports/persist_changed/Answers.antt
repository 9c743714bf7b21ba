use Rattle.persist_c.proofs.Stood.{taken_out}
use Rattle.persist_c.proofs.exports.persist_changed.Goals as goal

pub changed-answer-requires : goal.changed-answer-requires
changed-answer-requires c = taken_out _ _ _ c.in-Some.ensures.taken c.deref_mut.ensures.value c.requires
