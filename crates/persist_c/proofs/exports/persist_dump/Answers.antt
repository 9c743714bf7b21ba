use Rattle.persist_c.proofs.Stood.{taken_out}
use Rattle.persist_c.proofs.exports.persist_dump.Goals as goal

pub dump-answer-requires : goal.dump-answer-requires
dump-answer-requires c = taken_out _ _ _ c.in-Some.ensures.taken c.deref_mut.ensures.value c.requires
