use Rattle.persist_c.proofs.Stood.{taken_out}
use Rattle.persist_c.proofs.exports.persist_line.Goals as goal

pub line-requires : goal.line-requires
line-requires c = taken_out _ _ _ c.in-Some.ensures.taken c.deref_mut.ensures.value c.requires
