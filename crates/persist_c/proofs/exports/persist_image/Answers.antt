use Rattle.persist_c.proofs.Stood.{taken_out}
use Rattle.persist_c.proofs.exports.persist_image.Goals as goal

pub image-there-requires : goal.image-there-requires
image-there-requires c = taken_out _ _ _ c.in-Some.ensures.taken c.deref_mut.ensures.value c.requires
