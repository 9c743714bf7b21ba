use Rattle.persist_c.proofs.Stood.{held_in}
use Rattle.persist_c.proofs.exports.persist_resume.Goals as goal

pub returns-in-Ok-clause-stands : goal.returns-in-Ok-clause-stands
returns-in-Ok-clause-stands c = held_in _ _ c.hold.ensures.held (_, _, c.in-Ok.ensures.resumes.stands)
