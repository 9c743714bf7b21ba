use Rattle.persist_c.proofs.Stood.{held_in}
use Rattle.persist_c.proofs.exports.persist_open.Goals as goal

pub returns-in-Ok-open-clause-stands : goal.returns-in-Ok-open-clause-stands
returns-in-Ok-open-clause-stands c = held_in _ _ c.hold.ensures.held (_, _, c.in-Ok-open.ensures.opens.stands)
