use Rattle.persist_live.proofs.live.Live.apply.Goals as goal

pub returns-clause-stands : goal.returns-clause-stands
returns-clause-stands c =
    let (m, h, now) = c.requires.stands in
    (m, _, c.in_ok-reply.ensures.stands m h now)
