use Rattle.std.proofs.Common.{rules}
use Rattle.pst_machine_cases.proofs.Sessions.{forked}
use Rattle.pst_machine_cases.proofs.session.Session.fork.Goals as goal

pub returns-clause-untouched : goal.returns-clause-untouched
returns-clause-untouched c = forked c.args.self.now.code _ _ c.in_ok-place.place c.in_ok-fork.field-0 (search rules) c.in_ok-fork.ensures.ok c.requires

pub returns-clause-place : goal.returns-clause-place
returns-clause-place c = (c.in_ok-fork.ensures.ok.has, c.in_ok-fork.ensures.ok.writable)
