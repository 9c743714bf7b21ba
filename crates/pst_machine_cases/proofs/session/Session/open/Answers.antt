use Rattle.std.proofs.Common.{arith}
use Rattle.pst_forest.specs.Forest.{state_of}
use Rattle.pst_machine_cases.proofs.Sessions.{bare_opened}
use Rattle.pst_machine_cases.proofs.session.Session.open.Goals as goal

pub returns-clause-opened : goal.returns-clause-opened
returns-clause-opened c = bare_opened c.fork.new.self.code (state_of c.fork.new.self.forest) c.in_ok-at.at c.args.run 10000000 _
    (c.a_run_begins_ready.ensures.bare c.fork.new.self.forest) (omega arith) c.in_ok-bare.ensures c.in_ok-at.ensures.untouched c.requires.run
    c.in_ok-at.ensures.place
