use Rattle.pst_cli_serving.proofs.LineStores.{line_left, line_broken}
use Rattle.pst_cli_serving.proofs.lining.LiningSession.known.Goals as goal

pub returns-clause-leaves : goal.returns-clause-leaves
returns-clause-leaves g c m h r =
    let known = c.known_line.ensures in
    line_left m (g.L.HeapAt.state c.args.held.now) (g.L.LineCalls.stored c.args.held.now) h known.means known.stored r.stands.stands.sound c.args.self.now.session known.closed r.stands

pub returns-clause-breaks : goal.returns-clause-breaks
returns-clause-breaks g c m h r =
    let known = c.known_line.ensures in
    line_broken m (g.L.HeapAt.state c.args.held.now) (g.L.LineCalls.stored c.args.held.now) h known.means known.stored r.stands.stands.sound r.stands.stands.versions
