use Rattle.std.proofs.Common.{◌∙◌, ap, inl, sym, subst}
use Rattle.pst_history.specs.Meaning.{Meaning}
use Rattle.pst_engine_runs.specs.Stands.{HoldsVersions}
use Rattle.pst_linerun.specs.Linear.{line_reply, line_after}
use Rattle.pst_linerun.specs.Standing.{SessionStands}
use Rattle.pst_cli_serving.proofs.LineStores.{line_broken}
use Rattle.pst_cli_serving.proofs.lining.LiningSession.apply.Goals as goal

pub returns-in-Ok-clause-answer : goal.returns-in-Ok-clause-answer
returns-in-Ok-clause-answer g c m h r =
    let before = subst (λ (n : Meaning). SessionStands n c.args.self.now.session (g.L.HeapAt.state c.args.held.now) (g.L.LineCalls.stored c.args.held.now) h) r.meaning r.stands in
    (c.in-Ok.ensures.answers h before).reply ∙ sym (ap (λ (n : Meaning). line_reply n h c.args.command.now) r.meaning)

pub returns-in-Ok-clause-stands : goal.returns-in-Ok-clause-stands
returns-in-Ok-clause-stands g c m h r =
    let state = g.L.HeapAt.state in
    let stored = g.L.LineCalls.stored in
    let before = subst (λ (n : Meaning). SessionStands n c.args.self.now.session (state c.args.held.now) (stored c.args.held.now) h) r.meaning r.stands in
    let stands = (c.in-Ok.ensures.answers h before).stands c.requires.range in
    record {
      meaning = r.meaning;
      stands = subst (λ (n : Meaning). SessionStands n c.apply.new.self (state c.apply.new.store) (stored c.apply.new.store) (line_after n h c.args.command.now)) (sym r.meaning) stands;
    }

pub returns-in-Err-clause-breaks : goal.returns-in-Err-clause-breaks
returns-in-Err-clause-breaks g c m h r =
    let state = g.L.HeapAt.state in
    let stored = g.L.LineCalls.stored in
    let before = subst (λ (n : Meaning). SessionStands n c.args.self.now.session (state c.args.held.now) (stored c.args.held.now) h) r.meaning r.stands in
    let holds = subst (λ (n : Meaning). HoldsVersions n (state c.apply.new.store) h) (sym r.meaning) (c.in-Err.ensures.holds h before) in
    let known = c.known_line.ensures in
    inl (line_broken m (state c.apply.new.store) (stored c.apply.new.store) h known.means known.stored r.stands.stands.sound holds)
