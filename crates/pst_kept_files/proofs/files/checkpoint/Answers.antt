use Rattle.std.proofs.Common.{[], subst}
use Rattle.pst_kept_files.specs.Kept.{Means, MeansBy}
use Rattle.pst_kept_files.proofs.StandingLemmas.{either_sym}
use Rattle.pst_kept_files.proofs.files.checkpoint.Goals as goal

pub returns-in_err-kept-in-Second-clause-any_return : goal.returns-in_err-kept-in-Second-clause-any_return
returns-in_err-kept-in-Second-clause-any_return g c clean before commands means one two may_one may_two =
    let d = g.D.Disk in
    let by : MeansBy (d.seen c.args.two.now) (d.seen c.args.one.now) c.args.kept.now before commands = subst (λ r. Means (d.seen c.args.one.now) (d.seen c.args.two.now) r c.args.kept.now before commands) c.in-Second.is means in
    either_sym two one before commands c.args.image.now [] (c.renew-in-Second.ensures.any_return (clean.1, clean.0) before commands by two one may_two may_one)

pub returns-in_ok-renew-in-First-clause-any_return : goal.returns-in_ok-renew-in-First-clause-any_return
returns-in_ok-renew-in-First-clause-any_return g c clean before commands means one two may_one may_two =
    let d = g.D.Disk in
    let by : MeansBy (d.seen c.args.one.now) (d.seen c.args.two.now) c.args.kept.now before commands = subst (λ r. Means (d.seen c.args.one.now) (d.seen c.args.two.now) r c.args.kept.now before commands) c.in-First.is means in
    c.renew.ensures.any_return clean before commands by one two may_one may_two
