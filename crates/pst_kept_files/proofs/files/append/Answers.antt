use Rattle.std.proofs.Common.{◌++◌, subst}
use Rattle.pst_kept_files.specs.Kept.{Means, MeansBy}
use Rattle.pst_kept_files.proofs.StandingLemmas.{either_sym}
use Rattle.pst_kept_files.proofs.files.append.Goals as goal

pub returns-in_err-append_to-in-Second-clause-any_return : goal.returns-in_err-append_to-in-Second-clause-any_return
returns-in_err-append_to-in-Second-clause-any_return g c clean image before means one two may_one may_two =
    let d = g.D.Disk in
    let by : MeansBy (d.seen c.args.two.now) (d.seen c.args.one.now) c.args.kept.now image before = subst (λ r. Means (d.seen c.args.one.now) (d.seen c.args.two.now) r c.args.kept.now image before) c.in-Second.is means in
    either_sym two one image before image (before ++ c.args.commands.now) (c.append_to-in-Second.ensures.any_return (clean.1, clean.0) image before by two one may_two may_one)

pub returns-in_ok-append_to-in-Second-clause-any_return : goal.returns-in_ok-append_to-in-Second-clause-any_return
returns-in_ok-append_to-in-Second-clause-any_return g c clean image before means one two may_one may_two =
    let d = g.D.Disk in
    let by : MeansBy (d.seen c.args.two.now) (d.seen c.args.one.now) c.args.kept.now image before = subst (λ r. Means (d.seen c.args.one.now) (d.seen c.args.two.now) r c.args.kept.now image before) c.in-Second.is means in
    either_sym two one image before image (before ++ c.args.commands.now) (c.append_to-in-Second.ensures.any_return (clean.1, clean.0) image before by two one may_two may_one)
