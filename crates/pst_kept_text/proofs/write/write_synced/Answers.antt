use Rattle.std.proofs.Common.{List, ℕ, length, sym, subst, rules}
use Rattle.sqlite_disk.specs.Disk.{Holds, Torn, Only}
use Rattle.pst_kept_text.proofs.WriteLemmas.{mixed_only, mixed_leaves}
use Rattle.pst_kept_text.proofs.write.write_synced.Goals as goal

pub returns-then-not-mixes-clause-any_return : goal.returns-then-not-mixes-clause-any_return
returns-then-not-mixes-clause-any_return g c left may = mixed_only c.args.at c.args.bytes.now (g.D.Disk.seen c.args.disk.now) (g.D.Disk.may_leave c.args.disk.now) c.requires.durable left may

pub returns-in_err-write_at-clause-any_return : goal.returns-in_err-write_at-clause-any_return
returns-in_err-write_at-clause-any_return g c left may =
    let d = g.D.Disk in
    mixed_leaves c.args.at c.args.bytes.now (d.seen c.args.disk.now) (d.may_leave c.args.disk.now) (d.may_leave c.write_at.new.self) c.requires.durable (c.write_at.ensures.mixed (search rules) c.requires.fits) left may

pub returns-in_err-sync-clause-any_return : goal.returns-in_err-sync-clause-any_return
returns-in_err-sync-clause-any_return g c left may =
    let d = g.D.Disk in
    mixed_leaves c.args.at c.args.bytes.now (d.seen c.args.disk.now) (d.may_leave c.args.disk.now) (d.may_leave c.write_at.new.self) c.requires.durable (c.write_at.ensures.mixed (search rules) c.requires.fits) left (c.sync.ensures.crash left may)

pub returns-clause-any_return : goal.returns-clause-any_return
returns-clause-any_return g c left may =
    let d = g.D.Disk in
    mixed_leaves c.args.at c.args.bytes.now (d.seen c.args.disk.now) (d.may_leave c.args.disk.now) (d.may_leave c.write_at.new.self) c.requires.durable (c.write_at.ensures.mixed (search rules) c.requires.fits) left (c.sync.ensures.crash left may)

pub returns-clause-written : goal.returns-clause-written
returns-clause-written g c =
    let d = g.D.Disk in
    record {
      usable = search rules;
      durable = subst (λ (f : List ℕ). Only f (d.may_leave c.sync.new.self)) (sym c.sync.ensures.seen) c.in_ok-sync.ensures.durable;
      torn = subst (λ (f : List ℕ). Torn c.args.at (length c.args.bytes.now) (d.seen c.args.disk.now) f) (sym c.sync.ensures.seen) c.write_at.ensures.others;
      holds = subst (λ (f : List ℕ). Holds f c.args.at c.args.bytes.now) (sym c.sync.ensures.seen) (c.in_ok-write_at.ensures.written c.requires.some);
    }
