use Rattle.std.proofs.Common.{◌≡◌, ◌⊎◌, List, ℕ, [], None, length, sym, ap, subst, arith}
use Rattle.pst_kept_files.specs.Standing.{stands}
use Rattle.pst_kept_files.specs.Kept.{Keeps, Means, MeansBy}
use Rattle.pst_kept_files.proofs.KeepLemmas.{created_either, renewed_means}
use Rattle.pst_kept_files.proofs.StandingLemmas.{short_stands}
use Rattle.pst_kept_files.proofs.files.create.Goals as goal

pub returns-in_err-kept-clause-any_return : goal.returns-in_err-kept-clause-any_return
returns-in_err-kept-clause-any_return g c clean none one two may_one may_two =
    let d = g.D.Disk in
    let len_one = c.in_ok-len.ensures.len (c.write_new.ensures.clean clean.0) in
    let len_two = c.in_ok-two_len.ensures.len clean.1 in
    let none_one = short_stands (d.seen c.len.new.self) (omega (arith, len_one, c.if-len-gt1.false, ap length c.len.ensures.seen)) in
    let none_two = short_stands (d.seen c.args.two.now) (omega (arith, len_two, c.if-two_len-gt1.false)) in
    let is_two = c.requires.two_durable two (c.len-2.ensures.crash two may_two) in
    subst (λ (e : List ℕ). (stands one e ≡ None) ⊎ Keeps one e c.args.image.now []) (sym is_two)
    (created_either (d.seen c.len.new.self) (d.seen c.args.two.now) 1 c.args.image.now one (omega arith) c.requires.few none_one none_two (c.write_new.ensures.any_return one may_one))

pub returns-clause-created : goal.returns-clause-created
returns-clause-created g c clean =
    let d = g.D.Disk in
    let w = c.in_ok-kept.ensures.written in
    let len_two = c.in_ok-two_len.ensures.len clean.1 in
    let none_two = short_stands (d.seen c.len-2.new.self) (omega (arith, len_two, c.if-two_len-gt1.false, ap length c.len-2.ensures.seen)) in
    let by : MeansBy (d.seen c.write_new.new.disk) (d.seen c.len-2.new.self) c.in_ok-kept.kept c.args.image.now [] =
    renewed_means (d.seen c.write_new.new.disk) (d.seen c.len-2.new.self) 1 c.args.image.now c.in_ok-kept.kept (omega arith) c.requires.few w.file_is w.generation_is w.begins w.check_is none_two in
    subst (λ r. Means (d.seen c.write_new.new.disk) (d.seen c.len-2.new.self) r c.in_ok-kept.kept c.args.image.now []) (sym w.role_is) by

pub returns-clause-any_return : goal.returns-clause-any_return
returns-clause-any_return g c clean none one two may_one may_two =
    let d = g.D.Disk in
    let len_one = c.in_ok-len.ensures.len (c.write_new.ensures.clean clean.0) in
    let len_two = c.in_ok-two_len.ensures.len clean.1 in
    let none_one = short_stands (d.seen c.len.new.self) (omega (arith, len_one, c.if-len-gt1.false, ap length c.len.ensures.seen)) in
    let none_two = short_stands (d.seen c.args.two.now) (omega (arith, len_two, c.if-two_len-gt1.false)) in
    let is_two = c.requires.two_durable two (c.len-2.ensures.crash two may_two) in
    subst (λ (e : List ℕ). (stands one e ≡ None) ⊎ Keeps one e c.args.image.now []) (sym is_two)
    (created_either (d.seen c.len.new.self) (d.seen c.args.two.now) 1 c.args.image.now one (omega arith) c.requires.few none_one none_two (c.write_new.ensures.any_return one may_one))
