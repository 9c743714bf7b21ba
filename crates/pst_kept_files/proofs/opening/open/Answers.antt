use Rattle.std.proofs.Common.{◌∙◌, Some, sym, ap, subst}
use Rattle.std.proofs.lemmas.Result.{IfOk-weaker, IfErr-weaker}
use Rattle.pst_kept_files.specs.Kept.{Means}
use Rattle.pst_kept_files.specs.Opening.{image_in}
use Rattle.pst_kept_files.proofs.StandingLemmas.{keeps_sym}
use Rattle.pst_kept_files.proofs.OpenLemmas.{over_first, over_second, over_at, keeps_at, refused_at, refused_sym, ok_both}
use Rattle.pst_kept_files.proofs.opening.open.Goals as goal

pub returns-in-Some-First-clause-opened : goal.returns-in-Some-First-clause-opened
returns-in-Some-First-clause-opened g c =
    let d = g.D.Disk in
    let f = d.seen c.args.one.now in
    let o = d.seen c.args.two.now in
    let same_one = c.look.ensures.reads.seen in
    let same_two = c.look-2.ensures.reads.seen in
    IfOk-weaker c.open_as.result _ _ (λ it opened clean.
    let was = c.open_as.ensures.clean clean in
    let over = over_first f o c.in_ok-first.first.generation c.in_ok-second.second.generation (c.in_ok-first.ensures.generation was.0) (c.in_ok-second.ensures.generation was.1) (sym c.which.ensures ∙ c.in-Some-First.is ∙ ap Some c.in-Some-First.field-0-is) in
    keeps_at f (d.seen c.look.new.disk) o (d.seen c.look-2.new.disk) (image_in it) it.commands.items same_one same_two
    (opened clean (over_at f (d.seen c.look.new.disk) o (d.seen c.look-2.new.disk) same_one same_two over)).0) c.open_as.ensures.opened

pub returns-in-Some-First-clause-means : goal.returns-in-Some-First-clause-means
returns-in-Some-First-clause-means g c =
    let d = g.D.Disk in
    let f = d.seen c.args.one.now in
    let o = d.seen c.args.two.now in
    let same_one = c.look.ensures.reads.seen in
    let same_two = c.look-2.ensures.reads.seen in
    ok_both c.open_as.result _ _ _ (λ it opened role clean.
    let was = c.open_as.ensures.clean clean in
    let over = over_first f o c.in_ok-first.first.generation c.in_ok-second.second.generation (c.in_ok-first.ensures.generation was.0) (c.in_ok-second.ensures.generation was.1) (sym c.which.ensures ∙ c.in-Some-First.is ∙ ap Some c.in-Some-First.field-0-is) in
    subst (λ r. Means (d.seen c.open_as.new.counting) (d.seen c.open_as.new.other) r it.kept (image_in it) it.commands.items) (sym role)
    (opened clean (over_at f (d.seen c.look.new.disk) o (d.seen c.look-2.new.disk) same_one same_two over)).1) c.open_as.ensures.opened c.open_as.ensures.role

pub returns-in-Some-First-clause-any_return : goal.returns-in-Some-First-clause-any_return
returns-in-Some-First-clause-any_return g c clean image commands keeps one two may_one may_two =
    let d = g.D.Disk in
    let f = d.seen c.args.one.now in
    let o = d.seen c.args.two.now in
    let same_one = c.look.ensures.reads.seen in
    let same_two = c.look-2.ensures.reads.seen in
    let was = c.open_as.ensures.clean clean in
    let over = over_first f o c.in_ok-first.first.generation c.in_ok-second.second.generation (c.in_ok-first.ensures.generation was.0) (c.in_ok-second.ensures.generation was.1) (sym c.which.ensures ∙ c.in-Some-First.is ∙ ap Some c.in-Some-First.field-0-is) in
    c.open_as.ensures.any_return clean (over_at f (d.seen c.look.new.disk) o (d.seen c.look-2.new.disk) same_one same_two over) image commands
    (keeps_at (d.seen c.look.new.disk) f (d.seen c.look-2.new.disk) o image commands (sym same_one) (sym same_two) keeps) one two may_one may_two

pub returns-in-Some-First-clause-refused : goal.returns-in-Some-First-clause-refused
returns-in-Some-First-clause-refused g c =
    let d = g.D.Disk in
    let f = d.seen c.args.one.now in
    let o = d.seen c.args.two.now in
    let same_one = c.look.ensures.reads.seen in
    let same_two = c.look-2.ensures.reads.seen in
    IfErr-weaker c.open_as.result _ _ (λ e refused clean.
    let was = c.open_as.ensures.clean clean in
    let over = over_first f o c.in_ok-first.first.generation c.in_ok-second.second.generation (c.in_ok-first.ensures.generation was.0) (c.in_ok-second.ensures.generation was.1) (sym c.which.ensures ∙ c.in-Some-First.is ∙ ap Some c.in-Some-First.field-0-is) in
    refused_at e f (d.seen c.look.new.disk) o (d.seen c.look-2.new.disk) same_one same_two
    (refused clean (over_at f (d.seen c.look.new.disk) o (d.seen c.look-2.new.disk) same_one same_two over))) c.open_as.ensures.refused

pub returns-in-Some-Second-clause-opened : goal.returns-in-Some-Second-clause-opened
returns-in-Some-Second-clause-opened g c =
    let d = g.D.Disk in
    let f = d.seen c.args.one.now in
    let o = d.seen c.args.two.now in
    let same_one = c.look.ensures.reads.seen in
    let same_two = c.look-2.ensures.reads.seen in
    IfOk-weaker c.open_as-in-Some-Second.result _ _ (λ it opened clean.
    let was = c.open_as-in-Some-Second.ensures.clean (clean.1, clean.0) in
    let over = over_second f o c.in_ok-first.first.generation c.in_ok-second.second.generation (c.in_ok-first.ensures.generation was.1) (c.in_ok-second.ensures.generation was.0) (sym c.which.ensures ∙ c.in-Some-Second.is ∙ ap Some c.in-Some-Second.field-0-is) in
    keeps_sym o f (image_in it) it.commands.items (keeps_at o (d.seen c.look-2.new.disk) f (d.seen c.look.new.disk) (image_in it) it.commands.items same_two same_one
    (opened (clean.1, clean.0) (over_at o (d.seen c.look-2.new.disk) f (d.seen c.look.new.disk) same_two same_one over)).0)) c.open_as-in-Some-Second.ensures.opened

pub returns-in-Some-Second-clause-means : goal.returns-in-Some-Second-clause-means
returns-in-Some-Second-clause-means g c =
    let d = g.D.Disk in
    let f = d.seen c.args.one.now in
    let o = d.seen c.args.two.now in
    let same_one = c.look.ensures.reads.seen in
    let same_two = c.look-2.ensures.reads.seen in
    ok_both c.open_as-in-Some-Second.result _ _ _ (λ it opened role clean.
    let was = c.open_as-in-Some-Second.ensures.clean (clean.1, clean.0) in
    let over = over_second f o c.in_ok-first.first.generation c.in_ok-second.second.generation (c.in_ok-first.ensures.generation was.1) (c.in_ok-second.ensures.generation was.0) (sym c.which.ensures ∙ c.in-Some-Second.is ∙ ap Some c.in-Some-Second.field-0-is) in
    subst (λ r. Means (d.seen c.open_as-in-Some-Second.new.other) (d.seen c.open_as-in-Some-Second.new.counting) r it.kept (image_in it) it.commands.items) (sym role)
    (opened (clean.1, clean.0) (over_at o (d.seen c.look-2.new.disk) f (d.seen c.look.new.disk) same_two same_one over)).1) c.open_as-in-Some-Second.ensures.opened c.open_as-in-Some-Second.ensures.role

pub returns-in-Some-Second-clause-any_return : goal.returns-in-Some-Second-clause-any_return
returns-in-Some-Second-clause-any_return g c clean image commands keeps one two may_one may_two =
    let d = g.D.Disk in
    let f = d.seen c.args.one.now in
    let o = d.seen c.args.two.now in
    let same_one = c.look.ensures.reads.seen in
    let same_two = c.look-2.ensures.reads.seen in
    let was = c.open_as-in-Some-Second.ensures.clean (clean.1, clean.0) in
    let over = over_second f o c.in_ok-first.first.generation c.in_ok-second.second.generation (c.in_ok-first.ensures.generation was.1) (c.in_ok-second.ensures.generation was.0) (sym c.which.ensures ∙ c.in-Some-Second.is ∙ ap Some c.in-Some-Second.field-0-is) in
    keeps_sym two one image commands (c.open_as-in-Some-Second.ensures.any_return (clean.1, clean.0) (over_at o (d.seen c.look-2.new.disk) f (d.seen c.look.new.disk) same_two same_one over) image commands
    (keeps_at (d.seen c.look-2.new.disk) o (d.seen c.look.new.disk) f image commands (sym same_two) (sym same_one) (keeps_sym f o image commands keeps)) two one may_two may_one)

pub returns-in-Some-Second-clause-refused : goal.returns-in-Some-Second-clause-refused
returns-in-Some-Second-clause-refused g c =
    let d = g.D.Disk in
    let f = d.seen c.args.one.now in
    let o = d.seen c.args.two.now in
    let same_one = c.look.ensures.reads.seen in
    let same_two = c.look-2.ensures.reads.seen in
    IfErr-weaker c.open_as-in-Some-Second.result _ _ (λ e refused clean.
    let was = c.open_as-in-Some-Second.ensures.clean (clean.1, clean.0) in
    let over = over_second f o c.in_ok-first.first.generation c.in_ok-second.second.generation (c.in_ok-first.ensures.generation was.1) (c.in_ok-second.ensures.generation was.0) (sym c.which.ensures ∙ c.in-Some-Second.is ∙ ap Some c.in-Some-Second.field-0-is) in
    refused_sym e o f (refused_at e o (d.seen c.look-2.new.disk) f (d.seen c.look.new.disk) same_two same_one
    (refused (clean.1, clean.0) (over_at o (d.seen c.look-2.new.disk) f (d.seen c.look.new.disk) same_two same_one over)))) c.open_as-in-Some-Second.ensures.refused
