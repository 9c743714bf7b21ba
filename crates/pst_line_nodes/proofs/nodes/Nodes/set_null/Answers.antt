use Rattle.std.proofs.Common.{true, refl}
use Rattle.pst_line_nodes.proofs.Copying.{kept_same}
use Rattle.pst_line_nodes.proofs.Freeing.{held_in, nulled}
use Rattle.pst_line_nodes.proofs.nodes.Nodes.set_null.Goals as goal

pub returns-in_err-set-clause-replaces : goal.returns-in_err-set-clause-replaces
returns-in_err-set-clause-replaces c = λ e. let no = c.in_err-set.ensures.replaces (λ i. true) e in absurd (cc)

pub free-requires : goal.free-requires
free-requires c =
    let r = c.requires.line in
    held_in _ c.args.stamp.0 c.args.self.now r.1 r.3 r.2 c.args.x.0 c.args.field.0 c.requires.newest c.read-held.result (c.read-held.ensures r.1) c.set.new.self _ c.in_ok-set.ensures.ok

pub returns-clause-ok : goal.returns-clause-ok
returns-clause-ok c =
    let r = c.requires.line in
    nulled _ c.args.stamp.0 c.args.self.now r.1 r.3 r.2 c.args.x.0 c.args.field.0 c.requires.newest c.read-held.result (c.read-held.ensures r.1) c.set.new.self _ c.in_ok-set.ensures.ok c.free.new.self c.free.ensures refl

pub returns-clause-kept : goal.returns-clause-kept
returns-clause-kept c = λ shape kept. kept_same shape c.args.stamp.0 c.set.new.self c.free.new.self c.free.ensures.same (c.set.ensures.kept shape kept)
