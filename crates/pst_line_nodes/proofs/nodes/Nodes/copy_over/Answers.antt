use Rattle.std.proofs.Common.{◌<◌, ℕ, true, List, length, sym, subst, arith}
use Rattle.pst_line_nodes.specs.Seen.{Seen}
use Rattle.pst_line_nodes.specs.Nodes.{line_of}
use Rattle.pst_line_nodes.specs.Carried.{IsCarried, IsRedirecting}
use Rattle.pst_line_nodes.proofs.Carrying.{carried_itself, carried_copied, carried_trans}
use Rattle.pst_line_nodes.proofs.Redirecting.{redirecting_as, begin_at, full_before, room_in}
use Rattle.pst_line_nodes.proofs.nodes.Nodes.copy_over.Goals as goal

pub copy-requires-clause-before : goal.copy-requires-clause-before
copy-requires-clause-before c = full_before c.args.shape.now c.args.stamp.0 c.args.self.now c.args.x.0 c.requires.full.0 c.requires.kept c.requires.newest.there c.requires.full.1

pub returns-in_err-copy-clause-carried : goal.returns-in_err-copy-clause-carried
returns-in_err-copy-clause-carried c = λ made l. subst (λ (xs : List Seen). IsCarried c.args.shape.now c.args.stamp.0 (line_of made c.args.self.now) (line_of made xs)) (sym c.in_err-copy.ensures.err) (carried_itself c.args.shape.now c.args.stamp.0 (line_of made c.args.self.now) l)

pub redirect_from-requires-clause-line : goal.redirect_from-requires-clause-line
redirect_from-requires-clause-line c =
    let made = c.requires.line.0 in
    (made, (carried_copied c.args.shape.now c.args.stamp.0 (line_of made c.args.self.now) (line_of made c.copy.new.self) c.args.x.0 c.requires.line.1 (c.in_ok-copy.ensures.copied made) c.requires.full.1.most_are).line)

pub redirect_from-requires-clause-begun : goal.redirect_from-requires-clause-begun
redirect_from-requires-clause-begun c =
    let made = c.requires.line.0 in
    let one = carried_copied c.args.shape.now c.args.stamp.0 (line_of made c.args.self.now) (line_of made c.copy.new.self) c.args.x.0 c.requires.line.1 (c.in_ok-copy.ensures.copied made) c.requires.full.1.most_are in
    subst (λ (k : ℕ). IsRedirecting (line_of (λ i. true) c.copy.new.self) c.args.stamp.0 k 0) (sym c.count.ensures)
    (redirecting_as made (λ i. true) c.copy.new.self c.args.stamp.0 (length c.args.self.now) 0
    (begin_at c.args.shape.now c.args.stamp.0 (line_of made c.args.self.now) (line_of made c.copy.new.self) c.args.x.0 c.requires.line.1 one.line
    (record { none = λ i g y n. c.requires.quiet.none i g y (record { there = n.there; last = n.last }) }) (c.in_ok-copy.ensures.copied made)))

pub returns-in_err-redirect_from-clause-carried : goal.returns-in_err-redirect_from-clause-carried
returns-in_err-redirect_from-clause-carried c = λ made l.
    let one = carried_copied c.args.shape.now c.args.stamp.0 (line_of made c.args.self.now) (line_of made c.copy.new.self) c.args.x.0 l (c.in_ok-copy.ensures.copied made) c.requires.full.1.most_are in
    carried_trans c.args.shape.now c.args.stamp.0 (line_of made c.args.self.now) (line_of made c.copy.new.self) (line_of made c.redirect_from.new.self) one (c.redirect_from.ensures.carried made one.line)

pub returns-clause-carried : goal.returns-clause-carried
returns-clause-carried c = λ made l.
    let one = carried_copied c.args.shape.now c.args.stamp.0 (line_of made c.args.self.now) (line_of made c.copy.new.self) c.args.x.0 l (c.in_ok-copy.ensures.copied made) c.requires.full.1.most_are in
    carried_trans c.args.shape.now c.args.stamp.0 (line_of made c.args.self.now) (line_of made c.copy.new.self) (line_of made c.redirect_from.new.self) one (c.redirect_from.ensures.carried made one.line)

pub cover-requires-clause-linked : goal.cover-requires-clause-linked
cover-requires-clause-linked c =
    let made = c.requires.line.0 in
    let one = carried_copied c.args.shape.now c.args.stamp.0 (line_of made c.args.self.now) (line_of made c.copy.new.self) c.args.x.0 c.requires.line.1 (c.in_ok-copy.ensures.copied made) c.requires.full.1.most_are in
    record { next = (c.redirect_from.ensures.carried made one.line).line.chained.next }

pub cover-requires-clause-there : goal.cover-requires-clause-there
cover-requires-clause-there c =
    let made = c.requires.line.0 in
    let d = c.in_ok-copy.ensures.copied made in
    let one = carried_copied c.args.shape.now c.args.stamp.0 (line_of made c.args.self.now) (line_of made c.copy.new.self) c.args.x.0 c.requires.line.1 d c.requires.full.1.most_are in
    omega (arith, c.requires.newest.there, d.count, (c.redirect_from.ensures.carried made one.line).went.nodes.count)

pub cover-requires-clause-begun : goal.cover-requires-clause-begun
cover-requires-clause-begun c =
    let made = c.requires.line.0 in
    let d = c.in_ok-copy.ensures.copied made in
    let one = carried_copied c.args.shape.now c.args.stamp.0 (line_of made c.args.self.now) (line_of made c.copy.new.self) c.args.x.0 c.requires.line.1 d c.requires.full.1.most_are in
    let two = c.redirect_from.ensures.carried made one.line in
    let up : c.args.x.0 < length c.copy.new.self = omega (arith, c.requires.newest.there, d.count) in
    omega (arith, two.went.nodes.first c.args.x.0 up, d.first c.args.x.0 c.requires.newest.there, c.requires.line.1.first c.args.x.0 c.requires.newest.there)

pub returns-clause-room : goal.returns-clause-room
returns-clause-room c =
    let made = c.requires.line.0 in
    let d = c.in_ok-copy.ensures.copied made in
    let one = carried_copied c.args.shape.now c.args.stamp.0 (line_of made c.args.self.now) (line_of made c.copy.new.self) c.args.x.0 c.requires.line.1 d c.requires.full.1.most_are in
    let two = c.redirect_from.ensures.carried made one.line in
    let at = c.cover.ensures made in
    λ f. room_in c.args.shape.now c.args.stamp.0 c.args.self.now c.copy.new.self c.redirect_from.new.self made c.args.x.0 f c.cover.result.0 c.requires.line.1 d two at.0 at.1
