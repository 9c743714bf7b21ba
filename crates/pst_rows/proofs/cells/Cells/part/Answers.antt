use Rattle.std.proofs.Common.{arith}
use Rattle.pst_rows.proofs.EndLemmas.{head-part-in, full-part-in}
use Rattle.pst_rows.proofs.cells.Cells.part.Goals as goal

pub returns-then-slot-lt-HEAD : goal.returns-then-slot-lt-HEAD
returns-then-slot-lt-HEAD c =
    head-part-in c.args.self.now c.self.inside.width c.self.inside.behind c.self.inside.end c.self.inside.head c.self.inside.list.items
    c.self.inside.list.capacity c.args.slot.0 c.from-slot.result c.index-self-slot.result c.index-self-slot-then-slot-lt-HEAD.result
    c.place.result c.place-then-slot-lt-HEAD.result
    c.self.invariant c.self.view_is c.requires c.from-slot.ensures c.if-slot-lt-HEAD.true c.place.ensures c.place-then-slot-lt-HEAD.ensures

pub returns-then-slot-lt-HEAD-2 : goal.returns-then-slot-lt-HEAD-2
returns-then-slot-lt-HEAD-2 c =
    full-part-in c.args.self.now c.self.inside.width c.self.inside.behind c.self.inside.end c.self.inside.head c.self.inside.list.items
    c.self.inside.list.capacity c.args.slot.0 c.from-slot.result c.index-self-slot-then-slot-lt-HEAD-2.result c.place-then-slot-lt-HEAD-2.result
    c.self.invariant c.self.view_is c.requires c.from-slot.ensures (omega (arith, c.if-slot-lt-HEAD.false, c.if-slot-lt-HEAD-2.true)) c.place-then-slot-lt-HEAD-2.ensures
