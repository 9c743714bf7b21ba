use Rattle.std.proofs.Common.{sym, ◌∙◌, arith}
use Rattle.std.proofs.lemmas.Bool.{eqb-true}
use Rattle.pst_rows.proofs.EndLemmas.{head-part-in, full-part-in, bare-part}
use Rattle.pst_rows.proofs.cells.Cells.is_bare.Goals as goal

pub returns-then-slot-lt-HEAD : goal.returns-then-slot-lt-HEAD
returns-then-slot-lt-HEAD c = λ t.
    bare-part c.args.self.now c.args.slot.0 c.place.result.0 c.place-then-slot-lt-HEAD.result.0
    (head-part-in c.args.self.now c.self.inside.width c.self.inside.behind c.self.inside.end c.self.inside.head c.self.inside.list.items
    c.self.inside.list.capacity c.args.slot.0 c.from-slot.result c.index-self-slot.result c.index-self-slot-then-slot-lt-HEAD.result
    c.place.result c.place-then-slot-lt-HEAD.result
    c.self.invariant c.self.view_is c.requires c.from-slot.ensures c.if-slot-lt-HEAD.true c.place.ensures c.place-then-slot-lt-HEAD.ensures)
    (eqb-true c.place.result.0 c.place-then-slot-lt-HEAD.result.0 (sym c.eq.ensures ∙ t))

pub returns-then-slot-lt-HEAD-2 : goal.returns-then-slot-lt-HEAD-2
returns-then-slot-lt-HEAD-2 c = λ t.
    bare-part c.args.self.now c.args.slot.0 c.place-then-slot-lt-HEAD-2.result.0 c.self.inside.end
    (full-part-in c.args.self.now c.self.inside.width c.self.inside.behind c.self.inside.end c.self.inside.head c.self.inside.list.items
    c.self.inside.list.capacity c.args.slot.0 c.from-slot.result c.index-self-slot-then-slot-lt-HEAD-2.result c.place-then-slot-lt-HEAD-2.result
    c.self.invariant c.self.view_is c.requires c.from-slot.ensures (omega (arith, c.if-slot-lt-HEAD.false, c.if-slot-lt-HEAD-2.true)) c.place-then-slot-lt-HEAD-2.ensures)
    (eqb-true c.place-then-slot-lt-HEAD-2.result.0 c.self.inside.end t)
