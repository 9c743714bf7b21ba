use Rattle.std.proofs.Common.{◌+◌, ◌-◌, List, ◌++◌, drop, take, ap, ◌∙◌, arith}
use Rattle.std.specs.List.{insert}
use Rattle.pst_rows.specs.declared.content.Stamp.{Stamp}
use Rattle.pst_rows.specs.Cells.{CellsValue, head_size}
use Rattle.pst_rows.proofs.EndLemmas.{slots-kept, stamp-behind}
use Rattle.pst_rows.proofs.CellLemmas.{head-insert, stamps-insert}
use Rattle.pst_rows.proofs.cells.Cells.insert.Goals as goal

pub returns-clause-slots : goal.returns-clause-slots
returns-clause-slots c =
    let at = stamp-behind c.args.self.now c.self.inside.width c.self.inside.behind c.self.inside.end c.self.inside.head c.self.inside.list.items
    c.self.inside.list.capacity c.args.index c.self.invariant c.self.view_is c.requires.index in
    slots-kept c.args.self.now c.self.inside.width c.self.inside.head c.mark_end.new.head c.self.inside.list.items c.insert.new.list.items
    c.self.inside.list.capacity c.self.view_is c.mark_end.ensures.head.whole c.mark_end.ensures.head.slots
    (ap (λ (xs : List Stamp). take c.self.inside.width (c.self.inside.head ++ xs)) c.insert.ensures.items
    ∙ head-insert c.self.inside.width c.self.inside.head c.self.inside.list.items (c.self.inside.behind + c.args.index) c.args.stamp at.1 at.2)

pub returns-clause-stamps : goal.returns-clause-stamps
returns-clause-stamps c =
    let at = stamp-behind c.args.self.now c.self.inside.width c.self.inside.behind c.self.inside.end c.self.inside.head c.self.inside.list.items
    c.self.inside.list.capacity c.args.index c.self.invariant c.self.view_is c.requires.index in
    ap (drop (c.self.inside.width - head_size)) c.insert.ensures.items
    ∙ stamps-insert (c.self.inside.width - head_size) c.self.inside.list.items (c.self.inside.behind + c.args.index) c.args.index c.args.stamp at.0 (omega (arith, at.0, at.2))
    ∙ ap (λ (v : CellsValue). insert v.stamps c.args.index c.args.stamp) c.self.view_is
