use Rattle.std.proofs.Common.{List, ◌+◌, ◌-◌, length, get_or, ap, ◌∙◌, arith}
use Rattle.pst_order.specs.declared.order.Pos.{Pos}
use Rattle.pst_rows.specs.declared.content.Stamp.{Stamp}
use Rattle.pst_rows.specs.Cells.{head_size}
use Rattle.pst_rows.proofs.EndLemmas.{EndsBehind, Next, Last, list-part}
use Rattle.pst_rows.proofs.cells.Cells.part_behind.Goals as goal
use Rattle.pst_rows.proofs.cells.Cells.part_behind.Goals.{then-next-behind, else-next-behind}

pub returns : goal.returns
returns c =
    let ends : EndsBehind c.self.inside.behind c.self.inside.list.items c.args.slot c.if-next-behind.stop = elim c.if-next-behind.branch [
      | then-next-behind w ↦ Next w.if-next-behind.true w.index-list-next.result
          (w.stop-is ∙ ap (λ (p : Pos). p.0) w.place.ensures ∙ ap (λ (s : Stamp). s.place.0) w.index-list-next.is
          ∙ ap (λ (xs : List Stamp). (get_or xs (c.args.slot + 1 - head_size) w.index-list-next.result).place.0) c.as_slice-list.ensures)
      | else-next-behind w ↦ Last w.if-next-behind.false (w.stop-is ∙ ap (λ (xs : List Stamp). length xs - c.self.inside.behind) c.as_slice-list.ensures)
    ] in
    list-part c.args.self.now c.self.inside.width c.self.inside.behind c.self.inside.end c.self.inside.head c.self.inside.list.items
    c.self.inside.list.capacity c.args.slot c.start.result c.if-next-behind.stop
    c.self.invariant c.self.view_is c.requires.there (omega (arith, c.requires.behind)) c.start.ensures ends
