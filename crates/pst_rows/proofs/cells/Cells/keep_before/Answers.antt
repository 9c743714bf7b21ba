use Rattle.std.proofs.Common.{◌++◌, List, take, ap, ◌∙◌, arith}
use Rattle.pst_rows.specs.declared.content.Stamp.{Stamp}
use Rattle.pst_rows.proofs.EndLemmas.{slots-kept, front-kept}
use Rattle.pst_rows.proofs.cells.Cells.keep_before.Goals as goal

pub returns-clause-slots : goal.returns-clause-slots
returns-clause-slots g c =
    let w = c.self.inside.width in
    let hs : List Stamp = c.self.inside.head in
    let xs : List Stamp = c.self.inside.list.items in
    slots-kept c.args.self.now w hs c.mark_end.new.head xs c.keep_before.new.list.items c.self.inside.list.capacity c.self.view_is c.mark_end.ensures.head.whole c.mark_end.ensures.head.slots
    (ap (λ (ys : List Stamp). take w (hs ++ ys)) c.keep_before.ensures.items
    ∙ front-kept w hs xs _ c.self.inside.behind (omega (arith, c.self.invariant.rest, c.self.invariant.whole))
    (omega (arith, c.self.invariant.rest, c.self.invariant.there)))
