use Rattle.std.proofs.Common.{◌≡◌, ◌+◌, ◌-◌, List, ◌++◌, get_or, drop, map, set, ap, ap₂, ◌∙◌, arith}
use Rattle.pst_base.specs.declared.names.SlotNo.{SlotNo}
use Rattle.pst_order.specs.declared.order.Pos.{Pos}
use Rattle.pst_rows.specs.declared.content.Stamp.{Stamp}
use Rattle.pst_rows.specs.Cells.{CellsValue, slot_kept, head_size}
use Rattle.pst_rows.proofs.CellLemmas.{slots_in, head-set_stamp, stamps-set, set-content}
use Rattle.pst_rows.proofs.cells.Cells.write_content.Goals as goal

pub returns-clause-slots : goal.returns-clause-slots
returns-clause-slots c =
    let slots : slots_in c.self.inside.width (c.self.inside.head ++ c.self.inside.list.items) ≡ c.args.self.now.slots = ap (λ (v : CellsValue). v.slots) c.self.view_is in
    let at : c.self.inside.behind + c.args.index ≡ (c.self.inside.width - head_size) + c.args.index = omega (arith, c.self.invariant.rest) in
    ap (λ (xs : List Stamp). slots_in c.self.inside.width (c.self.inside.head ++ xs)) c.write.ensures.items
    ∙ ap (map slot_kept) (head-set_stamp c.self.inside.width c.self.inside.head c.self.inside.list.items (c.self.inside.behind + c.args.index)
    c.new-stamp.result (omega (arith, at, c.self.invariant.whole)))
    ∙ slots

pub returns-clause-stamps : goal.returns-clause-stamps
returns-clause-stamps c =
    let kept : List Stamp = c.args.self.now.stamps in
    let item : Stamp = c.index-stamps-index.result in
    let stamps : drop (c.self.inside.width - head_size) c.self.inside.list.items ≡ kept = ap (λ (v : CellsValue). v.stamps) c.self.view_is in
    let same : item ≡ get_or kept c.args.index item = c.index-stamps-index.is ∙ ap (λ (xs : List Stamp). get_or xs c.args.index item) c.stamps.ensures in
    let stamp : c.new-stamp.result ≡ record { slot = (get_or kept c.args.index item).slot; place = (get_or kept c.args.index item).place; content = c.args.content } =
    c.new-stamp.ensures
    ∙ ap₂ (λ (s : SlotNo) (p : Pos). record { slot = s; place = p; content = c.args.content })
    (c.slot.ensures.value ∙ ap (λ (e : Stamp). e.slot) same) (c.place.ensures ∙ ap (λ (e : Stamp). e.place) same) in
    ap (drop (c.self.inside.width - head_size)) c.write.ensures.items
    ∙ stamps-set (c.self.inside.width - head_size) c.self.inside.list.items (c.self.inside.behind + c.args.index) c.args.index c.new-stamp.result (omega (arith, c.self.invariant.rest))
    ∙ ap (λ (xs : List Stamp). set xs c.args.index c.new-stamp.result) stamps
    ∙ ap (set kept c.args.index) stamp
    ∙ set-content kept c.args.index item c.args.content c.requires
