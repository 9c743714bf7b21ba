use Rattle.std.proofs.Common.{◌≡◌, ℕ, ◌+◌, ◌-◌, ◌≤◌, List, [], ◌∷◌, ◌++◌, length, drop, ap, ap₂, ◌∙◌, length-append, length-drop, arith}
use Rattle.pst_rows.specs.declared.content.Stamp.{Stamp}
use Rattle.pst_rows.specs.Slots.{SlotValue as Slot}
use Rattle.pst_rows.specs.Cells.{CellsValue, head_size}
use Rattle.pst_rows.proofs.CellLemmas.{slots_in, width-is, push-list}
use Rattle.pst_rows.proofs.cells.Cells.push_behind.Goals as goal

pub returns-clause-slots : goal.returns-clause-slots
returns-clause-slots c =
    let w : ℕ = c.self.inside.width in
    let head : List Stamp = c.self.inside.head in
    let list : List Stamp = c.self.inside.list.items in
    let e : Stamp = c.slot_stamp.result in
    let slots : slots_in w (head ++ list) ≡ c.args.self.now.slots = ap (λ (v : CellsValue). v.slots) c.self.view_is in
    let none : drop (w - head_size) list ≡ [] = ap (λ (v : CellsValue). v.stamps) c.self.view_is ∙ c.requires.none in
    let full : head_size ≤ w = omega (arith, c.requires.full, ap length slots, width-is w head list c.self.invariant.whole c.self.invariant.there) in
    ap (λ (xs : List Stamp). slots_in (w + 1) (head ++ xs)) (c.push_reserved.ensures.items ∙ ap (λ (xs : List Stamp). xs ++ e ∷ []) c.in_ok-reserve.ensures.items)
    ∙ push-list w head list e c.self.invariant.whole c.self.invariant.there full none
    ∙ ap₂ (λ (ss : List Slot) (s : Slot). ss ++ s ∷ []) slots c.slot_stamp.ensures

pub returns-clause-most : goal.returns-clause-most
returns-clause-most c =
    let w : ℕ = c.self.inside.width in
    let head : List Stamp = c.self.inside.head in
    let list : List Stamp = c.self.inside.list.items in
    let new : List Stamp = c.push_reserved.new.self.items in
    let e : Stamp = c.slot_stamp.result in
    let more : length new ≡ length list + 1 =
    ap length (c.push_reserved.ensures.items ∙ ap (λ (xs : List Stamp). xs ++ e ∷ []) c.in_ok-reserve.ensures.items) ∙ length-append list (e ∷ []) in
    let old_slots : length (slots_in w (head ++ list)) ≡ length c.args.self.now.slots = ap (λ (v : CellsValue). length v.slots) c.self.view_is in
    let full : head_size ≤ w = omega (arith, c.requires.full, old_slots, width-is w head list c.self.invariant.whole c.self.invariant.there) in
    let none : length (drop (w - head_size) list) ≡ 0 = ap (λ (v : CellsValue). length v.stamps) c.self.view_is ∙ ap length c.requires.none in
    let count : length list ≡ w - head_size = omega (arith, none, length-drop (w - head_size) list, c.self.invariant.there) in
    let had : c.self.inside.list.capacity - (w - head_size) ≡ c.args.self.now.capacity = ap (λ (v : CellsValue). v.capacity) c.self.view_is in
    let slots : length (slots_in (w + 1) (head ++ new)) ≡ w + 1 = width-is (w + 1) head new c.self.invariant.whole (omega (arith, more, c.self.invariant.there)) in
    omega (arith, full, count, had, slots, c.in_ok-reserve.ensures.twice, c.push_reserved.ensures.capacity)
