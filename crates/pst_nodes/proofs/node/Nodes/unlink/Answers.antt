use Rattle.std.proofs.Common.{◌≡◌, ◌+◌, ℕ, length, sym, ap, ◌∙◌, subst}
use Rattle.pst_rows.specs.declared.content.Content.TheVariants.{Null}
use Rattle.pst_mirror.specs.Contents.{Target}
use Rattle.pst_rows.specs.Rows.{stamped_count}
use Rattle.pst_order.specs.Places.{rank}
use Rattle.pst_mirror.specs.Mirror.{IsUnlinked}
use Rattle.pst_mirror.proofs.ChartLemmas.{charts_steady}
use Rattle.pst_mirror.proofs.WriteLemmas.{unlink_law}
use Rattle.pst_mirror.proofs.MirrorLemmas.{target_node}
use Rattle.pst_nodes.specs.Arena.{values_of, row_at, chart}
use Rattle.pst_nodes.specs.Changes.{AreTouched}
use Rattle.pst_nodes.proofs.PairLemmas.{slot_kept, room_after, unlinked, target_slot, entry_at, renamed_itself, added_same, apart_pair}
use Rattle.pst_nodes.proofs.node.Nodes.unlink.Goals as goal

pub read-requires-clause-slot : goal.read-requires-clause-slot
read-requires-clause-slot g c = target_slot (g.O.Order.places c.args.order.now) c.args.self.now.list.items c.args.x.0 c.args.field.0
    ((rank (g.O.Order.places c.args.order.now)) c.args.from.0) c.requires.held.0 c.requires.rows c.requires.held.1

pub entry_slot-slot-requires-clause-alive : goal.entry_slot-slot-requires-clause-alive
entry_slot-slot-requires-clause-alive g c =
    let held : (chart (g.O.Order.places c.args.order.now) c.args.self.now.list.items).holds c.args.x.0 c.args.field.0
    ((rank (g.O.Order.places c.args.order.now)) c.args.from.0) ≡ Target c.in-Target.y.0 = (sym c.read.ensures ∙ c.in-Target.is) in
    let t = c.requires.mirrored.found c.args.x.0 c.args.field.0 ((rank (g.O.Order.places c.args.order.now)) c.args.from.0) c.in-Target.y.0 held in
    let slot = entry_at (g.O.Order.places c.args.order.now) c.args.self.now.list.items c.in-Target.y.0 t.0
    ((rank (g.O.Order.places c.args.order.now)) c.args.from.0) c.args.x.0 c.args.field.0 c.requires.rows t.1 in
    slot.alive

pub entry_slot-slot-requires-clause-there : goal.entry_slot-slot-requires-clause-there
entry_slot-slot-requires-clause-there g c =
    let held : (chart (g.O.Order.places c.args.order.now) c.args.self.now.list.items).holds c.args.x.0 c.args.field.0
    ((rank (g.O.Order.places c.args.order.now)) c.args.from.0) ≡ Target c.in-Target.y.0 = (sym c.read.ensures ∙ c.in-Target.is) in
    let t = c.requires.mirrored.found c.args.x.0 c.args.field.0 ((rank (g.O.Order.places c.args.order.now)) c.args.from.0) c.in-Target.y.0 held in
    (t.0, renamed_itself c.args.x.0 ((chart (g.O.Order.places c.args.order.now) c.args.self.now.list.items).holds c.in-Target.y.0 t.0 ((rank (g.O.Order.places c.args.order.now)) c.args.from.0)) ∙ t.1)

pub set_over-requires-clause-slot : goal.set_over-requires-clause-slot
set_over-requires-clause-slot g c = target_slot (g.O.Order.places c.args.order.now) c.args.self.now.list.items c.args.x.0 c.args.field.0
    ((rank (g.O.Order.places c.args.order.now)) c.args.from.0) c.requires.held.0 c.requires.rows c.requires.held.1

pub set_over-requires-in-Target-clause-slot : goal.set_over-requires-in-Target-clause-slot
set_over-requires-in-Target-clause-slot g c = slot_kept 2 c.args.self.now.list.items _ c.args.x.0 c.set_over.ensures.touched
    (g.O.Order.places c.args.order.now) c.in-Target.y.0 c.entry_slot-slot.result.0 ((rank (g.O.Order.places c.args.order.now)) c.args.from.0)
    c.entry_slot-slot.ensures.slot

pub set_over-requires-in-Target-clause-room : goal.set_over-requires-in-Target-clause-room
set_over-requires-in-Target-clause-room g c d =
    let held : (chart (g.O.Order.places c.args.order.now) c.args.self.now.list.items).holds c.args.x.0 c.args.field.0
    ((rank (g.O.Order.places c.args.order.now)) c.args.from.0) ≡ Target c.in-Target.y.0 = (sym c.read.ensures ∙ c.in-Target.is) in
    room_after 2 c.args.self.now.list.items _ c.args.x.0 c.in-Target.y.0 d c.set_over.ensures.touched (c.requires.room_y c.in-Target.y.0 d held)

pub returns-clause-mirrored : goal.returns-clause-mirrored
returns-clause-mirrored g c =
    unlink_law (chart (g.O.Order.places c.args.order.now) c.args.self.now.list.items)
    (chart (g.O.Order.places c.args.order.now) c.set_over-in-Target.new.self.list.items) c.args.x.0 c.args.field.0 c.in-Target.y.0
    c.entry_slot-slot.result.0 ((rank (g.O.Order.places c.args.order.now)) c.args.from.0)
    (unlinked (chart (g.O.Order.places c.args.order.now) c.args.self.now.list.items)
    (chart (g.O.Order.places c.args.order.now) c.set_over.new.self.list.items)
    (chart (g.O.Order.places c.args.order.now) c.set_over-in-Target.new.self.list.items) c.args.x.0 c.args.field.0 c.in-Target.y.0
    c.entry_slot-slot.result.0 ((rank (g.O.Order.places c.args.order.now)) c.args.from.0) c.requires.mirrored
    (sym (renamed_itself c.args.x.0 ((chart (g.O.Order.places c.args.order.now) c.args.self.now.list.items).holds c.in-Target.y.0
    c.entry_slot-slot.result.0 ((rank (g.O.Order.places c.args.order.now)) c.args.from.0))) ∙ c.entry_slot-slot.ensures.entry)
    c.set_over.ensures.set c.set_over-in-Target.ensures.set)
    (charts_steady (rank (g.O.Order.places c.args.order.now)) (length (g.O.Order.places c.args.order.now)) (values_of c.args.self.now.list.items) c.requires.rows) c.requires.mirrored

pub returns-clause-unlinked : goal.returns-clause-unlinked
returns-clause-unlinked g c y e =
    let same : c.in-Target.y.0 ≡ y = target_node c.in-Target.y.0 y (sym (sym c.read.ensures ∙ c.in-Target.is) ∙ e) in
    subst (λ (k : ℕ). (s : ℕ) × IsUnlinked (chart (g.O.Order.places c.args.order.now) c.args.self.now.list.items)
    (chart (g.O.Order.places c.args.order.now) c.set_over-in-Target.new.self.list.items) c.args.x.0 c.args.field.0 k s
    ((rank (g.O.Order.places c.args.order.now)) c.args.from.0)
    × AreTouched (g.O.Order.places c.args.order.now) c.args.self.now.list.items c.set_over-in-Target.new.self.list.items c.args.x.0 c.args.field.0
    k s ((rank (g.O.Order.places c.args.order.now)) c.args.from.0)) same (
      c.entry_slot-slot.result.0,
      unlinked (chart (g.O.Order.places c.args.order.now) c.args.self.now.list.items)
          (chart (g.O.Order.places c.args.order.now) c.set_over.new.self.list.items)
          (chart (g.O.Order.places c.args.order.now) c.set_over-in-Target.new.self.list.items) c.args.x.0 c.args.field.0 c.in-Target.y.0
          c.entry_slot-slot.result.0 ((rank (g.O.Order.places c.args.order.now)) c.args.from.0) c.requires.mirrored
          (sym (renamed_itself c.args.x.0 ((chart (g.O.Order.places c.args.order.now) c.args.self.now.list.items).holds c.in-Target.y.0
          c.entry_slot-slot.result.0 ((rank (g.O.Order.places c.args.order.now)) c.args.from.0))) ∙ c.entry_slot-slot.ensures.entry)
          c.set_over.ensures.set c.set_over-in-Target.ensures.set,
      record {
        mid = c.set_over.new.self.list.items;
        first = c.set_over.ensures.touched;
        second = c.set_over-in-Target.ensures.touched;
        first_stamped = c.set_over.ensures.stamped;
        second_stamped = λ d. c.set_over-in-Target.ensures.stamped d ∙ ap (λ (k : ℕ). stamped_count (row_at c.set_over.new.self.list.items c.in-Target.y.0 d) + k)
            (added_same (chart (g.O.Order.places c.args.order.now) c.args.self.now.list.items)
            (chart (g.O.Order.places c.args.order.now) c.set_over.new.self.list.items) c.args.x.0 c.args.field.0 c.in-Target.y.0
            c.entry_slot-slot.result.0 ((rank (g.O.Order.places c.args.order.now)) c.args.from.0) Null
            (apart_pair (chart (g.O.Order.places c.args.order.now) c.args.self.now.list.items) c.args.x.0 c.args.field.0 c.in-Target.y.0
            c.entry_slot-slot.result.0 ((rank (g.O.Order.places c.args.order.now)) c.args.from.0) c.requires.mirrored
            (sym (renamed_itself c.args.x.0 ((chart (g.O.Order.places c.args.order.now) c.args.self.now.list.items).holds c.in-Target.y.0
            c.entry_slot-slot.result.0 ((rank (g.O.Order.places c.args.order.now)) c.args.from.0))) ∙ c.entry_slot-slot.ensures.entry))
            c.set_over.ensures.set);
      },
    )
