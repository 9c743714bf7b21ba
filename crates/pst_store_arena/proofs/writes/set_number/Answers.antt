use Rattle.std.proofs.Common.{◌∙◌, ℕ, ℤ, ◌<◌, List, length, subst, arith, get_or, sym}
use Rattle.std.proofs.lemmas.Int.{to_z-of_z}
use mir.Syntax.{w64}
use Rattle.pst_nodes.specs.declared.node.Node.{Node}
use Rattle.pst_nodes.specs.Arena.{chart, Frame, no_frame}
use Rattle.pst_base.specs.Shape.{type_at}
use Rattle.pst_order.specs.Places.{rank}
use Rattle.pst_rows.specs.declared.content.Content.TheVariants.{Number}
use Rattle.pst_mirror.specs.Charts.{IsSlotSet}
use Rattle.pst_repair.specs.Load.{IsSound}
use Rattle.pst_repair.proofs.RoomLemmas.{same_rows, same_slot}
use Rattle.pst_repair.proofs.RepairLemmas.{sound_same, sound_rows}
use Rattle.pst_repair.specs.Seen.{seen}
use Rattle.pst_repair.specs.Written.{IsNumberSeen}
use Rattle.pst_repair.proofs.SameLemmas.{seen_same, seen_links}
use Rattle.pst_store_arena.proofs.WriteLemmas.{value_slot, number_grown}
use Rattle.pst_store_arena.proofs.WriteQueue.{queue_refused}
use Rattle.pst_store_arena.proofs.WriteDone.{held_on, number_seen, number_queued}
use Rattle.pst_store_arena.proofs.WriteSound.{number_sound}
use Rattle.pst_store_arena.proofs.writes.set_number.Given.{Over}
use Rattle.pst_store_arena.proofs.writes.set_number.Goals as goal

pub returns-in_err-reserve_row-clause-queued : goal.returns-in_err-reserve_row-clause-queued
returns-in_err-reserve_row-clause-queued g c = queue_refused c.args.shape.now c.args.nodes.now.list.items c.reserve_row.new.self.list.items
    c.args.queue.now c.reserve_row.ensures.same c.requires.queued

pub set_over-requires-clause-rows : goal.set_over-requires-clause-rows
set_over-requires-clause-rows g c = same_rows c.args.nodes.now.list.items c.reserve_row.new.self.list.items c.reserve_row.ensures.same (g.O.Order.places c.args.order.now) c.requires.sound.rows

pub set_over-requires-clause-slot : goal.set_over-requires-clause-slot
set_over-requires-clause-slot g c =
    let qs : List ℕ = g.O.Order.places c.args.order.now in
    same_slot c.args.nodes.now.list.items c.reserve_row.new.self.list.items c.reserve_row.ensures.same qs c.args.id.0 c.args.field.0 (rank qs c.args.at.begin.0)
    (value_slot c.args.shape.now qs c.args.nodes.now.list.items c.requires.sound c.args.id.0 (rank qs c.args.at.begin.0) c.requires.inside c.args.field.0 c.requires.field)

pub queue_if_over-requires-clause-held : goal.queue_if_over-requires-clause-held
queue_if_over-requires-clause-held g c = held_on c.args.nodes.now.list.items c.set_over.new.self.list.items c.args.queue.now
    (c.set_over.ensures.touched.count ∙ c.reserve_row.ensures.same.count)
    (λ i. c.set_over.ensures.touched.links i ∙ c.reserve_row.ensures.same.links i) (c.requires.queued.0, c.requires.queued.1.held)

module _ (g : Over) (c : goal.After-queue_if_over g) where
  abbrev qs : List ℕ
  qs = g.O.Order.places c.args.order.now

  abbrev old : List Node
  old = c.args.nodes.now.list.items

  abbrev r : List Node
  r = c.reserve_row.new.self.list.items

  sound : IsSound c.args.shape.now (g.O.Order.places c.args.order.now) c.reserve_row.new.self.list.items
  sound = sound_same c.args.shape.now qs old r c.reserve_row.ensures.same c.requires.sound

  there : c.args.id.0 < length c.reserve_row.new.self.list.items
  there = omega (arith, c.requires.inside.there, c.reserve_row.ensures.same.count)

  set : IsSlotSet (chart qs r) (chart qs c.set_over.new.self.list.items) c.args.id.0 c.args.field.0 (rank qs c.args.at.begin.0) (Number c.args.n)
  set = subst (λ (v : ℤ). IsSlotSet (chart qs r) (chart qs c.set_over.new.self.list.items) c.args.id.0 c.args.field.0 (rank qs c.args.at.begin.0)
      (Number v)) (to_z-of_z w64 c.args.n c.ranges.n) c.set_over.ensures.set

  is : IsNumberSeen c.args.shape.now qs (seen old) (seen c.queue_if_over.new.nodes.list.items) c.args.id.0 c.args.field.0 (rank qs c.args.at.begin.0) c.args.n
  is = number_seen c.args.shape.now qs r c.set_over.new.self.list.items c.args.id.0 c.args.field.0 (rank qs c.args.at.begin.0) c.args.n sound.typed
      there set c.set_over.ensures.rows c.set_over.ensures.touched c.set_over.ensures.stamped
      old c.queue_if_over.new.nodes.list.items (seen_same old r c.reserve_row.ensures.same)
      (seen_links c.set_over.new.self.list.items c.queue_if_over.new.nodes.list.items c.queue_if_over.ensures.rows c.queue_if_over.ensures.frames)

pub returns-clause-set : goal.returns-clause-set
returns-clause-set g c = record { set = (is g c).set; grown = (is g c).grown }

pub returns-clause-rows : goal.returns-clause-rows
returns-clause-rows g c = (is g c).rows

pub returns-clause-wide : goal.returns-clause-wide
returns-clause-wide g c = (is g c).wide

pub returns-clause-queued : goal.returns-clause-queued
returns-clause-queued g c =
    number_queued c.args.shape.now (qs g c) (r g c) c.set_over.new.self.list.items c.args.id.0 c.args.field.0 (rank (qs g c) c.args.at.begin.0)
    c.args.n (sound g c).typed (there g c) (set g c) c.set_over.ensures.rows c.set_over.ensures.touched c.set_over.ensures.stamped
    c.queue_if_over.new.nodes.list.items c.args.queue.now c.queue_if_over.new.queue
    (queue_refused c.args.shape.now (old g c) (r g c) c.args.queue.now c.reserve_row.ensures.same c.requires.queued) c.queue_if_over.ensures.rows
    c.queue_if_over.ensures.frames c.queue_if_over.ensures.queue

pub returns-clause-sound : goal.returns-clause-sound
returns-clause-sound g c =
    sound_rows c.args.shape.now (qs g c) c.set_over.new.self.list.items c.queue_if_over.new.nodes.list.items c.queue_if_over.ensures.rows c.queue_if_over.ensures.frames
    (number_sound c.args.shape.now (qs g c) (r g c) (sound g c) _ c.set_over.new.self.list.items c.args.id.0 c.args.field.0 (rank (qs g c) c.args.at.begin.0) c.args.n
    (number_grown c.args.shape.now (qs g c) (r g c) c.set_over.new.self.list.items c.args.id.0 c.args.field.0 (rank (qs g c) c.args.at.begin.0)
    (there g c) c.set_over.ensures.touched c.set_over.ensures.stamped)
    (set g c) c.set_over.ensures.rows
    (subst (λ (fs : List Frame). c.args.field.0 < (type_at c.args.shape.now (record { 0 = (get_or fs c.args.id.0 no_frame).ty })).values) (sym c.reserve_row.ensures.same.frames) c.requires.field))
