use Rattle.std.proofs.Common.{◌≡◌, ◌∙◌, ℕ, ◌<◌, List, length, Some, refl, arith}
use Rattle.pst_nodes.specs.Arena.{type_no}
use Rattle.pst_order.specs.Places.{rank}
use Rattle.pst_repair.proofs.CutLemmas.{held_after, same_count}
use Rattle.pst_repair.proofs.RoomLemmas.{same_on}
use Rattle.pst_repair.proofs.RepairLemmas.{sound_rows}
use Rattle.pst_repair.proofs.SameLemmas.{seen_links}
use Rattle.pst_store_arena.specs.Writes.{HasRoomFor}
use Rattle.pst_store_arena.proofs.WriteLemmas.{field_slot, field_holds, one_there}
use Rattle.pst_store_arena.proofs.WriteQueue.{queue_refused, typed_rows}
use Rattle.pst_store_arena.proofs.WriteDone.{held_on, sound_taken, led_taken, one_taken, there_taken, seen_taken, room_left, room_pair, put_field, put_slot}
use Rattle.pst_store_arena.proofs.WriteDone.{put_free, put_grown, put_links, put_typed, put_queued, put_sound, pointer_written, rows_seen, wide_seen}
use Rattle.pst_store_arena.proofs.WriteSound.{kind_kept}
use Rattle.pst_store_arena.proofs.writes.set_target.Goals as goal

pub led_to-previous-requires-clause-slot : goal.led_to-previous-requires-clause-slot
led_to-previous-requires-clause-slot g c =
    let qs : List ℕ = g.O.Order.places c.args.order.now in
    field_slot c.args.shape.now qs c.args.nodes.now.list.items c.requires.sound c.args.id.0 (rank qs c.args.at.begin.0) c.requires.inside
    c.args.field.0 (type_no c.args.nodes.now.list.items c.args.target.0) c.requires.field

pub led_to-previous-requires-clause-pointer : goal.led_to-previous-requires-clause-pointer
led_to-previous-requires-clause-pointer g c =
    let qs : List ℕ = g.O.Order.places c.args.order.now in
    field_holds c.args.shape.now qs c.args.nodes.now.list.items c.requires.sound c.args.id.0 (rank qs c.args.at.begin.0) c.requires.inside
    c.args.field.0 (type_no c.args.nodes.now.list.items c.args.target.0) c.requires.field

-- the memory

pub returns-in_err-reserve_row-clause-queued : goal.returns-in_err-reserve_row-clause-queued
returns-in_err-reserve_row-clause-queued g c = queue_refused c.args.shape.now c.args.nodes.now.list.items c.reserve_row.new.nodes.list.items
    c.args.queue.now c.reserve_row.ensures.same c.requires.queued

pub reserve_pair-requires : goal.reserve_pair-requires
reserve_pair-requires g c =
    let qs : List ℕ = g.O.Order.places c.args.order.now in
    record {
      there = λ i o.
          let l : i < length c.args.nodes.now.list.items = one_there qs c.args.nodes.now.list.items c.args.id.0 c.args.field.0
          (rank qs c.args.at.begin.0) c.requires.sound.rows c.requires.sound.mirrored c.led_to-previous.result c.led_to-previous.ensures
          c.requires.inside.there i o in
          omega (arith, l, c.reserve_row.ensures.same.count);
    }

pub returns-in_err-reserve_pair-clause-queued : goal.returns-in_err-reserve_pair-clause-queued
returns-in_err-reserve_pair-clause-queued g c = queue_refused c.args.shape.now c.args.nodes.now.list.items c.reserve_pair.new.nodes.list.items
    c.args.queue.now (same_on c.args.nodes.now.list.items c.reserve_row.new.nodes.list.items c.reserve_pair.new.nodes.list.items
    c.reserve_row.ensures.same c.reserve_pair.ensures.same) c.requires.queued

-- the old pointer is taken away

pub clear-requires-clause-rows : goal.clear-requires-clause-rows
clear-requires-clause-rows g c =
    let qs : List ℕ = g.O.Order.places c.args.order.now in
    let s = sound_taken c.args.shape.now qs c.args.nodes.now.list.items c.reserve_pair.new.nodes.list.items c.args.id.0 c.args.field.0
    (rank qs c.args.at.begin.0) c.led_to-previous.result c.requires.sound
    (same_on c.args.nodes.now.list.items c.reserve_row.new.nodes.list.items c.reserve_pair.new.nodes.list.items c.reserve_row.ensures.same
    c.reserve_pair.ensures.same) c.requires.inside.there c.led_to-previous.ensures in
    s.rows

pub clear-requires-clause-mirrored : goal.clear-requires-clause-mirrored
clear-requires-clause-mirrored g c =
    let qs : List ℕ = g.O.Order.places c.args.order.now in
    let s = sound_taken c.args.shape.now qs c.args.nodes.now.list.items c.reserve_pair.new.nodes.list.items c.args.id.0 c.args.field.0
    (rank qs c.args.at.begin.0) c.led_to-previous.result c.requires.sound
    (same_on c.args.nodes.now.list.items c.reserve_row.new.nodes.list.items c.reserve_pair.new.nodes.list.items c.reserve_row.ensures.same
    c.reserve_pair.ensures.same) c.requires.inside.there c.led_to-previous.ensures in
    s.mirrored

pub clear-requires-clause-led : goal.clear-requires-clause-led
clear-requires-clause-led g c =
    let qs : List ℕ = g.O.Order.places c.args.order.now in
    led_taken c.args.shape.now qs c.args.nodes.now.list.items c.reserve_pair.new.nodes.list.items c.args.id.0 c.args.field.0
    (rank qs c.args.at.begin.0) c.led_to-previous.result c.requires.sound
    (same_on c.args.nodes.now.list.items c.reserve_row.new.nodes.list.items c.reserve_pair.new.nodes.list.items c.reserve_row.ensures.same
    c.reserve_pair.ensures.same) c.requires.inside.there c.led_to-previous.ensures

-- the new one is put in

pub clear-requires-clause-room : goal.clear-requires-clause-room
clear-requires-clause-room g c i o d = omega (arith, c.in_ok-reserve_pair.ensures.room i o d)

pub link-requires-clause-rows : goal.link-requires-clause-rows
link-requires-clause-rows g c = let is = c.clear.ensures in is.rows

pub link-requires-clause-mirrored : goal.link-requires-clause-mirrored
link-requires-clause-mirrored g c = let is = c.clear.ensures in is.mirrored

pub link-requires-clause-field : goal.link-requires-clause-field
link-requires-clause-field g c =
    let qs : List ℕ = g.O.Order.places c.args.order.now in
    put_field c.args.shape.now qs c.args.nodes.now.list.items c.reserve_pair.new.nodes.list.items c.clear.new.nodes.list.items c.args.id.0
    c.args.field.0 c.args.target.0 c.args.slot.0 (rank qs c.args.at.begin.0) c.led_to-previous.result c.requires.sound
    (same_on c.args.nodes.now.list.items c.reserve_row.new.nodes.list.items c.reserve_pair.new.nodes.list.items c.reserve_row.ensures.same
    c.reserve_pair.ensures.same) c.requires.inside c.requires.target c.requires.field c.requires.slot c.clear.ensures

pub link-requires-clause-slot : goal.link-requires-clause-slot
link-requires-clause-slot g c =
    let qs : List ℕ = g.O.Order.places c.args.order.now in
    put_slot c.args.shape.now qs c.args.nodes.now.list.items c.reserve_pair.new.nodes.list.items c.clear.new.nodes.list.items c.args.id.0
    c.args.field.0 c.args.target.0 c.args.slot.0 (rank qs c.args.at.begin.0) c.led_to-previous.result c.requires.sound
    (same_on c.args.nodes.now.list.items c.reserve_row.new.nodes.list.items c.reserve_pair.new.nodes.list.items c.reserve_row.ensures.same
    c.reserve_pair.ensures.same) c.requires.inside c.requires.target c.requires.field c.requires.slot c.clear.ensures

pub link-requires-clause-null : goal.link-requires-clause-null
link-requires-clause-null g c = let is = c.clear.ensures in is.null

pub link-requires-clause-free : goal.link-requires-clause-free
link-requires-clause-free g c =
    let qs : List ℕ = g.O.Order.places c.args.order.now in
    put_free c.args.shape.now qs c.args.nodes.now.list.items c.reserve_pair.new.nodes.list.items c.clear.new.nodes.list.items c.args.id.0
    c.args.field.0 c.args.target.0 c.args.slot.0 (rank qs c.args.at.begin.0) c.led_to-previous.result c.requires.sound
    (same_on c.args.nodes.now.list.items c.reserve_row.new.nodes.list.items c.reserve_pair.new.nodes.list.items c.reserve_row.ensures.same
    c.reserve_pair.ensures.same) c.requires.inside c.requires.target c.requires.field c.requires.slot c.clear.ensures

pub link-requires-clause-room_x : goal.link-requires-clause-room_x
link-requires-clause-room_x g c d =
    let qs : List ℕ = g.O.Order.places c.args.order.now in
    room_left c.args.shape.now qs c.reserve_pair.new.nodes.list.items c.clear.new.nodes.list.items c.args.id.0 c.args.field.0
    (rank qs c.args.at.begin.0) c.led_to-previous.result c.clear.ensures c.args.target c.in_ok-reserve_pair.ensures.room d

pub link-requires-clause-room_y : goal.link-requires-clause-room_y
link-requires-clause-room_y g c d =
    let qs : List ℕ = g.O.Order.places c.args.order.now in
    let room : HasRoomFor c.reserve_pair.new.nodes.list.items c.args.id.0 c.led_to-previous.result (Some c.args.target) c.args.target.0 =
    λ d. c.reserve_pair.ensures.same.room c.args.target.0 d _ (c.in_ok-reserve_row.ensures.room d) in
    room_pair c.args.shape.now qs c.reserve_pair.new.nodes.list.items c.clear.new.nodes.list.items c.args.id.0 c.args.field.0
    (rank qs c.args.at.begin.0) c.led_to-previous.result c.clear.ensures c.args.target room d

-- the queue

pub queue_if_over-requires-clause-there : goal.queue_if_over-requires-clause-there
queue_if_over-requires-clause-there g c =
    let qs : List ℕ = g.O.Order.places c.args.order.now in
    let is = put_grown c.args.shape.now qs c.reserve_pair.new.nodes.list.items c.clear.new.nodes.list.items c.args.id.0 c.args.field.0
    (rank qs c.args.at.begin.0) c.led_to-previous.result c.clear.ensures c.args.target.0 c.args.slot.0 c.link.new.self.list.items
    (sound_taken c.args.shape.now qs c.args.nodes.now.list.items c.reserve_pair.new.nodes.list.items c.args.id.0 c.args.field.0
    (rank qs c.args.at.begin.0) c.led_to-previous.result c.requires.sound
    (same_on c.args.nodes.now.list.items c.reserve_row.new.nodes.list.items c.reserve_pair.new.nodes.list.items c.reserve_row.ensures.same
    c.reserve_pair.ensures.same) c.requires.inside.there c.led_to-previous.ensures).typed
    (there_taken c.args.shape.now qs c.args.nodes.now.list.items c.reserve_pair.new.nodes.list.items c.args.id.0 c.args.field.0
    (rank qs c.args.at.begin.0) c.led_to-previous.result c.requires.sound
    (same_on c.args.nodes.now.list.items c.reserve_row.new.nodes.list.items c.reserve_pair.new.nodes.list.items c.reserve_row.ensures.same
    c.reserve_pair.ensures.same) c.requires.inside.there c.led_to-previous.ensures c.args.id.0 c.requires.inside.there)
    (there_taken c.args.shape.now qs c.args.nodes.now.list.items c.reserve_pair.new.nodes.list.items c.args.id.0 c.args.field.0
    (rank qs c.args.at.begin.0) c.led_to-previous.result c.requires.sound
    (same_on c.args.nodes.now.list.items c.reserve_row.new.nodes.list.items c.reserve_pair.new.nodes.list.items c.reserve_row.ensures.same
    c.reserve_pair.ensures.same) c.requires.inside.there c.led_to-previous.ensures c.args.target.0 c.requires.target.there) c.link.ensures.linked
    c.link.ensures.touched in
    omega (
      arith,
      is.count,
      there_taken c.args.shape.now qs c.args.nodes.now.list.items c.reserve_pair.new.nodes.list.items c.args.id.0 c.args.field.0
          (rank qs c.args.at.begin.0) c.led_to-previous.result c.requires.sound
          (same_on c.args.nodes.now.list.items c.reserve_row.new.nodes.list.items c.reserve_pair.new.nodes.list.items c.reserve_row.ensures.same
          c.reserve_pair.ensures.same) c.requires.inside.there c.led_to-previous.ensures c.args.target.0 c.requires.target.there,
    )

pub queue_if_over-requires-clause-typed : goal.queue_if_over-requires-clause-typed
queue_if_over-requires-clause-typed g c =
    let qs : List ℕ = g.O.Order.places c.args.order.now in
    let is = put_grown c.args.shape.now qs c.reserve_pair.new.nodes.list.items c.clear.new.nodes.list.items c.args.id.0 c.args.field.0
    (rank qs c.args.at.begin.0) c.led_to-previous.result c.clear.ensures c.args.target.0 c.args.slot.0 c.link.new.self.list.items
    (sound_taken c.args.shape.now qs c.args.nodes.now.list.items c.reserve_pair.new.nodes.list.items c.args.id.0 c.args.field.0
    (rank qs c.args.at.begin.0) c.led_to-previous.result c.requires.sound
    (same_on c.args.nodes.now.list.items c.reserve_row.new.nodes.list.items c.reserve_pair.new.nodes.list.items c.reserve_row.ensures.same
    c.reserve_pair.ensures.same) c.requires.inside.there c.led_to-previous.ensures).typed
    (there_taken c.args.shape.now qs c.args.nodes.now.list.items c.reserve_pair.new.nodes.list.items c.args.id.0 c.args.field.0
    (rank qs c.args.at.begin.0) c.led_to-previous.result c.requires.sound
    (same_on c.args.nodes.now.list.items c.reserve_row.new.nodes.list.items c.reserve_pair.new.nodes.list.items c.reserve_row.ensures.same
    c.reserve_pair.ensures.same) c.requires.inside.there c.led_to-previous.ensures c.args.id.0 c.requires.inside.there)
    (there_taken c.args.shape.now qs c.args.nodes.now.list.items c.reserve_pair.new.nodes.list.items c.args.id.0 c.args.field.0
    (rank qs c.args.at.begin.0) c.led_to-previous.result c.requires.sound
    (same_on c.args.nodes.now.list.items c.reserve_row.new.nodes.list.items c.reserve_pair.new.nodes.list.items c.reserve_row.ensures.same
    c.reserve_pair.ensures.same) c.requires.inside.there c.led_to-previous.ensures c.args.target.0 c.requires.target.there) c.link.ensures.linked
    c.link.ensures.touched in
    put_typed c.args.shape.now qs c.reserve_pair.new.nodes.list.items c.clear.new.nodes.list.items c.args.id.0 c.args.field.0
    (rank qs c.args.at.begin.0) c.led_to-previous.result c.clear.ensures c.args.target.0 c.args.slot.0 c.link.new.self.list.items
    (sound_taken c.args.shape.now qs c.args.nodes.now.list.items c.reserve_pair.new.nodes.list.items c.args.id.0 c.args.field.0
    (rank qs c.args.at.begin.0) c.led_to-previous.result c.requires.sound
    (same_on c.args.nodes.now.list.items c.reserve_row.new.nodes.list.items c.reserve_pair.new.nodes.list.items c.reserve_row.ensures.same
    c.reserve_pair.ensures.same) c.requires.inside.there c.led_to-previous.ensures).typed
    (there_taken c.args.shape.now qs c.args.nodes.now.list.items c.reserve_pair.new.nodes.list.items c.args.id.0 c.args.field.0
    (rank qs c.args.at.begin.0) c.led_to-previous.result c.requires.sound
    (same_on c.args.nodes.now.list.items c.reserve_row.new.nodes.list.items c.reserve_pair.new.nodes.list.items c.reserve_row.ensures.same
    c.reserve_pair.ensures.same) c.requires.inside.there c.led_to-previous.ensures c.args.id.0 c.requires.inside.there)
    (there_taken c.args.shape.now qs c.args.nodes.now.list.items c.reserve_pair.new.nodes.list.items c.args.id.0 c.args.field.0
    (rank qs c.args.at.begin.0) c.led_to-previous.result c.requires.sound
    (same_on c.args.nodes.now.list.items c.reserve_row.new.nodes.list.items c.reserve_pair.new.nodes.list.items c.reserve_row.ensures.same
    c.reserve_pair.ensures.same) c.requires.inside.there c.led_to-previous.ensures c.args.target.0 c.requires.target.there) c.link.ensures.linked
    c.link.ensures.touched c.args.target.0 (omega (
      arith,
      is.count,
      there_taken c.args.shape.now qs c.args.nodes.now.list.items c.reserve_pair.new.nodes.list.items c.args.id.0 c.args.field.0
          (rank qs c.args.at.begin.0) c.led_to-previous.result c.requires.sound
          (same_on c.args.nodes.now.list.items c.reserve_row.new.nodes.list.items c.reserve_pair.new.nodes.list.items c.reserve_row.ensures.same
          c.reserve_pair.ensures.same) c.requires.inside.there c.led_to-previous.ensures c.args.target.0 c.requires.target.there,
    ))

pub queue_if_over-requires-clause-held : goal.queue_if_over-requires-clause-held
queue_if_over-requires-clause-held g c =
    let qs : List ℕ = g.O.Order.places c.args.order.now in
    let is = put_grown c.args.shape.now qs c.reserve_pair.new.nodes.list.items c.clear.new.nodes.list.items c.args.id.0 c.args.field.0
    (rank qs c.args.at.begin.0) c.led_to-previous.result c.clear.ensures c.args.target.0 c.args.slot.0 c.link.new.self.list.items
    (sound_taken c.args.shape.now qs c.args.nodes.now.list.items c.reserve_pair.new.nodes.list.items c.args.id.0 c.args.field.0
    (rank qs c.args.at.begin.0) c.led_to-previous.result c.requires.sound
    (same_on c.args.nodes.now.list.items c.reserve_row.new.nodes.list.items c.reserve_pair.new.nodes.list.items c.reserve_row.ensures.same
    c.reserve_pair.ensures.same) c.requires.inside.there c.led_to-previous.ensures).typed
    (there_taken c.args.shape.now qs c.args.nodes.now.list.items c.reserve_pair.new.nodes.list.items c.args.id.0 c.args.field.0
    (rank qs c.args.at.begin.0) c.led_to-previous.result c.requires.sound
    (same_on c.args.nodes.now.list.items c.reserve_row.new.nodes.list.items c.reserve_pair.new.nodes.list.items c.reserve_row.ensures.same
    c.reserve_pair.ensures.same) c.requires.inside.there c.led_to-previous.ensures c.args.id.0 c.requires.inside.there)
    (there_taken c.args.shape.now qs c.args.nodes.now.list.items c.reserve_pair.new.nodes.list.items c.args.id.0 c.args.field.0
    (rank qs c.args.at.begin.0) c.led_to-previous.result c.requires.sound
    (same_on c.args.nodes.now.list.items c.reserve_row.new.nodes.list.items c.reserve_pair.new.nodes.list.items c.reserve_row.ensures.same
    c.reserve_pair.ensures.same) c.requires.inside.there c.led_to-previous.ensures c.args.target.0 c.requires.target.there) c.link.ensures.linked
    c.link.ensures.touched in
    held_on c.args.nodes.now.list.items c.link.new.self.list.items c.args.queue.now (is.count ∙ c.reserve_pair.ensures.same.count ∙ c.reserve_row.ensures.same.count)
    (λ i. put_links c.args.shape.now qs c.reserve_pair.new.nodes.list.items c.clear.new.nodes.list.items c.args.id.0 c.args.field.0
    (rank qs c.args.at.begin.0) c.led_to-previous.result c.clear.ensures c.args.target.0 c.args.slot.0 c.link.new.self.list.items
    (sound_taken c.args.shape.now qs c.args.nodes.now.list.items c.reserve_pair.new.nodes.list.items c.args.id.0 c.args.field.0
    (rank qs c.args.at.begin.0) c.led_to-previous.result c.requires.sound
    (same_on c.args.nodes.now.list.items c.reserve_row.new.nodes.list.items c.reserve_pair.new.nodes.list.items c.reserve_row.ensures.same
    c.reserve_pair.ensures.same) c.requires.inside.there c.led_to-previous.ensures).typed
    (there_taken c.args.shape.now qs c.args.nodes.now.list.items c.reserve_pair.new.nodes.list.items c.args.id.0 c.args.field.0
    (rank qs c.args.at.begin.0) c.led_to-previous.result c.requires.sound
    (same_on c.args.nodes.now.list.items c.reserve_row.new.nodes.list.items c.reserve_pair.new.nodes.list.items c.reserve_row.ensures.same
    c.reserve_pair.ensures.same) c.requires.inside.there c.led_to-previous.ensures c.args.id.0 c.requires.inside.there)
    (there_taken c.args.shape.now qs c.args.nodes.now.list.items c.reserve_pair.new.nodes.list.items c.args.id.0 c.args.field.0
    (rank qs c.args.at.begin.0) c.led_to-previous.result c.requires.sound
    (same_on c.args.nodes.now.list.items c.reserve_row.new.nodes.list.items c.reserve_pair.new.nodes.list.items c.reserve_row.ensures.same
    c.reserve_pair.ensures.same) c.requires.inside.there c.led_to-previous.ensures c.args.target.0 c.requires.target.there) c.link.ensures.linked
    c.link.ensures.touched i ∙ c.reserve_pair.ensures.same.links i ∙ c.reserve_row.ensures.same.links i) (c.requires.queued.0, c.requires.queued.1.held)

pub queue_pair-requires-clause-there : goal.queue_pair-requires-clause-there
queue_pair-requires-clause-there g c i o =
    let qs : List ℕ = g.O.Order.places c.args.order.now in
    let is = put_grown c.args.shape.now qs c.reserve_pair.new.nodes.list.items c.clear.new.nodes.list.items c.args.id.0 c.args.field.0
    (rank qs c.args.at.begin.0) c.led_to-previous.result c.clear.ensures c.args.target.0 c.args.slot.0 c.link.new.self.list.items
    (sound_taken c.args.shape.now qs c.args.nodes.now.list.items c.reserve_pair.new.nodes.list.items c.args.id.0 c.args.field.0
    (rank qs c.args.at.begin.0) c.led_to-previous.result c.requires.sound
    (same_on c.args.nodes.now.list.items c.reserve_row.new.nodes.list.items c.reserve_pair.new.nodes.list.items c.reserve_row.ensures.same
    c.reserve_pair.ensures.same) c.requires.inside.there c.led_to-previous.ensures).typed
    (there_taken c.args.shape.now qs c.args.nodes.now.list.items c.reserve_pair.new.nodes.list.items c.args.id.0 c.args.field.0
    (rank qs c.args.at.begin.0) c.led_to-previous.result c.requires.sound
    (same_on c.args.nodes.now.list.items c.reserve_row.new.nodes.list.items c.reserve_pair.new.nodes.list.items c.reserve_row.ensures.same
    c.reserve_pair.ensures.same) c.requires.inside.there c.led_to-previous.ensures c.args.id.0 c.requires.inside.there)
    (there_taken c.args.shape.now qs c.args.nodes.now.list.items c.reserve_pair.new.nodes.list.items c.args.id.0 c.args.field.0
    (rank qs c.args.at.begin.0) c.led_to-previous.result c.requires.sound
    (same_on c.args.nodes.now.list.items c.reserve_row.new.nodes.list.items c.reserve_pair.new.nodes.list.items c.reserve_row.ensures.same
    c.reserve_pair.ensures.same) c.requires.inside.there c.led_to-previous.ensures c.args.target.0 c.requires.target.there) c.link.ensures.linked
    c.link.ensures.touched in
    omega (
      arith,
      is.count,
      one_taken c.args.shape.now qs c.args.nodes.now.list.items c.reserve_pair.new.nodes.list.items c.args.id.0 c.args.field.0
          (rank qs c.args.at.begin.0) c.led_to-previous.result c.requires.sound
          (same_on c.args.nodes.now.list.items c.reserve_row.new.nodes.list.items c.reserve_pair.new.nodes.list.items c.reserve_row.ensures.same
          c.reserve_pair.ensures.same) c.requires.inside.there c.led_to-previous.ensures i o,
      same_count c.link.new.self.list.items c.queue_if_over.new.nodes.list.items c.queue_if_over.ensures.rows,
    )

pub queue_pair-requires-clause-typed : goal.queue_pair-requires-clause-typed
queue_pair-requires-clause-typed g c =
    let qs : List ℕ = g.O.Order.places c.args.order.now in
    typed_rows c.args.shape.now c.link.new.self.list.items c.queue_if_over.new.nodes.list.items c.queue_if_over.ensures.rows c.queue_if_over.ensures.frames
    (put_typed c.args.shape.now qs c.reserve_pair.new.nodes.list.items c.clear.new.nodes.list.items c.args.id.0 c.args.field.0
    (rank qs c.args.at.begin.0) c.led_to-previous.result c.clear.ensures c.args.target.0 c.args.slot.0 c.link.new.self.list.items
    (sound_taken c.args.shape.now qs c.args.nodes.now.list.items c.reserve_pair.new.nodes.list.items c.args.id.0 c.args.field.0
    (rank qs c.args.at.begin.0) c.led_to-previous.result c.requires.sound
    (same_on c.args.nodes.now.list.items c.reserve_row.new.nodes.list.items c.reserve_pair.new.nodes.list.items c.reserve_row.ensures.same
    c.reserve_pair.ensures.same) c.requires.inside.there c.led_to-previous.ensures).typed
    (there_taken c.args.shape.now qs c.args.nodes.now.list.items c.reserve_pair.new.nodes.list.items c.args.id.0 c.args.field.0
    (rank qs c.args.at.begin.0) c.led_to-previous.result c.requires.sound
    (same_on c.args.nodes.now.list.items c.reserve_row.new.nodes.list.items c.reserve_pair.new.nodes.list.items c.reserve_row.ensures.same
    c.reserve_pair.ensures.same) c.requires.inside.there c.led_to-previous.ensures c.args.id.0 c.requires.inside.there)
    (there_taken c.args.shape.now qs c.args.nodes.now.list.items c.reserve_pair.new.nodes.list.items c.args.id.0 c.args.field.0
    (rank qs c.args.at.begin.0) c.led_to-previous.result c.requires.sound
    (same_on c.args.nodes.now.list.items c.reserve_row.new.nodes.list.items c.reserve_pair.new.nodes.list.items c.reserve_row.ensures.same
    c.reserve_pair.ensures.same) c.requires.inside.there c.led_to-previous.ensures c.args.target.0 c.requires.target.there) c.link.ensures.linked
    c.link.ensures.touched)

pub queue_pair-requires-clause-held : goal.queue_pair-requires-clause-held
queue_pair-requires-clause-held g c =
    let qs : List ℕ = g.O.Order.places c.args.order.now in
    let is = put_grown c.args.shape.now qs c.reserve_pair.new.nodes.list.items c.clear.new.nodes.list.items c.args.id.0 c.args.field.0
    (rank qs c.args.at.begin.0) c.led_to-previous.result c.clear.ensures c.args.target.0 c.args.slot.0 c.link.new.self.list.items
    (sound_taken c.args.shape.now qs c.args.nodes.now.list.items c.reserve_pair.new.nodes.list.items c.args.id.0 c.args.field.0
    (rank qs c.args.at.begin.0) c.led_to-previous.result c.requires.sound
    (same_on c.args.nodes.now.list.items c.reserve_row.new.nodes.list.items c.reserve_pair.new.nodes.list.items c.reserve_row.ensures.same
    c.reserve_pair.ensures.same) c.requires.inside.there c.led_to-previous.ensures).typed
    (there_taken c.args.shape.now qs c.args.nodes.now.list.items c.reserve_pair.new.nodes.list.items c.args.id.0 c.args.field.0
    (rank qs c.args.at.begin.0) c.led_to-previous.result c.requires.sound
    (same_on c.args.nodes.now.list.items c.reserve_row.new.nodes.list.items c.reserve_pair.new.nodes.list.items c.reserve_row.ensures.same
    c.reserve_pair.ensures.same) c.requires.inside.there c.led_to-previous.ensures c.args.id.0 c.requires.inside.there)
    (there_taken c.args.shape.now qs c.args.nodes.now.list.items c.reserve_pair.new.nodes.list.items c.args.id.0 c.args.field.0
    (rank qs c.args.at.begin.0) c.led_to-previous.result c.requires.sound
    (same_on c.args.nodes.now.list.items c.reserve_row.new.nodes.list.items c.reserve_pair.new.nodes.list.items c.reserve_row.ensures.same
    c.reserve_pair.ensures.same) c.requires.inside.there c.led_to-previous.ensures c.args.target.0 c.requires.target.there) c.link.ensures.linked
    c.link.ensures.touched in
    held_after c.args.shape.now (λ i. i ≡ c.args.target.0) c.link.new.self.list.items c.queue_if_over.new.nodes.list.items c.args.queue.now c.queue_if_over.new.queue
    (held_on c.args.nodes.now.list.items c.link.new.self.list.items c.args.queue.now (is.count ∙ c.reserve_pair.ensures.same.count ∙ c.reserve_row.ensures.same.count)
    (λ i. put_links c.args.shape.now qs c.reserve_pair.new.nodes.list.items c.clear.new.nodes.list.items c.args.id.0 c.args.field.0
    (rank qs c.args.at.begin.0) c.led_to-previous.result c.clear.ensures c.args.target.0 c.args.slot.0 c.link.new.self.list.items
    (sound_taken c.args.shape.now qs c.args.nodes.now.list.items c.reserve_pair.new.nodes.list.items c.args.id.0 c.args.field.0
    (rank qs c.args.at.begin.0) c.led_to-previous.result c.requires.sound
    (same_on c.args.nodes.now.list.items c.reserve_row.new.nodes.list.items c.reserve_pair.new.nodes.list.items c.reserve_row.ensures.same
    c.reserve_pair.ensures.same) c.requires.inside.there c.led_to-previous.ensures).typed
    (there_taken c.args.shape.now qs c.args.nodes.now.list.items c.reserve_pair.new.nodes.list.items c.args.id.0 c.args.field.0
    (rank qs c.args.at.begin.0) c.led_to-previous.result c.requires.sound
    (same_on c.args.nodes.now.list.items c.reserve_row.new.nodes.list.items c.reserve_pair.new.nodes.list.items c.reserve_row.ensures.same
    c.reserve_pair.ensures.same) c.requires.inside.there c.led_to-previous.ensures c.args.id.0 c.requires.inside.there)
    (there_taken c.args.shape.now qs c.args.nodes.now.list.items c.reserve_pair.new.nodes.list.items c.args.id.0 c.args.field.0
    (rank qs c.args.at.begin.0) c.led_to-previous.result c.requires.sound
    (same_on c.args.nodes.now.list.items c.reserve_row.new.nodes.list.items c.reserve_pair.new.nodes.list.items c.reserve_row.ensures.same
    c.reserve_pair.ensures.same) c.requires.inside.there c.led_to-previous.ensures c.args.target.0 c.requires.target.there) c.link.ensures.linked
    c.link.ensures.touched i ∙ c.reserve_pair.ensures.same.links i ∙ c.reserve_row.ensures.same.links i) (c.requires.queued.0, c.requires.queued.1.held))
    c.queue_if_over.ensures.queue

-- in the end

pub returns-clause-set : goal.returns-clause-set
returns-clause-set g c =
    let qs : List ℕ = g.O.Order.places c.args.order.now in
    pointer_written c.args.shape.now qs c.reserve_pair.new.nodes.list.items c.clear.new.nodes.list.items c.args.id.0 c.args.field.0
    (rank qs c.args.at.begin.0) c.led_to-previous.result c.clear.ensures c.args.target.0 c.args.slot.0 c.link.new.self.list.items
    (sound_taken c.args.shape.now qs c.args.nodes.now.list.items c.reserve_pair.new.nodes.list.items c.args.id.0 c.args.field.0
    (rank qs c.args.at.begin.0) c.led_to-previous.result c.requires.sound
    (same_on c.args.nodes.now.list.items c.reserve_row.new.nodes.list.items c.reserve_pair.new.nodes.list.items c.reserve_row.ensures.same
    c.reserve_pair.ensures.same) c.requires.inside.there c.led_to-previous.ensures).typed
    (there_taken c.args.shape.now qs c.args.nodes.now.list.items c.reserve_pair.new.nodes.list.items c.args.id.0 c.args.field.0
    (rank qs c.args.at.begin.0) c.led_to-previous.result c.requires.sound
    (same_on c.args.nodes.now.list.items c.reserve_row.new.nodes.list.items c.reserve_pair.new.nodes.list.items c.reserve_row.ensures.same
    c.reserve_pair.ensures.same) c.requires.inside.there c.led_to-previous.ensures c.args.id.0 c.requires.inside.there)
    (there_taken c.args.shape.now qs c.args.nodes.now.list.items c.reserve_pair.new.nodes.list.items c.args.id.0 c.args.field.0
    (rank qs c.args.at.begin.0) c.led_to-previous.result c.requires.sound
    (same_on c.args.nodes.now.list.items c.reserve_row.new.nodes.list.items c.reserve_pair.new.nodes.list.items c.reserve_row.ensures.same
    c.reserve_pair.ensures.same) c.requires.inside.there c.led_to-previous.ensures c.args.target.0 c.requires.target.there) c.link.ensures.linked
    c.link.ensures.touched
    c.args.at c.args.nodes.now.list.items c.queue_pair.new.nodes.list.items refl
    (seen_taken c.args.shape.now qs c.args.nodes.now.list.items c.reserve_pair.new.nodes.list.items c.args.id.0 c.args.field.0
    (rank qs c.args.at.begin.0) c.led_to-previous.result c.requires.sound
    (same_on c.args.nodes.now.list.items c.reserve_row.new.nodes.list.items c.reserve_pair.new.nodes.list.items c.reserve_row.ensures.same
    c.reserve_pair.ensures.same) c.requires.inside.there c.led_to-previous.ensures)
    (seen_links c.link.new.self.list.items c.queue_pair.new.nodes.list.items (c.queue_pair.ensures.rows ∙ c.queue_if_over.ensures.rows) (c.queue_pair.ensures.frames ∙ c.queue_if_over.ensures.frames))

pub returns-clause-rows : goal.returns-clause-rows
returns-clause-rows g c = rows_seen (g.O.Order.places c.args.order.now) c.link.new.self.list.items c.queue_pair.new.nodes.list.items
    (c.queue_pair.ensures.rows ∙ c.queue_if_over.ensures.rows) c.link.ensures.rows

pub returns-clause-wide : goal.returns-clause-wide
returns-clause-wide g c =
    let qs : List ℕ = g.O.Order.places c.args.order.now in
    wide_seen c.args.shape.now c.link.new.self.list.items c.queue_pair.new.nodes.list.items (c.queue_pair.ensures.rows ∙ c.queue_if_over.ensures.rows)
    (c.queue_pair.ensures.frames ∙ c.queue_if_over.ensures.frames)
    (put_typed c.args.shape.now qs c.reserve_pair.new.nodes.list.items c.clear.new.nodes.list.items c.args.id.0 c.args.field.0
    (rank qs c.args.at.begin.0) c.led_to-previous.result c.clear.ensures c.args.target.0 c.args.slot.0 c.link.new.self.list.items
    (sound_taken c.args.shape.now qs c.args.nodes.now.list.items c.reserve_pair.new.nodes.list.items c.args.id.0 c.args.field.0
    (rank qs c.args.at.begin.0) c.led_to-previous.result c.requires.sound
    (same_on c.args.nodes.now.list.items c.reserve_row.new.nodes.list.items c.reserve_pair.new.nodes.list.items c.reserve_row.ensures.same
    c.reserve_pair.ensures.same) c.requires.inside.there c.led_to-previous.ensures).typed
    (there_taken c.args.shape.now qs c.args.nodes.now.list.items c.reserve_pair.new.nodes.list.items c.args.id.0 c.args.field.0
    (rank qs c.args.at.begin.0) c.led_to-previous.result c.requires.sound
    (same_on c.args.nodes.now.list.items c.reserve_row.new.nodes.list.items c.reserve_pair.new.nodes.list.items c.reserve_row.ensures.same
    c.reserve_pair.ensures.same) c.requires.inside.there c.led_to-previous.ensures c.args.id.0 c.requires.inside.there)
    (there_taken c.args.shape.now qs c.args.nodes.now.list.items c.reserve_pair.new.nodes.list.items c.args.id.0 c.args.field.0
    (rank qs c.args.at.begin.0) c.led_to-previous.result c.requires.sound
    (same_on c.args.nodes.now.list.items c.reserve_row.new.nodes.list.items c.reserve_pair.new.nodes.list.items c.reserve_row.ensures.same
    c.reserve_pair.ensures.same) c.requires.inside.there c.led_to-previous.ensures c.args.target.0 c.requires.target.there) c.link.ensures.linked
    c.link.ensures.touched)

pub returns-clause-queued : goal.returns-clause-queued
returns-clause-queued g c =
    let qs : List ℕ = g.O.Order.places c.args.order.now in
    put_queued c.args.shape.now qs c.reserve_pair.new.nodes.list.items c.clear.new.nodes.list.items c.args.id.0 c.args.field.0
    (rank qs c.args.at.begin.0) c.led_to-previous.result c.clear.ensures c.args.target.0 c.args.slot.0 c.link.new.self.list.items
    (sound_taken c.args.shape.now qs c.args.nodes.now.list.items c.reserve_pair.new.nodes.list.items c.args.id.0 c.args.field.0
    (rank qs c.args.at.begin.0) c.led_to-previous.result c.requires.sound
    (same_on c.args.nodes.now.list.items c.reserve_row.new.nodes.list.items c.reserve_pair.new.nodes.list.items c.reserve_row.ensures.same
    c.reserve_pair.ensures.same) c.requires.inside.there c.led_to-previous.ensures).typed
    (there_taken c.args.shape.now qs c.args.nodes.now.list.items c.reserve_pair.new.nodes.list.items c.args.id.0 c.args.field.0
    (rank qs c.args.at.begin.0) c.led_to-previous.result c.requires.sound
    (same_on c.args.nodes.now.list.items c.reserve_row.new.nodes.list.items c.reserve_pair.new.nodes.list.items c.reserve_row.ensures.same
    c.reserve_pair.ensures.same) c.requires.inside.there c.led_to-previous.ensures c.args.id.0 c.requires.inside.there)
    (there_taken c.args.shape.now qs c.args.nodes.now.list.items c.reserve_pair.new.nodes.list.items c.args.id.0 c.args.field.0
    (rank qs c.args.at.begin.0) c.led_to-previous.result c.requires.sound
    (same_on c.args.nodes.now.list.items c.reserve_row.new.nodes.list.items c.reserve_pair.new.nodes.list.items c.reserve_row.ensures.same
    c.reserve_pair.ensures.same) c.requires.inside.there c.led_to-previous.ensures c.args.target.0 c.requires.target.there) c.link.ensures.linked
    c.link.ensures.touched
    c.queue_if_over.new.nodes.list.items c.queue_pair.new.nodes.list.items c.args.queue.now c.queue_if_over.new.queue c.queue_pair.new.queue
    (queue_refused c.args.shape.now c.args.nodes.now.list.items c.reserve_pair.new.nodes.list.items c.args.queue.now
    (same_on c.args.nodes.now.list.items c.reserve_row.new.nodes.list.items c.reserve_pair.new.nodes.list.items c.reserve_row.ensures.same
    c.reserve_pair.ensures.same) c.requires.queued)
    c.queue_if_over.ensures.rows c.queue_if_over.ensures.frames c.queue_if_over.ensures.queue c.queue_pair.ensures.rows c.queue_pair.ensures.frames c.queue_pair.ensures.queue

pub returns-clause-sound : goal.returns-clause-sound
returns-clause-sound g c =
    let qs : List ℕ = g.O.Order.places c.args.order.now in
    let frames = c.reserve_pair.ensures.same.frames ∙ c.reserve_row.ensures.same.frames in
    sound_rows c.args.shape.now qs c.link.new.self.list.items c.queue_pair.new.nodes.list.items
    (c.queue_pair.ensures.rows ∙ c.queue_if_over.ensures.rows) (c.queue_pair.ensures.frames ∙ c.queue_if_over.ensures.frames)
    (put_sound c.args.shape.now qs c.reserve_pair.new.nodes.list.items c.clear.new.nodes.list.items c.args.id.0 c.args.field.0
    (rank qs c.args.at.begin.0) c.led_to-previous.result c.clear.ensures c.args.target.0 c.args.slot.0 c.link.new.self.list.items
    (sound_taken c.args.shape.now qs c.args.nodes.now.list.items c.reserve_pair.new.nodes.list.items c.args.id.0 c.args.field.0
    (rank qs c.args.at.begin.0) c.led_to-previous.result c.requires.sound
    (same_on c.args.nodes.now.list.items c.reserve_row.new.nodes.list.items c.reserve_pair.new.nodes.list.items c.reserve_row.ensures.same
    c.reserve_pair.ensures.same) c.requires.inside.there c.led_to-previous.ensures).typed
    (there_taken c.args.shape.now qs c.args.nodes.now.list.items c.reserve_pair.new.nodes.list.items c.args.id.0 c.args.field.0
    (rank qs c.args.at.begin.0) c.led_to-previous.result c.requires.sound
    (same_on c.args.nodes.now.list.items c.reserve_row.new.nodes.list.items c.reserve_pair.new.nodes.list.items c.reserve_row.ensures.same
    c.reserve_pair.ensures.same) c.requires.inside.there c.led_to-previous.ensures c.args.id.0 c.requires.inside.there)
    (there_taken c.args.shape.now qs c.args.nodes.now.list.items c.reserve_pair.new.nodes.list.items c.args.id.0 c.args.field.0
    (rank qs c.args.at.begin.0) c.led_to-previous.result c.requires.sound
    (same_on c.args.nodes.now.list.items c.reserve_row.new.nodes.list.items c.reserve_pair.new.nodes.list.items c.reserve_row.ensures.same
    c.reserve_pair.ensures.same) c.requires.inside.there c.led_to-previous.ensures c.args.target.0 c.requires.target.there) c.link.ensures.linked
    c.link.ensures.touched
    (sound_taken c.args.shape.now qs c.args.nodes.now.list.items c.reserve_pair.new.nodes.list.items c.args.id.0 c.args.field.0
    (rank qs c.args.at.begin.0) c.led_to-previous.result c.requires.sound
    (same_on c.args.nodes.now.list.items c.reserve_row.new.nodes.list.items c.reserve_pair.new.nodes.list.items c.reserve_row.ensures.same
    c.reserve_pair.ensures.same) c.requires.inside.there c.led_to-previous.ensures) c.link.ensures.rows c.link.ensures.mirrored
    (kind_kept c.args.shape.now c.args.nodes.now.list.items c.reserve_pair.new.nodes.list.items c.args.id.0 c.args.field.0 c.args.target.0 frames
    c.requires.field))
