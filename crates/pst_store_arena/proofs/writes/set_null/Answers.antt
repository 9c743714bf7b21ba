use Rattle.std.proofs.Common.{◌∙◌, ℕ, ◌<◌, List, length, refl, arith}
use Rattle.pst_base.specs.Shape.{field_kind}
use Rattle.pst_nodes.specs.declared.node.Node.{Node}
use Rattle.pst_nodes.specs.Arena.{chart, type_of, IsTyped}
use Rattle.pst_order.specs.Places.{rank}
use Rattle.pst_repair.proofs.RepairLemmas.{sound_rows}
use Rattle.pst_repair.proofs.SeenLemmas.{seen_all, seen_wide}
use Rattle.pst_repair.proofs.SameLemmas.{seen_links}
use Rattle.pst_store_arena.specs.Writes.{IsFieldCleared}
use Rattle.pst_store_arena.proofs.WriteLemmas.{pointer_kind, field_slot, field_holds, one_there}
use Rattle.pst_store_arena.proofs.WriteQueue.{queue_refused}
use Rattle.pst_store_arena.proofs.WriteDone.{held_on, sound_taken, led_taken, one_taken, seen_taken, null_at, null_kept, cleared_typed, null_written, null_queued, rows_seen, wide_seen}
use Rattle.pst_store_arena.proofs.WriteSound.{cleared_sound}
use Rattle.pst_store_arena.proofs.writes.set_null.Given.{Over}
use Rattle.pst_store_arena.proofs.writes.set_null.Goals as goal

pub led_to-led-requires-clause-slot : goal.led_to-led-requires-clause-slot
led_to-led-requires-clause-slot g c =
    let qs : List ℕ = g.O.Order.places c.args.order.now in
    let k = pointer_kind (field_kind (type_of c.args.shape.now c.args.nodes.now.list.items c.args.id.0) c.args.field.0) c.requires.field in
    field_slot c.args.shape.now qs c.args.nodes.now.list.items c.requires.sound c.args.id.0 (rank qs c.args.at.begin.0) c.requires.inside c.args.field.0 k.0 k.1

pub led_to-led-requires-clause-pointer : goal.led_to-led-requires-clause-pointer
led_to-led-requires-clause-pointer g c =
    let qs : List ℕ = g.O.Order.places c.args.order.now in
    let k = pointer_kind (field_kind (type_of c.args.shape.now c.args.nodes.now.list.items c.args.id.0) c.args.field.0) c.requires.field in
    field_holds c.args.shape.now qs c.args.nodes.now.list.items c.requires.sound c.args.id.0 (rank qs c.args.at.begin.0) c.requires.inside c.args.field.0 k.0 k.1

-- null already

pub returns-then-is_none-clause-set : goal.returns-then-is_none-clause-set
returns-then-is_none-clause-set g c =
    let qs : List ℕ = g.O.Order.places c.args.order.now in
    let b : ℕ = rank qs c.args.at.begin.0 in
    null_kept c.args.shape.now qs c.args.nodes.now.list.items c.args.id.0 c.args.field.0 c.args.at c.requires.sound.rows c.requires.sound.mirrored
    (null_at (chart qs c.args.nodes.now.list.items) c.args.id.0 c.args.field.0 b c.led_to-led.result c.if-is_none.ensures c.led_to-led.ensures)

pub returns-then-is_none-clause-rows : goal.returns-then-is_none-clause-rows
returns-then-is_none-clause-rows g c = seen_all (g.O.Order.places c.args.order.now) c.args.nodes.now.list.items c.requires.sound.rows

pub returns-then-is_none-clause-wide : goal.returns-then-is_none-clause-wide
returns-then-is_none-clause-wide g c = seen_wide c.args.shape.now c.args.nodes.now.list.items c.requires.sound.typed

-- the memory

pub reserve_pair-requires : goal.reserve_pair-requires
reserve_pair-requires g c =
    let qs : List ℕ = g.O.Order.places c.args.order.now in
    record {
      there = one_there qs c.args.nodes.now.list.items c.args.id.0 c.args.field.0 (rank qs c.args.at.begin.0) c.requires.sound.rows
          c.requires.sound.mirrored c.led_to-led.result c.led_to-led.ensures c.requires.inside.there;
    }

pub returns-in_err-reserve_pair-clause-queued : goal.returns-in_err-reserve_pair-clause-queued
returns-in_err-reserve_pair-clause-queued g c = queue_refused c.args.shape.now c.args.nodes.now.list.items c.reserve_pair.new.nodes.list.items
    c.args.queue.now c.reserve_pair.ensures.same c.requires.queued

-- the pointer is taken away

pub clear-requires-clause-rows : goal.clear-requires-clause-rows
clear-requires-clause-rows g c =
    let qs : List ℕ = g.O.Order.places c.args.order.now in
    let s = sound_taken c.args.shape.now qs c.args.nodes.now.list.items c.reserve_pair.new.nodes.list.items c.args.id.0 c.args.field.0
    (rank qs c.args.at.begin.0) c.led_to-led.result c.requires.sound c.reserve_pair.ensures.same c.requires.inside.there c.led_to-led.ensures in
    s.rows

pub clear-requires-clause-mirrored : goal.clear-requires-clause-mirrored
clear-requires-clause-mirrored g c =
    let qs : List ℕ = g.O.Order.places c.args.order.now in
    let s = sound_taken c.args.shape.now qs c.args.nodes.now.list.items c.reserve_pair.new.nodes.list.items c.args.id.0 c.args.field.0
    (rank qs c.args.at.begin.0) c.led_to-led.result c.requires.sound c.reserve_pair.ensures.same c.requires.inside.there c.led_to-led.ensures in
    s.mirrored

pub clear-requires-clause-led : goal.clear-requires-clause-led
clear-requires-clause-led g c =
    let qs : List ℕ = g.O.Order.places c.args.order.now in
    led_taken c.args.shape.now qs c.args.nodes.now.list.items c.reserve_pair.new.nodes.list.items c.args.id.0 c.args.field.0
    (rank qs c.args.at.begin.0) c.led_to-led.result c.requires.sound c.reserve_pair.ensures.same c.requires.inside.there c.led_to-led.ensures

pub queue_pair-requires-clause-there : goal.queue_pair-requires-clause-there
queue_pair-requires-clause-there g c i o =
    let qs : List ℕ = g.O.Order.places c.args.order.now in
    let l : i < length c.reserve_pair.new.nodes.list.items = one_taken c.args.shape.now qs c.args.nodes.now.list.items
    c.reserve_pair.new.nodes.list.items c.args.id.0 c.args.field.0 (rank qs c.args.at.begin.0) c.led_to-led.result c.requires.sound
    c.reserve_pair.ensures.same c.requires.inside.there c.led_to-led.ensures i o in
    let is = c.clear.ensures.grown c.args.shape.now in
    omega (arith, l, is.count)

pub queue_pair-requires-clause-typed : goal.queue_pair-requires-clause-typed
queue_pair-requires-clause-typed g c =
    let qs : List ℕ = g.O.Order.places c.args.order.now in
    let s = sound_taken c.args.shape.now qs c.args.nodes.now.list.items c.reserve_pair.new.nodes.list.items c.args.id.0 c.args.field.0
    (rank qs c.args.at.begin.0) c.led_to-led.result c.requires.sound c.reserve_pair.ensures.same c.requires.inside.there c.led_to-led.ensures in
    cleared_typed c.args.shape.now qs c.reserve_pair.new.nodes.list.items c.clear.new.nodes.list.items c.args.id.0 c.args.field.0
    (rank qs c.args.at.begin.0) c.led_to-led.result c.clear.ensures s.typed

pub queue_pair-requires-clause-held : goal.queue_pair-requires-clause-held
queue_pair-requires-clause-held g c =
    let is = c.clear.ensures in
    held_on c.args.nodes.now.list.items c.clear.new.nodes.list.items c.args.queue.now
    ((is.grown c.args.shape.now).count ∙ c.reserve_pair.ensures.same.count) (λ i. is.links i ∙ c.reserve_pair.ensures.same.links i)
    (c.requires.queued.0, c.requires.queued.1.held)

-- in the end

module _ (g : Over) (c : goal.After-queue_pair g) where
  abbrev qs : List ℕ
  qs = g.O.Order.places c.args.order.now

  abbrev b : ℕ
  b = rank (g.O.Order.places c.args.order.now) c.args.at.begin.0

  abbrev old : List Node
  old = c.args.nodes.now.list.items

  abbrev r : List Node
  r = c.reserve_pair.new.nodes.list.items

  abbrev mid : List Node
  mid = c.clear.new.nodes.list.items

  is : IsFieldCleared (g.O.Order.places c.args.order.now) c.reserve_pair.new.nodes.list.items c.clear.new.nodes.list.items c.args.id.0 c.args.field.0
      (rank (g.O.Order.places c.args.order.now) c.args.at.begin.0) c.led_to-led.result
  is = c.clear.ensures

  typed : (i : ℕ) → i < length c.clear.new.nodes.list.items → IsTyped c.args.shape.now c.clear.new.nodes.list.items i
  typed = cleared_typed c.args.shape.now qs r mid c.args.id.0 c.args.field.0 b c.led_to-led.result is
      (sound_taken c.args.shape.now qs old r c.args.id.0 c.args.field.0 b c.led_to-led.result c.requires.sound c.reserve_pair.ensures.same c.requires.inside.there c.led_to-led.ensures).typed

pub returns-clause-set : goal.returns-clause-set
returns-clause-set g c =
    null_written c.args.shape.now (qs g c) (r g c) (mid g c) c.args.id.0 c.args.field.0 (b g c) c.led_to-led.result (is g c) c.args.at (old g c) c.queue_pair.new.nodes.list.items refl
    (seen_taken c.args.shape.now (qs g c) (old g c) (r g c) c.args.id.0 c.args.field.0 (b g c) c.led_to-led.result c.requires.sound
    c.reserve_pair.ensures.same c.requires.inside.there c.led_to-led.ensures)
    (seen_links (mid g c) c.queue_pair.new.nodes.list.items c.queue_pair.ensures.rows c.queue_pair.ensures.frames)

pub returns-clause-rows : goal.returns-clause-rows
returns-clause-rows g c = rows_seen (qs g c) (mid g c) c.queue_pair.new.nodes.list.items c.queue_pair.ensures.rows (is g c).rows

pub returns-clause-wide : goal.returns-clause-wide
returns-clause-wide g c = wide_seen c.args.shape.now (mid g c) c.queue_pair.new.nodes.list.items c.queue_pair.ensures.rows c.queue_pair.ensures.frames (typed g c)

pub returns-clause-queued : goal.returns-clause-queued
returns-clause-queued g c =
    null_queued c.args.shape.now (qs g c) (r g c) (mid g c) c.args.id.0 c.args.field.0 (b g c) c.led_to-led.result (is g c) c.queue_pair.new.nodes.list.items c.args.queue.now c.queue_pair.new.queue
    (queue_refused c.args.shape.now (old g c) (r g c) c.args.queue.now c.reserve_pair.ensures.same c.requires.queued) c.queue_pair.ensures.rows c.queue_pair.ensures.frames c.queue_pair.ensures.queue

pub returns-clause-sound : goal.returns-clause-sound
returns-clause-sound g c =
    sound_rows c.args.shape.now (qs g c) (mid g c) c.queue_pair.new.nodes.list.items c.queue_pair.ensures.rows c.queue_pair.ensures.frames
    (cleared_sound c.args.shape.now (qs g c) (r g c)
    (sound_taken c.args.shape.now (qs g c) (old g c) (r g c) c.args.id.0 c.args.field.0 (b g c) c.led_to-led.result c.requires.sound
    c.reserve_pair.ensures.same c.requires.inside.there c.led_to-led.ensures)
    (mid g c) c.args.id.0 c.args.field.0 (b g c) c.led_to-led.result (is g c))
