use Rattle.std.proofs.Common.{◌≡◌, ◌+◌, ℕ, ap, ◌∙◌, arith}
use Rattle.pst_order.specs.Places.{rank}
use Rattle.pst_nodes.specs.Arena.{chart, frame_at}
use Rattle.pst_repair.specs.Load.{first_in, half_in, half_at}
use Rattle.pst_repair.proofs.CutLemmas.{queues_links, held_after}
use Rattle.pst_repair.proofs.SplitLemmas.{type_narrow, x_slots, slots1, parted1, typed1, room1, queues1, renamable2, there2, slots2, linked2, split5, sound5, queue5, queue_steps, named_steps}
use Rattle.pst_repair.proofs.ShownLemmas.{split_shows, shows_same, split_live, live_same}
use Rattle.pst_repair.proofs.split.split.Goals as goal

pub overflow_add-end : goal.overflow_add-end
overflow_add-end g c =
    let a : c.first_link-first.result ≡ first_in c.args.shape.now (frame_at c.args.nodes.now.list.items c.args.id.0).ty = c.first_link-first.ensures ∙ ap (first_in c.args.shape.now) c.ty-ty.ensures in
    let b : c.half.result ≡ half_at c.args.shape.now c.args.nodes.now.list.items c.args.id.0 = c.half.ensures ∙ ap (half_in c.args.shape.now) c.ty-ty.ensures in
    omega (arith, type_narrow c.args.shape.now (g.O.Order.places c.args.order.now) c.args.nodes.now.list.items c.args.id.0 c.requires.sound c.requires.there)

pub part-requires-clause-slots : goal.part-requires-clause-slots
part-requires-clause-slots g c = x_slots c.args.shape.now (g.O.Order.places c.args.order.now) c.args.nodes.now.list.items c.args.id.0
    c.split_place-at.result.0 c.first_link-first.result (c.first_link-first.result + c.half.result)
    (record {
      sound = c.requires.sound;
      there = c.requires.there;
      over = c.requires.over;
      first_is = c.first_link-first.ensures
          ∙ ap (first_in c.args.shape.now) c.ty-ty.ensures;
      end_is =
          ap (λ (k : ℕ). c.first_link-first.result + k) (c.half.ensures ∙ ap (half_in c.args.shape.now) c.ty-ty.ensures);
      inside = c.split_place-at.ensures;
    })

pub cut_partners-requires-clause-slots : goal.cut_partners-requires-clause-slots
cut_partners-requires-clause-slots g c = slots1 c.args.shape.now (g.O.Order.places c.args.order.now) c.args.nodes.now.list.items c.args.id.0
    c.split_place-at.result.0 c.first_link-first.result (c.first_link-first.result + c.half.result)
    (record {
      sound = c.requires.sound;
      there = c.requires.there;
      over = c.requires.over;
      first_is = c.first_link-first.ensures
          ∙ ap (first_in c.args.shape.now) c.ty-ty.ensures;
      end_is =
          ap (λ (k : ℕ). c.first_link-first.result + k) (c.half.ensures ∙ ap (half_in c.args.shape.now) c.ty-ty.ensures);
      inside =
          c.split_place-at.ensures;
    }) c.part.new.nodes.list.items c.in_ok-right.right.0 c.in_ok-right.ensures.parted c.in_ok-right.ensures.rows

pub cut_partners-requires-clause-parted : goal.cut_partners-requires-clause-parted
cut_partners-requires-clause-parted g c = (
  chart (g.O.Order.places c.args.order.now) c.args.nodes.now.list.items,
  parted1 c.args.shape.now (g.O.Order.places c.args.order.now) c.args.nodes.now.list.items c.args.id.0 c.split_place-at.result.0
      c.first_link-first.result (c.first_link-first.result + c.half.result)
      (record {
        sound = c.requires.sound;
        there = c.requires.there;
        over = c.requires.over;
        first_is = c.first_link-first.ensures
            ∙ ap (first_in c.args.shape.now) c.ty-ty.ensures;
        end_is =
            ap (λ (k : ℕ). c.first_link-first.result + k) (c.half.ensures ∙ ap (half_in c.args.shape.now) c.ty-ty.ensures);
        inside =
            c.split_place-at.ensures;
      }) c.part.new.nodes.list.items c.in_ok-right.right.0 c.in_ok-right.ensures.parted c.in_ok-right.ensures.rows,
)

pub cut_partners-requires-clause-typed : goal.cut_partners-requires-clause-typed
cut_partners-requires-clause-typed g c = typed1 c.args.shape.now (g.O.Order.places c.args.order.now) c.args.nodes.now.list.items c.args.id.0
    c.split_place-at.result.0 c.first_link-first.result (c.first_link-first.result + c.half.result)
    (record {
      sound = c.requires.sound;
      there = c.requires.there;
      over = c.requires.over;
      first_is = c.first_link-first.ensures
          ∙ ap (first_in c.args.shape.now) c.ty-ty.ensures;
      end_is =
          ap (λ (k : ℕ). c.first_link-first.result + k) (c.half.ensures ∙ ap (half_in c.args.shape.now) c.ty-ty.ensures);
      inside =
          c.split_place-at.ensures;
    }) c.part.new.nodes.list.items c.in_ok-right.right.0 c.in_ok-right.ensures.parted c.in_ok-right.ensures.rows

pub cut_partners-requires-clause-room : goal.cut_partners-requires-clause-room
cut_partners-requires-clause-room g c = room1 c.args.shape.now (g.O.Order.places c.args.order.now) c.args.nodes.now.list.items c.args.id.0
    c.split_place-at.result.0 c.first_link-first.result (c.first_link-first.result + c.half.result)
    (record {
      sound = c.requires.sound;
      there = c.requires.there;
      over = c.requires.over;
      first_is = c.first_link-first.ensures
          ∙ ap (first_in c.args.shape.now) c.ty-ty.ensures;
      end_is =
          ap (λ (k : ℕ). c.first_link-first.result + k) (c.half.ensures ∙ ap (half_in c.args.shape.now) c.ty-ty.ensures);
      inside =
          c.split_place-at.ensures;
    }) c.part.new.nodes.list.items c.in_ok-right.right.0 c.in_ok-right.ensures.parted c.in_ok-right.ensures.rows

pub cut_partners-requires-clause-held : goal.cut_partners-requires-clause-held
cut_partners-requires-clause-held g c = (
  c.requires.held.0,
  queues1 c.args.shape.now (g.O.Order.places c.args.order.now) c.args.nodes.now.list.items
      c.args.id.0 c.split_place-at.result.0 c.first_link-first.result (c.first_link-first.result + c.half.result)
      (record {
        sound = c.requires.sound;
        there = c.requires.there;
        over = c.requires.over;
        first_is = c.first_link-first.ensures
            ∙ ap (first_in c.args.shape.now) c.ty-ty.ensures;
        end_is =
            ap (λ (k : ℕ). c.first_link-first.result + k) (c.half.ensures ∙ ap (half_in c.args.shape.now) c.ty-ty.ensures);
        inside =
            c.split_place-at.ensures;
      }) c.part.new.nodes.list.items c.in_ok-right.right.0 c.in_ok-right.ensures.parted c.in_ok-right.ensures.rows
      c.args.queue.now c.requires.held.0 c.requires.held.1,
)

pub rename_partners-requires-clause-there : goal.rename_partners-requires-clause-there
rename_partners-requires-clause-there g c = there2 c.args.shape.now (g.O.Order.places c.args.order.now) c.args.nodes.now.list.items c.args.id.0
    c.split_place-at.result.0 c.first_link-first.result (c.first_link-first.result + c.half.result)
    (record {
      sound = c.requires.sound;
      there = c.requires.there;
      over = c.requires.over;
      first_is = c.first_link-first.ensures
          ∙ ap (first_in c.args.shape.now) c.ty-ty.ensures;
      end_is =
          ap (λ (k : ℕ). c.first_link-first.result + k) (c.half.ensures ∙ ap (half_in c.args.shape.now) c.ty-ty.ensures);
      inside =
          c.split_place-at.ensures;
    }) c.part.new.nodes.list.items c.in_ok-right.right.0 c.in_ok-right.ensures.parted c.in_ok-right.ensures.rows
    c.cut_partners.new.nodes.list.items c.cut_partners.ensures.cut c.cut_partners.ensures.rows c.cut_partners.ensures.grown

pub rename_partners-requires-clause-slots : goal.rename_partners-requires-clause-slots
rename_partners-requires-clause-slots g c = slots2 c.args.shape.now (g.O.Order.places c.args.order.now) c.args.nodes.now.list.items c.args.id.0
    c.split_place-at.result.0 c.first_link-first.result (c.first_link-first.result + c.half.result)
    (record {
      sound = c.requires.sound;
      there = c.requires.there;
      over = c.requires.over;
      first_is = c.first_link-first.ensures
          ∙ ap (first_in c.args.shape.now) c.ty-ty.ensures;
      end_is =
          ap (λ (k : ℕ). c.first_link-first.result + k) (c.half.ensures ∙ ap (half_in c.args.shape.now) c.ty-ty.ensures);
      inside =
          c.split_place-at.ensures;
    }) c.part.new.nodes.list.items c.in_ok-right.right.0 c.in_ok-right.ensures.parted c.in_ok-right.ensures.rows
    c.cut_partners.new.nodes.list.items c.cut_partners.ensures.cut c.cut_partners.ensures.rows c.cut_partners.ensures.grown

pub rename_partners-requires-clause-renamable : goal.rename_partners-requires-clause-renamable
rename_partners-requires-clause-renamable g c = renamable2 c.args.shape.now (g.O.Order.places c.args.order.now) c.args.nodes.now.list.items
    c.args.id.0 c.split_place-at.result.0 c.first_link-first.result (c.first_link-first.result + c.half.result)
    (record {
      sound = c.requires.sound;
      there = c.requires.there;
      over = c.requires.over;
      first_is = c.first_link-first.ensures
          ∙ ap (first_in c.args.shape.now) c.ty-ty.ensures;
      end_is =
          ap (λ (k : ℕ). c.first_link-first.result + k) (c.half.ensures ∙ ap (half_in c.args.shape.now) c.ty-ty.ensures);
      inside =
          c.split_place-at.ensures;
    }) c.part.new.nodes.list.items c.in_ok-right.right.0 c.in_ok-right.ensures.parted c.in_ok-right.ensures.rows
    c.cut_partners.new.nodes.list.items c.cut_partners.ensures.cut c.cut_partners.ensures.rows c.cut_partners.ensures.grown

pub rename_partners-requires-clause-linked : goal.rename_partners-requires-clause-linked
rename_partners-requires-clause-linked g c = linked2 c.args.shape.now (g.O.Order.places c.args.order.now) c.args.nodes.now.list.items c.args.id.0
    c.split_place-at.result.0 c.first_link-first.result (c.first_link-first.result + c.half.result)
    (record {
      sound = c.requires.sound;
      there = c.requires.there;
      over = c.requires.over;
      first_is = c.first_link-first.ensures
          ∙ ap (first_in c.args.shape.now) c.ty-ty.ensures;
      end_is =
          ap (λ (k : ℕ). c.first_link-first.result + k) (c.half.ensures ∙ ap (half_in c.args.shape.now) c.ty-ty.ensures);
      inside =
          c.split_place-at.ensures;
    }) c.part.new.nodes.list.items c.in_ok-right.right.0 c.in_ok-right.ensures.parted c.in_ok-right.ensures.rows
    c.cut_partners.new.nodes.list.items c.cut_partners.ensures.cut c.cut_partners.ensures.rows c.cut_partners.ensures.grown

pub queue_if_over-requires-clause-held : goal.queue_if_over-requires-clause-held
queue_if_over-requires-clause-held g c =
    let a = held_after c.args.shape.now (λ _. ⊥) c.part.new.nodes.list.items c.cut_partners.new.nodes.list.items c.args.queue.now
    c.cut_partners.new.queue (
      c.requires.held.0,
      queues1 c.args.shape.now (g.O.Order.places c.args.order.now) c.args.nodes.now.list.items
          c.args.id.0 c.split_place-at.result.0 c.first_link-first.result (c.first_link-first.result + c.half.result)
          (record {
            sound = c.requires.sound;
            there = c.requires.there;
            over = c.requires.over;
            first_is = c.first_link-first.ensures
                ∙ ap (first_in c.args.shape.now) c.ty-ty.ensures;
            end_is =
                ap (λ (k : ℕ). c.first_link-first.result + k) (c.half.ensures ∙ ap (half_in c.args.shape.now) c.ty-ty.ensures);
            inside =
                c.split_place-at.ensures;
          }) c.part.new.nodes.list.items c.in_ok-right.right.0 c.in_ok-right.ensures.parted c.in_ok-right.ensures.rows
          c.args.queue.now c.requires.held.0 c.requires.held.1,
    ) c.cut_partners.ensures.queue in (
      a.0,
      queues_links c.cut_partners.new.nodes.list.items c.rename_partners.new.nodes.list.items c.cut_partners.new.queue a.0
          c.rename_partners.ensures.same.count c.rename_partners.ensures.same.links a.1,
    )

pub queue_if_over-requires-2-clause-held : goal.queue_if_over-requires-2-clause-held
queue_if_over-requires-2-clause-held g c =
    let a = held_after c.args.shape.now (λ _. ⊥) c.part.new.nodes.list.items c.cut_partners.new.nodes.list.items c.args.queue.now
    c.cut_partners.new.queue (
      c.requires.held.0,
      queues1 c.args.shape.now (g.O.Order.places c.args.order.now) c.args.nodes.now.list.items
          c.args.id.0 c.split_place-at.result.0 c.first_link-first.result (c.first_link-first.result + c.half.result)
          (record {
            sound = c.requires.sound;
            there = c.requires.there;
            over = c.requires.over;
            first_is = c.first_link-first.ensures
                ∙ ap (first_in c.args.shape.now) c.ty-ty.ensures;
            end_is =
                ap (λ (k : ℕ). c.first_link-first.result + k) (c.half.ensures ∙ ap (half_in c.args.shape.now) c.ty-ty.ensures);
            inside =
                c.split_place-at.ensures;
          }) c.part.new.nodes.list.items c.in_ok-right.right.0 c.in_ok-right.ensures.parted c.in_ok-right.ensures.rows
          c.args.queue.now c.requires.held.0 c.requires.held.1,
    ) c.cut_partners.ensures.queue in
    held_after c.args.shape.now (λ i. i ≡ c.args.id.0) c.rename_partners.new.nodes.list.items c.queue_if_over.new.nodes.list.items
    c.cut_partners.new.queue c.queue_if_over.new.queue (
      a.0,
      queues_links c.cut_partners.new.nodes.list.items c.rename_partners.new.nodes.list.items c.cut_partners.new.queue a.0
          c.rename_partners.ensures.same.count c.rename_partners.ensures.same.links a.1,
    ) c.queue_if_over.ensures.queue

pub returns-clause-split : goal.returns-clause-split
returns-clause-split g c = (
  (rank (g.O.Order.places c.args.order.now)) c.split_place-at.result.0,
  split5 c.args.shape.now (g.O.Order.places c.args.order.now) c.args.nodes.now.list.items c.args.id.0 c.split_place-at.result.0
      c.first_link-first.result (c.first_link-first.result + c.half.result)
      (record {
        sound = c.requires.sound;
        there = c.requires.there;
        over = c.requires.over;
        first_is = c.first_link-first.ensures
            ∙ ap (first_in c.args.shape.now) c.ty-ty.ensures;
        end_is =
            ap (λ (k : ℕ). c.first_link-first.result + k) (c.half.ensures ∙ ap (half_in c.args.shape.now) c.ty-ty.ensures);
        inside =
            c.split_place-at.ensures;
      }) c.part.new.nodes.list.items c.in_ok-right.right.0 c.in_ok-right.ensures.parted c.in_ok-right.ensures.rows
      c.cut_partners.new.nodes.list.items c.cut_partners.ensures.cut c.cut_partners.ensures.rows c.cut_partners.ensures.grown
      c.rename_partners.new.nodes.list.items c.rename_partners.ensures.renamed c.rename_partners.ensures.rows c.rename_partners.ensures.same
      c.queue_if_over-2.new.nodes.list.items (c.queue_if_over-2.ensures.rows ∙ c.queue_if_over.ensures.rows)
      (c.queue_if_over-2.ensures.frames ∙ c.queue_if_over.ensures.frames),
)

pub returns-clause-sound : goal.returns-clause-sound
returns-clause-sound g c = sound5 c.args.shape.now (g.O.Order.places c.args.order.now) c.args.nodes.now.list.items c.args.id.0
    c.split_place-at.result.0 c.first_link-first.result (c.first_link-first.result + c.half.result)
    (record {
      sound = c.requires.sound;
      there = c.requires.there;
      over = c.requires.over;
      first_is = c.first_link-first.ensures
          ∙ ap (first_in c.args.shape.now) c.ty-ty.ensures;
      end_is =
          ap (λ (k : ℕ). c.first_link-first.result + k) (c.half.ensures ∙ ap (half_in c.args.shape.now) c.ty-ty.ensures);
      inside =
          c.split_place-at.ensures;
    }) c.part.new.nodes.list.items c.in_ok-right.right.0 c.in_ok-right.ensures.parted c.in_ok-right.ensures.rows
    c.cut_partners.new.nodes.list.items c.cut_partners.ensures.cut c.cut_partners.ensures.rows c.cut_partners.ensures.grown
    c.rename_partners.new.nodes.list.items c.rename_partners.ensures.renamed c.rename_partners.ensures.rows c.rename_partners.ensures.same
    c.queue_if_over-2.new.nodes.list.items (c.queue_if_over-2.ensures.rows ∙ c.queue_if_over.ensures.rows)
    (c.queue_if_over-2.ensures.frames ∙ c.queue_if_over.ensures.frames)

pub returns-clause-queue : goal.returns-clause-queue
returns-clause-queue g c = queue5 c.args.shape.now (g.O.Order.places c.args.order.now) c.args.nodes.now.list.items c.args.id.0
    c.split_place-at.result.0 c.first_link-first.result (c.first_link-first.result + c.half.result)
    (record {
      sound = c.requires.sound;
      there = c.requires.there;
      over = c.requires.over;
      first_is = c.first_link-first.ensures
          ∙ ap (first_in c.args.shape.now) c.ty-ty.ensures;
      end_is =
          ap (λ (k : ℕ). c.first_link-first.result + k) (c.half.ensures ∙ ap (half_in c.args.shape.now) c.ty-ty.ensures);
      inside =
          c.split_place-at.ensures;
    }) c.part.new.nodes.list.items c.in_ok-right.right.0 c.in_ok-right.ensures.parted c.in_ok-right.ensures.rows
    c.cut_partners.new.nodes.list.items c.cut_partners.ensures.cut c.cut_partners.ensures.rows c.cut_partners.ensures.grown
    c.rename_partners.new.nodes.list.items c.rename_partners.ensures.renamed c.rename_partners.ensures.rows c.rename_partners.ensures.same
    c.queue_if_over-2.new.nodes.list.items (c.queue_if_over-2.ensures.rows ∙ c.queue_if_over.ensures.rows)
    (c.queue_if_over-2.ensures.frames ∙ c.queue_if_over.ensures.frames) c.args.queue.now c.queue_if_over-2.new.queue
    (queue_steps c.args.shape.now c.part.new.nodes.list.items c.cut_partners.new.nodes.list.items c.rename_partners.new.nodes.list.items
    c.queue_if_over.new.nodes.list.items c.queue_if_over-2.new.nodes.list.items c.args.queue.now c.cut_partners.new.queue c.queue_if_over.new.queue
    c.queue_if_over-2.new.queue c.args.id.0 c.in_ok-right.right.0 c.cut_partners.ensures.queue c.rename_partners.ensures.same
    c.queue_if_over.ensures.rows c.queue_if_over.ensures.frames c.queue_if_over.ensures.queue c.queue_if_over-2.ensures.rows
    c.queue_if_over-2.ensures.frames c.queue_if_over-2.ensures.queue)

pub returns-clause-shows : goal.returns-clause-shows
returns-clause-shows g c = split_shows c.args.shape.now (g.O.Order.places c.args.order.now) c.args.nodes.now.list.items
    c.queue_if_over-2.new.nodes.list.items c.args.id.0 c.in_ok-right.right.0 ((rank (g.O.Order.places c.args.order.now)) c.split_place-at.result.0)
    c.requires.sound (split5 c.args.shape.now (g.O.Order.places c.args.order.now) c.args.nodes.now.list.items c.args.id.0 c.split_place-at.result.0
    c.first_link-first.result (c.first_link-first.result + c.half.result)
    (record {
      sound = c.requires.sound;
      there = c.requires.there;
      over = c.requires.over;
      first_is = c.first_link-first.ensures
          ∙ ap (first_in c.args.shape.now) c.ty-ty.ensures;
      end_is =
          ap (λ (k : ℕ). c.first_link-first.result + k) (c.half.ensures ∙ ap (half_in c.args.shape.now) c.ty-ty.ensures);
      inside =
          c.split_place-at.ensures;
    }) c.part.new.nodes.list.items c.in_ok-right.right.0 c.in_ok-right.ensures.parted c.in_ok-right.ensures.rows
    c.cut_partners.new.nodes.list.items c.cut_partners.ensures.cut c.cut_partners.ensures.rows c.cut_partners.ensures.grown
    c.rename_partners.new.nodes.list.items c.rename_partners.ensures.renamed c.rename_partners.ensures.rows c.rename_partners.ensures.same
    c.queue_if_over-2.new.nodes.list.items (c.queue_if_over-2.ensures.rows ∙ c.queue_if_over.ensures.rows)
    (c.queue_if_over-2.ensures.frames ∙ c.queue_if_over.ensures.frames))

pub returns-in_err-right-clause-shows : goal.returns-in_err-right-clause-shows
returns-in_err-right-clause-shows g c = shows_same (g.O.Order.places c.args.order.now) c.args.nodes.now.list.items c.part.new.nodes.list.items c.in_err-right.ensures.err

pub returns-clause-live : goal.returns-clause-live
returns-clause-live g c = split_live c.args.shape.now (g.O.Order.places c.args.order.now) c.args.nodes.now.list.items
    c.queue_if_over-2.new.nodes.list.items c.args.id.0 c.in_ok-right.right.0 ((rank (g.O.Order.places c.args.order.now)) c.split_place-at.result.0)
    (split5 c.args.shape.now (g.O.Order.places c.args.order.now) c.args.nodes.now.list.items c.args.id.0 c.split_place-at.result.0
    c.first_link-first.result (c.first_link-first.result + c.half.result)
    (record {
      sound = c.requires.sound;
      there = c.requires.there;
      over = c.requires.over;
      first_is = c.first_link-first.ensures
          ∙ ap (first_in c.args.shape.now) c.ty-ty.ensures;
      end_is =
          ap (λ (k : ℕ). c.first_link-first.result + k) (c.half.ensures ∙ ap (half_in c.args.shape.now) c.ty-ty.ensures);
      inside =
          c.split_place-at.ensures;
    }) c.part.new.nodes.list.items c.in_ok-right.right.0 c.in_ok-right.ensures.parted c.in_ok-right.ensures.rows
    c.cut_partners.new.nodes.list.items c.cut_partners.ensures.cut c.cut_partners.ensures.rows c.cut_partners.ensures.grown
    c.rename_partners.new.nodes.list.items c.rename_partners.ensures.renamed c.rename_partners.ensures.rows c.rename_partners.ensures.same
    c.queue_if_over-2.new.nodes.list.items (c.queue_if_over-2.ensures.rows ∙ c.queue_if_over.ensures.rows)
    (c.queue_if_over-2.ensures.frames ∙ c.queue_if_over.ensures.frames))

pub returns-in_err-right-clause-live : goal.returns-in_err-right-clause-live
returns-in_err-right-clause-live g c = live_same (g.O.Order.places c.args.order.now) c.args.nodes.now.list.items c.part.new.nodes.list.items c.in_err-right.ensures.err

pub returns-clause-named : goal.returns-clause-named
returns-clause-named g c = named_steps (g.O.Order.places c.args.order.now) c.args.nodes.now.list.items c.part.new.nodes.list.items
    c.cut_partners.new.nodes.list.items c.rename_partners.new.nodes.list.items c.queue_if_over.new.nodes.list.items
    c.queue_if_over-2.new.nodes.list.items c.args.queue.now c.cut_partners.new.queue c.queue_if_over.new.queue c.queue_if_over-2.new.queue c.args.id.0
    c.in_ok-right.right.0 (rank (g.O.Order.places c.args.order.now) c.split_place-at.result.0)
    (queues1 c.args.shape.now (g.O.Order.places c.args.order.now) c.args.nodes.now.list.items c.args.id.0 c.split_place-at.result.0
    c.first_link-first.result (c.first_link-first.result + c.half.result)
    (record {
      sound = c.requires.sound;
      there = c.requires.there;
      over = c.requires.over;
      first_is = c.first_link-first.ensures
          ∙ ap (first_in c.args.shape.now) c.ty-ty.ensures;
      end_is =
          ap (λ (k : ℕ). c.first_link-first.result + k) (c.half.ensures ∙ ap (half_in c.args.shape.now) c.ty-ty.ensures);
      inside =
          c.split_place-at.ensures;
    }) c.part.new.nodes.list.items c.in_ok-right.right.0 c.in_ok-right.ensures.parted c.in_ok-right.ensures.rows c.args.queue.now)
    (parted1 c.args.shape.now (g.O.Order.places c.args.order.now) c.args.nodes.now.list.items c.args.id.0 c.split_place-at.result.0
    c.first_link-first.result (c.first_link-first.result + c.half.result)
    (record {
      sound = c.requires.sound;
      there = c.requires.there;
      over = c.requires.over;
      first_is = c.first_link-first.ensures
          ∙ ap (first_in c.args.shape.now) c.ty-ty.ensures;
      end_is =
          ap (λ (k : ℕ). c.first_link-first.result + k) (c.half.ensures ∙ ap (half_in c.args.shape.now) c.ty-ty.ensures);
      inside =
          c.split_place-at.ensures;
    }) c.part.new.nodes.list.items c.in_ok-right.right.0 c.in_ok-right.ensures.parted c.in_ok-right.ensures.rows).z_holds
    c.cut_partners.ensures.named c.rename_partners.ensures.same c.queue_if_over.ensures.named c.queue_if_over-2.ensures.named
