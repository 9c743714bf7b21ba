use Rattle.std.proofs.Common.{ℕ, List, [], ◌∷◌, ◌++◌, sym, ◌∙◌, arith}
use Rattle.pst_nodes.specs.Queue.{tail_of}
use Rattle.pst_repair.specs.Steps.{Queues}
use Rattle.pst_repair.proofs.ShownLemmas.{shows_rows, shows_on, live_rows, live_on}
use Rattle.pst_repair.specs.Seen.{seen}
use Rattle.pst_repair.proofs.SameLemmas.{seen_links, seen_same, one_split_more}
use Rattle.pst_repair.proofs.StepLemmas.{splits_are_steps}
use Rattle.pst_repair.specs.Repair.{IsQueued}
use Rattle.pst_repair.proofs.RepairLemmas.{IsPopped, first_waits, sound_rows, sound_same, popped_some, split_queued, refused_held, refused_queued, last_waits, potential_rows}
use Rattle.pst_repair.proofs.repair.split_next.Given as given
use Rattle.pst_repair.proofs.repair.split_next.Goals as goal
use Rattle.pst_repair.proofs.repair.split_next.Goals.{After-pop-first, After-push}

-- the others still wait
abbrev rest : (g : given.Over) (c : After-pop-first g) → List ℕ
rest g c = tail_of c.requires.queued.0

popped : (g : given.Over) (c : After-pop-first g) → IsPopped c.args.shape.now c.pop-first.new.links.list.items c.pop-first.new.self (rest g c) c.in-Some.ends.first.0
popped g c =
    let q : IsQueued c.args.shape.now c.args.nodes.now.list.items c.args.queue.now c.requires.queued.0 = c.requires.queued.1 in
    popped_some c.args.shape.now c.args.nodes.now.list.items c.pop-first.new.links.list.items c.args.queue.now c.pop-first.new.self
    c.requires.queued.0 c.in-Some.ends.first q (first_waits c.requires.queued.0 c.in-Some.ends (sym c.in-Some.is ∙ q.held.ends))
    c.pop-first.ensures.rest.0 c.pop-first.ensures.rest.1 (c.pop-first.ensures.held c.requires.queued.0 q.held)

-- after a refusal the first node waits again, as the last one
waits_again : (g : given.Over) (c : After-push g) → IsPopped c.args.shape.now c.pop-first.new.links.list.items c.pop-first.new.self (tail_of c.requires.queued.0) c.in-Some.ends.first.0 →
    IsQueued c.args.shape.now c.push.new.links.list.items c.push.new.self (tail_of c.requires.queued.0 ++ c.in-Some.ends.first.0 ∷ [])
waits_again g c p =
    let tl : List ℕ = tail_of c.requires.queued.0 in
    let h : Queues c.split.new.nodes.list.items c.split.new.queue tl =
    refused_held c.args.shape.now c.pop-first.new.links.list.items c.split.new.nodes.list.items c.pop-first.new.self c.split.new.queue tl
    c.in-Some.ends.first.0 p c.in-Err.ensures.err_nodes c.in-Err.ensures.err_queue in
    refused_queued c.args.shape.now c.pop-first.new.links.list.items c.split.new.nodes.list.items c.push.new.links.list.items c.pop-first.new.self
    c.push.new.self tl c.in-Some.ends.first.0 p c.in-Err.ensures.err_nodes c.push.ensures.rest.0 c.push.ensures.rest.1 (c.push.ensures.held tl h)

pub split-requires-clause-sound : goal.split-requires-clause-sound
split-requires-clause-sound g c = sound_rows c.args.shape.now (g.O.Order.places c.args.order.now) c.args.nodes.now.list.items
    c.pop-first.new.links.list.items c.pop-first.ensures.rest.0 c.pop-first.ensures.rest.1 c.requires.sound

pub push-requires-clause-held : goal.push-requires-clause-held
push-requires-clause-held g c =
    let s = (goal.at.push-requires-clause-held g c).After-pop-first in (
      rest g s,
      refused_held c.args.shape.now c.pop-first.new.links.list.items c.split.new.nodes.list.items c.pop-first.new.self c.split.new.queue
          (rest g s) c.in-Some.ends.first.0 (popped g s) c.in-Err.ensures.err_nodes c.in-Err.ensures.err_queue,
    )

pub returns-in-Ok-clause-queued : goal.returns-in-Ok-clause-queued
returns-in-Ok-clause-queued g c =
    let s = (goal.at.returns-in-Ok-clause-queued g c).After-pop-first in
    split_queued c.args.shape.now c.pop-first.new.links.list.items c.split.new.nodes.list.items c.pop-first.new.self c.split.new.queue (rest g s)
    c.in-Some.ends.first.0 c.in-Ok.field-0.0 (popped g s) c.in-Ok.ensures.queue c.in-Ok.ensures.split.1.grown

pub returns-in-Ok-clause-steps : goal.returns-in-Ok-clause-steps
returns-in-Ok-clause-steps g c =
    let ps : List ℕ = g.O.Order.places c.args.order.now in
    one_split_more c.args.shape.now ps 0 (seen c.args.nodes.now.list.items) (seen c.pop-first.new.links.list.items) (seen c.split.new.nodes.list.items)
    (seen_links c.args.nodes.now.list.items c.pop-first.new.links.list.items c.pop-first.ensures.rest.0 c.pop-first.ensures.rest.1)
    (splits_are_steps c.args.shape.now ps c.pop-first.new.links.list.items c.split.new.nodes.list.items c.in-Some.ends.first.0 c.in-Ok.field-0.0
    c.in-Ok.ensures.split.0 c.in-Ok.ensures.split.1 c.in-Ok.ensures.sound)

pub returns-in-Ok-clause-shows : goal.returns-in-Ok-clause-shows
returns-in-Ok-clause-shows g c =
    let ps : List ℕ = g.O.Order.places c.args.order.now in
    shows_on ps c.args.nodes.now.list.items c.pop-first.new.links.list.items c.split.new.nodes.list.items
    (shows_rows ps c.args.nodes.now.list.items c.pop-first.new.links.list.items c.pop-first.ensures.rest.0 c.pop-first.ensures.rest.1) c.split.ensures.shows

pub returns-in-Ok-clause-live : goal.returns-in-Ok-clause-live
returns-in-Ok-clause-live g c =
    let ps : List ℕ = g.O.Order.places c.args.order.now in
    live_on ps c.args.nodes.now.list.items c.pop-first.new.links.list.items c.split.new.nodes.list.items
    (live_rows ps c.args.nodes.now.list.items c.pop-first.new.links.list.items c.pop-first.ensures.rest.0 c.pop-first.ensures.rest.1) c.split.ensures.live

pub returns-in-Ok-clause-splits : goal.returns-in-Ok-clause-splits
returns-in-Ok-clause-splits g c = omega (
  arith,
  c.in-Ok.ensures.split.1.potential,
  potential_rows c.args.shape.now c.args.nodes.now.list.items c.pop-first.new.links.list.items c.pop-first.ensures.rest.0 c.pop-first.ensures.rest.1,
)

pub returns-in-Err-clause-sound : goal.returns-in-Err-clause-sound
returns-in-Err-clause-sound g c =
    let ps : List ℕ = g.O.Order.places c.args.order.now in
    sound_rows c.args.shape.now ps c.split.new.nodes.list.items c.push.new.links.list.items c.push.ensures.rest.0 c.push.ensures.rest.1
    (sound_same c.args.shape.now ps c.pop-first.new.links.list.items c.split.new.nodes.list.items c.in-Err.ensures.err_nodes
    (sound_rows c.args.shape.now ps c.args.nodes.now.list.items c.pop-first.new.links.list.items c.pop-first.ensures.rest.0
    c.pop-first.ensures.rest.1 c.requires.sound))

pub returns-in-Err-clause-queued : goal.returns-in-Err-clause-queued
returns-in-Err-clause-queued g c = (tail_of c.requires.queued.0 ++ c.in-Some.ends.first.0 ∷ [], waits_again g c (popped g (goal.at.returns-in-Err-clause-queued g c).After-pop-first))

pub returns-in-Err-clause-shows : goal.returns-in-Err-clause-shows
returns-in-Err-clause-shows g c =
    let ps : List ℕ = g.O.Order.places c.args.order.now in
    shows_on ps c.args.nodes.now.list.items c.pop-first.new.links.list.items c.push.new.links.list.items
    (shows_rows ps c.args.nodes.now.list.items c.pop-first.new.links.list.items c.pop-first.ensures.rest.0 c.pop-first.ensures.rest.1)
    (shows_on ps c.pop-first.new.links.list.items c.split.new.nodes.list.items c.push.new.links.list.items c.split.ensures.shows
    (shows_rows ps c.split.new.nodes.list.items c.push.new.links.list.items c.push.ensures.rest.0 c.push.ensures.rest.1))

pub returns-in-Err-clause-live : goal.returns-in-Err-clause-live
returns-in-Err-clause-live g c =
    let ps : List ℕ = g.O.Order.places c.args.order.now in
    live_on ps c.args.nodes.now.list.items c.pop-first.new.links.list.items c.push.new.links.list.items
    (live_rows ps c.args.nodes.now.list.items c.pop-first.new.links.list.items c.pop-first.ensures.rest.0 c.pop-first.ensures.rest.1)
    (live_on ps c.pop-first.new.links.list.items c.split.new.nodes.list.items c.push.new.links.list.items c.split.ensures.live
    (live_rows ps c.split.new.nodes.list.items c.push.new.links.list.items c.push.ensures.rest.0 c.push.ensures.rest.1))

pub returns-in-Err-clause-refused : goal.returns-in-Err-clause-refused
returns-in-Err-clause-refused g c =
    seen_links c.split.new.nodes.list.items c.push.new.links.list.items c.push.ensures.rest.0 c.push.ensures.rest.1
    ∙ seen_same c.pop-first.new.links.list.items c.split.new.nodes.list.items c.in-Err.ensures.err_nodes
    ∙ seen_links c.args.nodes.now.list.items c.pop-first.new.links.list.items c.pop-first.ensures.rest.0 c.pop-first.ensures.rest.1

pub returns-in-Err-clause-waiting : goal.returns-in-Err-clause-waiting
returns-in-Err-clause-waiting g c =
    let q : IsQueued c.args.shape.now c.push.new.links.list.items c.push.new.self (tail_of c.requires.queued.0 ++ c.in-Some.ends.first.0 ∷ []) =
    waits_again g c (popped g (goal.at.returns-in-Err-clause-waiting g c).After-pop-first) in
    (c.in-Some.ends.first.0, q.over c.in-Some.ends.first.0 (last_waits (tail_of c.requires.queued.0) c.in-Some.ends.first.0))
