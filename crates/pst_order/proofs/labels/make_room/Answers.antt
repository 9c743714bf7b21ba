use Rattle.std.proofs.Common.{◌≡◌, ℕ, ◌+◌, ◌-◌, ◌<◌, ◌/◌, ◌%◌, length, get_or, take, List, arith, ◌∙◌, ap, ap₂}
use Rattle.pst_order.specs.Labels.{circle, ahead as way, label_of, spread as spread_labels, with_room, gap, walk}
use Rattle.pst_order.proofs.ListLemmas.{AreBelow-get}
use Rattle.pst_order.proofs.RingLemmas.{label_low}
use Rattle.pst_order.proofs.StepLemmas.{head_is}
use Rattle.pst_order.proofs.labels.make_room.Goals as goal

pub spread-requires-clause-first : goal.spread-requires-clause-first
spread-requires-clause-first c = AreBelow-get (length c.args.next.now) c.args.next.now c.args.place c.requires.inside c.requires.place

pub spread-requires-clause-start : goal.spread-requires-clause-start
spread-requires-clause-start c = label_low c.args.labels.now c.args.place c.requires.low

pub bounds-labels-first : goal.bounds-labels-first
bounds-labels-first c =
    let l : get_or c.args.next.now c.args.place 0 < length c.args.next.now = AreBelow-get (length c.args.next.now) c.args.next.now c.args.place c.requires.inside c.requires.place in
    omega (arith, l, c.requires.same, c.spread.auto.labels)

pub ahead-gap-requires-clause-a : goal.ahead-gap-requires-clause-a
ahead-gap-requires-clause-a c = label_low c.args.labels.now c.args.place c.requires.low

pub ahead-gap-requires-clause-b : goal.ahead-gap-requires-clause-b
ahead-gap-requires-clause-b c = label_low c.spread.new.labels (get_or c.args.next.now c.args.place 0) c.spread.ensures.low

pub shifted-requires-clause-a : goal.shifted-requires-clause-a
shifted-requires-clause-a c = label_low c.args.labels.now c.args.place c.requires.low

pub returns-clause-result : goal.returns-clause-result
returns-clause-result c =
    let labels : List ℕ = c.args.labels.now in
    let a : ℕ = label_of labels c.args.place in
    let first : ℕ = get_or c.args.next.now c.args.place 0 in
    let qs : List ℕ = walk c.args.next.now (length c.args.next.now) first in
    let h : first ≡ get_or qs 0 0 = head_is c.args.next.now (length c.args.next.now) first (omega (arith, c.requires.place)) in
    let r : c.spread.new.labels ≡ with_room labels qs c.args.place =
    c.spread.ensures.spread ∙ ap₂ (λ (j w : ℕ). spread_labels labels (take (j - 1) qs) a w j 1) c.find_room-room.ensures.steps c.find_room-room.ensures.width in
    let g : c.ahead-gap.result ≡ gap labels qs c.args.place =
    c.ahead-gap.ensures.result ∙ ap₂ (λ (ls : List ℕ) (q : ℕ). way a (label_of ls q)) r h in
    c.shifted.ensures.result ∙ ap (λ (t : ℕ). (a + t / 2) % circle) g
