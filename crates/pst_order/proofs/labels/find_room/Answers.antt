use Rattle.std.proofs.Common.{◌≡◌, ℕ, ◌+◌, ◌-◌, ◌<◌, ◌≤◌, length, get_or, List, arith, refl, sym, ◌∙◌, ap, subst}
use Rattle.pst_order.specs.Labels.{circle, ahead as way, label_of, reach, walk}
use Rattle.pst_order.proofs.NumberLemmas.{ahead_low}
use Rattle.pst_order.proofs.ListLemmas.{AreBelow-get, length-walk}
use Rattle.pst_order.proofs.RingLemmas.{label_low}
use Rattle.pst_order.proofs.StepLemmas.{reach_from, IsSearched, search_on, search_end, walk_on, head_is}
use Rattle.pst_order.proofs.labels.find_room.Goals as goal

pub bounds-labels-at : goal.bounds-labels-at
bounds-labels-at c = omega (arith, c.requires.same, AreBelow-get (length c.args.next.now) c.args.next.now c.args.place c.requires.inside c.requires.place)

pub ahead-width-requires-clause-a : goal.ahead-width-requires-clause-a
ahead-width-requires-clause-a c = label_low c.args.labels.now c.args.place c.requires.low

pub ahead-width-requires-clause-b : goal.ahead-width-requires-clause-b
ahead-width-requires-clause-b c = label_low c.args.labels.now (get_or c.args.next.now c.args.place 0) c.requires.low

pub loop-width-init : goal.loop-width-init
loop-width-init c =
    let qs : List ℕ = walk c.args.next.now (length c.args.next.now) (get_or c.args.next.now c.args.place 0) in
    record {
      some = omega arith;
      within = reach_from c.args.labels.now (label_of c.args.labels.now c.args.place) qs 1;
      here = head_is c.args.next.now (length c.args.next.now) (get_or c.args.next.now c.args.place 0) (omega (arith, c.requires.place));
      there = AreBelow-get (length c.args.next.now) c.args.next.now c.args.place c.requires.inside c.requires.place;
      wide = c.ahead-width.ensures.result;
      rest = refl;
      start = refl;
    }

pub bounds-labels-at-in-loop-width : goal.bounds-labels-at-in-loop-width
bounds-labels-at-in-loop-width c = omega (arith, c.requires.same, AreBelow-get (length c.args.next.now) c.args.next.now c.loop-width.at c.requires.inside c.loop-width.invariant.there)

pub ahead-width-requires-in-loop-width-clause-a : goal.ahead-width-requires-in-loop-width-clause-a
ahead-width-requires-in-loop-width-clause-a c = label_low c.args.labels.now c.args.place c.requires.low

pub ahead-width-requires-in-loop-width-clause-b : goal.ahead-width-requires-in-loop-width-clause-b
ahead-width-requires-in-loop-width-clause-b c = label_low c.args.labels.now (get_or c.args.next.now c.loop-width.at 0) c.requires.low

pub loop-width-smaller : goal.loop-width-smaller
loop-width-smaller c =
    let qs : List ℕ = walk c.args.next.now (length c.args.next.now) (get_or c.args.next.now c.args.place 0) in
    let a : ℕ = label_of c.args.labels.now c.args.place in
    let n : length qs ≡ length c.args.next.now = length-walk c.args.next.now (length c.args.next.now) (get_or c.args.next.now c.args.place 0) in
    let i = c.loop-width.invariant in
    let s : IsSearched c.args.labels.now a qs c.loop-width.steps =
    search_on c.args.labels.now a qs c.loop-width.steps c.loop-width.at c.loop-width.width i.some (omega (arith, n, i.within, c.requires.found))
    i.rest i.here i.wide c.loop-width-test.true in
    let g : length c.args.next.now - (c.loop-width.steps + 1) < length c.args.next.now - c.loop-width.steps = omega (arith, s.within, c.requires.found) in
    g

pub loop-width-preserved : goal.loop-width-preserved
loop-width-preserved c =
    let qs : List ℕ = walk c.args.next.now (length c.args.next.now) (get_or c.args.next.now c.args.place 0) in
    let a : ℕ = label_of c.args.labels.now c.args.place in
    let n : length qs ≡ length c.args.next.now = length-walk c.args.next.now (length c.args.next.now) (get_or c.args.next.now c.args.place 0) in
    let i = c.loop-width.invariant in
    let s : IsSearched c.args.labels.now a qs c.loop-width.steps =
    search_on c.args.labels.now a qs c.loop-width.steps c.loop-width.at c.loop-width.width i.some (omega (arith, n, i.within, c.requires.found))
    i.rest i.here i.wide c.loop-width-test.true in
    record {
      some = omega arith;
      within = s.within;
      here = walk_on c.args.next.now (length c.args.next.now) (get_or c.args.next.now c.args.place 0) c.loop-width.steps c.loop-width.at i.some (omega (arith, s.within, c.requires.found)) i.here;
      there = AreBelow-get (length c.args.next.now) c.args.next.now c.loop-width.at c.requires.inside i.there;
      wide = c.ahead-width-in-loop-width.ensures.result;
      rest = s.rest;
      start = refl;
    }

pub returns-clause-steps : goal.returns-clause-steps
returns-clause-steps c =
    let qs : List ℕ = walk c.args.next.now (length c.args.next.now) (get_or c.args.next.now c.args.place 0) in
    let n : length qs ≡ length c.args.next.now = length-walk c.args.next.now (length c.args.next.now) (get_or c.args.next.now c.args.place 0) in
    let i = c.loop-width.invariant in
    search_end c.args.labels.now (label_of c.args.labels.now c.args.place) qs c.loop-width.steps c.loop-width.at c.loop-width.width i.some
    (omega (arith, n, i.within, c.requires.found)) i.rest i.here i.wide c.loop-width-test.false

pub returns-clause-width : goal.returns-clause-width
returns-clause-width c =
    let qs : List ℕ = walk c.args.next.now (length c.args.next.now) (get_or c.args.next.now c.args.place 0) in
    let a : ℕ = label_of c.args.labels.now c.args.place in
    let n : length qs ≡ length c.args.next.now = length-walk c.args.next.now (length c.args.next.now) (get_or c.args.next.now c.args.place 0) in
    let i = c.loop-width.invariant in
    let e : c.loop-width.steps ≡ reach c.args.labels.now a qs 1 =
    search_end c.args.labels.now a qs c.loop-width.steps c.loop-width.at c.loop-width.width i.some (omega (arith, n, i.within, c.requires.found))
    i.rest i.here i.wide c.loop-width-test.false in
    i.wide ∙ (ap (λ (t : ℕ). way a (label_of c.args.labels.now t)) i.here ∙ ap (λ (t : ℕ). way a (label_of c.args.labels.now (get_or qs (t - 1) 0))) e)

pub returns-clause-low : goal.returns-clause-low
returns-clause-low c =
    let i = c.loop-width.invariant in
    subst (λ (t : ℕ). t ≤ circle) (sym i.wide) (ahead_low (label_of c.args.labels.now c.args.place) (label_of c.args.labels.now c.loop-width.at)
    (label_low c.args.labels.now c.args.place c.requires.low) (label_low c.args.labels.now c.loop-width.at c.requires.low))
