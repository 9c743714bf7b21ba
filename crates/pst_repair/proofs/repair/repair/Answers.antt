use Rattle.std.proofs.Common.{◌≡◌, ℕ, suc, ◌+◌, List, refl, sym, arith, subst}
use Rattle.pst_base.specs.declared.shape.TypeShape.{TypeShape}
use Rattle.pst_store_meaning.specs.Store.{Node as Seen}
use Rattle.pst_store_meaning.specs.Steps.{IsSplitStep, AreSplits}
use Rattle.pst_repair.specs.Seen.{seen}
use Rattle.pst_repair.proofs.SameLemmas.{one_split_more}
use Rattle.pst_repair.proofs.ShownLemmas.{shows_on, live_on}
use Rattle.pst_repair.specs.Repair.{splits_in}
use Rattle.pst_repair.proofs.repair.repair.Goals as goal

-- one split after others
split_after : (types : List TypeShape) (qs : List ℕ) (k : ℕ) (old mid new : List Seen) → AreSplits types qs k old mid → AreSplits types qs 1 mid new → AreSplits types qs (k + 1) old new
split_after types qs k old mid new e s =
    let next : suc k ≡ k + 1 = omega arith in
    subst (λ (j : ℕ). AreSplits types qs j old new) next (one_split_more types qs k old mid new e (subst (λ (ns : List Seen). IsSplitStep types qs mid ns) (sym s.2) s.1))

pub returns-in_err-split_next-clause-shows : goal.returns-in_err-split_next-clause-shows
returns-in_err-split_next-clause-shows g c = shows_on (g.O.Order.places c.args.order.now) c.args.nodes.now.list.items c.loop-splits.nodes.list.items
    c.split_next.new.nodes.list.items c.loop-splits.invariant.shows c.split_next.ensures.shows

pub returns-in_err-split_next-clause-live : goal.returns-in_err-split_next-clause-live
returns-in_err-split_next-clause-live g c = live_on (g.O.Order.places c.args.order.now) c.args.nodes.now.list.items c.loop-splits.nodes.list.items
    c.split_next.new.nodes.list.items c.loop-splits.invariant.live c.split_next.ensures.live

pub loop-splits-preserved : goal.loop-splits-preserved
loop-splits-preserved g c =
    let ps : List ℕ = g.O.Order.places c.args.order.now in
    let one : splits_in c.in_ok-split_next.field-0 ≡ 1 = rw c.if-branch.true refl in
    record {
      sound = c.split_next.ensures.sound;
      queued = c.split_next.ensures.queued;
      shows = shows_on ps c.args.nodes.now.list.items c.loop-splits.nodes.list.items c.split_next.new.nodes.list.items c.loop-splits.invariant.shows c.split_next.ensures.shows;
      live = live_on ps c.args.nodes.now.list.items c.loop-splits.nodes.list.items c.split_next.new.nodes.list.items c.loop-splits.invariant.live c.split_next.ensures.live;
      steps = split_after c.args.shape.now ps c.loop-splits.splits (seen c.args.nodes.now.list.items) (seen c.loop-splits.nodes.list.items)
          (seen c.split_next.new.nodes.list.items) c.loop-splits.invariant.steps
          (subst (λ (k : ℕ). AreSplits c.args.shape.now ps k (seen c.loop-splits.nodes.list.items) (seen c.split_next.new.nodes.list.items)) one c.in_ok-split_next.ensures.steps);
      potential = omega (arith, one, c.in_ok-split_next.ensures.splits, c.loop-splits.invariant.potential);
      count = omega (arith, one, c.in_ok-split_next.ensures.count, c.loop-splits.invariant.count);
    }

pub returns-clause-shows : goal.returns-clause-shows
returns-clause-shows g c = shows_on (g.O.Order.places c.args.order.now) c.args.nodes.now.list.items c.loop-splits.nodes.list.items
    c.split_next.new.nodes.list.items c.loop-splits.invariant.shows c.split_next.ensures.shows

pub returns-clause-live : goal.returns-clause-live
returns-clause-live g c = live_on (g.O.Order.places c.args.order.now) c.args.nodes.now.list.items c.loop-splits.nodes.list.items
    c.split_next.new.nodes.list.items c.loop-splits.invariant.live c.split_next.ensures.live
