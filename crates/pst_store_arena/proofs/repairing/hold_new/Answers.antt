use Rattle.pst_store_arena.proofs.HeldLemmas.{held_with}
use Rattle.pst_store_arena.specs.Calls.{arena_at}
use Rattle.pst_store_arena.specs.Kept.{noted_of}
use Rattle.pst_repair.proofs.SeenLemmas.{seen_count}
use Rattle.pst_repair.specs.Seen.{seen}
use Rattle.pst_nodes.specs.declared.node.Node.{Node}
use Rattle.std.proofs.Common.{List, arith, length, refl, suc, ℕ, ◌+◌, ◌≡◌, ◌≤◌}
use Rattle.pst_store_arena.proofs.repairing.hold_new.Goals as goal

pub loop-index-init : goal.loop-index-init
loop-index-init g c = record { same = refl; held = c.requires.held }

pub hold-requires-clause-held : goal.hold-requires-clause-held
hold-requires-clause-held g c = c.loop-index.invariant.held

pub returns-in_err-hold-clause-held : goal.returns-in_err-hold-clause-held
returns-in_err-hold-clause-held g c =
    let qs : List ℕ = g.O.Order.places c.args.order.now in
    let ns : List Node = c.args.nodes.now.list.items in
    held_with (arena_at qs (seen ns)) (noted_of ns c.hold.new.roots c.loop-index.index) (noted_of ns c.hold.new.roots c.loop-index.looked_at) refl c.loop-index.invariant.same c.in_err-hold.ensures.err

pub loop-index-preserved : goal.loop-index-preserved
loop-index-preserved g c =
    let qs : List ℕ = g.O.Order.places c.args.order.now in
    let ns : List Node = c.args.nodes.now.list.items in
    record {
      same = refl;
      held = held_with (arena_at qs (seen ns)) (noted_of ns c.hold.new.roots (suc c.loop-index.index))
          (noted_of ns c.hold.new.roots (c.loop-index.index + 1)) refl (omega arith) c.in_ok-hold.ensures.held;
    }

pub returns-clause-held : goal.returns-clause-held
returns-clause-held g c =
    let qs : List ℕ = g.O.Order.places c.args.order.now in
    let ns : List Node = c.args.nodes.now.list.items in
    held_with (arena_at qs (seen ns)) (noted_of ns c.loop-index.roots c.loop-index.index) (noted_of ns c.loop-index.roots c.loop-index.looked_at) refl
    c.loop-index.invariant.same c.loop-index.invariant.held

pub returns-clause-all : goal.returns-clause-all
returns-clause-all g c =
    let ns : List Node = c.args.nodes.now.list.items in
    let few : c.loop-index.index ≤ length ns = omega (arith, c.loop-index.invariant.held.seen, seen_count ns) in
    let end : c.count-index-end.result ≡ length ns = c.count-index-end.ensures in
    omega (arith, c.loop-index.invariant.same, c.loop-index-test.false, few, end)
