use Rattle.pst_store_arena.proofs.HeldLemmas.{all_held, repaired_first, repaired_held}
use Rattle.pst_store_arena.proofs.WaitingLemmas.{waiting_none}
use Rattle.pst_store_arena.specs.Calls.{arena_at}
use Rattle.pst_store_arena.specs.Kept.{noted_of}
use Rattle.pst_repair.proofs.SeenLemmas.{seen_count}
use Rattle.pst_repair.specs.Seen.{seen}
use Rattle.pst_store_meaning.specs.Store.{AreAllHeld, Noted}
use Rattle.pst_nodes.specs.declared.node.Node.{Node}
use Rattle.pst_repair.proofs.RoomLemmas.{if_ok_on, on_ok_of}
use Rattle.std.proofs.Common.{List, length, sym, ℕ, ◌∙◌, ◌≡◌}
use Rattle.pst_store_arena.proofs.repairing.repair_and_hold.Goals as goal

pub returns-in_err-repair-clause-held : goal.returns-in_err-repair-clause-held
returns-in_err-repair-clause-held g c =
    repaired_held c.args.shape.now (g.O.Order.places c.args.order.now) c.args.nodes.now.list.items c.repair.new.nodes.list.items c.args.roots.now
    c.args.looked_at.now c.repair.ensures.steps c.requires.held

pub hold_new-requires-clause-first : goal.hold_new-requires-clause-first
hold_new-requires-clause-first g c =
    repaired_first c.args.shape.now (g.O.Order.places c.args.order.now) c.args.nodes.now.list.items c.repair.new.nodes.list.items c.args.roots.now
    c.args.looked_at.now c.repair.ensures.steps c.requires.held c.requires.first

pub hold_new-requires-clause-held : goal.hold_new-requires-clause-held
hold_new-requires-clause-held g c =
    repaired_held c.args.shape.now (g.O.Order.places c.args.order.now) c.args.nodes.now.list.items c.repair.new.nodes.list.items c.args.roots.now
    c.args.looked_at.now c.repair.ensures.steps c.requires.held

pub returns-clause-rested : goal.returns-clause-rested
returns-clause-rested g c = on_ok_of c.hold_new.result (waiting_none c.repair.new.nodes.list.items c.repair.new.queue c.in_ok-repair.ensures.empty)

pub returns-clause-all : goal.returns-clause-all
returns-clause-all g c =
    let qs : List ℕ = g.O.Order.places c.args.order.now in
    let ns : List Node = c.repair.new.nodes.list.items in
    let noted : Noted = noted_of ns c.hold_new.new.roots c.hold_new.new.looked_at in
    if_ok_on c.hold_new.result {P = λ _. c.hold_new.new.looked_at ≡ length ns} {Q = λ _. AreAllHeld (arena_at qs (seen ns)) noted}
    (λ _ e. all_held (arena_at qs (seen ns)) noted (e ∙ sym (seen_count ns)) c.hold_new.ensures.held) c.hold_new.ensures.all
