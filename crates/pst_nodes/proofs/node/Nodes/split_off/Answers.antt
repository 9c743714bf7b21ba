use Rattle.std.proofs.Common.{◌≡◌, ◌<◌, ◌∙◌, length, refl, sym, subst, arith, List}
use Rattle.pst_order.specs.Places.{rank}
use Rattle.pst_nodes.specs.declared.node.Node.{Node}
use Rattle.pst_nodes.specs.Arena.{AreRows}
use Rattle.pst_nodes.specs.Changes.{IsCutInTwo}
use Rattle.pst_nodes.proofs.NodeLemmas.{is_row, here, cut_in_two_at, split_room}
use Rattle.pst_nodes.proofs.node.Nodes.split_off.Goals as goal

pub split_off-requires-clause-row : goal.split_off-requires-clause-row
split_off-requires-clause-row g c = is_row c.args.self.now.list.items c.args.id.0 c.index_mut-node.result.now c.requires.there
    c.index_mut-node.ensures.value (g.O.Order.places c.args.order.now) c.requires.rows

pub split_off-requires-clause-after : goal.split_off-requires-clause-after
split_off-requires-clause-after g c = here c.args.self.now.list.items c.args.id.0 c.index_mut-node.result.now c.requires.there
    c.index_mut-node.ensures.value (λ w. (rank (g.O.Order.places c.args.order.now)) w.lo.0 < (rank (g.O.Order.places c.args.order.now)) c.args.at.0)
    c.requires.after

pub split_off-requires-clause-before : goal.split_off-requires-clause-before
split_off-requires-clause-before g c = here c.args.self.now.list.items c.args.id.0 c.index_mut-node.result.now c.requires.there
    c.index_mut-node.ensures.value (λ w. (rank (g.O.Order.places c.args.order.now)) c.args.at.0 < (rank (g.O.Order.places c.args.order.now)) w.hi.0)
    c.requires.before

pub returns-clause-split : goal.returns-clause-split
returns-clause-split g c =
    let t = cut_in_two_at (g.O.Order.places c.args.order.now) c.args.self.now.list.items c.args.id.0 (record { 0 = c.len.result }) c.index_mut-node.result.now
    (record { header = c.set_later.new.self; row = c.split_off.new.self })
    (record { header = c.new-header.result; row = c.in_ok-row.row })
    c.requires.there c.index_mut-node.ensures.value c.args.at (omega (arith, c.len.ensures, c.args.self.now.list.ok.0)) c.in_ok-row.ensures.split c.set_later.ensures
    (c.new-header.ensures ∙ (rw (c.name.ensures, c.ty.ensures, c.later.ensures) refl)) c.in_ok-row.ensures.left c.in_ok-row.ensures.right c.requires.rows in
    subst (λ (ys : List Node). IsCutInTwo (g.O.Order.places c.args.order.now) c.args.self.now.list.items ys c.args.id.0 c.len.result c.args.at.0) (sym c.push_reserved.ensures.items) t.0

pub returns-clause-rows : goal.returns-clause-rows
returns-clause-rows g c =
    let t = cut_in_two_at (g.O.Order.places c.args.order.now) c.args.self.now.list.items c.args.id.0 (record { 0 = c.len.result }) c.index_mut-node.result.now
    (record { header = c.set_later.new.self; row = c.split_off.new.self })
    (record { header = c.new-header.result; row = c.in_ok-row.row })
    c.requires.there c.index_mut-node.ensures.value c.args.at (omega (arith, c.len.ensures, c.args.self.now.list.ok.0)) c.in_ok-row.ensures.split c.set_later.ensures
    (c.new-header.ensures ∙ (rw (c.name.ensures, c.ty.ensures, c.later.ensures) refl)) c.in_ok-row.ensures.left c.in_ok-row.ensures.right c.requires.rows in
    subst (λ (ys : List Node). AreRows (g.O.Order.places c.args.order.now) ys) (sym c.push_reserved.ensures.items) t.1

pub returns-clause-most : goal.returns-clause-most
returns-clause-most g c = λ d.
    let ns : List Node = c.args.self.now.list.items in
    let left : Node = record { header = c.set_later.new.self; row = c.split_off.new.self } in
    let right : Node = record { header = c.new-header.result; row = c.in_ok-row.row } in
    let last : c.len.result ≡ length ns = omega (arith, c.len.ensures, c.args.self.now.list.ok.0) in
    split_room ns c.args.id.0 c.len.result c.index_mut-node.result.now left right c.requires.there c.index_mut-node.ensures.value last
    c.push_reserved.new.self.items c.push_reserved.ensures.items c.in_ok-row.ensures.room d
