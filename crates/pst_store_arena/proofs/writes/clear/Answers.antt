use Rattle.std.proofs.Common.{sym, ◌∙◌}
use Rattle.pst_order.specs.Places.{rank}
use Rattle.pst_store_arena.proofs.WriteLemmas.{cleared_then, cleared_else}
use Rattle.pst_store_arena.proofs.writes.clear.Goals as goal

pub returns-then-is_some : goal.returns-then-is_some
returns-then-is_some g c = cleared_then (g.O.Order.places c.args.order.now) c.args.id.0 c.args.field.0
    (rank (g.O.Order.places c.args.order.now) c.args.at.begin.0) c.args.nodes.now.list.items c.unlink.new.self.list.items c.args.led
    (sym c.is_some.ensures ∙ c.if-is_some.true)
    c.requires.there c.requires.rows c.requires.mirrored c.unlink.ensures.rows c.unlink.ensures.mirrored c.requires.led c.unlink.ensures.unlinked

pub returns-else-is_some : goal.returns-else-is_some
returns-else-is_some g c = cleared_else (g.O.Order.places c.args.order.now) c.args.id.0 c.args.field.0
    (rank (g.O.Order.places c.args.order.now) c.args.at.begin.0) c.args.nodes.now.list.items c.args.led (sym c.is_some.ensures ∙ c.if-is_some.false)
    c.requires.rows c.requires.mirrored c.requires.led
