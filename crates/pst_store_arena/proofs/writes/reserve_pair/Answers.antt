use Rattle.std.proofs.Common.{refl, inl, inr, arith}
use Rattle.pst_store_arena.proofs.WriteQueue.{is_node}
use Rattle.pst_store_arena.proofs.writes.reserve_pair.Goals as goal

pub reserve_row-requires : goal.reserve_row-requires
reserve_row-requires c = c.requires.there c.args.id.0 (inl refl)

pub reserve_row-requires-in-Some : goal.reserve_row-requires-in-Some
reserve_row-requires-in-Some c = omega (arith, c.reserve_row.ensures.same.count, c.requires.there c.in-Some.node.0 (inr (is_node c.args.led c.in-Some.node c.in-Some.is)))
