use Rattle.std.proofs.Common.{◌≡◌}
use Rattle.pst_repair.specs.Seen.{seen}
use Rattle.pst_store_meaning.specs.Store.{AreHeld}
use Rattle.pst_store_arena.specs.Calls.{arena_at}
use Rattle.pst_store_arena.specs.Kept.{noted_of}
use Rattle.pst_store_arena.proofs.repairing.hold_new.Given as goal

abbrev pub invariant-loop-index : goal.invariant-loop-index
invariant-loop-index g l = record { same : l.looked_at ≡ l.index; held : AreHeld (arena_at (g.O.Order.places l.order) (seen l.nodes.list.items)) (noted_of l.nodes.list.items l.roots l.index) }
