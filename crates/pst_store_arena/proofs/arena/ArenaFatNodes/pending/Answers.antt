use Rattle.pst_store_arena.proofs.WaitingLemmas.{pending_is}
use Rattle.pst_store_arena.specs.Kept.{Kept}
use Rattle.std.proofs.Common.{IsTrue, [], not, subst, ◌↔◌, ◌≡◌}
use Rattle.pst_store_arena.proofs.arena.ArenaFatNodes.pending.Goals as goal

pub returns : goal.returns
returns c = subst (λ (k : Kept). IsTrue (not c.is_empty.result) ↔ ¬ (k.noted.queue ≡ [])) c.self.view_is
    (pending_is c.self.inside.nodes.list.items c.self.inside.queue c.is_empty.result c.self.invariant c.is_empty.ensures)
