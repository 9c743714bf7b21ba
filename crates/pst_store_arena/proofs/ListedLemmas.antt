-- An arena of a list of nodes.
use Rattle.std.proofs.Common.{◌≡◌, ℕ, List, [], None, sym, subst, arith}
use Rattle.pst_base.specs.declared.shape.TypeShape.{TypeShape}
use Rattle.pst_nodes.specs.declared.links.Link.TheVariants.{Out}
use Rattle.pst_nodes.specs.declared.queue.Queue.{Queue}
use Rattle.pst_nodes.specs.declared.node.Node.{Node}
use Rattle.pst_nodes.specs.Arena.{link_at}
use Rattle.pst_repair.specs.Steps.{Queues}
use Rattle.pst_store_meaning.specs.Store.{Node as Seen}
use Rattle.pst_store_arena.specs.Calls.{AreWaiting, IsOverFull}
use Rattle.pst_store_arena.specs.Kept.{waiting_of}
use Rattle.pst_store_arena.proofs.WaitingLemmas.{waiting_none}

-- an empty queue, where each link is out
module _ (ns : List Node) (queue : Queue) (none : queue.ends ≡ None) (out : (i : ℕ) → link_at ns i ≡ Out) where
  out_queue : Queues ns queue []
  out_queue = record { ends = none; chain = tt; there = tt; apart = tt; others = λ i u. out i }

  pub out_waiting : waiting_of ns ≡ []
  out_waiting = waiting_none ns queue out_queue

-- none waits where none is over its capacity
pub none_over : (types : List TypeShape) (nodes : List Seen) (queue : List ℕ) → queue ≡ [] → ((i : ℕ) → IsOverFull types nodes i → ⊥) → AreWaiting types nodes queue
none_over types nodes queue none small =
    subst (λ (xs : List ℕ). AreWaiting types nodes xs) (sym none)
    (record { waits = λ i o. absurd (small i o); over = λ i c. absurd (omega (arith, c.1)) })
