-- The queue after a write: the nodes over their capacity wait, and no others.
use Rattle.std.proofs.Common.{◌≡◌, ℕ, ◌<◌, true, List, ◌++◌, length, Option, Some, None, refl, sym, ◌∙◌, subst, ⊎_elim, ◌⊎◌, inl, inr, arith}
use Rattle.std.proofs.lemmas.Bool.{or_cases}
use Rattle.pst_base.specs.declared.names.NodeId.{NodeId}
use Rattle.pst_base.specs.declared.shape.TypeShape.{TypeShape}
use Rattle.pst_nodes.specs.Queue.{waits}
use Rattle.pst_nodes.specs.declared.queue.Queue.{Queue}
use Rattle.pst_nodes.specs.declared.node.Node.{Node}
use Rattle.pst_nodes.specs.Arena.{rows_of, frames_of, link_at, IsTyped}
use Rattle.pst_nodes.specs.Changes.{AreSameNodes}
use Rattle.pst_repair.specs.Load.{IsOver, stamped_at, half_at}
use Rattle.pst_repair.specs.Steps.{AreGrown, KeepsQueue, WaitsIfOver}
use Rattle.pst_repair.proofs.LoadLemmas.{grown_same, half_same, over_grown, over_same, queue_on, waits-append}
use Rattle.pst_repair.proofs.CutLemmas.{all_typed, queues_links, same_count}
use Rattle.pst_repair.specs.Repair.{IsQueued}
use Rattle.pst_repair.proofs.RepairLemmas.{over_nodes, over_nodes'}
use Rattle.pst_store_arena.specs.Writes.{IsNode, IsOneOf}

-- ---- other links, the same nodes

pub typed_rows : (types : List TypeShape) (old new : List Node) → rows_of new ≡ rows_of old → frames_of new ≡ frames_of old
    → ((i : ℕ) → i < length old → IsTyped types old i) → (i : ℕ) → i < length new → IsTyped types new i
typed_rows types old new rows frames h = all_typed 0 types old new (grown_same types old new (same_count old new rows) rows frames) h

pub over_rows : (types : List TypeShape) (old new : List Node) → rows_of new ≡ rows_of old → frames_of new ≡ frames_of old → (i : ℕ) → IsOver types old i → IsOver types new i
over_rows types old new rows frames i o = over_same types new old (sym rows) (sym frames) i o

-- ---- which nodes are asked for

queue_asked : (asked asked' : ℕ → Type 0) (types : List TypeShape) (old new : List Node) (queue queue' : Queue) → ((i : ℕ) → asked' i → asked i)
    → KeepsQueue asked types old new queue queue' → KeepsQueue asked' types old new queue queue'
queue_asked asked asked' types old new queue queue' to k xs h =
    let q = k xs h in (q.0, q.1, λ i o. q.2 i (⊎_elim (λ (a : asked' i). inl (to i a)) (λ (w : WaitsIfOver types old xs i). inr w) o))

node_is : (led : Option NodeId) (y : NodeId) → led ≡ Some y → (i : ℕ) → IsNode led i → i ≡ y.0
node_is led y e i h = subst (λ (l : Option NodeId). IsNode l i) e h

node_none : (led : Option NodeId) → ((y : NodeId) → led ≡ Some y → ⊥) → (i : ℕ) → IsNode led i → ⊥
node_none None away i h = absurd h
node_none (Some y) away i h = away y refl

pub is_node : (led : Option NodeId) (y : NodeId) → led ≡ Some y → IsNode led y.0
is_node led y e = subst (λ (l : Option NodeId). IsNode l y.0) (sym e) refl

-- a node alone is queued, since there is no other one
pub queue_first : (types : List TypeShape) (old new : List Node) (queue queue' : Queue) (x : ℕ) (led : Option NodeId)
    → ((y : NodeId) → led ≡ Some y → ⊥) → KeepsQueue (λ i. i ≡ x) types old new queue queue' → KeepsQueue (IsOneOf x led) types old new queue queue'
queue_first types old new queue queue' x led away k =
    queue_asked (λ i. i ≡ x) (IsOneOf x led) types old new queue queue' (λ i o. ⊎_elim (λ (e : i ≡ x). e) (λ (n : IsNode led i). absurd (node_none led away i n)) o) k

pub queue_both : (types : List TypeShape) (old mid new : List Node) (q0 q1 q2 : Queue) (x : ℕ) (led : Option NodeId) (y : NodeId) → led ≡ Some y
    → rows_of new ≡ rows_of mid → frames_of new ≡ frames_of mid →
    KeepsQueue (λ i. i ≡ x) types old mid q0 q1 → KeepsQueue (λ i. i ≡ y.0) types mid new q1 q2 → KeepsQueue (IsOneOf x led) types old new q0 q2
queue_both types old mid new q0 q1 q2 x led y e rows frames a b =
    queue_asked (λ i. (i ≡ x) ⊎ (i ≡ y.0)) (IsOneOf x led) types old new q0 q2
    (λ i o. ⊎_elim (λ (q : i ≡ x). inl q) (λ (n : IsNode led i). inr (node_is led y e i n)) o)
    (queue_on (λ i. i ≡ x) (λ i. i ≡ y.0) types old mid new q0 q1 q2 (over_rows types mid new rows frames) a b)

-- ---- a write, and then the queue

-- All that is over its capacity waits after a write, where each node whose stamps it changed was asked for.
pub queue_written : (asked : ℕ → Type 0) (k : ℕ) (types : List TypeShape) (old mid new : List Node) (q0 q1 : Queue) → (xs : List ℕ)
    × IsQueued types old q0 xs → AreGrown k types old mid → ((i : ℕ) → link_at mid i ≡ link_at old i) →
    ((i : ℕ) → asked i ⊎ (stamped_at mid i ≡ stamped_at old i)) → rows_of new ≡ rows_of mid → frames_of new ≡ frames_of mid
    → KeepsQueue asked types mid new q0 q1 → (xs : List ℕ) × IsQueued types new q1 xs
queue_written asked k types old mid new q0 q1 h grown links others rows frames keeps =
    let xs : List ℕ = h.0 in
    let q = keeps xs (queues_links old mid q0 xs grown.count links h.1.held) in
    let half : (i : ℕ) → half_at types mid i ≡ half_at types old i = half_same types old mid grown.frames in (
      xs ++ q.0,
      record {
        held = q.1.held;
        over = λ i w. ⊎_elim
            (λ (u : waits xs i ≡ true). over_rows types mid new rows frames i (over_grown k types old mid i grown (h.1.over i u)))
            (λ (u : waits q.0 i ≡ true). q.1.over i u)
            (or_cases (waits xs i) (waits q.0 i) (sym (waits-append xs q.0 i) ∙ w));
        all = λ i o. ⊎_elim
            (λ (a : asked i). q.2 i (inl a) o)
            (λ (e : stamped_at mid i ≡ stamped_at old i). q.2 i (inr (λ (m : IsOver types mid i). h.1.all i (omega (arith, e, half i, m)))) o)
            (others i);
      },
    )

-- where nothing but room is another
pub queue_refused : (types : List TypeShape) (old new : List Node) (queue : Queue) → AreSameNodes old new → (xs : List ℕ) × IsQueued types old queue xs → (xs : List ℕ) × IsQueued types new queue xs
queue_refused types old new queue same h = (
  h.0,
  record {
    held = queues_links old new queue h.0 same.count same.links h.1.held;
    over = λ i w. over_nodes' types old new i same (h.1.over i w);
    all = λ i o. h.1.all i (over_nodes types old new i same o);
  },
)
