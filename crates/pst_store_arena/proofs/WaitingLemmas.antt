-- The nodes whose links are in the queue.
use Rattle.pst_nodes.proofs.QueueLemmas.{waits_is, link_of_waiting}
use Rattle.pst_nodes.specs.Queue.{numbered, head_of, waits, last_from, ends_at}
use Rattle.std.proofs.Common.{Bool, IsTrue, false, not, true, ◌↔◌, ◌≡◌, ◌≢◌, ℕ, zero, suc, ◌+◌, List, [], ◌∷◌, ◌++◌, length, None, eqb, refl, sym, ap, ◌∙◌, subst, ⊎_elim, ◌⊎◌, inl, inr, arith}
use Rattle.std.proofs.lemmas.Bool.{false≢true, or_left, eq-eqb}
use Rattle.std.specs.List.{Contains}
use Rattle.std.proofs.lemmas.Option.{none-some}
use Rattle.pst_base.specs.declared.shape.TypeShape.{TypeShape}
use Rattle.pst_nodes.specs.declared.links.Link.{Link}
use Rattle.pst_nodes.specs.declared.links.Link.TheVariants.{Out, Last, Before}
use Rattle.pst_nodes.specs.declared.queue.Queue.{Queue}
use Rattle.pst_nodes.specs.declared.node.Node.{Node}
use Rattle.pst_nodes.specs.Arena.{link_at}
use Rattle.pst_repair.specs.Steps.{Queues}
use Rattle.pst_repair.specs.Repair.{IsQueued}
use Rattle.pst_repair.specs.Seen.{seen}
use Rattle.pst_store_arena.specs.Calls.{AreWaiting}
use Rattle.pst_store_arena.specs.Kept.{waiting_with, waiting_from, waiting_of, AreLinked}
use Rattle.pst_store_arena.proofs.JointLemmas.{over_seen, seen_over}

-- ---- what a list contains

in_front : (x : ℕ) (xs : List ℕ) → Contains (x ∷ xs) x
in_front x xs = (0, omega arith, refl)

in_rest : (y : ℕ) (xs : List ℕ) (x : ℕ) → Contains xs x → Contains (y ∷ xs) x
in_rest y xs x h = (suc h.0, omega (arith, h.1), h.2)

front_or_rest : (y : ℕ) (xs : List ℕ) (x : ℕ) → Contains (y ∷ xs) x → (x ≡ y) ⊎ Contains xs x
front_or_rest y xs x (zero, l, e) = inl (sym e)
front_or_rest y xs x (suc k, l, e) = inr (k, omega (arith, l), e)

in_none : (x : ℕ) → Contains [] x → ⊥
in_none x h = omega (arith, h.1)

-- ---- the links

with_front : (l : Link) (k : ℕ) (xs : List ℕ) → l ≢ Out → Contains (waiting_with l k xs) k
with_front Out k xs ne = absurd (ne refl)
with_front Last k xs ne = in_front k xs
with_front (Before next) k xs ne = in_front k xs

with_rest : (l : Link) (k : ℕ) (xs : List ℕ) (j : ℕ) → Contains xs j → Contains (waiting_with l k xs) j
with_rest Out k xs j h = h
with_rest Last k xs j h = in_rest k xs j h
with_rest (Before next) k xs j h = in_rest k xs j h

with_back : (l : Link) (k : ℕ) (xs : List ℕ) (j : ℕ) → Contains (waiting_with l k xs) j → ((j ≡ k) × (l ≢ Out)) ⊎ Contains xs j
with_back Out k xs j h = inr h
with_back Last k xs j h = ⊎_elim (λ (e : j ≡ k). inl (e, λ q. cc)) (λ (q : Contains xs j). inr q) (front_or_rest k xs j h)
with_back (Before next) k xs j h = ⊎_elim (λ (e : j ≡ k). inl (e, λ q. cc)) (λ (q : Contains xs j). inr q) (front_or_rest k xs j h)

from_link : (k : ℕ) (ns : List Node) (i : ℕ) → link_at ns i ≢ Out → Contains (waiting_from k ns) (k + i)
from_link k [] i ne = absurd (ne refl)
from_link k (n ∷ ns) zero ne = subst (Contains (waiting_from k (n ∷ ns))) (omega arith) (with_front n.header.link k (waiting_from (suc k) ns) ne)
from_link k (n ∷ ns) (suc i) ne = subst (Contains (waiting_from k (n ∷ ns))) (omega arith) (with_rest n.header.link k (waiting_from (suc k) ns) (suc k + i) (from_link (suc k) ns i ne))

to_link : (k : ℕ) (ns : List Node) (j : ℕ) → Contains (waiting_from k ns) j → (i : ℕ) × (j ≡ k + i) × (link_at ns i ≢ Out)
to_link k [] j h = absurd (in_none j h)
to_link k (n ∷ ns) j h = ⊎_elim
    (λ (q : (j ≡ k) × (n.header.link ≢ Out)). (0, omega (arith, q.0), q.1))
    (λ (q : Contains (waiting_from (suc k) ns) j).
    let t : (i : ℕ) × (j ≡ suc k + i) × (link_at ns i ≢ Out) = to_link (suc k) ns j q in
    (suc t.0, omega (arith, t.1), t.2))
    (with_back n.header.link k (waiting_from (suc k) ns) j h)

pub link_waits : (ns : List Node) (i : ℕ) → link_at ns i ≢ Out → Contains (waiting_of ns) i
link_waits ns i ne = subst (Contains (waiting_of ns)) (omega arith) (from_link 0 ns i ne)

pub waits_link : (ns : List Node) (i : ℕ) → Contains (waiting_of ns) i → link_at ns i ≢ Out
waits_link ns i h =
    let t : (j : ℕ) × (i ≡ 0 + j) × (link_at ns j ≢ Out) = to_link 0 ns i h in
    let e : t.0 ≡ i = omega (arith, t.1) in
    subst (λ (j : ℕ). link_at ns j ≢ Out) e t.2

-- ---- the same links, the same list

same_from : (k : ℕ) (old new : List Node) → length new ≡ length old → ((i : ℕ) → link_at new i ≡ link_at old i) → waiting_from k new ≡ waiting_from k old
same_from k [] [] count same = refl
same_from k [] (n ∷ new) count same = absurd (omega arith)
same_from k (o ∷ old) [] count same = absurd (omega arith)
same_from k (o ∷ old) (n ∷ new) count same =
    ap (λ (l : Link). waiting_with l k (waiting_from (suc k) new)) (same 0) ∙ ap (waiting_with o.header.link k) (same_from (suc k) old new (omega arith) (λ i. same (suc i)))

pub waiting_same : (old new : List Node) → length new ≡ length old → ((i : ℕ) → link_at new i ≡ link_at old i) → waiting_of new ≡ waiting_of old
waiting_same old new count same = same_from 0 old new count same

push_from : (k : ℕ) (ns : List Node) (n : Node) → n.header.link ≡ Out → waiting_from k (ns ++ n ∷ []) ≡ waiting_from k ns
push_from k [] n out = ap (λ (l : Link). waiting_with l k []) out
push_from k (m ∷ ns) n out = ap (waiting_with m.header.link k) (push_from (suc k) ns n out)

pub waiting_push : (ns : List Node) (n : Node) → n.header.link ≡ Out → waiting_of (ns ++ n ∷ []) ≡ waiting_of ns
waiting_push ns n out = push_from 0 ns n out

out_from : (k : ℕ) (ns : List Node) → ((i : ℕ) → link_at ns i ≡ Out) → waiting_from k ns ≡ []
out_from k [] out = refl
out_from k (n ∷ ns) out = ap (λ (l : Link). waiting_with l k (waiting_from (suc k) ns)) (out 0) ∙ out_from (suc k) ns (λ i. out (suc i))

-- ---- the queue

-- an empty queue
pub waiting_none : (ns : List Node) (queue : Queue) → Queues ns queue [] → waiting_of ns ≡ []
waiting_none ns queue h = out_from 0 ns (λ i. h.others i refl)

pub ends_none : (ns : List Node) (queue : Queue) → AreLinked ns queue → waiting_of ns ≡ [] → queue.ends ≡ None
ends_none ns queue ([], h) e = h.ends
ends_none ns queue (x ∷ xs, h) e = absurd (in_none x (subst (λ (ys : List ℕ). Contains ys x) e
    (link_waits ns x (link_of_waiting (link_at ns) (x ∷ xs) x h.chain (or_left (eqb x x) (waits xs x) (eq-eqb x x refl))))))

pub none_waiting : (ns : List Node) (queue : Queue) → AreLinked ns queue → queue.ends ≡ None → waiting_of ns ≡ []
none_waiting ns queue ([], h) e = waiting_none ns queue h
none_waiting ns queue (x ∷ xs, h) e = absurd (none-some (ends_at x (last_from x xs)) (sym e ∙ h.ends))

-- the nodes over their capacity wait, and no others
pub queued_of : (types : List TypeShape) (qs : List ℕ) (ns : List Node) (queue : Queue) → AreLinked ns queue → AreWaiting types (seen ns) (waiting_of ns) → (xs : List ℕ) × IsQueued types ns queue xs
queued_of types qs ns queue (xs, h) w = (
  xs,
  record {
    held = h;
    over = λ i u. seen_over types qs ns i (w.over i (link_waits ns i (link_of_waiting (link_at ns) xs i h.chain u)));
    all = λ i o. waits_is (length ns) (link_at ns) queue xs i h (waits_link ns i (w.waits i (over_seen types qs ns i o)));
  },
)

pub waiting_queued : (types : List TypeShape) (qs : List ℕ) (ns : List Node) (queue : Queue) (xs : List ℕ) → IsQueued types ns queue xs → AreWaiting types (seen ns) (waiting_of ns)
waiting_queued types qs ns queue xs h = record {
  waits = λ i o. link_waits ns i (link_of_waiting (link_at ns) xs i h.held.chain (h.all i (seen_over types qs ns i o)));
  over = λ i c. over_seen types qs ns i (h.over i (waits_is (length ns) (link_at ns) queue xs i h.held (waits_link ns i c)));
}

-- whether a node waits
pub pending_is : (ns : List Node) (queue : Queue) (empty : Bool) → AreLinked ns queue → IsTrue empty ↔ (queue.ends ≡ None) → IsTrue (not empty) ↔ ¬ (waiting_of ns ≡ [])
pending_is ns queue true h is = (λ k. absurd (false≢true k), λ k. absurd (k (none_waiting ns queue h (is.0 refl))))
pending_is ns queue false h is = (λ k e. false≢true (is.1 (ends_none ns queue h e)), λ k. refl)

pub none_waits : (ns : List Node) (queue : Queue) (xs : List ℕ) → Queues ns queue xs → None ≡ head_of xs → waiting_of ns ≡ []
none_waits ns queue [] h e = waiting_none ns queue h
none_waits ns queue (x ∷ xs) h e = absurd (none-some (numbered x) e)

-- ---- the same nodes wait, in another order

with_alike : (l m : Link) (k : ℕ) (xs ys : List ℕ) → (l ≡ Out → m ≡ Out) → (m ≡ Out → l ≡ Out) → ys ≡ xs → waiting_with m k ys ≡ waiting_with l k xs
with_alike Out Out k xs ys to back e = e
with_alike Out Last k xs ys to back e = absurd (let q : Last ≡ Out = to refl in cc)
with_alike Out (Before n) k xs ys to back e = absurd (let q : Before n ≡ Out = to refl in cc)
with_alike Last Out k xs ys to back e = absurd (let q : Last ≡ Out = back refl in cc)
with_alike (Before n) Out k xs ys to back e = absurd (let q : Before n ≡ Out = back refl in cc)
with_alike Last Last k xs ys to back e = ap (λ (zs : List ℕ). k ∷ zs) e
with_alike Last (Before n) k xs ys to back e = ap (λ (zs : List ℕ). k ∷ zs) e
with_alike (Before n) Last k xs ys to back e = ap (λ (zs : List ℕ). k ∷ zs) e
with_alike (Before n) (Before m) k xs ys to back e = ap (λ (zs : List ℕ). k ∷ zs) e

alike_from : (k : ℕ) (old new : List Node) → length new ≡ length old → ((i : ℕ) → link_at old i ≡ Out → link_at new i ≡ Out)
    → ((i : ℕ) → link_at new i ≡ Out → link_at old i ≡ Out) → waiting_from k new ≡ waiting_from k old
alike_from k [] [] count to back = refl
alike_from k [] (n ∷ new) count to back = absurd (omega arith)
alike_from k (o ∷ old) [] count to back = absurd (omega arith)
alike_from k (o ∷ old) (n ∷ new) count to back =
    with_alike o.header.link n.header.link k (waiting_from (suc k) old) (waiting_from (suc k) new) (to 0) (back 0) (alike_from (suc k) old new (omega arith) (λ i. to (suc i)) (λ i. back (suc i)))
