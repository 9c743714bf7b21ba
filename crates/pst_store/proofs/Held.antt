-- What changes of the nodes and of the places do to the root index and to the queue.
use Rattle.std.proofs.Common.{◌≡◌, ℕ, ◌<◌, ◌≤◌, List, [], ◌∷◌, ◌++◌, length, get_or, refl, sym, ap, ◌∙◌, subst, inl, inr, arith}
use Rattle.std.specs.Prelude.{slice_get, Contains}
use Rattle.std.proofs.lemmas.Bool.{cases_lt}
use Rattle.std.proofs.lemmas.Option.{slice_get-get_or}
use Rattle.pst_base.specs.declared.shape.TypeShape.{TypeShape}
use Rattle.pst_base.specs.Name.{root_name}
use Rattle.pst_order.specs.Places.{rank}
use Rattle.pst_mirror.specs.Charts.{AllRows}
use Rattle.pst_mirror.specs.Fork.{IsInsertedAfter}
use Rattle.pst_mirror.proofs.ForkLemmas.{shift_cases, rank_law}
use Rattle.pst_store_meaning.specs.Arena.{Arena}
use Rattle.pst_store_meaning.specs.Changes.{HasSameNodes, IsCleared, IsInserted}
use Rattle.pst_store_meaning.specs.Store.{Node, Noted, AreAllHeld, AreHeld, of_node}
use Rattle.pst_store_meaning.specs.Steps.{IsNewPlace}
use Rattle.pst_store_meaning.proofs.Concrete.{arena_inserted, rows, rows_apart}
use Rattle.pst_store_meaning.proofs.Places.{slice_get-push, slice_get-kept, length-push}
use Rattle.pst_store_meaning.proofs.Stepping.{of_node-new, of_node-old}
use Rattle.pst_store_arena.specs.Calls.{AreWaiting, KeepsRoots, arena_at}

-- ---- the root index

-- the nodes that were looked at keep their names and the order of where they begin
pub record KeepsOrder (old new : Arena) : Type 0 where
  pub count : old.count ≤ new.count
  pub name : (i : ℕ) → i < old.count → new.name i ≡ old.name i
  pub order : (i j : ℕ) → i < old.count → j < old.count → old.lo i < old.lo j → new.lo i < new.lo j

pub held_kept : (old new : Arena) (a b : Noted) → KeepsRoots a b → KeepsOrder old new → AreHeld old a → AreHeld new b
held_kept old new a b k n h = record {
  first = ap (λ (rs : List ℕ). slice_get rs 0) k.roots ∙ h.first;
  there = λ j i e. let t = h.there j i (ap (λ (rs : List ℕ). slice_get rs j) (sym k.roots) ∙ e) in (omega (arith, t.0, k.seen), n.name i (omega (arith, t.0, h.seen)) ∙ t.1);
  all = λ i l e. let l' : i < a.seen = omega (arith, l, k.seen) in subst (λ (rs : List ℕ). Contains rs i) (sym k.roots) (h.all i l' (sym (n.name i (omega (arith, l', h.seen))) ∙ e));
  rising = λ i j l below.
      let below' : j < length a.roots = subst (λ (rs : List ℕ). j < length rs) k.roots below in
      subst (λ (rs : List ℕ). new.lo (get_or rs i 0) < new.lo (get_or rs j 0)) (sym k.roots)
      (n.order (get_or a.roots i 0) (get_or a.roots j 0) (known i (omega (arith, l, below'))) (known j below') (h.rising i j l below'));
  seen = omega (arith, k.seen, n.count, h.seen);
}
  where
    known : (i : ℕ) → i < length a.roots → get_or a.roots i 0 < old.count
    known i l = let t = h.there i (get_or a.roots i 0) (slice_get-get_or a.roots i 0 l) in omega (arith, t.0, h.seen)

roots_same : (a : Noted) → KeepsRoots a a
roots_same a = record { roots = refl; seen = refl }

-- what is held changes alone
pub order_same : (old new : Arena) → HasSameNodes old new → KeepsOrder old new
order_same old new n = record {
  count = omega (arith, n.count);
  name = λ i l. n.name i;
  order = λ i j a b l. omega (arith, n.lo i, n.lo j, l);
}

pub order_cleared : (old mid : Arena) (x f b : ℕ) → IsCleared old mid x f b → KeepsOrder old mid
order_cleared old mid x f b c = elim c [
  | inl e ↦ subst (λ (w : Arena). KeepsOrder old w) (sym e.0) (record { count = omega arith; name = λ i l. refl; order = λ i j a b l. l })
  | inr t ↦ order_same old mid t.2.nodes
]

pub order_after : (a b c : Arena) → KeepsOrder a b → KeepsOrder b c → KeepsOrder a c
order_after a b c f g = record {
  count = omega (arith, f.count, g.count);
  name = λ i l. g.name i (omega (arith, l, f.count)) ∙ f.name i l;
  order = λ i j k l m. g.order i j (omega (arith, k, f.count)) (omega (arith, l, f.count)) (f.order i j k l m);
}

-- a node comes in
order_pushed : (places : List ℕ) (nodes : List Node) (n : Node) → KeepsOrder (arena_at places nodes) (arena_at places (nodes ++ n ∷ []))
order_pushed places nodes n = record {
  count = omega (arith, length-push nodes n);
  name = λ i l. of_node-old (λ n. n.head.name) root_name nodes n i l;
  order = λ i j a b l. omega (arith, of_node-old (λ n. rank places n.row.lo.0) 0 nodes n i a, of_node-old (λ n. rank places n.row.lo.0) 0 nodes n j b, l);
}

pub held_pushed : (places : List ℕ) (nodes : List Node) (n : Node) (a : Noted) → AreHeld (arena_at places nodes) a → AreHeld (arena_at places (nodes ++ n ∷ [])) a
held_pushed places nodes n a h = held_kept (arena_at places nodes) (arena_at places (nodes ++ n ∷ [])) a a (roots_same a) (order_pushed places nodes n) h

-- where all nodes of the root record are held, so they are when a node of another record comes in
pub all_held_pushed : (places : List ℕ) (nodes : List Node) (n : Node) (a : Noted) → (n.head.name ≡ root_name → ⊥)
    → AreAllHeld (arena_at places nodes) a → AreAllHeld (arena_at places (nodes ++ n ∷ [])) a
all_held_pushed places nodes n a other all i l e = elim (cases_lt i (length nodes)) [
  | inl lt ↦ all i lt (sym (of_node-old (λ n. n.head.name) root_name nodes n i lt) ∙ e)
  | inr le ↦ absurd (other (sym (of_node-new (λ n. n.head.name) root_name nodes n) ∙ subst (λ (j : ℕ). of_node (λ n. n.head.name) root_name (nodes ++ n ∷ []) j ≡ root_name) (last le) e))
]
  where
    last : length nodes ≤ i → i ≡ length nodes
    last le = omega (arith, le, l, length-push nodes n)

-- a place comes in
order_inserted : (old new : Arena) (k : ℕ) → IsInserted old new k → KeepsOrder old new
order_inserted old new k n = record {
  count = omega (arith, n.count);
  name = λ i l. n.name i;
  order = λ i j a b l. omega (arith, n.lo i a, n.lo j b, l, shift_cases k (old.lo i), shift_cases k (old.lo j));
}

pub held_inserted : (old new : List ℕ) (nodes : List Node) (p z : ℕ) (a : Noted) → AllRows (rank old) (length old) (rows nodes)
    → IsNewPlace old new p z → AreHeld (arena_at old nodes) a → AreHeld (arena_at new nodes) a
held_inserted old new nodes p z a h n held =
    let ins : IsInsertedAfter (rank old) (rank new) (rank old p) z =
    subst (λ (qs : List ℕ). IsInsertedAfter (rank old) (rank qs) (rank old p) z) (sym n.list) (rank_law old (rank old p) z n.there n.fresh) in
    held_kept (arena_at old nodes) (arena_at new nodes) a a (roots_same a)
    (order_inserted (arena_at old nodes) (arena_at new nodes) (rank old p) (arena_inserted (rank old) (rank new) (rank old p) z ins nodes (rows_apart old z n.fresh (rows nodes) h))) held

-- ---- the queue

-- a node with nothing stamped comes in
pub waiting_pushed : (shape : List TypeShape) (nodes : List Node) (queue : List ℕ) (n : Node) → AreWaiting shape nodes queue → n.row.stamps ≡ [] → AreWaiting shape (nodes ++ n ∷ []) queue
waiting_pushed shape nodes queue n w none = record {
  waits = λ i o. elim (slice_get-push nodes n i o.node o.there) [
    | inl v ↦ w.waits i (record { node = o.node; there = v; over = o.over })
    | inr v ↦ absurd (let e : length o.node.row.stamps ≡ 0 = ap (λ (m : Node). length m.row.stamps) (sym v.1) ∙ ap (λ es. length es) none in omega (arith, o.over))
  ];
  over = λ i c. let o = w.over i c in record { node = o.node; there = slice_get-kept nodes n i o.node o.there; over = o.over };
}
