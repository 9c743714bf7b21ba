-- What the heap at a position has at each name.
use Rattle.std.proofs.Common.{◌≡◌, ◌≢◌, ℕ, suc, ◌<◌, ◌≤◌, true, ◌&&◌, List, Some, None, refl, ◌∙◌, ◌⊎◌, inl, inr, ⊎_elim, arith, ltb, leb}
use Rattle.std.proofs.lemmas.Bool.{cases_lt, lt-ltb, ltb-true, le-leb, leb-true, and_parts}
use Rattle.std.specs.FinMap.{get, insert}
use Rattle.pst_base.specs.declared.names.Name.{Name}
use Rattle.pst_base.specs.declared.shape.TypeShape.{TypeShape}
use Rattle.pst_base.specs.Heap.{Rec, Heap}
use Rattle.pst_mirror.proofs.LivesLemmas.{unique_law}
use Rattle.pst_base.specs.Showing.{AreApart}
use Rattle.pst_base.proofs.Showing.{shown_has, shown_shows, shown_lacks, same_at as shown_same_at, same_heap, put_shown}
use Rattle.pst_store_meaning.specs.Arena.{showing, Arena, lives_of, IsIn, is_in, heap_at, record_at, AreChained}

pub is_in-true : (w : Arena) (i n : ℕ) → is_in w i n ≡ true → IsIn w i n
is_in-true w i n e =
    let p = and_parts (ltb i w.count) (leb (w.lo i) n && ltb n (w.hi i)) e in
    let q = and_parts (leb (w.lo i) n) (ltb n (w.hi i)) p.1 in
    record { there = ltb-true i w.count p.0; low = leb-true (w.lo i) n q.0; high = ltb-true n (w.hi i) q.1 }

pub true-is_in : (w : Arena) (i n : ℕ) → IsIn w i n → is_in w i n ≡ true
true-is_in w i n h = rw (lt-ltb i w.count h.there, le-leb (w.lo i) n h.low, lt-ltb n (w.hi i) h.high) refl

-- a node of a list that is one longer is the new one or one of before
pub new_or_old : (n m i : ℕ) → m ≡ suc n → i < m → (i ≡ n) ⊎ (i < n)
new_or_old n m i e l = ⊎_elim (λ (p : i < n). inr p) (λ (p : n ≤ i). inl (omega arith)) (cases_lt i n)

module _ (shape : List TypeShape) (w : Arena) (n : ℕ) where
  pub apart : AreChained w → AreApart (showing shape w n)
  apart c = record { there = λ i e. (is_in-true w i n e).there; one = λ i j p q e. unique_law (lives_of w) i j n c (is_in-true w i n p) (is_in-true w j n q) e }

  -- a node that lives there shows its record
  pub heap_has : AreChained w → (i : ℕ) → IsIn w i n → get (heap_at shape w n) (w.name i) ≡ Some (record_at shape w i n)
  heap_has c i h = shown_has (showing shape w n) (apart c) i (true-is_in w i n h)

  -- the node behind a record
  pub record Shown (q : Name) (r : Rec) : Type 0 where
    pub node : ℕ
    pub alive : IsIn w node n
    pub named : w.name node ≡ q
    pub rec : record_at shape w node n ≡ r

  -- a record in the heap is that of a node that lives there
  pub heap_shows : (q : Name) (r : Rec) → get (heap_at shape w n) q ≡ Some r → Shown q r
  heap_shows q r e = let s = shown_shows (showing shape w n) q r e in record { node = s.node; alive = is_in-true w s.node n s.alive; named = s.named; rec = s.rec }

  -- a name of no node that lives there has no record
  pub heap_lacks : (q : Name) → ((i : ℕ) → IsIn w i n → w.name i ≢ q) → get (heap_at shape w n) q ≡ None
  heap_lacks q none = shown_lacks (showing shape w n) q (λ i e. none i (is_in-true w i n e))

-- Two heaps agree at a name where each node of one that has it has a node of the other with the same record.
pub same_at : (shape : List TypeShape) (w v : Arena) (n m : ℕ) (q : Name) → AreChained w → AreChained v
    → ((i : ℕ) → IsIn w i n → w.name i ≡ q → (j : ℕ) × IsIn v j m × (v.name j ≡ q) × (record_at shape v j m ≡ record_at shape w i n))
    → ((j : ℕ) → IsIn v j m → v.name j ≡ q → (i : ℕ) × IsIn w i n × (w.name i ≡ q))
    → get (heap_at shape v m) q ≡ get (heap_at shape w n) q
same_at shape w v n m q c d to back = shown_same_at (showing shape w n) (showing shape v m) q (apart shape w n c) (apart shape v m d)
    (λ i e is. let j = to i (is_in-true w i n e) is in (j.0, true-is_in v j.0 m j.1, j.2, j.3))
    (λ j e is. let i = back j (is_in-true v j m e) is in (i.0, true-is_in w i.0 n i.1, i.2))

pub same_heaps : (shape : List TypeShape) (w v : Arena) (n m : ℕ) → AreChained w → AreChained v
    → ((i : ℕ) → IsIn w i n → (j : ℕ) × IsIn v j m × (v.name j ≡ w.name i) × (record_at shape v j m ≡ record_at shape w i n))
    → ((j : ℕ) → IsIn v j m → (i : ℕ) × IsIn w i n × (w.name i ≡ v.name j))
    → heap_at shape v m ≡ heap_at shape w n
same_heaps shape w v n m c d to back = same_heap _ _ (λ q. same_at shape w v n m q c d
    (λ i h is. let j = to i h in (j.0, j.1, j.2 ∙ is, j.3))
    (λ j h is. let i = back j h in (i.0, i.1, i.2 ∙ is)))

-- a heap is another with one record put, where they agree at each other name
pub put_heap : (shape : List TypeShape) (v : Arena) (m z : ℕ) (h : Heap) → AreChained v → IsIn v z m
    → ((q : Name) → q ≢ v.name z → get (heap_at shape v m) q ≡ get h q)
    → heap_at shape v m ≡ insert h (v.name z) (record_at shape v z m)
put_heap shape v m z h d alive others = put_shown (showing shape v m) z h (apart shape v m d) (true-is_in v z m alive) others
