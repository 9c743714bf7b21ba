-- What the heap at a stamp has at each name.
use Rattle.std.proofs.Common.{◌≡◌, ◌≢◌, ℕ, ◌≤◌, true, false, ◌&&◌, List, Option, Some, None, Bool, not, refl, sym, ◌∙◌, ⊎_elim, arith, ltb, leb}
use Rattle.std.proofs.lemmas.Bool.{cases_eq, lt-ltb, ltb-true, le-leb, leb-true, and_parts, false≢true}
use Rattle.std.specs.FinMap.{get, insert}
use Rattle.pst_base.specs.declared.names.Name.{Name}
use Rattle.pst_base.specs.declared.shape.TypeShape.{TypeShape}
use Rattle.pst_base.specs.Heap.{Rec, Heap}
use Rattle.pst_base.specs.Showing.{AreApart}
use Rattle.pst_base.proofs.Showing.{shown_has, shown_shows, shown_lacks, same_at as shown_same_at, same_heap, put_shown}
use Rattle.pst_line_nodes.specs.Line.{showing, Line, Covers, is_over, ends_by, IsIn, is_in, heap_at, record_at, AreChained}

not-false : (b : Bool) → not b ≡ true → b ≡ false
not-false true e = absurd (false≢true e)
not-false false e = refl

pub is_in-true : (w : Line) (i n : ℕ) → is_in w i n ≡ true → IsIn w i n
is_in-true w i n e =
    let o = and_parts (w.made i) (ltb i w.count && (leb (w.first i) n && not (is_over w i n))) e in
    let p = and_parts (ltb i w.count) (leb (w.first i) n && not (is_over w i n)) o.1 in
    let q = and_parts (leb (w.first i) n) (not (is_over w i n)) p.1 in
    record { covers = record { there = ltb-true i w.count p.0; begun = leb-true (w.first i) n q.0; still = not-false (is_over w i n) q.1 }; made = o.0 }

pub true-is_in : (w : Line) (i n : ℕ) → IsIn w i n → is_in w i n ≡ true
true-is_in w i n h = rw (h.made, lt-ltb i w.count h.covers.there, le-leb (w.first i) n h.covers.begun, h.covers.still) refl

-- a node that is over by a stamp is over by each further one
pub over_grows : (f : ℕ → ℕ) (o : Option ℕ) (n m : ℕ) → n ≤ m → ends_by f o n ≡ true → ends_by f o m ≡ true
over_grows f None n m l e = e
over_grows f (Some j) n m l e = le-leb (f j) m (let k = leb-true (f j) n e in omega arith)

-- the node of a record that covers a stamp is the only one
pub unique : (w : Line) (i j n : ℕ) → AreChained w → Covers w i n → Covers w j n → w.home i ≡ w.home j → i ≡ j
unique w i j n c p q e =
    ⊎_elim (λ (s : i ≡ j). s)
    (λ (ne : i ≡ j → ⊥). absurd (⊎_elim
    (λ (l : is_over w i (w.first j) ≡ true). false≢true (sym p.still ∙ over_grows w.first (w.later i) (w.first j) n q.begun l))
    (λ (l : is_over w j (w.first i) ≡ true). false≢true (sym q.still ∙ over_grows w.first (w.later j) (w.first i) n p.begun l))
    (c.apart i j p.there q.there ne e)))
    (cases_eq i j)

pub unique_name : (w : Line) (i j n : ℕ) → AreChained w → IsIn w i n → IsIn w j n → w.name i ≡ w.name j → i ≡ j
unique_name w i j n c p q e = unique w i j n c p.covers q.covers (c.named i j p.covers.there q.covers.there p.made q.made e)

module _ (shape : List TypeShape) (w : Line) (n : ℕ) where
  pub apart : AreChained w → AreApart (showing shape w n)
  apart c = record { there = λ i e. (is_in-true w i n e).covers.there; one = λ i j p q e. unique_name w i j n c (is_in-true w i n p) (is_in-true w j n q) e }

  -- a node that lives there shows its record
  pub heap_has : AreChained w → (i : ℕ) → IsIn w i n → get (heap_at shape w n) (w.name i) ≡ Some (record_at shape w i n)
  heap_has c i h = shown_has (showing shape w n) (apart c) i (true-is_in w i n h)

  -- the node behind a record
  pub record Shown (q : Name) (r : Rec) : Type 0 where
    pub node : ℕ
    pub alive : IsIn w node n
    pub named : w.name node ≡ q
    pub rec : record_at shape w node n ≡ r

  -- a record in the heap is that of a node that lives there
  pub heap_shows : (q : Name) (r : Rec) → get (heap_at shape w n) q ≡ Some r → Shown q r
  heap_shows q r e = let s = shown_shows (showing shape w n) q r e in record { node = s.node; alive = is_in-true w s.node n s.alive; named = s.named; rec = s.rec }

  -- a name of no node that lives there has no record
  pub heap_lacks : (q : Name) → ((i : ℕ) → IsIn w i n → w.name i ≢ q) → get (heap_at shape w n) q ≡ None
  heap_lacks q none = shown_lacks (showing shape w n) q (λ i e. none i (is_in-true w i n e))

-- Two heaps agree at a name where each node of one that has it has a node of the other with the same record.
pub same_at : (shape : List TypeShape) (w v : Line) (n m : ℕ) (q : Name) → AreChained w → AreChained v
    → ((i : ℕ) → IsIn w i n → w.name i ≡ q → (j : ℕ) × IsIn v j m × (v.name j ≡ q) × (record_at shape v j m ≡ record_at shape w i n))
    → ((j : ℕ) → IsIn v j m → v.name j ≡ q → (i : ℕ) × IsIn w i n × (w.name i ≡ q))
    → get (heap_at shape v m) q ≡ get (heap_at shape w n) q
same_at shape w v n m q c d to back = shown_same_at (showing shape w n) (showing shape v m) q (apart shape w n c) (apart shape v m d)
    (λ i e is. let j = to i (is_in-true w i n e) is in (j.0, true-is_in v j.0 m j.1, j.2, j.3))
    (λ j e is. let i = back j (is_in-true v j m e) is in (i.0, true-is_in w i.0 n i.1, i.2))

pub same_heaps : (shape : List TypeShape) (w v : Line) (n m : ℕ) → AreChained w → AreChained v
    → ((i : ℕ) → IsIn w i n → (j : ℕ) × IsIn v j m × (v.name j ≡ w.name i) × (record_at shape v j m ≡ record_at shape w i n))
    → ((j : ℕ) → IsIn v j m → (i : ℕ) × IsIn w i n × (w.name i ≡ v.name j))
    → heap_at shape v m ≡ heap_at shape w n
same_heaps shape w v n m c d to back = same_heap _ _ (λ q. same_at shape w v n m q c d
    (λ i h is. let j = to i h in (j.0, j.1, j.2 ∙ is, j.3))
    (λ j h is. let i = back j h in (i.0, i.1, i.2 ∙ is)))

-- a heap is another with one record put, where they agree at each other name
pub put_heap : (shape : List TypeShape) (v : Line) (m z : ℕ) (h : Heap) → AreChained v → IsIn v z m
    → ((q : Name) → q ≢ v.name z → get (heap_at shape v m) q ≡ get h q)
    → heap_at shape v m ≡ insert h (v.name z) (record_at shape v z m)
put_heap shape v m z h d alive others = put_shown (showing shape v m) z h (apart shape v m d) (true-is_in v z m alive) others
