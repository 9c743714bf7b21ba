-- What the heap that nodes show has at each name, and its in-degrees.
use Rattle.std.proofs.Common.{◌≡◌, ◌≢◌, ℕ, zero, suc, ◌+◌, ◌<◌, Bool, true, false, cond, List, Option, Some, None, refl, sym, ap, ◌∙◌, ⊎_elim, arith}
use Rattle.std.specs.Prelude.{sum_by, count_by}
use Rattle.std.specs.Option.{option_map_or}
use Rattle.std.proofs.lemmas.List.Sums.{sum_by-cons}
use Rattle.std.proofs.lemmas.List.Recursion.{is_count_by}
use Rattle.std.proofs.lemmas.Bool.{cases_eq, cases_Bool, false≢true}
use Rattle.std.specs.FinMap.{get, empty, get-empty, get-insert, same_map, insert}
use Rattle.pst_base.specs.declared.names.Name.{Name}
use Rattle.pst_base.specs.Name.{name_cmp, name_eq}
use Rattle.pst_base.specs.Heap.{Rec, Heap, holds, holding, held_by, in_degree, with_record}
use Rattle.pst_base.specs.Below.{listed, sum_below}
use Rattle.pst_base.specs.Showing.{Showing, heap_shown_below, heap_shown, AreApart}
use Rattle.pst_base.proofs.NameLemmas.{name_cmp-total, name_cmp-exact, name_eq-true, name_eq-same}
use Rattle.pst_base.proofs.Degrees.{in_degree-with_record, in_degree-none}
use Rattle.pst_base.proofs.Below.{sum_below-first}

get-put : (h : Heap) (n : Name) (r : Rec) (q : Name) → get (insert h n r) q ≡ cond (name_eq q n) (Some r) (get h q)
get-put h n r q = get-insert name_cmp-total h n r q

name_eq-apart : (a b : Name) → a ≢ b → name_eq a b ≡ false
name_eq-apart a b ne = ⊎_elim (λ (e : name_eq a b ≡ true). absurd (ne (name_eq-true a b e))) (λ (e : name_eq a b ≡ false). e) (cases_Bool (name_eq a b))

module _ (w : Showing) where
  -- one step of the heap
  step_in : (m : ℕ) → w.shows m ≡ true → (q : Name) → get (heap_shown_below w (suc m)) q ≡ cond (name_eq q (w.name m)) (Some (w.rec m)) (get (heap_shown_below w m) q)
  step_in m e q = ap (λ b. get (cond b (insert (heap_shown_below w m) (w.name m) (w.rec m)) (heap_shown_below w m)) q) e ∙ get-put (heap_shown_below w m) (w.name m) (w.rec m) q

  step_out : (m : ℕ) → w.shows m ≡ false → (q : Name) → get (heap_shown_below w (suc m)) q ≡ get (heap_shown_below w m) q
  step_out m e q = ap (λ b. get (cond b (insert (heap_shown_below w m) (w.name m) (w.rec m)) (heap_shown_below w m)) q) e

  below_has : AreApart w → (i : ℕ) → w.shows i ≡ true → (m : ℕ) → i < m → get (heap_shown_below w m) (w.name i) ≡ Some (w.rec i)
  below_has c i h zero l = absurd (omega arith)
  below_has c i h (suc m) l =
      ⊎_elim
      (λ (e : w.shows m ≡ true). ⊎_elim
      (λ (s : i ≡ m). step_in m e (w.name i) ∙ ap (λ b. cond b (Some (w.rec m)) (get (heap_shown_below w m) (w.name i)))
      (ap (λ k. name_eq (w.name i) (w.name k)) (sym s) ∙ name_eq-same (w.name i)) ∙ ap (λ k. Some (w.rec k)) (sym s))
      (λ (ne : i ≡ m → ⊥). step_in m e (w.name i)
      ∙ ap (λ b. cond b (Some (w.rec m)) (get (heap_shown_below w m) (w.name i))) (name_eq-apart (w.name i) (w.name m) (λ same. ne (c.one i m h e same)))
      ∙ below_has c i h m (omega arith))
      (cases_eq i m))
      (λ (e : w.shows m ≡ false). step_out m e (w.name i) ∙ below_has c i h m
      (⊎_elim (λ (s : i ≡ m). absurd (false≢true (sym e ∙ ap w.shows (sym s) ∙ h))) (λ (ne : i ≡ m → ⊥). omega arith) (cases_eq i m)))
      (cases_Bool (w.shows m))

  -- a node that shows its record has it in the heap
  pub shown_has : AreApart w → (i : ℕ) → w.shows i ≡ true → get (heap_shown w) (w.name i) ≡ Some (w.rec i)
  shown_has c i h = below_has c i h w.count (c.there i h)

  -- the node behind a record, among those with numbers below m
  pub record Shown (q : Name) (r : Rec) (m : ℕ) : Type 0 where
    pub node : ℕ
    pub less : node < m
    pub alive : w.shows node ≡ true
    pub named : w.name node ≡ q
    pub rec : w.rec node ≡ r

  later_shown : (q : Name) (r : Rec) (m : ℕ) → Shown q r m → Shown q r (suc m)
  later_shown q r m s = record { node = s.node; less = omega (arith, s.less); alive = s.alive; named = s.named; rec = s.rec }

  pub below_shows : (q : Name) (r : Rec) (m : ℕ) → get (heap_shown_below w m) q ≡ Some r → Shown q r m
  below_shows q r zero e = absurd (let none = get-empty {X = Rec} name_cmp q in cc)
  below_shows q r (suc m) e =
      ⊎_elim
      (λ (t : w.shows m ≡ true). ⊎_elim
      (λ (s : name_eq q (w.name m) ≡ true).
      let is : Some (w.rec m) ≡ Some r = ap (λ b. cond b (Some (w.rec m)) (get (heap_shown_below w m) q)) (sym s) ∙ sym (step_in m t q) ∙ e in
      record { node = m; less = omega arith; alive = t; named = sym (name_eq-true q (w.name m) s); rec = cc })
      (λ (s : name_eq q (w.name m) ≡ false). later_shown q r m (below_shows q r m (ap (λ b. cond b (Some (w.rec m)) (get (heap_shown_below w m) q)) (sym s) ∙ sym (step_in m t q) ∙ e)))
      (cases_Bool (name_eq q (w.name m))))
      (λ (t : w.shows m ≡ false). later_shown q r m (below_shows q r m (sym (step_out m t q) ∙ e)))
      (cases_Bool (w.shows m))

  -- a record in the heap is that of a node that shows it
  pub shown_shows : (q : Name) (r : Rec) → get (heap_shown w) q ≡ Some r → Shown q r w.count
  shown_shows q r e = below_shows q r w.count e

  -- a name of no node that shows its record has no record
  pub shown_lacks : (q : Name) → ((i : ℕ) → w.shows i ≡ true → w.name i ≢ q) → get (heap_shown w) q ≡ None
  shown_lacks q none = elim (get (heap_shown w) q) as (λ (o : Option Rec). get (heap_shown w) q ≡ o → o ≡ None) [
    | None ↦ λ e. refl
    | Some r ↦ λ e. let s : Shown q r w.count = shown_shows q r e in absurd (none s.node s.alive s.named)
  ] refl

-- Two heaps agree at a name where each node of one that has it has a node of the other with the same record.
pub same_at : (w v : Showing) (q : Name) → AreApart w → AreApart v
    → ((i : ℕ) → w.shows i ≡ true → w.name i ≡ q → (j : ℕ) × (v.shows j ≡ true) × (v.name j ≡ q) × (v.rec j ≡ w.rec i))
    → ((j : ℕ) → v.shows j ≡ true → v.name j ≡ q → (i : ℕ) × (w.shows i ≡ true) × (w.name i ≡ q))
    → get (heap_shown v) q ≡ get (heap_shown w) q
same_at w v q c d to back = elim (get (heap_shown w) q) as (λ (o : Option Rec). get (heap_shown w) q ≡ o → get (heap_shown v) q ≡ o) [
  | None ↦ λ e. shown_lacks v q (λ j h is. let i = back j h is in let there : get (heap_shown w) q ≡ Some (w.rec i.0) = ap (get (heap_shown w)) (sym i.2) ∙ shown_has w c i.0 i.1 in absurd (cc))
  | Some r ↦ λ e.
      let s = shown_shows w q r e in
      let j = to s.node s.alive s.named in
      ap (get (heap_shown v)) (sym j.2) ∙ shown_has v d j.0 j.1 ∙ ap Some (j.3 ∙ s.rec)
] refl

-- two heaps are equal where they agree at each name
pub same_heap : (g h : Heap) → ((q : Name) → get g q ≡ get h q) → g ≡ h
same_heap g h e = same_map name_cmp-total name_cmp-exact g h e

-- a heap is another with one record put, where they agree at each other name
pub put_shown : (v : Showing) (z : ℕ) (h : Heap) → AreApart v → v.shows z ≡ true
    → ((q : Name) → q ≢ v.name z → get (heap_shown v) q ≡ get h q)
    → heap_shown v ≡ insert h (v.name z) (v.rec z)
put_shown v z h d alive others = same_heap _ _ (λ q. ⊎_elim
    (λ (e : name_eq q (v.name z) ≡ true). ap (get (heap_shown v)) (name_eq-true q (v.name z) e) ∙ shown_has v d z alive
    ∙ sym (get-put h (v.name z) (v.rec z) q ∙ ap (λ b. cond b (Some (v.rec z)) (get h q)) e))
    (λ (e : name_eq q (v.name z) ≡ false). others q (λ s. false≢true (sym e ∙ ap (λ k. name_eq k (v.name z)) s ∙ name_eq-same (v.name z)))
    ∙ sym (get-put h (v.name z) (v.rec z) q ∙ ap (λ b. cond b (Some (v.rec z)) (get h q)) e))
    (cases_Bool (name_eq q (v.name z))))

-- ---- in-degrees

one_or_same : (b : Bool) (n : ℕ) → cond b (1 + n) n ≡ cond b 1 0 + n
one_or_same true n = refl
one_or_same false n = omega arith

pub held_by-sum : (y : Name) (ps : List (Option Name)) → count_by (holds y) ps ≡ sum_by (holding y) ps
held_by-sum y ps = sym (is_count_by (sum_by (holding y)) (holds y) refl (λ p ps. sum_by-cons (holding y) p ps ∙ sym (one_or_same (holds y p) (sum_by (holding y) ps))) ps)

pub sum_listed : (q : Name) (n : ℕ) (f : ℕ → Option Name) → sum_by (holding q) (listed n f) ≡ sum_below n (λ k. holding q (f k))
sum_listed q zero f = refl
sum_listed q (suc n) f = sum_by-cons (holding q) (f 0) (listed n (λ k. f (suc k))) ∙ omega (arith, sum_listed q n (λ k. f (suc k)), sum_below-first n (λ k. holding q (f k)))

module _ (w : Showing) (c : AreApart w) (q : Name) where
  below_lacks : (m : ℕ) → w.shows m ≡ true → get (heap_shown_below w m) (w.name m) ≡ None
  below_lacks m h = elim (get (heap_shown_below w m) (w.name m)) as (λ (o : Option Rec). get (heap_shown_below w m) (w.name m) ≡ o → o ≡ None) [
    | None ↦ λ e. refl
    | Some r ↦ λ e.
        let s : Shown w (w.name m) r m = below_shows w (w.name m) r m e in
        let same : s.node ≡ m = c.one s.node m s.alive h s.named in
        absurd (omega (arith, s.less, same))
  ] refl

  degree_below : (m : ℕ) → in_degree (heap_shown_below w m) q ≡ sum_below m (λ i. cond (w.shows i) (held_by q (w.rec i)) 0)
  degree_below zero = in_degree-none empty q (λ k r j e held. absurd (let none : get (empty {X = Rec} {R = name_cmp}) k ≡ None = get-empty name_cmp k in cc))
  degree_below (suc m) = ⊎_elim
      (λ (t : w.shows m ≡ true).
      let whole : in_degree (with_record (heap_shown_below w m) (w.name m) (w.rec m)) q + 0 ≡ in_degree (heap_shown_below w m) q + held_by q (w.rec m)
      = ap (λ (o : Option Rec). in_degree (with_record (heap_shown_below w m) (w.name m) (w.rec m)) q + option_map_or (held_by q) o 0)
      (sym (below_lacks m t)) ∙ in_degree-with_record (heap_shown_below w m) (w.name m) (w.rec m) q in
      rw t (omega (arith, whole, degree_below m)))
      (λ (t : w.shows m ≡ false). rw t (omega (arith, degree_below m)))
      (cases_Bool (w.shows m))

  -- the in-degree of a record is what the nodes count in all
  pub shown_degree : in_degree (heap_shown w) q ≡ sum_below w.count (λ i. cond (w.shows i) (held_by q (w.rec i)) 0)
  shown_degree = degree_below w.count
