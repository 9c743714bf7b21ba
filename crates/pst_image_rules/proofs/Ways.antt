-- Following chains.
use Rattle.std.proofs.Common.{◌≡◌, ◌≢◌, ℕ, zero, suc, ◌+◌, ◌<◌, ◌≤◌, Bool, true, false, List, length, refl, sym, ap, subst, ◌∙◌, arith, ◌⊎◌, inl, inr}
use Rattle.pst_image_form.specs.declared.parts.NodePart.{NodePart}
use Rattle.pst_image_rules.specs.Nodes.{node_at}
use Rattle.pst_image_rules.specs.Chains.{IsSameName, IsRootNode, IsNext, IsNamed, LeadsBy, Leads, AreChained, HaveLives, IsHead, HasEnds, ChainsAreInOrder}
use Rattle.std.proofs.lemmas.Bool.{cases_eq}
use Rattle.pst_image_rules.specs.declared.heads.Head.{Head}
use Rattle.pst_image_rules.specs.Heads.{AreLinked, AreMarked, is_marked, head_at, AreHeads, HaveOwnNames}

abbrev later_of : List NodePart → ℕ → ℕ
later_of ks i = (node_at ks i).later

abbrev lo_of : List NodePart → ℕ → ℕ
lo_of ks i = (node_at ks i).lo

abbrev hi_of : List NodePart → ℕ → ℕ
hi_of ks i = (node_at ks i).hi

-- each node leads to one that is there and fits
pub record FitsOn (ks : List NodePart) : Type 0 where
  pub there : (i j : ℕ) → i < length ks → later_of ks i ≡ suc j → j < length ks
  pub next : (i j : ℕ) → i < length ks → later_of ks i ≡ suc j → IsNext (node_at ks i) (node_at ks j)

suc_same : (a b : ℕ) → suc a ≡ suc b → a ≡ b
suc_same a b e = omega arith

-- one step more
pub longer : (ks : List NodePart) (n i j k : ℕ) → LeadsBy ks n i j → later_of ks j ≡ suc k → LeadsBy ks (suc n) i k
longer ks zero i j k is e = (k, ap (later_of ks) is ∙ e, refl)
longer ks (suc n) i j k way e = (way.0, way.1, longer ks n way.0 j k way.2 e)

-- what two ways from one node lead to stands in one chain
pub both_ways : (ks : List NodePart) (n m h i j : ℕ) → LeadsBy ks n h i → LeadsBy ks m h j → Leads ks i j ⊎ Leads ks j i
both_ways ks zero m h i j is way = inl (m, subst (λ (x : ℕ). LeadsBy ks m x j) is way)
both_ways ks (suc n) zero h i j way is = inr (suc n, subst (λ (x : ℕ). LeadsBy ks (suc n) x i) is way)
both_ways ks (suc n) (suc m) h i j way way' = both_ways ks n m way.0 i j way.2 (subst (λ (x : ℕ). LeadsBy ks m x j) (suc_same way'.0 way.0 (sym way'.1 ∙ way.1)) way'.2)

-- the first step and the last one
pub first_step : (ks : List NodePart) (n i k : ℕ) → LeadsBy ks n i k → (i ≡ k) ⊎ ((j : ℕ) × (later_of ks i ≡ suc j) × Leads ks j k)
first_step ks zero i k is = inl is
first_step ks (suc n) i k way = inr (way.0, way.1, (n, way.2))

last_step : (ks : List NodePart) → FitsOn ks → (n i k : ℕ) → i < length ks → LeadsBy ks n i k → (i ≡ k) ⊎ ((m : ℕ) × (m < length ks) × (later_of ks m ≡ suc k))
last_step ks f zero i k lt is = inl is
last_step ks f (suc n) i k lt way = by (last_step ks f n way.0 k (f.there i way.0 lt way.1) way.2)
  where
    by : (way.0 ≡ k) ⊎ ((m : ℕ) × (m < length ks) × (later_of ks m ≡ suc k)) → (i ≡ k) ⊎ ((m : ℕ) × (m < length ks) × (later_of ks m ≡ suc k))
    by (inl is) = inr (i, lt, way.1 ∙ ap suc is)
    by (inr m) = inr m

-- along a chain the name stays, and lives begin later
one_name : (ks : List NodePart) → FitsOn ks → (n i k : ℕ) → i < length ks → LeadsBy ks n i k → IsSameName (node_at ks i).name (node_at ks k).name
one_name ks f zero i k lt is = record { run = ap (λ (x : ℕ). (node_at ks x).name.run.0) is; ordinal = ap (λ (x : ℕ). (node_at ks x).name.ordinal) is }
one_name ks f (suc n) i k lt way =
    let name = (f.next i way.0 lt way.1).name in
    let more = one_name ks f n way.0 k (f.there i way.0 lt way.1) way.2 in
    record { run = name.run ∙ more.run; ordinal = name.ordinal ∙ more.ordinal }

not_before : (ks : List NodePart) → FitsOn ks → HaveLives ks → (n i k : ℕ) → i < length ks → LeadsBy ks n i k → lo_of ks i ≤ lo_of ks k
not_before ks f lives zero i k lt is = omega (arith, ap (lo_of ks) is)
not_before ks f lives (suc n) i k lt way = omega (arith, (f.next i way.0 lt way.1).lo, lives i lt, not_before ks f lives n way.0 k (f.there i way.0 lt way.1) way.2)

-- the head of the chain in which a node stands
pub record HasHead (ks : List NodePart) (marks : List Bool) (i : ℕ) : Type 0 where
  pub head : ℕ
  pub there : head < length ks
  pub free : is_marked marks head ≡ false
  pub steps : ℕ
  pub way : LeadsBy ks steps head i

head_by : (ks : List NodePart) (marks : List Bool) → FitsOn ks → HaveLives ks → AreMarked ks (length ks) marks → (i : ℕ) → i < length ks
    → ((o : ℕ) → lo_of ks o < lo_of ks i → o < length ks → HasHead ks marks o) → (b : Bool) → is_marked marks i ≡ b → HasHead ks marks i
head_by ks marks f lives m i lt earlier false is = record { head = i; there = lt; free = is; steps = 0; way = refl }
head_by ks marks f lives m i lt earlier true is =
    let o = m.only i is in
    let h = earlier o.0 (omega (arith, (f.next o.0 i o.1 o.2).lo, lives o.0 o.1)) o.1 in
    record { head = h.head; there = h.there; free = h.free; steps = suc h.steps; way = longer ks h.steps h.head o.0 i h.way o.2 }

pub head_of : (ks : List NodePart) (marks : List Bool) → FitsOn ks → HaveLives ks → AreMarked ks (length ks) marks → (n i : ℕ) → lo_of ks i < n → i < length ks → HasHead ks marks i
head_of ks marks f lives m zero i below lt = absurd (omega arith)
head_of ks marks f lives m (suc n) i below lt = head_by ks marks f lives m i lt (λ o less o_lt. head_of ks marks f lives m n o (omega arith) o_lt) (is_marked marks i) refl

pub fits_on : (ks : List NodePart) → AreLinked ks (length ks) → FitsOn ks
fits_on ks l = record { there = l.there; next = l.next }

-- marks and heads of different names make chains
pub chained : (places next_run : ℕ) (ks : List NodePart) (marks : List Bool) (heads : List Head) → HaveLives ks → IsRootNode (node_at ks 0)
    → ((i : ℕ) → i < length ks → IsNamed places next_run (node_at ks i))
    → AreLinked ks (length ks) → AreMarked ks (length ks) marks → AreHeads ks marks (length ks) heads → HaveOwnNames heads → AreChained places next_run ks
chained places next_run ks marks heads lives root named linked marked are own = record {
  root = root;
  named = named;
  there = linked.there;
  next = linked.next;
  one = λ i j lt lt' same. one_by i j lt lt' same;
} where
  one_by : (i j : ℕ) → i < length ks → j < length ks → IsSameName (node_at ks i).name (node_at ks j).name → Leads ks i j ⊎ Leads ks j i
  one_by i j lt lt' same =
      let f = fits_on ks linked in
      let g = head_of ks marks f lives marked (suc (lo_of ks i)) i (omega arith) lt in
      let h = head_of ks marks f lives marked (suc (lo_of ks j)) j (omega arith) lt' in
      let g_name = one_name ks f g.steps g.head i g.there g.way in
      let h_name = one_name ks f h.steps h.head j h.there h.way in
      let one_head : g.head ≡ h.head = own (head_at ks g.head) (head_at ks h.head) (are.each g.head g.there g.free) (are.each h.head h.there h.free)
      (record { run = g_name.run ∙ same.run ∙ sym h_name.run; ordinal = g_name.ordinal ∙ same.ordinal ∙ sym h_name.ordinal }) in
      both_ways ks g.steps h.steps h.head i j (subst (λ (x : ℕ). LeadsBy ks g.steps x i) one_head g.way) h.way

chain_fits : (places next_run : ℕ) (ks : List NodePart) → AreChained places next_run ks → FitsOn ks
chain_fits places next_run ks c = record { there = c.there; next = c.next }

-- in chains no two nodes lead to one
pub linked : (places next_run : ℕ) (ks : List NodePart) → HaveLives ks → AreChained places next_run ks → AreLinked ks (length ks)
linked places next_run ks lives c = record {
  there = c.there;
  next = c.next;
  once = λ i k j lt lt' e e'. once_by i k j lt lt' e e' (c.one i k lt lt' (name i k j lt lt' e e'));
} where
  name : (i k j : ℕ) → i < length ks → k < length ks → later_of ks i ≡ suc j → later_of ks k ≡ suc j → IsSameName (node_at ks i).name (node_at ks k).name
  name i k j lt lt' e e' = (let n = (c.next i j lt e).name in let m = (c.next k j lt' e').name in record { run = n.run ∙ sym m.run; ordinal = n.ordinal ∙ sym m.ordinal })

  apart : (i k j : ℕ) → i < length ks → k < length ks → later_of ks i ≡ suc j → later_of ks k ≡ suc j → Leads ks i k → i ≡ k
  apart i k j lt lt' e e' way = by (first_step ks way.0 i k way.1)
    where
      by : (i ≡ k) ⊎ ((n : ℕ) × (later_of ks i ≡ suc n) × Leads ks n k) → i ≡ k
      by (inl is) = is
      by (inr s) =
          let rest : LeadsBy ks s.2.0 j k = subst (λ (x : ℕ). LeadsBy ks s.2.0 x k) (suc_same s.0 j (sym s.1 ∙ e)) s.2.1 in
          absurd (omega (arith, not_before ks (chain_fits places next_run ks c) lives s.2.0 j k (c.there i j lt e) rest, (c.next k j lt' e').lo, lives k lt'))

  once_by : (i k j : ℕ) → i < length ks → k < length ks → later_of ks i ≡ suc j → later_of ks k ≡ suc j → Leads ks i k ⊎ Leads ks k i → i ≡ k
  once_by i k j lt lt' e e' (inl way) = apart i k j lt lt' e e' way
  once_by i k j lt lt' e e' (inr way) = sym (apart k i j lt' lt e' e way)

-- in chains no two heads have one name
pub heads_apart : (places next_run : ℕ) (ks : List NodePart) (marks : List Bool) (heads : List Head) → AreChained places next_run ks
    → AreMarked ks (length ks) marks → AreHeads ks marks (length ks) heads → HaveOwnNames heads
heads_apart places next_run ks marks heads c marked are g h cg ch same =
    let o = are.only g cg in
    let p = are.only h ch in
    let g_run : g.name.run.0 ≡ (node_at ks g.node).name.run.0 = ap (λ (x : Head). x.name.run.0) o.2 in
    let h_run : h.name.run.0 ≡ (node_at ks h.node).name.run.0 = ap (λ (x : Head). x.name.run.0) p.2 in
    let g_ordinal : g.name.ordinal ≡ (node_at ks g.node).name.ordinal = ap (λ (x : Head). x.name.ordinal) o.2 in
    let h_ordinal : h.name.ordinal ≡ (node_at ks h.node).name.ordinal = ap (λ (x : Head). x.name.ordinal) p.2 in
    by o.0 p.0 o.1 p.1 (c.one g.node h.node o.0 p.0 (record { run = sym g_run ∙ same.run ∙ h_run; ordinal = sym g_ordinal ∙ same.ordinal ∙ h_ordinal }))
  where
    entered : (i k : ℕ) → i < length ks → is_marked marks k ≡ false → Leads ks i k → i ≡ k
    entered i k lt free way = step (last_step ks (chain_fits places next_run ks c) way.0 i k lt way.1)
      where
        step : (i ≡ k) ⊎ ((m : ℕ) × (m < length ks) × (later_of ks m ≡ suc k)) → i ≡ k
        step (inl is) = is
        step (inr m) = (let clash : true ≡ false = sym (marked.each m.0 k m.1 m.2) ∙ free in absurd cc)

    by : g.node < length ks → h.node < length ks → is_marked marks g.node ≡ false → is_marked marks h.node ≡ false → Leads ks g.node h.node ⊎ Leads ks h.node g.node → g.node ≡ h.node
    by lt lt' free free' (inl way) = entered g.node h.node lt free' way
    by lt lt' free free' (inr way) = sym (entered h.node g.node lt' free way)

-- ---- what chains give

-- some node below n leads to a node, or none does
found_before : (ks : List NodePart) (i n : ℕ) → ((m : ℕ) × (m < n) × (later_of ks m ≡ suc i)) ⊎ ((m : ℕ) → m < n → later_of ks m ≡ suc i → ⊥)
found_before ks i zero = inr (λ m lt e. omega arith)
found_before ks i (suc n) = by (found_before ks i n) (cases_eq (later_of ks n) (suc i))
  where
    by : ((m : ℕ) × (m < n) × (later_of ks m ≡ suc i)) ⊎ ((m : ℕ) → m < n → later_of ks m ≡ suc i → ⊥) → (later_of ks n ≡ suc i) ⊎ (later_of ks n ≢ suc i)
        → ((m : ℕ) × (m < suc n) × (later_of ks m ≡ suc i)) ⊎ ((m : ℕ) → m < suc n → later_of ks m ≡ suc i → ⊥)
    by (inl f) at = inl (f.0, omega (arith, f.1), f.2)
    by (inr none) (inl is) = inl (n, omega arith, is)
    by (inr none) (inr not) = inr (λ m lt e. other m lt e (cases_eq m n))
      where
        other : (m : ℕ) → m < suc n → later_of ks m ≡ suc i → (m ≡ n) ⊎ (m ≢ n) → ⊥
        other m lt e (inl is) = not (sym (ap (later_of ks) is) ∙ e)
        other m lt e (inr less) = none m (omega arith) e

record HasFirst (ks : List NodePart) (i : ℕ) : Type 0 where
  head : ℕ
  there : head < length ks
  first : IsHead ks head
  steps : ℕ
  way : LeadsBy ks steps head i

first_by : (ks : List NodePart) → FitsOn ks → HaveLives ks → (i : ℕ) → i < length ks → ((o : ℕ) → lo_of ks o < lo_of ks i → o < length ks → HasFirst ks o)
    → ((m : ℕ) × (m < length ks) × (later_of ks m ≡ suc i)) ⊎ ((m : ℕ) → m < length ks → later_of ks m ≡ suc i → ⊥) → HasFirst ks i
first_by ks f lives i lt earlier (inr none) = record { head = i; there = lt; first = none; steps = 0; way = refl }
first_by ks f lives i lt earlier (inl o) =
    let h = earlier o.0 (omega (arith, (f.next o.0 i o.1 o.2).lo, lives o.0 o.1)) o.1 in
    record { head = h.head; there = h.there; first = h.first; steps = suc h.steps; way = longer ks h.steps h.head o.0 i h.way o.2 }

first_of : (ks : List NodePart) → FitsOn ks → HaveLives ks → (n i : ℕ) → lo_of ks i < n → i < length ks → HasFirst ks i
first_of ks f lives zero i below lt = absurd (omega arith)
first_of ks f lives (suc n) i below lt = first_by ks f lives i lt (λ o less o_lt. first_of ks f lives n o (omega arith) o_lt) (found_before ks i (length ks))

record HasLast (ks : List NodePart) (i : ℕ) : Type 0 where
  last : ℕ
  there : last < length ks
  none : later_of ks last ≡ 0
  way : Leads ks i last

last_by : (ks : List NodePart) → FitsOn ks → HaveLives ks → (i : ℕ) → i < length ks → ((j : ℕ) → lo_of ks i < lo_of ks j → j < length ks → HasLast ks j) → (k : ℕ) → later_of ks i ≡ k → HasLast ks i
last_by ks f lives i lt further zero e = record { last = i; there = lt; none = e; way = (0, refl) }
last_by ks f lives i lt further (suc j) e =
    let l = further j (omega (arith, (f.next i j lt e).lo, lives i lt)) (f.there i j lt e) in
    record { last = l.last; there = l.there; none = l.none; way = (suc l.way.0, (j, e, l.way.1)) }

last_of : (ks : List NodePart) → FitsOn ks → HaveLives ks → (places : ℕ) → ((i : ℕ) → i < length ks → hi_of ks i < places) → (n i : ℕ) → places ≤ lo_of ks i + n → i < length ks → HasLast ks i
last_of ks f lives places low zero i above lt = absurd (omega (arith, lives i lt, low i lt))
last_of ks f lives places low (suc n) i above lt = last_by ks f lives i lt (λ j more j_lt. last_of ks f lives places low n j (omega arith) j_lt) (later_of ks i) refl

-- along a chain lives end before they begin again
ends_first : (ks : List NodePart) → FitsOn ks → HaveLives ks → (n i k : ℕ) → i < length ks → LeadsBy ks n i k → (i ≡ k) ⊎ (hi_of ks i ≤ lo_of ks k)
ends_first ks f lives zero i k lt is = inl is
ends_first ks f lives (suc n) i k lt way = inr (omega (arith, (f.next i way.0 lt way.1).lo, not_before ks f lives n way.0 k (f.there i way.0 lt way.1) way.2))

pub in_order : ChainsAreInOrder
in_order places next_run ks lives low c = record {
  apart = λ i j both not. apart_by i j both.first both.second not (c.one i j both.first both.second both.name);
  last = λ i j both none. last_here i j both.first both.second none (c.one i j both.first both.second both.name);
  ends = λ i lt. ends_of (first_of ks f lives (suc (lo_of ks i)) i (omega arith) lt) (last_of ks f lives places low places i (omega arith) lt);
} where
  f : FitsOn ks
  f = chain_fits places next_run ks c

  apart_by : (i j : ℕ) → i < length ks → j < length ks → i ≢ j → Leads ks i j ⊎ Leads ks j i → (hi_of ks i ≤ lo_of ks j) ⊎ (hi_of ks j ≤ lo_of ks i)
  apart_by i j lt lt' not (inl way) = step (ends_first ks f lives way.0 i j lt way.1)
    where
      step : (i ≡ j) ⊎ (hi_of ks i ≤ lo_of ks j) → (hi_of ks i ≤ lo_of ks j) ⊎ (hi_of ks j ≤ lo_of ks i)
      step (inl is) = absurd (not is)
      step (inr le) = inl le
  apart_by i j lt lt' not (inr way) = step (ends_first ks f lives way.0 j i lt' way.1)
    where
      step : (j ≡ i) ⊎ (hi_of ks j ≤ lo_of ks i) → (hi_of ks i ≤ lo_of ks j) ⊎ (hi_of ks j ≤ lo_of ks i)
      step (inl is) = absurd (not (sym is))
      step (inr le) = inr le

  last_here : (i j : ℕ) → i < length ks → j < length ks → later_of ks i ≡ 0 → Leads ks i j ⊎ Leads ks j i → hi_of ks j ≤ hi_of ks i
  last_here i j lt lt' none (inl way) = step (first_step ks way.0 i j way.1)
    where
      step : (i ≡ j) ⊎ ((m : ℕ) × (later_of ks i ≡ suc m) × Leads ks m j) → hi_of ks j ≤ hi_of ks i
      step (inl is) = omega (arith, ap (hi_of ks) is)
      step (inr s) = absurd (omega (arith, s.1, none))
  last_here i j lt lt' none (inr way) = step (ends_first ks f lives way.0 j i lt' way.1)
    where
      step : (j ≡ i) ⊎ (hi_of ks j ≤ lo_of ks i) → hi_of ks j ≤ hi_of ks i
      step (inl is) = omega (arith, ap (hi_of ks) is)
      step (inr le) = omega (arith, le, lives i lt)

  ends_of : {i : ℕ} → HasFirst ks i → HasLast ks i → HasEnds ks i
  ends_of h l = record { head = h.head; last = l.last; head_there = h.there; last_there = l.there; is_head = h.first; is_last = l.none; from_head = (h.steps, h.way); to_last = l.way }
