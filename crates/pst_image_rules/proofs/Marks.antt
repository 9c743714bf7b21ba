-- One more node that leads to another one, or to none.
use Rattle.std.proofs.Common.{◌≡◌, ◌≢◌, ℕ, suc, ◌+◌, ◌<◌, Bool, true, false, List, [], ◌∷◌, ◌++◌, length, get_or, set, replicate, refl, sym, ap, subst, ◌∙◌}
use Rattle.std.proofs.Common.{arith, ◌⊎◌, inl, inr, get_or-set_other, get_or-set_same}
use Rattle.std.specs.List.{Contains}
use Rattle.std.proofs.lemmas.List.{get_or-replicate, get_or_past, length-replicate, length-set}
use Rattle.std.proofs.lemmas.List.Elements.{Contains-append_left, Contains-push, Contains-push_cases}
use Rattle.std.proofs.lemmas.Bool.{cases_eq, cases_lt}
use Rattle.pst_image_form.specs.declared.parts.NodePart.{NodePart}
use Rattle.pst_image_rules.specs.Nodes.{node_at}
use Rattle.pst_image_rules.specs.Chains.{IsNext}
use Rattle.pst_image_rules.specs.declared.heads.Head.{Head}
use Rattle.pst_image_rules.specs.Heads.{AreLinked, AreMarked, CanLead, is_marked, head_at, AreHeads}

pub below_or : (i n : ℕ) → i < n + 1 → (i ≡ n) ⊎ (i < n)
below_or i n lt = by (cases_eq i n)
  where
    by : (i ≡ n) ⊎ (i ≢ n) → (i ≡ n) ⊎ (i < n)
    by (inl e) = inl e
    by (inr e) = inr (omega arith)

pub true_false : (b : Bool) → b ≡ true → b ≡ false → ⊥
true_false b t f = let clash : true ≡ false = sym t ∙ f in absurd cc

pub never : false ≡ true → ⊥
never e = absurd cc

-- none is seen
pub none_linked : (ks : List NodePart) → AreLinked ks 0
none_linked ks = record {
  there = λ i j lt e. absurd (omega arith);
  next = λ i j lt e. absurd (omega arith);
  once = λ i k j lt lt' e e'. absurd (omega arith);
}

all_false : (n j : ℕ) → get_or (replicate n false) j false ≡ false
all_false n j = elim (cases_lt j n) [
  | inl lt ↦ get_or-replicate n j false false lt
  | inr le ↦ get_or_past (replicate n false) j false (omega (arith, length-replicate n false))
]

pub none_marked : (ks : List NodePart) (marks : List Bool) → marks ≡ replicate (length ks) false → AreMarked ks 0 marks
none_marked ks marks is = record {
  wide = ap length is ∙ length-replicate (length ks) false;
  each = λ i j lt e. absurd (omega arith);
  only = λ j e. absurd (true_false (is_marked marks j) e (ap (λ m. is_marked m j) is ∙ all_false (length ks) j));
}

-- a node that leads to none
pub none_linked_more : (ks : List NodePart) (n : ℕ) → AreLinked ks n → (node_at ks n).later ≡ 0 → AreLinked ks (n + 1)
none_linked_more ks n h zero_is = record {
  there = λ i j lt e. h.there i j (older i j lt e) e;
  next = λ i j lt e. h.next i j (older i j lt e) e;
  once = λ i k j lt lt' e e'. h.once i k j (older i j lt e) (older k j lt' e') e e';
} where
  older : (i j : ℕ) → i < n + 1 → (node_at ks i).later ≡ suc j → i < n
  older i j lt e = by (below_or i n lt)
    where
      by : (i ≡ n) ⊎ (i < n) → i < n
      by (inl is) = absurd (omega (arith, e, ap (λ x. (node_at ks x).later) is, zero_is))
      by (inr lt) = lt

pub none_marked_more : (ks : List NodePart) (n : ℕ) (marks : List Bool) → AreMarked ks n marks → (node_at ks n).later ≡ 0 → AreMarked ks (n + 1) marks
none_marked_more ks n marks h zero_is = record {
  wide = h.wide;
  each = λ i j lt e. h.each i j (older i j lt e) e;
  only = λ j e. let o = h.only j e in (o.0, omega (arith, o.1), o.2);
} where
  older : (i j : ℕ) → i < n + 1 → (node_at ks i).later ≡ suc j → i < n
  older i j lt e = by (below_or i n lt)
    where
      by : (i ≡ n) ⊎ (i < n) → i < n
      by (inl is) = absurd (omega (arith, e, ap (λ x. (node_at ks x).later) is, zero_is))
      by (inr lt) = lt

-- a node that leads to one that is not marked
pub one_linked_more : (ks : List NodePart) (n t : ℕ) (marks : List Bool) → AreLinked ks n → AreMarked ks n marks → (node_at ks n).later ≡ suc t → CanLead ks marks n t → AreLinked ks (n + 1)
one_linked_more ks n t marks h m later can = record {
  there = λ i j lt e. there_by i j e (below_or i n lt);
  next = λ i j lt e. next_by i j e (below_or i n lt);
  once = λ i k j lt lt' e e'. once_by i k j e e' (below_or i n lt) (below_or k n lt');
} where
  target : (i j : ℕ) → i ≡ n → (node_at ks i).later ≡ suc j → j ≡ t
  target i j is e = omega (arith, e, ap (λ x. (node_at ks x).later) is, later)

  there_by : (i j : ℕ) → (node_at ks i).later ≡ suc j → (i ≡ n) ⊎ (i < n) → j < length ks
  there_by i j e (inl is) = omega (arith, target i j is e, can.there)
  there_by i j e (inr lt) = h.there i j lt e

  next_by : (i j : ℕ) → (node_at ks i).later ≡ suc j → (i ≡ n) ⊎ (i < n) → IsNext (node_at ks i) (node_at ks j)
  next_by i j e (inl is) = subst (λ (x : ℕ). IsNext (node_at ks i) (node_at ks x)) (sym (target i j is e)) (subst (λ (x : ℕ). IsNext (node_at ks x) (node_at ks t)) (sym is) can.next)
  next_by i j e (inr lt) = h.next i j lt e

  taken : (i j : ℕ) → i < n → (node_at ks i).later ≡ suc j → j ≡ t → ⊥
  taken i j lt e is = true_false (is_marked marks j) (m.each i j lt e) (ap (is_marked marks) is ∙ can.free)

  once_by : (i k j : ℕ) → (node_at ks i).later ≡ suc j → (node_at ks k).later ≡ suc j → (i ≡ n) ⊎ (i < n) → (k ≡ n) ⊎ (k < n) → i ≡ k
  once_by i k j e e' (inl is) (inl is') = is ∙ sym is'
  once_by i k j e e' (inl is) (inr lt) = absurd (taken k j lt e' (target i j is e))
  once_by i k j e e' (inr lt) (inl is) = absurd (taken i j lt e (target k j is e'))
  once_by i k j e e' (inr lt) (inr lt') = h.once i k j lt lt' e e'

pub one_marked_more : (ks : List NodePart) (n t : ℕ) (marks : List Bool) → AreMarked ks n marks → (node_at ks n).later ≡ suc t → CanLead ks marks n t → AreMarked ks (n + 1) (set marks t true)
one_marked_more ks n t marks m later can = record {
  wide = length-set marks t true ∙ m.wide;
  each = λ i j lt e. each_by i j e (below_or i n lt) (cases_eq j t);
  only = λ j e. only_by j e (cases_eq j t);
} where
  wide : t < length marks
  wide = omega (arith, m.wide, can.there)

  set_there : (j : ℕ) → j ≡ t → is_marked (set marks t true) j ≡ true
  set_there j is = ap (is_marked (set marks t true)) is ∙ get_or-set_same marks t true false wide

  each_by : (i j : ℕ) → (node_at ks i).later ≡ suc j → (i ≡ n) ⊎ (i < n) → (j ≡ t) ⊎ (j ≢ t) → is_marked (set marks t true) j ≡ true
  each_by i j e at (inl is) = set_there j is
  each_by i j e (inl is) (inr not) = absurd (not (omega (arith, e, ap (λ x. (node_at ks x).later) is, later)))
  each_by i j e (inr lt) (inr not) = get_or-set_other marks t j true false not ∙ m.each i j lt e

  only_by : (j : ℕ) → is_marked (set marks t true) j ≡ true → (j ≡ t) ⊎ (j ≢ t) → (i : ℕ) × (i < n + 1) × ((node_at ks i).later ≡ suc j)
  only_by j e (inl is) = (n, omega arith, later ∙ ap suc (sym is))
  only_by j e (inr not) = (let o = m.only j (sym (get_or-set_other marks t j true false not) ∙ e) in (o.0, omega (arith, o.1), o.2))

-- a node that cannot lead where it does
pub not_linked : (ks : List NodePart) (n t : ℕ) (marks : List Bool) → AreMarked ks n marks → n < length ks → (node_at ks n).later ≡ suc t → (CanLead ks marks n t → ⊥) → AreLinked ks (length ks) → ⊥
not_linked ks n t marks m lt later cannot h = by (is_marked marks t) refl
  where
    by : (b : Bool) → is_marked marks t ≡ b → ⊥
    by true is = (let o = m.only t is in omega (arith, h.once o.0 n t (omega (arith, o.1)) lt o.2 later, o.1))
    by false is = cannot (record { there = h.there n t lt later; free = is; next = h.next n t lt later })

-- ---- heads

-- a node that is a head
pub one_head_more : (ks : List NodePart) (marks : List Bool) (n : ℕ) (heads : List Head) → AreHeads ks marks n heads → is_marked marks n ≡ false
    → AreHeads ks marks (n + 1) (heads ++ head_at ks n ∷ [])
one_head_more ks marks n heads h free = record {
  each = λ i lt e. each_by i e (below_or i n lt);
  only = λ x c. only_by x (Contains-push_cases heads (head_at ks n) x c);
} where
  each_by : (i : ℕ) → is_marked marks i ≡ false → (i ≡ n) ⊎ (i < n) → Contains (heads ++ head_at ks n ∷ []) (head_at ks i)
  each_by i e (inl is) = subst (λ (x : ℕ). Contains (heads ++ head_at ks n ∷ []) (head_at ks x)) (sym is) (Contains-push heads (head_at ks n))
  each_by i e (inr lt) = Contains-append_left heads (head_at ks n ∷ []) (head_at ks i) (h.each i lt e)

  only_by : (x : Head) → Contains heads x ⊎ (head_at ks n ≡ x) → (x.node < n + 1) × (is_marked marks x.node ≡ false) × (x ≡ head_at ks x.node)
  only_by x (inl c) = (let o = h.only x c in (omega (arith, o.0), o.1, o.2))
  only_by x (inr is) =
      let number : n ≡ x.node = ap (λ (y : Head). y.node) is in
      (omega (arith, number), subst (λ (k : ℕ). is_marked marks k ≡ false) number free, sym is ∙ ap (head_at ks) number)

-- a node that is none
pub no_head_more : (ks : List NodePart) (marks : List Bool) (n : ℕ) (heads : List Head) → AreHeads ks marks n heads → is_marked marks n ≡ true → AreHeads ks marks (n + 1) heads
no_head_more ks marks n heads h taken = record {
  each = λ i lt e. each_by i e (below_or i n lt);
  only = λ x c. let o = h.only x c in (omega (arith, o.0), o.1, o.2);
} where
  each_by : (i : ℕ) → is_marked marks i ≡ false → (i ≡ n) ⊎ (i < n) → Contains heads (head_at ks i)
  each_by i e (inl is) = absurd (true_false (is_marked marks i) (ap (is_marked marks) is ∙ taken) e)
  each_by i e (inr lt) = h.each i lt e
