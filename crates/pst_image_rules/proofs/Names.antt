-- Names in order: those that are one stand side by side.
use Rattle.std.proofs.Common.{◌≡◌, ◌≢◌, ℕ, zero, suc, ◌+◌, ◌-◌, ◌<◌, ◌≤◌, false, List, length, get_or, sym, ap, subst, ◌∙◌, arith, ◌⊎◌, inl, inr}
use Rattle.std.specs.List.{Contains}
use Rattle.std.specs.List.Sorted.{IsPermutation, IsSorted}
use Rattle.std.specs.Ordering.{nat_cmp, ordering_then, is_lt}
use Rattle.std.specs.declared.cmp.Ordering.{Ordering}
use Rattle.std.proofs.lemmas.Bool.{cases_eq, cases_lt}
use Rattle.std.proofs.lemmas.List.{get_or_default}
use Rattle.std.proofs.lemmas.List.Elements.{Contains-get_or}
use Rattle.std.proofs.lemmas.List.Sorted.{Contains-permutation, IsPermutation-sym}
use Rattle.std.proofs.lemmas.Bool.Decides.{nat_tests}
use Rattle.pst_image_rules.specs.declared.heads.Head.{Head}
use Rattle.pst_image_rules.specs.Heads.{no_head, HaveOwnNames, IsApart, AreNeighboursApart}

abbrev pub head_cmp : Head → Head → Ordering
head_cmp g h = ordering_then (ordering_then (nat_cmp g.name.run.0 h.name.run.0) (nat_cmp g.name.ordinal h.name.ordinal)) (nat_cmp g.node h.node)

-- the name of g is not behind that of h
abbrev NotBehind : Head → Head → Type 0
NotBehind g h = (g.name.run.0 < h.name.run.0) ⊎ ((g.name.run.0 ≡ h.name.run.0) × (g.name.ordinal ≤ h.name.ordinal))

not_behind : (g h : Head) → is_lt (head_cmp h g) ≡ false → NotBehind g h
not_behind g h not = grind (arith, nat_tests)

-- what stands further on is not before
further : (xs : List Head) → IsSorted head_cmp xs → (p n : ℕ) → p + n < length xs → NotBehind (get_or xs p no_head) (get_or xs (p + n) no_head)
further xs sorted p zero lt = inr (
  ap (λ (k : ℕ). (get_or xs k no_head).name.run.0) (omega arith),
  omega (arith, ap (λ (k : ℕ). (get_or xs k no_head).name.ordinal) (let e : p ≡ p + 0 = omega arith in e)),
)
further xs sorted p (suc n) lt = by (further xs sorted p n (omega arith)) (not_behind (get_or xs (p + n) no_head) (get_or xs (p + suc n) no_head) (step (p + suc n) (omega arith)))
  where
    step : (k : ℕ) → k ≡ (p + n) + 1 → is_lt (head_cmp (get_or xs k no_head) (get_or xs (p + n) no_head)) ≡ false
    step k is = ap (λ (j : ℕ). is_lt (head_cmp (get_or xs j no_head) (get_or xs (p + n) no_head))) is ∙ sorted (p + n) no_head (omega arith) (omega arith)

    by : NotBehind (get_or xs p no_head) (get_or xs (p + n) no_head) → NotBehind (get_or xs (p + n) no_head) (get_or xs (p + suc n) no_head)
        → NotBehind (get_or xs p no_head) (get_or xs (p + suc n) no_head)
    by (inl a) (inl b) = inl (omega arith)
    by (inl a) (inr b) = inl (omega (arith, b.0))
    by (inr a) (inl b) = inl (omega (arith, a.0))
    by (inr a) (inr b) = inr (a.0 ∙ b.0, omega (arith, a.1, b.1))

-- between two of one name all are of that name
between : (g m h : Head) → NotBehind g m → NotBehind m h → g.name.run.0 ≡ h.name.run.0 → g.name.ordinal ≡ h.name.ordinal → (g.name.run.0 ≡ m.name.run.0) × (g.name.ordinal ≡ m.name.ordinal)
between g m h (inl a) (inl b) r o = absurd (omega arith)
between g m h (inl a) (inr b) r o = absurd (omega (arith, b.0))
between g m h (inr a) (inl b) r o = absurd (omega (arith, a.0))
between g m h (inr a) (inr b) r o = (a.0, omega (arith, a.1, b.1))

one_node : (xs : List Head) → IsSorted head_cmp xs → AreNeighboursApart xs → (p n : ℕ) → p + n < length xs
    → (get_or xs p no_head).name.run.0 ≡ (get_or xs (p + n) no_head).name.run.0 → (get_or xs p no_head).name.ordinal ≡ (get_or xs (p + n) no_head).name.ordinal
    → (get_or xs p no_head).node ≡ (get_or xs (p + n) no_head).node
one_node xs sorted apart p zero lt r o = ap (λ (k : ℕ). (get_or xs k no_head).node) (omega arith)
one_node xs sorted apart p (suc n) lt r o =
    let behind : (p + n) + 1 ≡ p + suc n = omega arith in
    let last : NotBehind (get_or xs (p + n) no_head) (get_or xs (p + suc n) no_head) =
    subst (λ (k : ℕ). NotBehind (get_or xs (p + n) no_head) (get_or xs k no_head)) behind
    (not_behind (get_or xs (p + n) no_head) (get_or xs ((p + n) + 1) no_head) (sorted (p + n) no_head (omega arith) (omega arith))) in
    let same = between (get_or xs p no_head) (get_or xs (p + n) no_head) (get_or xs (p + suc n) no_head) (further xs sorted p n (omega arith)) last r o in
    let neighbour = (apart (p + n) (omega arith)).same (record {
      run = sym same.0 ∙ r ∙ ap (λ (k : ℕ). (get_or xs k no_head).name.run.0) (sym behind);
      ordinal = sym same.1 ∙ o
          ∙ ap (λ (k : ℕ). (get_or xs k no_head).name.ordinal) (sym behind);
    }) in
    one_node xs sorted apart p n (omega arith) same.0 same.1 ∙ neighbour ∙ ap (λ (k : ℕ). (get_or xs k no_head).node) behind

-- sorted heads whose neighbours are of different names have names of their own
pub own_names : (xs ys : List Head) → IsPermutation xs ys → IsSorted head_cmp ys → AreNeighboursApart ys → HaveOwnNames xs
own_names xs ys moved sorted apart g h cg ch both = by (Contains-permutation xs ys g moved cg) (Contains-permutation xs ys h moved ch)
  where
    by : Contains ys g → Contains ys h → g.node ≡ h.node
    by (p, p_lt, p_is) (q, q_lt, q_is) = order (cases_lt p q)
      where
        g_is : get_or ys p no_head ≡ g
        g_is = get_or_default ys p no_head g p_lt ∙ p_is

        h_is : get_or ys q no_head ≡ h
        h_is = get_or_default ys q no_head h q_lt ∙ q_is

        gap : (a b : ℕ) → a ≤ b → (n : ℕ) × (a + n ≡ b)
        gap a b le = (b - a, omega arith)

        order : (p < q) ⊎ (q ≤ p) → g.node ≡ h.node
        order (inl lt) =
            let n = gap p q (omega arith) in
            let far : get_or ys (p + n.0) no_head ≡ h = ap (λ (k : ℕ). get_or ys k no_head) n.1 ∙ h_is in
            sym (ap (λ (x : Head). x.node) g_is) ∙ one_node ys sorted apart p n.0 (omega (arith, n.1))
            (ap (λ (x : Head). x.name.run.0) g_is ∙ both.run ∙ sym (ap (λ (x : Head). x.name.run.0) far))
            (ap (λ (x : Head). x.name.ordinal) g_is ∙ both.ordinal ∙ sym (ap (λ (x : Head). x.name.ordinal) far)) ∙ ap (λ (x : Head). x.node) far
        order (inr le) =
            let n = gap q p le in
            let far : get_or ys (q + n.0) no_head ≡ g = ap (λ (k : ℕ). get_or ys k no_head) n.1 ∙ g_is in
            sym (sym (ap (λ (x : Head). x.node) h_is) ∙ one_node ys sorted apart q n.0 (omega (arith, n.1))
            (ap (λ (x : Head). x.name.run.0) h_is ∙ sym both.run ∙ sym (ap (λ (x : Head). x.name.run.0) far))
            (ap (λ (x : Head). x.name.ordinal) h_is ∙ sym both.ordinal ∙ sym (ap (λ (x : Head). x.name.ordinal) far)) ∙ ap (λ (x : Head). x.node) far)

pub neighbours_apart : (xs ys : List Head) → IsPermutation xs ys → HaveOwnNames xs → AreNeighboursApart ys
neighbours_apart xs ys moved own k lt = record {
  same = λ both. own (get_or ys k no_head) (get_or ys (k + 1) no_head)
      (Contains-permutation ys xs _ (IsPermutation-sym xs ys moved) (Contains-get_or ys k no_head (omega arith)))
      (Contains-permutation ys xs _ (IsPermutation-sym xs ys moved) (Contains-get_or ys (k + 1) no_head lt)) both;
}

pub apart_more : (xs : List Head) (i : ℕ) → 1 ≤ i → ((k : ℕ) → k + 1 < i → IsApart (get_or xs k no_head) (get_or xs (k + 1) no_head)) → IsApart (get_or xs (i - 1) no_head) (get_or xs i no_head)
    → (k : ℕ) → k + 1 < i + 1 → IsApart (get_or xs k no_head) (get_or xs (k + 1) no_head)
apart_more xs i low so_far last k lt = by (cases_eq (k + 1) i)
  where
    by : (k + 1 ≡ i) ⊎ (k + 1 ≢ i) → IsApart (get_or xs k no_head) (get_or xs (k + 1) no_head)
    by (inl is) =
        let before : i - 1 ≡ k = omega arith in
        subst (λ (n : ℕ). IsApart (get_or xs k no_head) (get_or xs n no_head)) (sym is) (subst (λ (n : ℕ). IsApart (get_or xs n no_head) (get_or xs i no_head)) before last)
    by (inr not) = so_far k (omega arith)
