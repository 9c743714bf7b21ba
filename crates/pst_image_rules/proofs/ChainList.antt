-- The list of chains, one head after the other.
use Rattle.std.proofs.Common.{◌≡◌, ℕ, suc, ◌+◌, ◌<◌, ◌≤◌, Bool, true, false, List, [], ◌∷◌, ◌++◌, length, refl, sym, ap, subst, ◌∙◌, arith, ◌⊎◌, inl, inr, length-append}
use Rattle.std.proofs.lemmas.Bool.{cases_lt}
use Rattle.std.proofs.lemmas.List.{get_or_append_left}
use Rattle.pst_image_form.specs.declared.parts.NodePart.{NodePart}
use Rattle.pst_image_rules.specs.declared.ends.Chain.{Chain}
use Rattle.pst_image_rules.specs.Nodes.{node_at}
use Rattle.pst_image_rules.specs.Chains.{Leads, LeadsBy, HaveLives, AreInChains, chain_at, no_chain, IsChain, IsInChain, AreChains}
use Rattle.pst_image_rules.specs.Heads.{AreLinked, AreMarked, is_marked, IsLastOf, HasHeadAt, AreChainsTo}
use Rattle.pst_image_rules.proofs.Marks.{below_or, true_false}
use Rattle.pst_image_rules.proofs.Ways.{longer, both_ways, first_step, linked, fits_on, head_of}

-- nodes in chains are linked
pub links_of : (ks : List NodePart) → HaveLives ks → AreInChains ks → AreLinked ks (length ks)
links_of ks lives (places, (next_run, c)) = linked places next_run ks lives c

-- one step further
pub leads_on : (ks : List NodePart) (i j k : ℕ) → Leads ks i j → (node_at ks j).later ≡ suc k → Leads ks i k
leads_on ks i j k way e = (suc way.0, longer ks way.0 i j k way.1 e)

last_is : (chains : List Chain) (c : Chain) → chain_at (chains ++ c ∷ []) (length chains) ≡ c
last_is [] c = refl
last_is (x ∷ chains) c = last_is chains c

-- no chain is listed
pub none_listed : (ks : List NodePart) (marks : List Bool) → AreChainsTo ks marks 0 []
none_listed ks marks = record {
  each = λ k lt. absurd (omega arith);
  below = λ k lt. absurd (omega arith);
  rising = λ k lt. absurd (omega arith);
  all = λ i lt free. absurd (omega arith);
}

-- a node that is no head
pub none_more : (ks : List NodePart) (marks : List Bool) (n : ℕ) (chains : List Chain) → AreChainsTo ks marks n chains → is_marked marks n ≡ true → AreChainsTo ks marks (n + 1) chains
none_more ks marks n chains h taken = record {
  each = h.each;
  below = λ k lt. omega (arith, h.below k lt);
  rising = h.rising;
  all = λ i lt free. by i free (below_or i n lt);
} where
  by : (i : ℕ) → is_marked marks i ≡ false → (i ≡ n) ⊎ (i < n) → HasHeadAt chains i
  by i free (inl is) = absurd (true_false (is_marked marks i) (ap (is_marked marks) is ∙ taken) free)
  by i free (inr lt) = h.all i lt free

-- a head, and the last node of its chain
pub chain_is : (ks : List NodePart) (marks : List Bool) (n : ℕ) (c : Chain) → AreMarked ks (length ks) marks → n < length ks
    → is_marked marks n ≡ false → c.head.0 ≡ n → IsLastOf ks n c.last.0 → IsChain ks c
chain_is ks marks n c m there free head_is last = record {
  head_there = omega arith;
  last_there = last.there;
  is_head = λ k lt e. true_false (is_marked marks n) (m.each k n lt (e ∙ ap suc head_is)) free;
  is_last = last.none;
  leads = subst (λ (i : ℕ). Leads ks i c.last.0) (sym head_is) last.leads;
}

-- one of a list with one more at its end: an earlier one, or that one
data Which (chains : List Chain) (c : Chain) (k : ℕ) : Type 0 where
  earlier : k < length chains → chain_at (chains ++ c ∷ []) k ≡ chain_at chains k → Which chains c k
  newest : k ≡ length chains → chain_at (chains ++ c ∷ []) k ≡ c → Which chains c k

which : (chains : List Chain) (c : Chain) (k : ℕ) → k < length (chains ++ c ∷ []) → Which chains c k
which chains c k lt = by (cases_lt k (length chains))
  where
    by : (k < length chains) ⊎ (length chains ≤ k) → Which chains c k
    by (inl less) = earlier less (get_or_append_left chains (c ∷ []) no_chain k less)
    by (inr le) = (let is : k ≡ length chains = omega (arith, length-append chains (c ∷ [])) in newest is (ap (λ (j : ℕ). chain_at (chains ++ c ∷ []) j) is ∙ last_is chains c))

pub one_more : (ks : List NodePart) (marks : List Bool) (n : ℕ) (chains : List Chain) (c : Chain) → AreChainsTo ks marks n chains → c.head.0 ≡ n
    → IsChain ks c → AreChainsTo ks marks (n + 1) (chains ++ c ∷ [])
one_more ks marks n chains c h head_is chain = record {
  each = λ k lt. each_by k (which chains c k lt);
  below = λ k lt. below_by k (which chains c k lt);
  rising = λ k lt. rising_by k (which chains c k (omega arith)) (which chains c (k + 1) lt);
  all = λ i lt free. all_by i free (below_or i n lt);
} where
  each_by : (k : ℕ) → Which chains c k → IsChain ks (chain_at (chains ++ c ∷ []) k)
  each_by k (earlier lt is) = subst (IsChain ks) (sym is) (h.each k lt)
  each_by k (newest at is) = subst (IsChain ks) (sym is) chain

  head : Chain → ℕ
  head x = x.head.0

  below_by : (k : ℕ) → Which chains c k → (chain_at (chains ++ c ∷ []) k).head.0 < n + 1
  below_by k (earlier lt is) = subst (λ (x : Chain). x.head.0 < n + 1) (sym is) (omega (arith, h.below k lt))
  below_by k (newest at is) = subst (λ (x : Chain). x.head.0 < n + 1) (sym is) (omega arith)

  rising_by : (k : ℕ) → Which chains c k → Which chains c (k + 1) → (chain_at (chains ++ c ∷ []) k).head.0 < (chain_at (chains ++ c ∷ []) (k + 1)).head.0
  rising_by k (earlier lt is) (earlier lt' is') = omega (arith, ap (λ (x : Chain). x.head.0) is, ap (λ (x : Chain). x.head.0) is', h.rising k lt')
  rising_by k (earlier lt is) (newest at is') = omega (arith, ap (λ (x : Chain). x.head.0) is, ap (λ (x : Chain). x.head.0) is', h.below k lt)
  rising_by k (newest at is) (earlier lt' is') = absurd (omega arith)
  rising_by k (newest at is) (newest at' is') = absurd (omega arith)

  wider : length (chains ++ c ∷ []) ≡ length chains + 1
  wider = length-append chains (c ∷ [])

  all_by : (i : ℕ) → is_marked marks i ≡ false → (i ≡ n) ⊎ (i < n) → HasHeadAt (chains ++ c ∷ []) i
  all_by i free (inl is) = record { index = length chains; there = omega (arith, wider); is = ap (λ (x : Chain). x.head.0) (last_is chains c) ∙ head_is ∙ sym is }
  all_by i free (inr lt) =
      let at = h.all i lt free in
      record { index = at.index; there = omega (arith, wider, at.there); is = ap (λ (x : Chain). x.head.0) (get_or_append_left chains (c ∷ []) no_chain at.index at.there) ∙ at.is }

-- all heads are seen
pub all_chains : (ks : List NodePart) (marks : List Bool) (chains : List Chain) → AreLinked ks (length ks) → HaveLives ks
    → AreMarked ks (length ks) marks → AreChainsTo ks marks (length ks) chains → AreChains ks chains
all_chains ks marks chains links lives m h = record { each = h.each; rising = h.rising; all = all_by } where
  behind : (i last : ℕ) → (node_at ks last).later ≡ 0 → Leads ks i last ⊎ Leads ks last i → Leads ks i last
  behind i last none (inl way) = way
  behind i last none (inr way) = by (first_step ks way.0 last i way.1)
    where
      by : (last ≡ i) ⊎ ((j : ℕ) × ((node_at ks last).later ≡ suc j) × Leads ks j i) → Leads ks i last
      by (inl is) = (0, sym is)
      by (inr s) = absurd (omega (arith, s.1, none))

  all_by : (i : ℕ) → i < length ks → IsInChain ks chains i
  all_by i lt =
      let g = head_of ks marks (fits_on ks links) lives m (suc ((node_at ks i).lo)) i (omega arith) lt in
      let at = h.all g.head g.there g.free in
      let chain = h.each at.index at.there in
      let way : LeadsBy ks g.steps (chain_at chains at.index).head.0 i = subst (λ (x : ℕ). LeadsBy ks g.steps x i) (sym at.is) g.way in
      record {
        index = at.index;
        there = at.there;
        from_head = (g.steps, way);
        to_last = behind i (chain_at chains at.index).last.0 chain.is_last (both_ways ks g.steps chain.leads.0 (chain_at chains at.index).head.0 i (chain_at chains at.index).last.0 way chain.leads.1);
      }
