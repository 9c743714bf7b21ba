-- The nodes of one record form one chain.
use Rattle.std.proofs.Common.{◌≡◌, ℕ, zero, suc, ◌+◌, ◌<◌, ◌≤◌, Option, Some, None, refl, sym, ap, ◌∙◌, ◌⊎◌, inl, inr, ⊎_elim, arith}
use Rattle.std.proofs.lemmas.Bool.{cases_lt}
use Rattle.pst_base.specs.Name.{root_name}
use Rattle.pst_store_meaning.specs.Arena.{Arena, IsIn, AreChained}
use Rattle.pst_store_meaning.specs.Store.{LivesOver}
use Rattle.pst_image_meaning.specs.Chains.{ComesAfter, Itself, Beyond, AreRecordChains, AreRecordEnds}
use Rattle.pst_image_meaning.specs.Rules.{ChainsLaw}

module _ (w : Arena) (end : ℕ) (r : AreRecordChains w end) where
  -- the later one is there and ends later, and begins no earlier than the other ends, if it is another
  along : (k i : ℕ) → i < w.count → ComesAfter w k i → (k < w.count) × (w.hi i ≤ w.hi k) × (w.lo i ≤ w.lo k) × ((i ≡ k) ⊎ (w.hi i ≤ w.lo k))
  along k i l Itself = (l, omega arith, omega arith, inl refl)
  along k i l (Beyond x j e u) =
      let n = r.next x j l e in
      let v = along k j n.0 u in
      let s = r.some x l in
      let t = r.some j n.0 in
      (v.0, omega (arith, v.1, n.2), omega (arith, v.2, n.2), inr (omega (arith, v.2, n.2)))

  none_later : (i k : ℕ) → w.later i ≡ None → ComesAfter w k i → i ≡ k
  none_later i k e Itself = refl
  none_later i k e (Beyond x j f u) = absurd (let q : Some j ≡ None = sym f ∙ e in cc)

  none_before : (k i : ℕ) → i < w.count → ((j : ℕ) → j < w.count → w.later j ≡ Some k → ⊥) → ComesAfter w k i → i ≡ k
  none_before k i l alone Itself = refl
  none_before k i l alone (Beyond x j e u) =
      let n = r.next x j l e in
      let same = none_before k j n.0 alone u in
      absurd (alone x l (e ∙ ap (λ y. Some y) same))

  chained : AreChained w
  chained = record {
    some = r.some;
    next = r.next;
    last = λ i j l k e same. elim (r.one i j l k (sym same)) [
      | inl u ↦ (let q : i ≡ j = none_later i j e u in let h : w.hi i ≡ w.hi j = ap w.hi q in omega arith)
      | inr u ↦ (along i j k u).1
    ];
    apart = λ i j l k ne same. elim (r.one i j l k same) [
      | inl u ↦ elim (along j i l u).3 [ inl e ↦ absurd (ne e) | inr h ↦ inl h ]
      | inr u ↦ elim (along i j k u).3 [ inl e ↦ absurd (ne (sym e)) | inr h ↦ inr h ]
    ];
  }

  -- from a node on, some node of its record lives at each position up to the end
  covers : (fuel i n : ℕ) → end < w.hi i + fuel → i < w.count → w.name i ≡ root_name → w.lo i ≤ n → n < end → (j : ℕ) × IsIn w j n × (w.name j ≡ root_name)
  covers zero i n f l name low high = absurd (omega (arith, r.within i l))
  covers (suc fuel) i n f l name low high = ⊎_elim
      (λ (h : n < w.hi i). (i, record { there = l; low = low; high = h }, name))
      (λ (h : w.hi i ≤ n).
      elim (w.later i) as (λ (o : Option ℕ). w.later i ≡ o → (j : ℕ) × IsIn w j n × (w.name j ≡ root_name)) [
        | None ↦ λ e. absurd (omega (arith, r.last i l name e))
        | Some j ↦ λ e.
            let x = r.next i j l e in
            covers fuel j n (omega (arith, r.some j x.0, x.2, f)) x.0 (x.1 ∙ name) (omega (arith, x.2)) high
      ] refl)
      (cases_lt n (w.hi i))

  root : (n : ℕ) → n < end → (i : ℕ) × IsIn w i n × (w.name i ≡ root_name)
  root n l = covers (end + 1) 0 n (omega arith) r.first.0 r.first.1 (omega (arith, r.first.2)) l

  lives : (i first last : ℕ) → i < w.count → AreRecordEnds w i first last → LivesOver w i (w.lo first) (w.hi last)
  lives i first last l e = record {
    first = first;
    starts = record { there = e.first_there; name = e.first_of };
    begins = refl;
    last = last;
    stops = record { there = e.last_there; name = e.last_of };
    ends = refl;
    inside = λ k n.
        let lo : w.lo first ≤ w.lo k = elim (r.one first k e.first_there n.there (e.first_of ∙ sym n.name)) [
          | inl u ↦ (along k first e.first_there u).2
          | inr u ↦ (let q : k ≡ first = none_before first k n.there e.first_is u in let z : w.lo k ≡ w.lo first = ap w.lo q in omega arith)
        ] in
        let hi : w.hi k ≤ w.hi last = elim (r.one last k e.last_there n.there (e.last_of ∙ sym n.name)) [
          | inl u ↦ (let q : last ≡ k = none_later last k e.last_is u in let z : w.hi last ≡ w.hi k = ap w.hi q in omega arith)
          | inr u ↦ (along last k n.there u).1
        ] in
        (lo, hi);
  }

pub chains_law : ChainsLaw
chains_law w end r = record { chained = chained w end r; root = root w end r; lives = lives w end r }
