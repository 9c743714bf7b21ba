-- The segment of a slot that covers a position, where its content is replaced.
use Rattle.std.proofs.Common.{◌≡◌, ◌≢◌, ℕ, zero, suc, ◌-◌, ◌<◌, ◌≤◌, true, false, Option, Some, None, refl, sym, ap, ◌∙◌, subst, ⊎_elim, arith}
use Rattle.std.proofs.lemmas.Bool.{cases_eq, cases_lt, ne_eqb}
use Rattle.pst_rows.specs.declared.content.Content.{Content}
use Rattle.pst_rows.specs.Values.{RowValue, stamps_in, base_in, edge_in, IsValueReplaced}
use Rattle.pst_rows.specs.Timeline.{is_edge, start_of, AreInside}
use Rattle.pst_rows.proofs.TimelineLemmas.{option_cases, start_high}
use Rattle.pst_mirror.proofs.ChartLemmas.{start_le, none_since, next_edge, edge_at_start}

-- from the begin of a segment on all positions up to one in it have this begin
start_same : (st : ℕ → Option Content) (lo n m : ℕ) → start_of st lo n ≤ m → m ≤ n → start_of st lo m ≡ start_of st lo n
start_same st lo zero m l k = let e : m ≡ 0 = omega arith in ap (start_of st lo) e
start_same st lo (suc n) m l k =
    ⊎_elim
    (λ (q : m ≡ suc n). ap (start_of st lo) q)
    (λ (ne : m ≡ suc n → ⊥). ⊎_elim
    (λ (e : st (suc n) ≡ None). rw e (start_same st lo n m (rw e at l) (omega arith)))
    (λ (w : (v : Content) × (st (suc n) ≡ Some v)). absurd (let l' : suc n ≤ m = rw w.1 at l in omega arith))
    (option_cases (st (suc n))))
    (cases_eq m (suc n))

-- the segment that covers a position, and the row with another content there, said by its begin
pub record IsAround (r : ℕ → ℕ) (old new : RowValue) (f t : ℕ) (c : Content) : Type 0 where
  pub low : ℕ
  pub high : ℕ
  pub begun : low ≤ t
  pub not_over : t < high
  pub begins : edge_in r old f low ≡ true
  pub ends : edge_in r old f high ≡ true
  pub whole : (m : ℕ) → low < m → m < high → edge_in r old f m ≡ false
  pub replaced : IsValueReplaced r old new f low c

pub around : (r : ℕ → ℕ) (old new : RowValue) (f t : ℕ) (c : Content) → IsValueReplaced r old new f t c → IsAround r old new f t c
around r old new f t c h =
    let st : ℕ → Option Content = stamps_in r old f in
    let st' : ℕ → Option Content = stamps_in r new f in
    let lo : ℕ = r old.lo.0 in
    let hi : ℕ = r old.hi.0 in
    let i : AreInside st lo hi = h.slot.inside in
    let in_life : t < hi = h.slot.high in
    let next : (c : ℕ) × (t < c) × (is_edge st lo hi c ≡ true) × ((m : ℕ) → t < m → m < c → is_edge st lo hi m ≡ false) = next_edge st lo hi (hi - suc t) t (omega arith) in
    let few : start_of st lo t ≤ t = start_le st lo t h.slot.low in
    let least : lo ≤ start_of st lo t = start_high st lo hi t i in
    let same : start_of st lo (start_of st lo t) ≡ start_of st lo t = start_same st lo t (start_of st lo t) (omega arith) few in
    record {
      low = start_of st lo t;
      high = next.0;
      begun = few;
      not_over = next.1;
      begins = edge_at_start st lo hi t;
      ends = next.2;
      whole = λ m p q. ⊎_elim
          (λ (u : t < m). next.3 m u q)
          (λ (u : m ≤ t).
          let none : st m ≡ None = none_since st lo t m p u in
          let nl : m ≡ lo → ⊥ = λ e. omega arith in
          let nh : m ≡ hi → ⊥ = λ e. omega arith in
          rw (ne_eqb m lo nl, ne_eqb m hi nh, none) refl)
          (cases_lt t m);
      replaced = record {
        lo = h.lo;
        hi = h.hi;
        width = h.width;
        slot = record {
          inside = i;
          low = least;
          high = omega arith;
          at_begin = λ e. h.slot.at_begin (sym same ∙ e);
          later = subst (λ (k : ℕ). lo < k → (base_in new f ≡ base_in old f) × (st' k ≡ Some c) × ((n : ℕ) → n ≢ k → st' n ≡ st n)) (sym same) h.slot.later;
        };
        stamps = h.stamps;
        bases = h.bases;
      };
    }
