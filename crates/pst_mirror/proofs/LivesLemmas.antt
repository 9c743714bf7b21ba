use Rattle.std.proofs.Common.{◌≡◌, ℕ, ◌<◌, ◌≤◌, Some, None, sym, ap, ◌∙◌, ◌⊎◌, inl, inr, ⊎_elim, arith}
use Rattle.std.proofs.lemmas.Bool.{cases_eq, cases_lt}
use Rattle.std.proofs.lemmas.Option.{none-some, same_Some}
use Rattle.pst_mirror.specs.Lives.{Lives, AreChained, IsLive, UniqueLaw, WalkLaw, LastLaw, IsSplitLife, SplitLifeLaw, StaysLiveLaw}
use Rattle.pst_rows.proofs.TimelineLemmas.{option_cases}

pub unique_law : UniqueLaw
unique_law w i j n c p q e =
    ⊎_elim (λ (s : i ≡ j). s)
    (λ (ne : i ≡ j → ⊥). absurd (⊎_elim (λ (l : w.hi i ≤ w.lo j). omega (arith, p.high, q.low)) (λ (l : w.hi j ≤ w.lo i). omega (arith, p.low, q.high)) (c.apart i j p.there q.there ne e)))
    (cases_eq i j)

pub walk_law : WalkLaw
walk_law w i n c l =
    ⊎_elim
    (λ (h : n < w.hi i). inl (record { there = l.there; low = l.begun; high = h }))
    (λ (h : w.hi i ≤ n). inr (⊎_elim
    (λ (e : w.later i ≡ None). absurd (let k : w.hi l.covering.0 ≤ w.hi i = c.last i l.covering.0 l.there l.covering.1.there e l.covering.2 in omega (arith, l.covering.1.high)))
    (λ (v : (j : ℕ) × (w.later i ≡ Some j)).
    let x : (v.0 < w.count) × (w.name v.0 ≡ w.name i) × (w.lo v.0 ≡ w.hi i) = c.next i v.0 l.there v.1 in
    let some : w.lo i < w.hi i = c.some i l.there in
    (v.0, v.1, record { there = x.0; begun = omega arith; covering = (l.covering.0, l.covering.1, l.covering.2 ∙ sym x.1) }, x.1, omega arith))
    (option_cases (w.later i))))
    (cases_lt n (w.hi i))

pub last_law : LastLaw
last_law w i c l = (
  λ e j m same. c.last i j l m e same,
  λ h. ⊎_elim
      (λ (e : w.later i ≡ None). e)
      (λ (v : (j : ℕ) × (w.later i ≡ Some j)).
      let x : (v.0 < w.count) × (w.name v.0 ≡ w.name i) × (w.lo v.0 ≡ w.hi i) = c.next i v.0 l v.1 in
      absurd (omega (arith, h v.0 x.0 x.1, c.some v.0 x.0, x.2)))
      (option_cases (w.later i)),
)

module _ (old new : Lives) (x s : ℕ) (h : IsSplitLife old new x s) where
  -- a node of the new list is the new one or an old one
  node_cases : (i : ℕ) → i < new.count → (i ≡ old.count) ⊎ (i < old.count)
  node_cases i l = ⊎_elim (λ (p : i < old.count). inr p) (λ (p : old.count ≤ i). inl (omega (arith, h.count))) (cases_lt i old.count)

  hi_le : (i : ℕ) → i < old.count → new.hi i ≤ old.hi i
  hi_le i l = ⊎_elim (λ (e : i ≡ x). let k : new.hi i ≡ s = ap new.hi e ∙ h.hi_x in let k' : old.hi i ≡ old.hi x = ap old.hi e in
      omega (arith, h.high)) (λ (ne : i ≡ x → ⊥). omega (arith, h.hi i l ne)) (cases_eq i x)

  module _ (c : AreChained old) where
    chained : AreChained new
    chained = record {
      some = λ i l. ⊎_elim
          (λ (e : i ≡ old.count). let a : new.lo i ≡ s = ap new.lo e ∙ h.lo_z in let b : new.hi i ≡ old.hi x = ap new.hi e ∙ h.hi_z in omega (arith, h.high))
          (λ (p : i < old.count). ⊎_elim
          (λ (e : i ≡ x). let a : new.hi i ≡ s = ap new.hi e ∙ h.hi_x in let b : new.lo i ≡ old.lo x = h.lo i p ∙ ap old.lo e in omega (arith, h.low))
          (λ (ne : i ≡ x → ⊥). omega (arith, h.lo i p, h.hi i p ne, c.some i p))
          (cases_eq i x))
          (node_cases i l);
      next = λ i j l e. ⊎_elim
          (λ (q : i ≡ old.count).
          let v : (j < old.count) × (old.name j ≡ old.name x) × (old.lo j ≡ old.hi x) = c.next x j h.there (sym h.later_z ∙ sym (ap new.later q) ∙ e) in
          (omega (arith, v.0, h.count), h.name j v.0 ∙ v.1 ∙ sym h.name_z ∙ sym (ap new.name q), h.lo j v.0 ∙ v.2 ∙ sym h.hi_z ∙ sym (ap new.hi q)))
          (λ (p : i < old.count). ⊎_elim
          (λ (q : i ≡ x).
          let jz : old.count ≡ j = same_Some old.count j (sym h.later_x ∙ sym (ap new.later q) ∙ e) in
          (omega (arith, h.count), sym (ap new.name jz) ∙ h.name_z ∙ sym (h.name x h.there) ∙ sym (ap new.name q), sym (ap new.lo jz) ∙ h.lo_z ∙ sym h.hi_x ∙ sym (ap new.hi q)))
          (λ (ne : i ≡ x → ⊥).
          let v : (j < old.count) × (old.name j ≡ old.name i) × (old.lo j ≡ old.hi i) = c.next i j p (sym (h.later i p ne) ∙ e) in
          (omega (arith, v.0, h.count), h.name j v.0 ∙ v.1 ∙ sym (h.name i p), h.lo j v.0 ∙ v.2 ∙ sym (h.hi i p ne)))
          (cases_eq i x))
          (node_cases i l);
      last = λ i j l k e n. ⊎_elim
          (λ (q : i ≡ old.count).
          let top : new.hi i ≡ old.hi x = ap new.hi q ∙ h.hi_z in
          let end : old.later x ≡ None = sym h.later_z ∙ sym (ap new.later q) ∙ e in
          ⊎_elim
          (λ (q' : j ≡ old.count). let a : new.hi j ≡ old.hi x = ap new.hi q' ∙ h.hi_z in omega arith)
          (λ (p' : j < old.count).
          let same : old.name j ≡ old.name x = sym (h.name j p') ∙ n ∙ ap new.name q ∙ h.name_z in
          let a : old.hi j ≤ old.hi x = c.last x j h.there p' end same in
          omega (arith, hi_le j p'))
          (node_cases j k))
          (λ (p : i < old.count). ⊎_elim
          (λ (q : i ≡ x). absurd (none-some old.count (sym e ∙ ap new.later q ∙ h.later_x)))
          (λ (ne : i ≡ x → ⊥).
          let end : old.later i ≡ None = sym (h.later i p ne) ∙ e in
          ⊎_elim
          (λ (q' : j ≡ old.count).
          let same : old.name x ≡ old.name i = sym h.name_z ∙ sym (ap new.name q') ∙ n ∙ h.name i p in
          let a : old.hi x ≤ old.hi i = c.last i x p h.there end same in
          let b : new.hi j ≡ old.hi x = ap new.hi q' ∙ h.hi_z in
          omega (arith, h.hi i p ne))
          (λ (p' : j < old.count).
          let same : old.name j ≡ old.name i = sym (h.name j p') ∙ n ∙ h.name i p in
          let a : old.hi j ≤ old.hi i = c.last i j p p' end same in
          omega (arith, hi_le j p', h.hi i p ne))
          (node_cases j k))
          (cases_eq i x))
          (node_cases i l);
      apart = λ i j l k ne n. ⊎_elim
          (λ (q : i ≡ old.count). ⊎_elim
          (λ (q' : j ≡ old.count). absurd (ne (q ∙ sym q')))
          (λ (p' : j < old.count). ⊎_elim (λ (a : new.hi j ≤ new.lo i). inr a) (λ (a : new.hi i ≤ new.lo j). inl a) (new_apart j i p' q (sym n)))
          (node_cases j k))
          (λ (p : i < old.count). ⊎_elim
          (λ (q' : j ≡ old.count). new_apart i j p q' n)
          (λ (p' : j < old.count). ⊎_elim
          (λ (a : old.hi i ≤ old.lo j). inl (omega (arith, hi_le i p, h.lo j p')))
          (λ (a : old.hi j ≤ old.lo i). inr (omega (arith, hi_le j p', h.lo i p)))
          (c.apart i j p p' ne (sym (h.name i p) ∙ n ∙ h.name j p')))
          (node_cases j k))
          (node_cases i l);
    }
      where
        new_apart : (i j : ℕ) → i < old.count → j ≡ old.count → new.name i ≡ new.name j → (new.hi i ≤ new.lo j) ⊎ (new.hi j ≤ new.lo i)
        new_apart i j p q n =
            let low : new.lo j ≡ s = ap new.lo q ∙ h.lo_z in
            let high : new.hi j ≡ old.hi x = ap new.hi q ∙ h.hi_z in
            ⊎_elim
            (λ (e : i ≡ x). inl (let a : new.hi i ≡ s = ap new.hi e ∙ h.hi_x in omega arith))
            (λ (ne : i ≡ x → ⊥).
            let same : old.name i ≡ old.name x = sym (h.name i p) ∙ n ∙ ap new.name q ∙ h.name_z in
            ⊎_elim
            (λ (a : old.hi i ≤ old.lo x). inl (omega (arith, h.low, h.hi i p ne)))
            (λ (a : old.hi x ≤ old.lo i). inr (omega (arith, h.lo i p)))
            (c.apart i x p h.there ne same))
            (cases_eq i x)

  stays_live : (i n : ℕ) → IsLive old i n → IsLive new i n
  stays_live i n l =
      let j = l.covering.0 in
      let p : l.covering.0 < old.count = l.covering.1.there in
      let b : old.lo l.covering.0 ≤ n = l.covering.1.low in
      let t : n < old.hi l.covering.0 = l.covering.1.high in
      let at : i < new.count = omega (arith, l.there, h.count) in
      let begun : new.lo i ≤ n = omega (arith, l.begun, h.lo i l.there) in
      ⊎_elim
      (λ (e : l.covering.0 ≡ x). ⊎_elim
      (λ (k : n < s).
      record {
        there = at;
        begun = begun;
        covering = (
          l.covering.0,
          record {
            there = omega (arith, h.count);
            low = omega (arith, h.lo l.covering.0 p);
            high = let a : new.hi l.covering.0 ≡ s = ap new.hi e
                ∙ h.hi_x in omega arith;
          },
          h.name l.covering.0 p ∙ l.covering.2 ∙ sym (h.name i l.there),
        );
      })
      (λ (k : s ≤ n).
      record {
        there = at;
        begun = begun;
        covering = (
          old.count,
          record {
            there = omega (arith, h.count);
            low = omega (arith, h.lo_z);
            high = let a : old.hi l.covering.0 ≡ old.hi x = ap old.hi e in
                omega (arith, h.hi_z);
          },
          h.name_z ∙ sym (ap old.name e) ∙ l.covering.2 ∙ sym (h.name i l.there),
        );
      })
      (cases_lt n s))
      (λ (ne : l.covering.0 ≡ x → ⊥).
      record {
        there = at;
        begun = begun;
        covering = (
          l.covering.0,
          record { there = omega (arith, h.count); low = omega (arith, h.lo l.covering.0 p); high = omega (arith, h.hi l.covering.0 p ne) },
          h.name l.covering.0 p ∙ l.covering.2 ∙ sym (h.name i l.there),
        );
      })
      (cases_eq l.covering.0 x)

pub split_life_law : SplitLifeLaw
split_life_law = chained

pub stays_live_law : StaysLiveLaw
stays_live_law = stays_live
