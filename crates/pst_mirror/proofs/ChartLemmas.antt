use Rattle.std.proofs.Common.{◌≡◌, ◌≢◌, ℕ, zero, suc, ◌+◌, ◌-◌, ◌<◌, ◌≤◌, true, false, ◌||◌, ◌&&◌, cond, Option, Some, None, is_some, eqb, ltb, leb, List, []}
use Rattle.std.proofs.Common.{◌∷◌, length, get_or, set, refl, sym, ap, ap₂, ◌∙◌, ◌⊎◌, inl, inr, ⊎_elim, arith}
use Rattle.std.proofs.lemmas.Bool.{cases_eq, cases_lt, cases_Bool, eq-eqb, ne_eqb, le-leb, lt-leb, lt-ltb, le-ltb, leb-true, ltb-true, and_parts, and_from, and_left, and_right, or_parts, false≢true}
use Rattle.std.proofs.Math.Bool.{and-false}
use Rattle.pst_rows.specs.declared.content.Content.{Content}
use Rattle.pst_rows.specs.declared.content.Content.TheVariants.{Null}
use Rattle.pst_rows.specs.Values.{RowValue, stamps_in, base_in, content_in, edge_in, IsValue, IsValueSet}
use Rattle.pst_rows.specs.Timeline.{in_force, is_edge, start_of, AreInside}
use Rattle.pst_mirror.specs.Segments.{IsSegmentOf}
use Rattle.pst_mirror.specs.Charts.{is_alive, row_holds, rows_hold, rows_edge, chart_of, IsSlotSet, RowSetLaw, ChartsAreSteady, ChartsAreTiled}
use Rattle.pst_rows.proofs.TimelineLemmas.{set_over_reads, set_over_edges, steady, same_below, option_cases, edge_here, some_is, start_high}
use Rattle.pst_mirror.proofs.ValueLemmas.{value_inside}

pub alive : (r : ℕ → ℕ) (row : RowValue) (m : ℕ) → r row.lo.0 ≤ m → m < r row.hi.0 → is_alive r row m ≡ true
alive r row m l k = and_from (leb (r row.lo.0) m) (ltb m (r row.hi.0)) (le-leb (r row.lo.0) m l) (lt-ltb m (r row.hi.0) k)

pub alive_is : (r : ℕ → ℕ) (row : RowValue) (m : ℕ) → is_alive r row m ≡ true → (r row.lo.0 ≤ m) × (m < r row.hi.0)
alive_is r row m h = let p : (leb (r row.lo.0) m ≡ true) × (ltb m (r row.hi.0) ≡ true) = and_parts (leb (r row.lo.0) m) (ltb m (r row.hi.0)) h in
    (leb-true (r row.lo.0) m p.0, ltb-true m (r row.hi.0) p.1)

pub dead : (r : ℕ → ℕ) (row : RowValue) (m : ℕ) → (m < r row.lo.0) ⊎ (r row.hi.0 ≤ m) → is_alive r row m ≡ false
dead r row m o = ⊎_elim (λ (l : m < r row.lo.0). and_left (leb (r row.lo.0) m) (ltb m (r row.hi.0)) (lt-leb (r row.lo.0) m l))
    (λ (l : r row.hi.0 ≤ m). and_right (leb (r row.lo.0) m) (ltb m (r row.hi.0)) (le-ltb m (r row.hi.0) l)) o

pub row_steady : (r : ℕ → ℕ) (places : ℕ) (row : RowValue) → IsValue r places row → (g n : ℕ) → edge_in r row g (suc n) ≡ false → row_holds r row g (suc n) ≡ row_holds r row g n
row_steady r places row h g n e =
    let p : ((eqb (suc n) (r row.lo.0) || eqb (suc n) (r row.hi.0)) ≡ false) × (is_some (stamps_in r row g (suc n)) ≡ false) =
    or_parts (eqb (suc n) (r row.lo.0) || eqb (suc n) (r row.hi.0)) (is_some (stamps_in r row g (suc n))) e in
    let q : (eqb (suc n) (r row.lo.0) ≡ false) × (eqb (suc n) (r row.hi.0) ≡ false) = or_parts (eqb (suc n) (r row.lo.0)) (eqb (suc n) (r row.hi.0)) p.0 in
    let nl : suc n ≢ r row.lo.0 = λ u. false≢true (sym q.0 ∙ eq-eqb (suc n) (r row.lo.0) u) in
    let nh : suc n ≢ r row.hi.0 = λ u. false≢true (sym q.1 ∙ eq-eqb (suc n) (r row.hi.0) u) in
    ⊎_elim
    (λ (l : n < r row.lo.0). rw (dead r row (suc n) (inl (omega arith)), dead r row n (inl l)) refl)
    (λ (l : r row.lo.0 ≤ n). ⊎_elim
    (λ (k : n < r row.hi.0). rw (alive r row (suc n) (omega arith) (omega arith), alive r row n l k) (steady (stamps_in r row g) (base_in row g) (r row.lo.0) (r row.hi.0) n e))
    (λ (k : r row.hi.0 ≤ n). rw (dead r row (suc n) (inr (omega arith)), dead r row n (inr k)) refl)
    (cases_lt n (r row.hi.0)))
    (cases_lt n (r row.lo.0))

pub charts_steady : ChartsAreSteady
charts_steady r places [] h x f n e = refl
charts_steady r places (row ∷ rows) h zero f n e = row_steady r places row h.0 f n e
charts_steady r places (row ∷ rows) h (suc x) f n e = charts_steady r places rows h.1 x f n e

-- one row of the list is replaced
pub rows_hold-set : (r : ℕ → ℕ) (rows : List RowValue) (x : ℕ) (new : RowValue) → x < length rows → (i g m : ℕ)
    → rows_hold r (set rows x new) i g m ≡ cond (eqb i x) (row_holds r new g m) (rows_hold r rows i g m)
rows_hold-set r [] x new l i g m = absurd (omega arith)
rows_hold-set r (row ∷ rows) zero new l zero g m = refl
rows_hold-set r (row ∷ rows) zero new l (suc i) g m = let ne : suc i ≡ 0 → ⊥ = λ e. omega arith in rw (ne_eqb (suc i) 0 ne) refl
rows_hold-set r (row ∷ rows) (suc x) new l zero g m = let ne : 0 ≡ suc x → ⊥ = λ e. omega arith in rw (ne_eqb 0 (suc x) ne) refl
rows_hold-set r (row ∷ rows) (suc x) new l (suc i) g m =
    let ih : rows_hold r (set rows x new) i g m ≡ cond (eqb i x) (row_holds r new g m) (rows_hold r rows i g m) = rows_hold-set r rows x new (omega arith) i g m in
    ⊎_elim (λ (e : i ≡ x). ih ∙ (rw (eq-eqb i x e, eq-eqb (suc i) (suc x) (ap suc e)) refl))
    (λ (ne : i ≡ x → ⊥). let ne' : suc i ≡ suc x → ⊥ = λ q. ne (omega arith) in ih ∙ (rw (ne_eqb i x ne, ne_eqb (suc i) (suc x) ne') refl))
    (cases_eq i x)

pub rows_edge-set : (r : ℕ → ℕ) (rows : List RowValue) (x : ℕ) (new : RowValue) → x < length rows → (i g m : ℕ)
    → rows_edge r (set rows x new) i g m ≡ cond (eqb i x) (edge_in r new g m) (rows_edge r rows i g m)
rows_edge-set r [] x new l i g m = absurd (omega arith)
rows_edge-set r (row ∷ rows) zero new l zero g m = refl
rows_edge-set r (row ∷ rows) zero new l (suc i) g m = let ne : suc i ≡ 0 → ⊥ = λ e. omega arith in rw (ne_eqb (suc i) 0 ne) refl
rows_edge-set r (row ∷ rows) (suc x) new l zero g m = let ne : 0 ≡ suc x → ⊥ = λ e. omega arith in rw (ne_eqb 0 (suc x) ne) refl
rows_edge-set r (row ∷ rows) (suc x) new l (suc i) g m =
    let ih : rows_edge r (set rows x new) i g m ≡ cond (eqb i x) (edge_in r new g m) (rows_edge r rows i g m) = rows_edge-set r rows x new (omega arith) i g m in
    ⊎_elim (λ (e : i ≡ x). ih ∙ (rw (eq-eqb i x e, eq-eqb (suc i) (suc x) (ap suc e)) refl))
    (λ (ne : i ≡ x → ⊥). let ne' : suc i ≡ suc x → ⊥ = λ q. ne (omega arith) in ih ∙ (rw (ne_eqb i x ne, ne_eqb (suc i) (suc x) ne') refl))
    (cases_eq i x)

pub rows_hold-at : (r : ℕ → ℕ) (rows : List RowValue) (x : ℕ) (none : RowValue) → x < length rows → (g m : ℕ) → rows_hold r rows x g m ≡ row_holds r (get_or rows x none) g m
rows_hold-at r [] x none l g m = absurd (omega arith)
rows_hold-at r (row ∷ rows) zero none l g m = refl
rows_hold-at r (row ∷ rows) (suc x) none l g m = rows_hold-at r rows x none (omega arith) g m

pub rows_edge-at : (r : ℕ → ℕ) (rows : List RowValue) (x : ℕ) (none : RowValue) → x < length rows → (g m : ℕ) → rows_edge r rows x g m ≡ edge_in r (get_or rows x none) g m
rows_edge-at r [] x none l g m = absurd (omega arith)
rows_edge-at r (row ∷ rows) zero none l g m = refl
rows_edge-at r (row ∷ rows) (suc x) none l g m = rows_edge-at r rows x none (omega arith) g m

module _ (r : ℕ → ℕ) (old new : RowValue) (f b : ℕ) (c : Content) (h : IsValueSet r old new f b c) where
  same_alive : (m : ℕ) → is_alive r new m ≡ is_alive r old m
  same_alive m = rw (h.lo, h.hi) refl

  other_slot : (g m : ℕ) → g ≢ f → content_in r new g m ≡ content_in r old g m
  other_slot g m ne = ap (λ (v : Content). in_force (stamps_in r new g) v m) (h.bases g ne) ∙ same_below (stamps_in r old g) (stamps_in r new g) (base_in old g) m (λ k l. h.stamps g k ne)

  pub row_set_holds : (g m : ℕ) → row_holds r new g m ≡ cond (eqb g f && eqb m b) c (row_holds r old g m)
  row_set_holds g m =
      ap (λ v. cond v (content_in r new g m) Null) (same_alive m)
      ∙ ⊎_elim
      (λ (e : g ≡ f). ⊎_elim
      (λ (a : is_alive r old m ≡ true).
      let p : (r old.lo.0 ≤ m) × (m < r old.hi.0) = alive_is r old m a in
      let q : content_in r new f m ≡ cond (eqb m b) c (content_in r old f m) =
      set_over_reads (stamps_in r old f) (stamps_in r new f) (base_in old f) (base_in new f) (r old.lo.0) (r old.hi.0) b c h.slot m p.0 p.1 in
      rw (a, e, eq-eqb f f refl) q)
      (λ (a : is_alive r old m ≡ false).
      let ne : m ≡ b → ⊥ = λ q. false≢true (sym a ∙ ap (is_alive r old) q ∙ alive r old b h.slot.low h.slot.high) in
      rw (a, ne_eqb m b ne, and-false) refl)
      (cases_Bool (is_alive r old m)))
      (λ (ne : g ≡ f → ⊥). rw (ne_eqb g f ne, other_slot g m ne) refl)
      (cases_eq g f)

  pub row_set_edges : (g m : ℕ) → edge_in r new g m ≡ ((eqb g f && (eqb m b || eqb m (b + 1))) || edge_in r old g m)
  row_set_edges g m =
      ap₂ (λ u v. is_edge (stamps_in r new g) (r u.0) (r v.0) m) h.lo h.hi
      ∙ ⊎_elim
      (λ (e : g ≡ f). rw (e, eq-eqb f f refl) (set_over_edges (stamps_in r old f) (stamps_in r new f) (base_in old f) (base_in new f) (r old.lo.0) (r old.hi.0) b c h.slot m))
      (λ (ne : g ≡ f → ⊥). rw (ne_eqb g f ne, h.stamps g m ne) refl)
      (cases_eq g f)

  row_set_chart : (rows : List RowValue) (x : ℕ) (none : RowValue) → x < length rows → get_or rows x none ≡ old → IsSlotSet (chart_of r rows) (chart_of r (set rows x new)) x f b c
  row_set_chart rows x none l is = record {
    holds = λ i g m. rows_hold-set r rows x new l i g m
        ∙ ⊎_elim
        (λ (e : i ≡ x). rw (e, eq-eqb x x refl) (row_set_holds g m ∙ ap (cond (eqb g f && eqb m b) c) (sym (rows_hold-at r rows x none l g m ∙ ap (λ w. row_holds r w g m) is))))
        (λ (ne : i ≡ x → ⊥). rw (ne_eqb i x ne) refl)
        (cases_eq i x);
    edges = λ i g m. rows_edge-set r rows x new l i g m
        ∙ ⊎_elim
        (λ (e : i ≡ x). rw (e, eq-eqb x x refl) (row_set_edges g m ∙ ap (λ v. (eqb g f && (eqb m b || eqb m (b + 1))) || v) (sym (rows_edge-at r rows x none l g m ∙ ap (λ w. edge_in r w g m) is))))
        (λ (ne : i ≡ x → ⊥). rw (ne_eqb i x ne) refl)
        (cases_eq i x);
  }

pub row_set_law : RowSetLaw
row_set_law r rows x none new f b c l h = row_set_chart r (get_or rows x none) new f b c h rows x none l refl

pub start_le : (st : ℕ → Option Content) (lo n : ℕ) → lo ≤ n → start_of st lo n ≤ n
start_le st lo zero l = l
start_le st lo (suc n) l =
    ⊎_elim
    (λ (e : st (suc n) ≡ None). rw e (⊎_elim (λ (k : lo ≤ n). omega (arith, start_le st lo n k)) (λ (k : n < lo). omega (arith, start_of_low st lo n k)) (go lo n)))
    (λ (w : (v : Content) × (st (suc n) ≡ Some v)). rw w.1 (omega arith))
    (option_cases (st (suc n)))
  where
    go : (lo n : ℕ) → (lo ≤ n) ⊎ (n < lo)
    go lo n = ⊎_elim (λ (k : n < lo). inr k) (λ (k : lo ≤ n). inl k) (cases_lt n lo)

    start_of_low : (st : ℕ → Option Content) (lo n : ℕ) → n < lo → start_of st lo n ≤ lo
    start_of_low st lo zero l = omega arith
    start_of_low st lo (suc n) l =
        ⊎_elim (λ (e : st (suc n) ≡ None). rw e (start_of_low st lo n (omega arith)))
        (λ (w : (v : Content) × (st (suc n) ≡ Some v)). rw w.1 (omega arith))
        (option_cases (st (suc n)))

pub none_since : (st : ℕ → Option Content) (lo n m : ℕ) → start_of st lo n < m → m ≤ n → st m ≡ None
none_since st lo zero m l k = absurd (omega arith)
none_since st lo (suc n) m l k =
    ⊎_elim
    (λ (e : st (suc n) ≡ None). ⊎_elim
    (λ (q : m ≡ suc n). ap st q ∙ e)
    (λ (q : m ≡ suc n → ⊥). none_since st lo n m (rw e at l) (omega arith))
    (cases_eq m (suc n)))
    (λ (w : (v : Content) × (st (suc n) ≡ Some v)). absurd (let l' : suc n < m = rw w.1 at l in omega arith))
    (option_cases (st (suc n)))

pub next_edge : (st : ℕ → Option Content) (lo hi k n : ℕ) → hi ≡ n + suc k → (c : ℕ) × (n < c) × (is_edge st lo hi c ≡ true) × ((m : ℕ) → n < m → m < c → is_edge st lo hi m ≡ false)
next_edge st lo hi zero n e = (suc n, omega arith, edge_here st lo hi (suc n) (inr (inl (omega arith))), λ m l r. absurd (omega arith))
next_edge st lo hi (suc k) n e =
    ⊎_elim
    (λ (q : is_edge st lo hi (suc n) ≡ true). (suc n, omega arith, q, λ m l r. absurd (omega arith)))
    (λ (q : is_edge st lo hi (suc n) ≡ false).
    let t : (c : ℕ) × (suc n < c) × (is_edge st lo hi c ≡ true) × ((m : ℕ) → suc n < m → m < c → is_edge st lo hi m ≡ false) = next_edge st lo hi k (suc n) (omega arith) in
    (t.0, omega (arith, t.1), t.2, λ m l r. ⊎_elim (λ (u : m ≡ suc n). ap (is_edge st lo hi) u ∙ q) (λ (u : m ≡ suc n → ⊥). t.3 m (omega arith) r) (cases_eq m (suc n))))
    (cases_Bool (is_edge st lo hi (suc n)))

pub edge_at_start : (st : ℕ → Option Content) (lo hi n : ℕ) → is_edge st lo hi (start_of st lo n) ≡ true
edge_at_start st lo hi zero = edge_here st lo hi lo (inl refl)
edge_at_start st lo hi (suc n) =
    ⊎_elim
    (λ (e : st (suc n) ≡ None). rw e (edge_at_start st lo hi n))
    (λ (w : (v : Content) × (st (suc n) ≡ Some v)). let is : start_of st lo (suc n) ≡ suc n = rw w.1 refl in ap (is_edge st lo hi) is
    ∙ edge_here st lo hi (suc n) (inr (inr (some_is (st (suc n)) w.0 w.1))))
    (option_cases (st (suc n)))

-- each position of the life lies in a segment
pub row_tiled : (r : ℕ → ℕ) (places : ℕ) (row : RowValue) → IsValue r places row → (g n : ℕ) → r row.lo.0 ≤ n → n < r row.hi.0 →
    (a : ℕ) × (c : ℕ) × (a ≤ n) × (n < c) × (edge_in r row g a ≡ true) × (edge_in r row g c ≡ true) × ((m : ℕ) → a < m → m < c → edge_in r row g m ≡ false)
row_tiled r places row h g n l k =
    let st : ℕ → Option Content = stamps_in r row g in
    let lo : ℕ = r row.lo.0 in
    let hi : ℕ = r row.hi.0 in
    let i : AreInside st lo hi = value_inside r places row h g in
    let t : (c : ℕ) × (n < c) × (is_edge st lo hi c ≡ true) × ((m : ℕ) → n < m → m < c → is_edge st lo hi m ≡ false) = next_edge st lo hi (hi - suc n) n (omega arith) in
    let low : lo ≤ start_of st lo n = start_high st lo hi n i in (
      start_of st lo n,
      t.0,
      start_le st lo n l,
      t.1,
      edge_at_start st lo hi n,
      t.2,
      λ m p q. ⊎_elim
          (λ (u : n < m). t.3 m u q)
          (λ (u : m ≤ n).
          let none : st m ≡ None = none_since st lo n m p u in
          let nl : m ≡ lo → ⊥ = λ e. omega arith in
          let nh : m ≡ hi → ⊥ = λ e. omega arith in
          rw (ne_eqb m lo nl, ne_eqb m hi nh, none) refl)
          (cases_lt n m),
    )

pub charts_tiled : ChartsAreTiled
charts_tiled r places [] h x f n e = absurd (e refl)
charts_tiled r places (row ∷ rows) h (suc x) f n e =
    let t : (a : ℕ) × (c : ℕ) × (a ≤ n) × (n < c) × IsSegmentOf (chart_of r rows) x f a c = charts_tiled r places rows h.1 x f n e in
    (t.0, t.1, t.2, t.3, record { begins = t.4.begins; ends = t.4.ends; some = t.4.some; whole = t.4.whole })
charts_tiled r places (row ∷ rows) h zero f n e =
    ⊎_elim
    (λ (a : is_alive r row n ≡ true).
    let p : (r row.lo.0 ≤ n) × (n < r row.hi.0) = alive_is r row n a in
    let t : (a : ℕ) × (c : ℕ) × (a ≤ n) × (n < c) × (edge_in r row f a ≡ true) × (edge_in r row f c ≡ true)
    × ((m : ℕ) → a < m → m < c → edge_in r row f m ≡ false) = row_tiled r places row h.0 f n p.0 p.1 in
    (t.0, t.1, t.2, t.3, record { begins = t.4; ends = t.5; some = omega (arith, t.2, t.3); whole = t.6 }))
    (λ (a : is_alive r row n ≡ false). absurd (e (rw a refl)))
    (cases_Bool (is_alive r row n))
