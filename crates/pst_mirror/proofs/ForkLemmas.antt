use Rattle.std.proofs.Common.{◌≡◌, ◌≢◌, ℕ, zero, suc, ◌-◌, ◌<◌, ◌≤◌, true, false, not, ◌||◌, ◌&&◌, cond, Option, Some, None, is_some, eqb, ltb, leb, List, []}
use Rattle.std.proofs.Common.{◌∷◌, ◌++◌, length, take, drop, refl, sym, ap, ap₂, ◌∙◌, ◌⊎◌, inl, inr, ⊎_elim, arith}
use Rattle.std.proofs.lemmas.Bool.{cases_eq, cases_lt, cases_Bool, eq-eqb, ne_eqb, eqb-true, le-leb, lt-leb, lt-ltb, leb-true, ltb-true, and_right}
use Rattle.std.proofs.Math.Bool.{and-false}
use Rattle.pst_rows.specs.declared.content.Content.TheVariants.{Null}
use Rattle.pst_mirror.specs.Contents.{From}
use Rattle.pst_rows.specs.declared.content.Stamp.{Stamp}
use Rattle.pst_rows.specs.Values.{RowValue, stamp_at, stamps_in, base_in, content_in, edge_in, IsBeforeAll, AreStamps}
use Rattle.pst_rows.specs.Timeline.{in_force}
use Rattle.pst_order.specs.Places.{rank}
use Rattle.pst_mirror.specs.Charts.{is_alive, row_holds, rows_hold, rows_edge, AllRows}
use Rattle.pst_mirror.specs.Fork.{RowsInsertLaw, shift, back, IsInsertedAfter, RankLaw, Apart, RowsApart, InsertLaw, ReindexLaw}
use Rattle.pst_mirror.proofs.MirrorLemmas.{same_bools}
use Rattle.pst_rows.proofs.StampLemmas.{hits}

shift_low : (k n : ℕ) → n ≤ k → shift k n ≡ n
shift_low k n l = rw (le-leb n k l) refl

shift_high : (k n : ℕ) → k < n → shift k n ≡ suc n
shift_high k n l = rw (lt-leb n k l) refl

back_low : (k m : ℕ) → m ≤ k → back k m ≡ m
back_low k m l = rw (le-leb m k l) refl

back_high : (k m : ℕ) → k < m → back k m ≡ m - 1
back_high k m l = rw (lt-leb m k l) refl

-- by cases on both: omega knows shift and back
pub shift_cases : (k n : ℕ) → ((n ≤ k) × (shift k n ≡ n)) ⊎ ((k < n) × (shift k n ≡ suc n))
shift_cases k n = ⊎_elim (λ (l : k < n). inr (l, shift_high k n l)) (λ (l : n ≤ k). inl (l, shift_low k n l)) (cases_lt k n)

pub back_cases : (k m : ℕ) → ((m ≤ k) × (back k m ≡ m)) ⊎ ((k < m) × (back k m ≡ m - 1))
back_cases k m = ⊎_elim (λ (l : k < m). inr (l, back_high k m l)) (λ (l : m ≤ k). inl (l, back_low k m l)) (cases_lt k m)

pub shift_is : (k n m : ℕ) → m ≢ suc k → eqb (shift k n) m ≡ eqb n (back k m)
shift_is k n m ne =
    same_bools (eqb (shift k n) m) (eqb n (back k m))
    (λ e. let q : shift k n ≡ m = eqb-true (shift k n) m e in eq-eqb n (back k m) (omega (arith, shift_cases k n, back_cases k m)))
    (λ e. let q : n ≡ back k m = eqb-true n (back k m) e in eq-eqb (shift k n) m (omega (arith, shift_cases k n, back_cases k m)))

pub shift_not : (k n : ℕ) → eqb (shift k n) (suc k) ≡ false
shift_not k n = ne_eqb (shift k n) (suc k) (λ e. omega (arith, shift_cases k n))

pub shift_leb : (k n m : ℕ) → leb (shift k n) m ≡ leb n (back k m)
shift_leb k n m =
    same_bools (leb (shift k n) m) (leb n (back k m))
    (λ e. let q : shift k n ≤ m = leb-true (shift k n) m e in le-leb n (back k m) (omega (arith, shift_cases k n, back_cases k m)))
    (λ e. let q : n ≤ back k m = leb-true n (back k m) e in le-leb (shift k n) m (omega (arith, shift_cases k n, back_cases k m)))

pub shift_ltb : (k n m : ℕ) → ltb m (shift k n) ≡ ltb (back k m) n
shift_ltb k n m =
    same_bools (ltb m (shift k n)) (ltb (back k m) n)
    (λ e. let q : m < shift k n = ltb-true m (shift k n) e in lt-ltb (back k m) n (omega (arith, shift_cases k n, back_cases k m)))
    (λ e. let q : back k m < n = ltb-true (back k m) n e in lt-ltb m (shift k n) (omega (arith, shift_cases k n, back_cases k m)))

-- a timeline with one position more
pub in_force_back : {C : Type 0} (st st' : ℕ → Option C) (base : C) (k : ℕ) → ((m : ℕ) → m ≢ suc k → st' m ≡ st (back k m)) → st' (suc k) ≡ None
    → (m : ℕ) → in_force st' base m ≡ in_force st base (back k m)
in_force_back st st' base k h none zero =
    let ne : 0 ≡ suc k → ⊥ = λ e. omega arith in
    rw (h 0 ne, back_low k 0 (omega arith)) refl
in_force_back st st' base k h none (suc m) =
    let ih : in_force st' base m ≡ in_force st base (back k m) = in_force_back st st' base k h none m in
    ⊎_elim
    (λ (e : m ≡ k).
    let b : back k (suc m) ≡ m = back_high k (suc m) (omega arith) ∙ omega arith in
    let b' : back k m ≡ m = back_low k m (omega arith) in
    let n : st' (suc m) ≡ None = ap (λ (i : ℕ). st' (suc i)) e ∙ none in
    rw (n, b) (ih ∙ ap (in_force st base) b'))
    (λ (ne : m ≡ k → ⊥).
    let away : suc m ≢ suc k = λ q. ne (omega arith) in
    let b : back k (suc m) ≡ suc (back k m) = omega (arith, back_cases k m, back_cases k (suc m)) in
    let n : st' (suc m) ≡ st (suc (back k m)) = h (suc m) away ∙ ap st b in
    rw (n, b, ih) refl)
    (cases_eq m k)

module _ (r r' : ℕ → ℕ) (k z : ℕ) (ins : IsInsertedAfter r r' k z) where
  stamp_back : (xs : List Stamp) → Apart z xs → (slot m : ℕ) → m ≢ suc k → stamp_at r' xs slot m ≡ stamp_at r xs slot (back k m)
  stamp_back [] a slot m ne = refl
  stamp_back (x ∷ xs) a slot m ne =
      let e : hits r' x slot m ≡ hits r x slot (back k m) = ap (λ v. eqb x.slot.0 slot && v) (ap (λ v. eqb v m) (ins.old x.place.0 a.0) ∙ shift_is k (r x.place.0) m ne) in
      let ih : stamp_at r' xs slot m ≡ stamp_at r xs slot (back k m) = stamp_back xs a.1 slot m ne in
      ap₂ (λ v w. cond v (Some x.content) w) e ih

  stamp_none : (xs : List Stamp) → Apart z xs → (slot : ℕ) → stamp_at r' xs slot (suc k) ≡ None
  stamp_none [] a slot = refl
  stamp_none (x ∷ xs) a slot =
      let e : hits r' x slot (suc k) ≡ false = and_right (eqb x.slot.0 slot) (eqb (r' x.place.0) (suc k)) (ap (λ v. eqb v (suc k)) (ins.old x.place.0 a.0) ∙ shift_not k (r x.place.0)) in
      rw e (stamp_none xs a.1 slot)

  row_back : (row : RowValue) → row.lo.0 ≢ z → row.hi.0 ≢ z → Apart z row.stamps → (g m : ℕ) → row_holds r' row g m ≡ row_holds r row g (back k m)
  row_back row l h a g m =
      ap₂ (λ u v. cond (leb u m && ltb m v) (content_in r' row g m) Null) (ins.old row.lo.0 l) (ins.old row.hi.0 h)
      ∙ ap₂ (λ u v. cond (u && v) (content_in r' row g m) Null) (shift_leb k (r row.lo.0) m) (shift_ltb k (r row.hi.0) m)
      ∙ ap (λ v. cond (is_alive r row (back k m)) v Null) (in_force_back (stamps_in r row g) (stamps_in r' row g) (base_in row g) k
      (λ n ne. stamp_back row.stamps a g n ne) (stamp_none row.stamps a g) m)

  row_back_edge : (row : RowValue) → row.lo.0 ≢ z → row.hi.0 ≢ z → Apart z row.stamps → (g m : ℕ) → edge_in r' row g m ≡ (not (eqb m (suc k)) && edge_in r row g (back k m))
  row_back_edge row l h a g m =
      ap₂ (λ u v. (eqb m u || eqb m v) || is_some (stamps_in r' row g m)) (ins.old row.lo.0 l) (ins.old row.hi.0 h)
      ∙ ⊎_elim
      (λ (e : m ≡ suc k).
      rw (
        e,
        eq-eqb (suc k) (suc k) refl,
        eqb_sym (suc k) (shift k (r row.lo.0)),
        eqb_sym (suc k) (shift k (r row.hi.0)),
        shift_not k (r row.lo.0),
        shift_not k (r row.hi.0),
        stamp_none row.stamps a g,
      ) refl)
      (λ (ne : m ≡ suc k → ⊥).
      rw (
        ne_eqb m (suc k) ne,
        eqb_sym m (shift k (r row.lo.0)),
        eqb_sym m (shift k (r row.hi.0)),
        shift_is k (r row.lo.0) m ne,
        shift_is k (r row.hi.0) m ne,
        stamp_back row.stamps a g m ne,
        eqb_sym (r row.lo.0) (back k m),
        eqb_sym (r row.hi.0) (back k m),
      ) refl)
      (cases_eq m (suc k))
    where
      eqb_sym : (a b : ℕ) → eqb a b ≡ eqb b a
      eqb_sym a b = same_bools (eqb a b) (eqb b a) (λ e. eq-eqb b a (sym (eqb-true a b e))) (λ e. eq-eqb a b (sym (eqb-true b a e)))

  chart_back : (rows : List RowValue) → RowsApart z rows → (i g m : ℕ) → rows_hold r' rows i g m ≡ rows_hold r rows i g (back k m)
  chart_back [] a i g m = refl
  chart_back (row ∷ rows) a zero g m = row_back row a.0 a.1 a.2 g m
  chart_back (row ∷ rows) a (suc i) g m = chart_back rows a.3 i g m

  chart_back_edge : (rows : List RowValue) → RowsApart z rows → (i g m : ℕ) → rows_edge r' rows i g m ≡ (not (eqb m (suc k)) && rows_edge r rows i g (back k m))
  chart_back_edge [] a i g m = sym (and-false (not (eqb m (suc k))))
  chart_back_edge (row ∷ rows) a zero g m = row_back_edge row a.0 a.1 a.2 g m
  chart_back_edge (row ∷ rows) a (suc i) g m = chart_back_edge rows a.3 i g m

pub insert_law : InsertLaw
insert_law r r' k z rows ins a = record { holds = chart_back r r' k z ins rows a; edges = chart_back_edge r r' k z ins rows a }

pub reindex_law : ReindexLaw
reindex_law old new k h mir = record {
  found = λ x f n y p. let t : (s : ℕ) × (old.holds y s (back k n) ≡ From x f) = mir.found x f (back k n) y (sym (h.holds x f n) ∙ p) in (t.0, h.holds y t.0 n ∙ t.1);
  back = λ y s n x f p. h.holds x f n ∙ mir.back y s (back k n) x f (sym (h.holds y s n) ∙ p);
  one = λ y s t n x f p q. mir.one y s t (back k n) x f (sym (h.holds y s n) ∙ p) (sym (h.holds y t n) ∙ q);
  together = λ y s n x f p. h.edges y s n ∙ ap (λ v. not (eqb n (suc k)) && v) (mir.together y s (back k n) x f (sym (h.holds y s n) ∙ p)) ∙ sym (h.edges x f n);
}

rank_old : (qs : List ℕ) (k z p : ℕ) → k < length qs → p ≢ z → rank (take (suc k) qs ++ z ∷ drop (suc k) qs) p ≡ shift k (rank qs p)
rank_old [] k z p l ne = absurd (omega arith)
rank_old (q ∷ qs) zero z p l ne =
    let apart : eqb z p ≡ false = ne_eqb z p (λ e. ne (sym e)) in
    ⊎_elim
    (λ (e : eqb q p ≡ true). rw e (sym (shift_low 0 0 (omega arith))))
    (λ (e : eqb q p ≡ false). rw (e, apart) (sym (shift_high 0 (suc (rank qs p)) (omega arith))))
    (cases_Bool (eqb q p))
rank_old (q ∷ qs) (suc k) z p l ne =
    let ih : rank (take (suc k) qs ++ z ∷ drop (suc k) qs) p ≡ shift k (rank qs p) = rank_old qs k z p (omega arith) ne in
    ⊎_elim
    (λ (e : eqb q p ≡ true). rw e (sym (shift_low (suc k) 0 (omega arith))))
    (λ (e : eqb q p ≡ false). rw (e, ih) (omega (arith, shift_cases k (rank qs p), shift_cases (suc k) (suc (rank qs p)))))
    (cases_Bool (eqb q p))

rank_new : (qs : List ℕ) (k z : ℕ) → k < length qs → rank qs z ≡ length qs → rank (take (suc k) qs ++ z ∷ drop (suc k) qs) z ≡ suc k
rank_new [] k z l h = absurd (omega arith)
rank_new (q ∷ qs) zero z l h =
    ⊎_elim
    (λ (e : eqb q z ≡ true). absurd (let h' : 0 ≡ suc (length qs) = rw e at h in omega arith))
    (λ (e : eqb q z ≡ false). rw (e, eq-eqb z z refl) refl)
    (cases_Bool (eqb q z))
rank_new (q ∷ qs) (suc k) z l h =
    ⊎_elim
    (λ (e : eqb q z ≡ true). absurd (let h' : 0 ≡ suc (length qs) = rw e at h in omega arith))
    (λ (e : eqb q z ≡ false). let h' : suc (rank qs z) ≡ suc (length qs) = rw e at h in rw e (ap suc (rank_new qs k z (omega arith) (omega arith))))
    (cases_Bool (eqb q z))

pub rank_law : RankLaw
rank_law qs k z l h = record { new = rank_new qs k z l h; old = λ p ne. rank_old qs k z p l ne }

shift_lt : (k m n : ℕ) → m < n → shift k m < shift k n
shift_lt k m n l = omega (arith, shift_cases k m, shift_cases k n)

module _ (r r' : ℕ → ℕ) (k z : ℕ) (ins : IsInsertedAfter r r' k z) where
  before_insert : (a : Stamp) (xs : List Stamp) → a.place.0 ≢ z → Apart z xs → IsBeforeAll r a xs → IsBeforeAll r' a xs
  before_insert a [] na ap' h = h
  before_insert a (x ∷ xs) na ap' h = (
    record { slots = h.0.slots; places = λ e. rw (ins.old a.place.0 na, ins.old x.place.0 ap'.0) (shift_lt k (r a.place.0) (r x.place.0) (h.0.places e)) },
    before_insert a xs na ap'.1 h.1,
  )

  stamps_insert : (lo hi width : ℕ) (xs : List Stamp) → Apart z xs → AreStamps r lo hi width xs → AreStamps r' (shift k lo) (shift k hi) width xs
  stamps_insert lo hi width [] a h = h
  stamps_insert lo hi width (x ∷ xs) a h =
      let at : r' x.place.0 ≡ shift k (r x.place.0) = ins.old x.place.0 a.0 in
      (h.0, rw at (shift_lt k lo (r x.place.0) h.1), rw at (shift_lt k (r x.place.0) hi h.2), before_insert x xs a.0 a.1 h.3, stamps_insert lo hi width xs a.1 h.4)

  rows_insert : (places : ℕ) (rows : List RowValue) → RowsApart z rows → AllRows r places rows → AllRows r' (suc places) rows
  rows_insert places [] a h = tt
  rows_insert places (row ∷ rows) a h = (
    record {
      life = rw (ins.old row.lo.0 a.0, ins.old row.hi.0 a.1) (shift_lt k (r row.lo.0) (r row.hi.0) h.0.life);
      there = rw (ins.old row.hi.0 a.1) (omega (arith, shift_cases k (r row.hi.0), h.0.there));
      narrow = h.0.narrow;
      stamps = rw (ins.old row.lo.0 a.0, ins.old row.hi.0 a.1) (stamps_insert (r row.lo.0) (r row.hi.0) (length row.slots) row.stamps a.2 h.0.stamps);
      starts = h.0.starts;
    },
    rows_insert places rows a.3 h.1,
  )

pub rows_insert_law : RowsInsertLaw
rows_insert_law r r' k z places rows ins a h = rows_insert r r' k z ins places rows a h
