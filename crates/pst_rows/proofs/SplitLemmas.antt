use Rattle.std.proofs.Common.{◌≡◌, ℕ, zero, suc, ◌+◌, ◌*◌, ◌<◌, ◌≤◌, cond, None, ltb, List, [], ◌∷◌, length, get_or, filter, refl, sym, ap, ◌∙◌, subst, ⊎_elim, arith}
use Rattle.std.specs.Prelude.{count_by, All}
use Rattle.std.proofs.lemmas.Bool.{cases_eq, cases_lt, lt-ltb, le-ltb, ltb-true}
use Rattle.std.proofs.lemmas.List.{get_or_past, get_or_default}
use Rattle.std.proofs.lemmas.List.Sums.{sum_by-cons, sum_by-le-sum_by, length-filter}
use Rattle.std.specs.declared.cmp.Ordering.TheVariants.{Less, Greater}
use Rattle.pst_order.specs.declared.order.Pos.{Pos}
use Rattle.pst_order.specs.Places.{rank}
use Rattle.pst_rows.specs.Slots.{SlotValue as Slot}
use Rattle.pst_rows.specs.declared.content.Stamp.{Stamp}
use Rattle.pst_rows.specs.declared.stamps.Bounds.{Bounds}
use Rattle.pst_rows.specs.declared.row.Row.{Row}
use Rattle.pst_rows.specs.Timeline.{in_force}
use Rattle.pst_rows.specs.Values.{stamp_at, no_slot}
use Rattle.pst_rows.specs.Rows.{stamps_of, base_of, stamped_count, no_stamp, IsRow}
use Rattle.pst_rows.specs.Changes.{IsRowSplit, IsSplitStamp}
use Rattle.pst_rows.specs.Steps.{AreRecounted, AreSlotsAt, IsHalf, IsMiddleFrom, AreBounds}
use Rattle.pst_rows.specs.Median.{below, above, IsMiddle}
use Rattle.pst_rows.proofs.TimelineLemmas.{base_below}
use Rattle.pst_rows.proofs.StampLemmas.{stamp_inside, slot_unstamped, stamp_at-filter, AreStamps-filter, row_inside}
use Rattle.pst_rows.proofs.MedianLemmas.{middle_law, middle_counts_law}

pub places_in : (r : ℕ → ℕ) (places : ℕ) (row : Row) → IsRow r places row → All (λ (e : Stamp). r e.place.0 < places) row.cells.stamps
places_in r places row h k d l =
    let p : ((get_or row.cells.stamps k no_stamp).slot.0 < length row.cells.slots) × (r row.lo.0 < r (get_or row.cells.stamps k no_stamp).place.0)
    × (r (get_or row.cells.stamps k no_stamp).place.0 < r row.hi.0) =
    stamp_inside r (r row.lo.0) (r row.hi.0) (length row.cells.slots) row.cells.stamps h.stamps k l in
    subst (λ (e : Stamp). r e.place.0 < places) (get_or_default row.cells.stamps k no_stamp d l) (omega (arith, p.2, h.there))

module _ (r : ℕ → ℕ) (places : ℕ) (old left right : Row) (s : Pos) (row : IsRow r places old) (low : r old.lo.0 < r s.0) (high : r s.0 < r old.hi.0)
    (left_lo : left.lo ≡ old.lo) (left_hi : left.hi ≡ s) (left_slots : AreRecounted old.cells.slots left.cells.slots left.cells.stamps)
    (left_stamps : left.cells.stamps ≡ filter (λ e. ltb (r e.place.0) (r s.0)) old.cells.stamps)
    (right_lo : right.lo ≡ s) (right_hi : right.hi ≡ old.hi) (right_slots : AreSlotsAt r old (r s.0) right.cells.stamps right.cells.slots)
    (right_stamps : right.cells.stamps ≡ filter (λ e. ltb (r s.0) (r e.place.0)) old.cells.stamps) where
  left_is : (g n : ℕ) → stamps_of r left g n ≡ cond (ltb n (r s.0)) (stamps_of r old g n) None
  left_is g n = ap (λ (xs : List Stamp). stamp_at r xs g n) left_stamps ∙ stamp_at-filter r (λ m. ltb m (r s.0)) old.cells.stamps g n

  right_is : (g n : ℕ) → stamps_of r right g n ≡ cond (ltb (r s.0) n) (stamps_of r old g n) None
  right_is g n = ap (λ (xs : List Stamp). stamp_at r xs g n) right_stamps ∙ stamp_at-filter r (λ m. ltb (r s.0) m) old.cells.stamps g n

  base_is : (g : ℕ) → base_of right g ≡ in_force (stamps_of r old g) (base_of old g) (r s.0)
  base_is g =
      ⊎_elim (λ (l : g < length old.cells.slots). right_slots.contents g l)
      (λ (l : length old.cells.slots ≤ g).
      ap (λ (t : Slot). t.content) (get_or_past right.cells.slots g no_slot (omega (arith, right_slots.count)))
      ∙ sym (ap (λ (t : Slot). t.content) (get_or_past old.cells.slots g no_slot l))
      ∙ sym (base_below (stamps_of r old g) (base_of old g) (r s.0) (λ (k : ℕ) (p : k ≤ r s.0). slot_unstamped r (r old.lo.0) (r old.hi.0) (length old.cells.slots) old.cells.stamps row.stamps g k l)))
      (cases_lt g (length old.cells.slots))

  pub row_split : IsRowSplit r old left right s
  row_split = record {
    left_lo = left_lo;
    left_hi = left_hi;
    right_lo = right_lo;
    right_hi = right_hi;
    left_width = left_slots.count;
    right_width = right_slots.count;
    slots = λ g. record {
      inside = row_inside r places old row g;
      low = low;
      high = high;
      left_base_is = left_slots.contents g;
      right_base_is = base_is g;
      left_kept = λ n l. left_is g n ∙ (rw (lt-ltb n (r s.0) l) refl);
      left_dropped = λ n l. left_is g n ∙ (rw (le-ltb n (r s.0) l) refl);
      right_kept = λ n l. right_is g n ∙ (rw (lt-ltb (r s.0) n l) refl);
      right_dropped = λ n l. right_is g n ∙ (rw (le-ltb (r s.0) n l) refl);
    };
    left_count = ap length left_stamps ∙ length-filter (λ (e : Stamp). ltb (r e.place.0) (r s.0)) old.cells.stamps;
    right_count = ap length right_stamps ∙ length-filter (λ (e : Stamp). ltb (r s.0) (r e.place.0)) old.cells.stamps;
  }

  pub left_row : IsRow r places left
  left_row = record {
    life = rw (left_lo, left_hi) low;
    there = rw left_hi (omega (arith, row.there));
    narrow = rw left_slots.count row.narrow;
    stamps = rw (left_lo, left_hi, left_slots.count, left_stamps)
        (AreStamps-filter r (λ m. ltb m (r s.0)) (r old.lo.0) (r old.hi.0) (r old.lo.0) (r s.0) (length old.cells.slots) old.cells.stamps (λ n p q e. (p, ltb-true n (r s.0) e)) row.stamps);
    starts = left_slots.starts;
  }

  pub right_row : IsRow r places right
  right_row = record {
    life = rw (right_lo, right_hi) high;
    there = rw right_hi row.there;
    narrow = rw right_slots.count row.narrow;
    stamps = rw (right_lo, right_hi, right_slots.count, right_stamps)
        (AreStamps-filter r (λ m. ltb (r s.0) m) (r old.lo.0) (r old.hi.0) (r s.0) (r old.hi.0) (length old.cells.slots) old.cells.stamps (λ n p q e. (ltb-true (r s.0) n e, q)) row.stamps);
    starts = right_slots.starts;
  }

-- the positions of the stamps
abbrev pub positions : (ℕ → ℕ) → List Stamp → List ℕ
positions r [] = []
positions r (e ∷ es) = r e.place.0 ∷ positions r es

length-positions : (r : ℕ → ℕ) (xs : List Stamp) → length (positions r xs) ≡ length xs
length-positions r [] = refl
length-positions r (x ∷ xs) = ap suc (length-positions r xs)

position_at : (r : ℕ → ℕ) (xs : List Stamp) (i : ℕ) → i < length xs → get_or (positions r xs) i 0 ≡ r (get_or xs i no_stamp).place.0
position_at r [] i l = absurd (omega arith)
position_at r (x ∷ xs) zero l = refl
position_at r (x ∷ xs) (suc i) l = position_at r xs i (omega arith)

below_is : (r : ℕ → ℕ) (xs : List Stamp) (n : ℕ) → below n (positions r xs) ≡ count_by (λ (e : Stamp). ltb (r e.place.0) n) xs
below_is r [] n = refl
below_is r (x ∷ xs) n = sum_by-cons (λ (y : ℕ). cond (ltb y n) 1 0) (r x.place.0) (positions r xs)
    ∙ ap (λ (t : ℕ). cond (ltb (r x.place.0) n) 1 0 + t) (below_is r xs n) ∙ sym (sum_by-cons (λ (e : Stamp). cond (ltb (r e.place.0) n) 1 0) x xs)

above_is : (r : ℕ → ℕ) (xs : List Stamp) (n : ℕ) → above n (positions r xs) ≡ count_by (λ (e : Stamp). ltb n (r e.place.0)) xs
above_is r [] n = refl
above_is r (x ∷ xs) n = sum_by-cons (λ (y : ℕ). cond (ltb n y) 1 0) (r x.place.0) (positions r xs)
    ∙ ap (λ (t : ℕ). cond (ltb n (r x.place.0)) 1 0 + t) (above_is r xs n) ∙ sym (sum_by-cons (λ (e : Stamp). cond (ltb n (r e.place.0)) 1 0) x xs)

-- one of the stamps is such
pub some_half : (r : ℕ → ℕ) (xs : List Stamp) → 0 < length xs → ((i : ℕ) → i < length xs → IsHalf r xs (r (get_or xs i no_stamp).place.0) → ⊥) → ⊥
some_half r xs l f =
    let l' : 0 < length (positions r xs) = omega (arith, length-positions r xs) in
    let t : (i : ℕ) × IsMiddle (positions r xs) i = middle_law (positions r xs) l' in
    let there : t.0 < length xs = omega (arith, t.1.there, length-positions r xs) in
    let at : get_or (positions r xs) t.0 0 ≡ r (get_or xs t.0 no_stamp).place.0 = position_at r xs t.0 there in
    let n : ℕ = r (get_or xs t.0 no_stamp).place.0 in
    let b : 2 * below n (positions r xs) ≤ length (positions r xs) = rw at at t.1.few_below in
    let a : 2 * above n (positions r xs) ≤ length (positions r xs) = rw at at t.1.few_above in
    f t.0 there (record { few_before = omega (arith, b, below_is r xs n, length-positions r xs); few_after = omega (arith, a, above_is r xs n, length-positions r xs) })

pub split_stamp_is : (r : ℕ → ℕ) (places : ℕ) (row : Row) (i : ℕ) → IsRow r places row → i < length row.cells.stamps
    → IsHalf r row.cells.stamps (r (get_or row.cells.stamps i no_stamp).place.0) → IsSplitStamp r row (r (get_or row.cells.stamps i no_stamp).place.0)
split_stamp_is r places row i h l half =
    let xs : List Stamp = row.cells.stamps in
    let p : ((get_or xs i no_stamp).slot.0 < length row.cells.slots) × (r row.lo.0 < r (get_or xs i no_stamp).place.0)
    × (r (get_or xs i no_stamp).place.0 < r row.hi.0) = stamp_inside r (r row.lo.0) (r row.hi.0) (length row.cells.slots) xs h.stamps i l in
    let n : ℕ = r (get_or xs i no_stamp).place.0 in
    let at : get_or (positions r xs) i 0 ≡ n = position_at r xs i l in
    let c : below (get_or (positions r xs) i 0) (positions r xs) + above (get_or (positions r xs) i 0) (positions r xs) < length (positions r xs) =
    middle_counts_law (positions r xs) i (omega (arith, length-positions r xs)) in
    let c' : below n (positions r xs) + above n (positions r xs) < length (positions r xs) = rw at at c in
    record {
      low = p.1;
      high = p.2;
      few_before = half.few_before;
      few_after = half.few_after;
      stamped_there = omega (arith, c', below_is r xs n, above_is r xs n, length-positions r xs);
    }

-- what was read is one of the row
pub same_read : (ys xs : List Stamp) (i : ℕ) (e : Stamp) → ys ≡ xs → i < length ys → e ≡ get_or ys i e → (i < length xs) × (e ≡ get_or xs i e)
same_read ys xs i e same l is = subst (λ (zs : List Stamp). (i < length zs) × (e ≡ get_or zs i e)) same (l, is)

before_rises : (r : ℕ → ℕ) (xs : List Stamp) (m n : ℕ) → m ≤ n → count_by (λ (e : Stamp). ltb (r e.place.0) m) xs ≤ count_by (λ (e : Stamp). ltb (r e.place.0) n) xs
before_rises r xs m n l =
    sum_by-le-sum_by (λ (e : Stamp). cond (ltb (r e.place.0) m) 1 0) (λ (e : Stamp). cond (ltb (r e.place.0) n) 1 0) xs
    (λ (e : Stamp). ⊎_elim
    (λ (k : r e.place.0 < m). rw (lt-ltb (r e.place.0) m k, lt-ltb (r e.place.0) n (omega arith)) (omega arith))
    (λ (k : m ≤ r e.place.0). rw (le-ltb (r e.place.0) m k) (omega arith))
    (cases_lt (r e.place.0) m))

after_falls : (r : ℕ → ℕ) (xs : List Stamp) (m n : ℕ) → m ≤ n → count_by (λ (e : Stamp). ltb n (r e.place.0)) xs ≤ count_by (λ (e : Stamp). ltb m (r e.place.0)) xs
after_falls r xs m n l =
    sum_by-le-sum_by (λ (e : Stamp). cond (ltb n (r e.place.0)) 1 0) (λ (e : Stamp). cond (ltb m (r e.place.0)) 1 0) xs
    (λ (e : Stamp). ⊎_elim
    (λ (k : n < r e.place.0). rw (lt-ltb n (r e.place.0) k, lt-ltb m (r e.place.0) (omega arith)) (omega arith))
    (λ (k : r e.place.0 ≤ n). rw (le-ltb n (r e.place.0) k) (omega arith))
    (cases_lt n (r e.place.0)))

-- where more than half of the stamps lie before a position, the ones that halve them do
half_before : (r : ℕ → ℕ) (xs : List Stamp) (m n : ℕ) → length xs < 2 * count_by (λ (e : Stamp). ltb (r e.place.0) n) xs → IsHalf r xs m → m < n
half_before r xs m n many half =
    ⊎_elim (λ (l : m < n). l)
    (λ (l : n ≤ m). let rises : count_by (λ (e : Stamp). ltb (r e.place.0) n) xs ≤ count_by (λ (e : Stamp). ltb (r e.place.0) m) xs =
    before_rises r xs n m l in absurd (omega (arith, half.few_before)))
    (cases_lt m n)

half_after : (r : ℕ → ℕ) (xs : List Stamp) (m n : ℕ) → length xs < 2 * count_by (λ (e : Stamp). ltb n (r e.place.0)) xs → IsHalf r xs m → n < m
half_after r xs m n many half =
    ⊎_elim (λ (l : n < m). l)
    (λ (l : m ≤ n). let falls : count_by (λ (e : Stamp). ltb n (r e.place.0)) xs ≤ count_by (λ (e : Stamp). ltb m (r e.place.0)) xs = after_falls r xs m n l in absurd (omega (arith, half.few_after)))
    (cases_lt n m)

-- at first the bounds are those of the life
pub first_bounds : (ps : List ℕ) (row : Row) → IsRow (rank ps) (length ps) row → AreBounds ps row (record { low = row.lo; high = row.hi })
first_bounds ps row h = record {
  low_in = omega (arith, h.life, h.there);
  high_in = h.there;
  between = λ (k : ℕ) (l : k < length row.cells.stamps) (half : IsHalf (rank ps) row.cells.stamps (rank ps (get_or row.cells.stamps k no_stamp).place.0)).
      let s : ((get_or row.cells.stamps k no_stamp).slot.0 < length row.cells.slots)
      × (rank ps row.lo.0 < rank ps (get_or row.cells.stamps k no_stamp).place.0)
      × (rank ps (get_or row.cells.stamps k no_stamp).place.0 < rank ps row.hi.0) =
      stamp_inside (rank ps) (rank ps row.lo.0) (rank ps row.hi.0) (length row.cells.slots) row.cells.stamps h.stamps k l in
      (s.1, s.2);
}

-- the search for a stamp that halves the others, at the stamp e with the index i
module _ (ps : List ℕ) (row : Row) (h : IsRow (rank ps) (length ps) row) (i : ℕ) (e : Stamp) (l : i < length row.cells.stamps) (is : e ≡ get_or row.cells.stamps i e) where
  read_is : e ≡ get_or row.cells.stamps i no_stamp
  read_is = is ∙ get_or_default row.cells.stamps i e no_stamp l

  pub place_in : rank ps e.place.0 < length ps
  place_in = subst (λ (x : Stamp). rank ps x.place.0 < length ps) (sym is) (places_in (rank ps) (length ps) row h i e l)

  pub split_found : IsHalf (rank ps) row.cells.stamps (rank ps e.place.0) → IsSplitStamp (rank ps) row (rank ps e.place.0)
  split_found half =
      let half' : IsHalf (rank ps) row.cells.stamps (rank ps (get_or row.cells.stamps i no_stamp).place.0) =
      subst (λ (x : Stamp). IsHalf (rank ps) row.cells.stamps (rank ps x.place.0)) read_is half in
      subst (λ (x : Stamp). IsSplitStamp (rank ps) row (rank ps x.place.0)) (sym read_is) (split_stamp_is (rank ps) (length ps) row i h l half')

  -- a stamp that does not lie between the bounds does not halve the others
  pub outside : (b : Bounds) → AreBounds ps row b → ((rank ps b.low.0 < rank ps e.place.0) × (rank ps e.place.0 < rank ps b.high.0) → ⊥) → IsHalf (rank ps) row.cells.stamps (rank ps e.place.0) → ⊥
  outside b between out half =
      let half' : IsHalf (rank ps) row.cells.stamps (rank ps (get_or row.cells.stamps i no_stamp).place.0) =
      subst (λ (x : Stamp). IsHalf (rank ps) row.cells.stamps (rank ps x.place.0)) read_is half in
      out (subst (λ (x : Stamp). (rank ps b.low.0 < rank ps x.place.0) × (rank ps x.place.0 < rank ps b.high.0)) (sym read_is) (between.between i l half'))

  -- one that is too late is an upper bound
  pub too_late : (b : Bounds) → AreBounds ps row b → IsMiddleFrom (rank ps) row.cells.stamps (rank ps e.place.0) Less → AreBounds ps row (record { low = b.low; high = e.place })
  too_late b between many = record {
    low_in = between.low_in;
    high_in = place_in;
    between = λ k m half. ((between.between k m half).0, half_before (rank ps) row.cells.stamps (rank ps (get_or row.cells.stamps k no_stamp).place.0) (rank ps e.place.0) many half);
  }

  -- one that is too early is a lower bound
  pub too_early : (b : Bounds) → AreBounds ps row b → IsMiddleFrom (rank ps) row.cells.stamps (rank ps e.place.0) Greater → AreBounds ps row (record { low = e.place; high = b.high })
  too_early b between many = record {
    low_in = place_in;
    high_in = between.high_in;
    between = λ k m half. (half_after (rank ps) row.cells.stamps (rank ps (get_or row.cells.stamps k no_stamp).place.0) (rank ps e.place.0) many half, (between.between k m half).1);
  }

  -- with a gap of one, each stamp so far was looked at
  pub passed_more : (b : Bounds) → AreBounds ps row b → ((rank ps b.low.0 < rank ps e.place.0) × (rank ps e.place.0 < rank ps b.high.0) → ⊥) → (gap : ℕ) →
      (gap ≡ 1 → (k : ℕ) → k < i → IsHalf (rank ps) row.cells.stamps (rank ps (get_or row.cells.stamps k no_stamp).place.0) → ⊥) →
      gap ≡ 1 → (k : ℕ) → k < i + gap → IsHalf (rank ps) row.cells.stamps (rank ps (get_or row.cells.stamps k no_stamp).place.0) → ⊥
  passed_more b between out gap before one k m half =
      ⊎_elim
      (λ (here : k ≡ i).
      outside b between out (subst (λ (x : Stamp). IsHalf (rank ps) row.cells.stamps (rank ps x.place.0)) (ap (λ (j : ℕ). get_or row.cells.stamps j no_stamp) here ∙ sym read_is) half))
      (λ (ne : k ≡ i → ⊥). before one k (omega (arith, ne)) half)
      (cases_eq k i)

pub none_stamped : (r : ℕ → ℕ) (row : Row) (i : ℕ) → length row.cells.stamps ≤ i
    → ((k : ℕ) → k < i → IsHalf r row.cells.stamps (r (get_or row.cells.stamps k no_stamp).place.0) → ⊥) → stamped_count row ≡ 0
none_stamped r row i l before =
    ⊎_elim
    (λ (s : 0 < length row.cells.stamps). absurd (some_half r row.cells.stamps s (λ (k : ℕ) (m : k < length row.cells.stamps). before k (omega arith))))
    (λ (s : length row.cells.stamps ≤ 0). omega arith)
    (cases_lt 0 (length row.cells.stamps))
