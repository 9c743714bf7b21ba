use Rattle.std.proofs.Common.{◌≡◌, ℕ, zero, suc, ◌+◌, ◌-◌, ◌<◌, ◌≤◌, Bool, true, false, eqb, is_some, List, [], ◌∷◌, ◌++◌, length, get_or, take, drop, set}
use Rattle.std.proofs.Common.{refl, sym, ap, ◌∙◌, subst, ◌⊎◌, inl, inr, ⊎_elim, arith}
use Rattle.std.specs.List.{insert, CopiedTo, SameBelow}
use Rattle.std.proofs.lemmas.Bool.{cases_eq, cases_lt, eq-eqb, eqb-true, false≢true}
use Rattle.std.proofs.lemmas.List.{ext_get_or, length-set, get_or_append_left, get_or-set_same, get_or-set_other}
use Rattle.std.proofs.lemmas.List.Edits.{length-insert, get_or-insert_below, get_or-insert_at, get_or-insert_above}
use Rattle.pst_order.specs.declared.order.Pos.{Pos}
use Rattle.pst_order.specs.Places.{rank}
use Rattle.pst_order.proofs.RankLemmas.{rank_inj}
use Rattle.pst_rows.specs.declared.content.Content.{Content}
use Rattle.pst_rows.specs.declared.content.Stamp.{Stamp}
use Rattle.pst_rows.specs.declared.row.Row.{Row}
use Rattle.pst_rows.specs.Slots.{SlotValue as Slot}
use Rattle.pst_rows.specs.Values.{no_slot}
use Rattle.pst_rows.specs.Rows.{stamps_of, base_of, width_of, content_at, row_edge, spare_of, no_stamp, IsRow}
use Rattle.pst_rows.specs.Changes.{IsRowSet, IsRowCut, IsRowReplaced, HasMore, missing, needed}
use Rattle.pst_rows.specs.Steps.{IsLocated, IsStampAt, IsGap, IsInserted, AreInserted, IsBeginPlace, IsEndPlace, IsHeldBefore, IsWrittenBefore, with_content, with_base}
use Rattle.pst_rows.proofs.TimelineLemmas.{edge_here}
use Rattle.pst_rows.proofs.StampLemmas.{stamp_inside, gap_none}
use Rattle.pst_rows.proofs.CellLemmas.{head-insert, stamps-insert}
use Rattle.pst_rows.proofs.PartLemmas.{last_le, located_gap, content_base, content_last}
use Rattle.pst_rows.proofs.ReadLemmas.{Begins, Ends, begins_low, begins_last, ends_high, ends_next}
use Rattle.pst_rows.proofs.RowLemmas.{IsRowRestored, IsRowBegun, inner_edge, based_row, based_begun, written_row, written_put, written_more, more_none}
use Rattle.pst_rows.proofs.RowLemmas.{more_inner, restored_row, begun_put, set_steps, set_more}
use Rattle.pst_rows.proofs.CallLemmas.{cut_is, base_replaced, stamp_replaced, stamp_replaced_more, there_more, there_restored, new_put, new_row, new_more, new_restored}

-- the position of a place that is another one, and of one that is not
pub rank_same : (ps : List ℕ) (p q : Pos) (k : ℕ) {b : Bool} → b ≡ eqb p.0 q.0 → b ≡ true → rank ps q.0 ≡ k → rank ps p.0 ≡ k
rank_same ps p q k is on at = ap (rank ps) (eqb-true p.0 q.0 (sym is ∙ on)) ∙ at

pub rank_other : (ps : List ℕ) (p q : Pos) (k : ℕ) {b : Bool} → b ≡ eqb p.0 q.0 → b ≡ false → rank ps q.0 ≡ k → k < length ps → rank ps p.0 ≡ k → ⊥
rank_other ps p q k is off at there e = false≢true (sym off ∙ is ∙ eq-eqb p.0 q.0 (rank_inj ps p.0 q.0 (e ∙ sym at) (omega arith)))

-- two come in at an index, and the later ones are moved by two
module _ (xs moved : List Stamp) (i : ℕ) (a b : Stamp) (within : i ≤ length xs) (same : length moved ≡ length xs + 2)
    (below : SameBelow (xs ++ a ∷ b ∷ []) moved (i + 2)) (behind : CopiedTo (xs ++ a ∷ b ∷ []) moved i (i + 2) (length xs - i)) where
  once : length (insert xs i b) ≡ length xs + 1
  once = length-insert xs i b within

  second_at : get_or (set (set moved i a) (i + 1) b) (i + 1) no_stamp ≡ get_or (insert (insert xs i b) i a) (i + 1) no_stamp
  second_at =
      get_or-set_same (set moved i a) (i + 1) b no_stamp (omega (arith, length-set moved i a, same, within))
      ∙ sym (get_or-insert_above (insert xs i b) i a no_stamp i (omega arith) (omega (arith, once, within)) ∙ get_or-insert_at xs i b no_stamp within)

  first_at : get_or (set (set moved i a) (i + 1) b) i no_stamp ≡ get_or (insert (insert xs i b) i a) i no_stamp
  first_at =
      get_or-set_other (set moved i a) (i + 1) i b no_stamp (λ (e : i ≡ i + 1). omega arith)
      ∙ get_or-set_same moved i a no_stamp (omega (arith, same, within))
      ∙ sym (get_or-insert_at (insert xs i b) i a no_stamp (omega (arith, once, within)))

  before_both : (k : ℕ) → k < i → get_or (set (set moved i a) (i + 1) b) k no_stamp ≡ get_or (insert (insert xs i b) i a) k no_stamp
  before_both k p =
      get_or-set_other (set moved i a) (i + 1) k b no_stamp (λ (e : k ≡ i + 1). omega arith)
      ∙ get_or-set_other moved i k a no_stamp (λ (e : k ≡ i). omega arith)
      ∙ below k no_stamp (omega arith)
      ∙ get_or_append_left xs (a ∷ b ∷ []) no_stamp k (omega arith)
      ∙ sym (get_or-insert_below (insert xs i b) i a no_stamp k p (omega (arith, once, within)) ∙ get_or-insert_below xs i b no_stamp k p within)

  behind_both : (j : ℕ) → i ≤ j → j < length xs → get_or (set (set moved i a) (i + 1) b) (j + 2) no_stamp ≡ get_or (insert (insert xs i b) i a) (j + 2) no_stamp
  behind_both j p l =
      let back : i + ((j + 2) - (i + 2)) ≡ j = omega arith in
      let twice : (j + 1) + 1 ≡ j + 2 = omega arith in
      get_or-set_other (set moved i a) (i + 1) (j + 2) b no_stamp (λ (e : j + 2 ≡ i + 1). omega arith)
      ∙ get_or-set_other moved i (j + 2) a no_stamp (λ (e : j + 2 ≡ i). omega arith)
      ∙ behind (j + 2) no_stamp (omega arith) (omega arith)
      ∙ ap (λ (k : ℕ). get_or (xs ++ a ∷ b ∷ []) k no_stamp) back
      ∙ get_or_append_left xs (a ∷ b ∷ []) no_stamp j l
      ∙ sym (ap (λ (k : ℕ). get_or (insert (insert xs i b) i a) k no_stamp) (sym twice)
      ∙ get_or-insert_above (insert xs i b) i a no_stamp (j + 1) (omega arith) (omega (arith, once, within))
      ∙ get_or-insert_above xs i b no_stamp j p within)

  at_each : (k : ℕ) → k < length xs + 2 → get_or (set (set moved i a) (i + 1) b) k no_stamp ≡ get_or (insert (insert xs i b) i a) k no_stamp
  at_each k l =
      ⊎_elim (λ (p : k < i). before_both k p)
      (λ (p : i ≤ k). ⊎_elim (λ (e : k ≡ i). rw e first_at)
      (λ (ne : k ≡ i → ⊥). ⊎_elim (λ (e : k ≡ i + 1). rw e second_at)
      (λ (ne' : k ≡ i + 1 → ⊥).
      let far : i + 2 ≤ k = omega (arith, ne, ne') in
      let e : (k - 2) + 2 ≡ k = omega arith in
      subst (λ (m : ℕ). get_or (set (set moved i a) (i + 1) b) m no_stamp ≡ get_or (insert (insert xs i b) i a) m no_stamp) e (behind_both (k - 2) (omega arith) (omega arith)))
      (cases_eq k (i + 1)))
      (cases_eq k i))
      (cases_lt k i)

  pub moved_by_two : set (set moved i a) (i + 1) b ≡ insert (insert xs i b) i a
  moved_by_two =
      let long : length (set (set moved i a) (i + 1) b) ≡ length xs + 2 = length-set (set moved i a) (i + 1) b ∙ length-set moved i a ∙ same in
      ext_get_or no_stamp (set (set moved i a) (i + 1) b) (insert (insert xs i b) i a)
      (omega (arith, long, once, length-insert (insert xs i b) i a (omega (arith, once, within))))
      (λ (k : ℕ) (l : k < length (set (set moved i a) (i + 1) b)). at_each k (omega (arith, long)))

-- two come in behind the slots
pub head-insert_two : (w : ℕ) (hs xs : List Stamp) (i : ℕ) (a b : Stamp) → w ≤ length hs + i → i ≤ length xs → take w (hs ++ insert (insert xs i b) i a) ≡ take w (hs ++ xs)
head-insert_two w hs xs i a b q l = head-insert w hs (insert xs i b) i a q (omega (arith, length-insert xs i b l)) ∙ head-insert w hs xs i b q l

pub stamps-insert_two : (v : ℕ) (xs : List Stamp) (i k : ℕ) (a b : Stamp) → i ≡ v + k → i ≤ length xs → drop v (insert (insert xs i b) i a) ≡ insert (insert (drop v xs) k b) k a
stamps-insert_two v xs i k a b q l =
    stamps-insert v (insert xs i b) i k a q (omega (arith, length-insert xs i b l))
    ∙ ap (λ (ys : List Stamp). insert ys k a) (stamps-insert v xs i k b q (omega arith))

-- the slots behind one with a stamp more before them
abbrev raised_all : List Slot → List Slot
raised_all [] = []
raised_all (s ∷ ss) = record { content = s.content; start = s.start + 1 } ∷ raised_all ss

abbrev raised_behind : List Slot → ℕ → List Slot
raised_behind [] k = []
raised_behind (s ∷ ss) zero = s ∷ raised_all ss
raised_behind (s ∷ ss) (suc k) = s ∷ raised_behind ss k

length-raised_all : (ss : List Slot) → length (raised_all ss) ≡ length ss
length-raised_all [] = refl
length-raised_all (s ∷ ss) = ap suc (length-raised_all ss)

content-raised_all : (ss : List Slot) (g : ℕ) → (get_or (raised_all ss) g no_slot).content ≡ (get_or ss g no_slot).content
content-raised_all [] g = refl
content-raised_all (s ∷ ss) zero = refl
content-raised_all (s ∷ ss) (suc g) = content-raised_all ss g

start-raised_all : (ss : List Slot) (g : ℕ) → g < length ss → (get_or (raised_all ss) g no_slot).start ≡ (get_or ss g no_slot).start + 1
start-raised_all [] g l = absurd (omega arith)
start-raised_all (s ∷ ss) zero l = refl
start-raised_all (s ∷ ss) (suc g) l = start-raised_all ss g (omega arith)

length-raised_behind : (ss : List Slot) (k : ℕ) → length (raised_behind ss k) ≡ length ss
length-raised_behind [] k = refl
length-raised_behind (s ∷ ss) zero = ap suc (length-raised_all ss)
length-raised_behind (s ∷ ss) (suc k) = ap suc (length-raised_behind ss k)

content-raised_behind : (ss : List Slot) (k g : ℕ) → (get_or (raised_behind ss k) g no_slot).content ≡ (get_or ss g no_slot).content
content-raised_behind [] k g = refl
content-raised_behind (s ∷ ss) zero zero = refl
content-raised_behind (s ∷ ss) zero (suc g) = content-raised_all ss g
content-raised_behind (s ∷ ss) (suc k) zero = refl
content-raised_behind (s ∷ ss) (suc k) (suc g) = content-raised_behind ss k g

early-raised_behind : (ss : List Slot) (k g : ℕ) → g ≤ k → (get_or (raised_behind ss k) g no_slot).start ≡ (get_or ss g no_slot).start
early-raised_behind [] k g l = refl
early-raised_behind (s ∷ ss) zero zero l = refl
early-raised_behind (s ∷ ss) zero (suc g) l = absurd (omega arith)
early-raised_behind (s ∷ ss) (suc k) zero l = refl
early-raised_behind (s ∷ ss) (suc k) (suc g) l = early-raised_behind ss k g (omega arith)

late-raised_behind : (ss : List Slot) (k g : ℕ) → k < g → g < length ss → (get_or (raised_behind ss k) g no_slot).start ≡ (get_or ss g no_slot).start + 1
late-raised_behind [] k g l m = absurd (omega arith)
late-raised_behind (s ∷ ss) k zero l m = absurd (omega arith)
late-raised_behind (s ∷ ss) zero (suc g) l m = start-raised_all ss g (omega arith)
late-raised_behind (s ∷ ss) (suc k) (suc g) l m = late-raised_behind ss k g (omega arith) (omega arith)

-- two stamps come in as one after the other
module _ (old new : Row) (index : ℕ) (first second : Stamp) (ins : AreInserted old new index first second) (same : first.slot.0 ≡ second.slot.0) where
  abbrev pub between : Row
  between = record { lo = old.lo; hi = old.hi; cells = record { slots = raised_behind old.cells.slots second.slot.0; stamps = insert old.cells.stamps index second; capacity = old.cells.capacity } }

  pub second_inserted : IsInserted old between index second
  second_inserted = record {
    lo = refl;
    hi = refl;
    slots = record {
      count = length-raised_behind old.cells.slots second.slot.0;
      contents = content-raised_behind old.cells.slots second.slot.0;
      early = early-raised_behind old.cells.slots second.slot.0;
      late = late-raised_behind old.cells.slots second.slot.0;
    };
    items = refl;
    capacity = refl;
  }

  pub first_inserted : IsInserted between new index first
  first_inserted = record {
    lo = ins.lo;
    hi = ins.hi;
    slots = record {
      count = ins.slots.count ∙ sym (length-raised_behind old.cells.slots second.slot.0);
      contents = λ (g : ℕ). ins.slots.contents g ∙ sym (content-raised_behind old.cells.slots second.slot.0 g);
      early = λ (g : ℕ) (l : g ≤ first.slot.0). ins.slots.early g l ∙ sym (early-raised_behind old.cells.slots second.slot.0 g (omega arith));
      late = λ (g : ℕ) (l : first.slot.0 < g) (m : g < length between.cells.slots).
          let m' : g < length old.cells.slots = omega (arith, m, length-raised_behind old.cells.slots second.slot.0) in
          omega (arith, ins.slots.late g l m', late-raised_behind old.cells.slots second.slot.0 g (omega arith) m');
    };
    items = ins.items;
    capacity = ins.capacity;
  }

-- what stays where a stamp comes in behind
stamp_kept : (r : ℕ → ℕ) (xs : List Stamp) (i k slot n : ℕ) (e : Stamp) → i < k → k ≤ length xs → IsStampAt r xs i slot n → IsStampAt r (insert xs k e) i slot n
stamp_kept r xs i k slot n e l w s =
    let same : get_or (insert xs k e) i no_stamp ≡ get_or xs i no_stamp = get_or-insert_below xs k e no_stamp i l w in
    record { there = omega (arith, s.there, length-insert xs k e w); slot_is = ap (λ (t : Stamp). t.slot.0) same ∙ s.slot_is; place_is = ap (λ (t : Stamp). r t.place.0) same ∙ s.place_is }

module _ (r : ℕ → ℕ) (xs : List Stamp) (k slot n : ℕ) (e : Stamp) (gap : IsGap r xs k slot n) (is_slot : e.slot.0 ≡ slot) (later : n < r e.place.0) where
  kept_before : (i : ℕ) → i < k → get_or (insert xs k e) i no_stamp ≡ get_or xs i no_stamp
  kept_before i l = get_or-insert_below xs k e no_stamp i l gap.within

  -- at the index stands the new one, and behind it those that stood there
  kept_behind : (P : Stamp → Type 0) → P e → ((i : ℕ) → k ≤ i → i < length xs → P (get_or xs i no_stamp)) → (i : ℕ) → k ≤ i → i < length (insert xs k e) → P (get_or (insert xs k e) i no_stamp)
  kept_behind P here behind i l m =
      ⊎_elim
      (λ (q : i ≡ k). subst P (sym (ap (λ (j : ℕ). get_or (insert xs k e) j no_stamp) q ∙ get_or-insert_at xs k e no_stamp gap.within)) here)
      (λ (q : i ≡ k → ⊥).
      let back : (i - 1) + 1 ≡ i = omega (arith, q) in
      subst P (sym (ap (λ (j : ℕ). get_or (insert xs k e) j no_stamp) (sym back)
      ∙ get_or-insert_above xs k e no_stamp (i - 1) (omega (arith, q)) gap.within))
      (behind (i - 1) (omega (arith, q)) (omega (arith, q, length-insert xs k e gap.within))))
      (cases_eq i k)

  gap_kept : IsGap r (insert xs k e) k slot n
  gap_kept = record {
    within = omega (arith, gap.within, length-insert xs k e gap.within);
    early_slots = λ (i : ℕ) (l : i < k). subst (λ (t : Stamp). t.slot.0 ≤ slot) (sym (kept_before i l)) (gap.early_slots i l);
    early_places = λ (i : ℕ) (l : i < k). subst (λ (t : Stamp). t.slot.0 ≡ slot → r t.place.0 < n) (sym (kept_before i l)) (gap.early_places i l);
    late_slots = kept_behind (λ (t : Stamp). slot ≤ t.slot.0) (omega arith) gap.late_slots;
    late_places = kept_behind (λ (t : Stamp). t.slot.0 ≡ slot → n < r t.place.0) (λ _. later) gap.late_places;
  }

-- the two steps of setting a slot over one position: what it held is restored behind it, and the content begins
record IsRestoredStep (r : ℕ → ℕ) (places : ℕ) (old mid : Row) (f t : ℕ) (v : Content) : Type 0 where
  pub restored : IsRowRestored r old mid f t v
  pub row : IsRow r places mid
  pub more : HasMore (missing (row_edge r old f t)) old mid

record IsBegunStep (r : ℕ → ℕ) (places : ℕ) (mid new : Row) (f n : ℕ) (c : Content) : Type 0 where
  pub begun : IsRowBegun r mid new f n c
  pub row : IsRow r places new
  pub more : HasMore (missing (row_edge r mid f n)) mid new

pub record IsSetDone (r : ℕ → ℕ) (places : ℕ) (old new : Row) (f n : ℕ) (c : Content) : Type 0 where
  pub set : IsRowSet r old new f n c
  pub row : IsRow r places new
  pub more : HasMore (needed r old f n) old new

-- a segment begun where none began, with what is held there
pub record IsBegunThere (r : ℕ → ℕ) (places : ℕ) (old new : Row) (f n : ℕ) : Type 0 where
  pub free : row_edge r old f n ≡ false
  pub cut : IsRowCut r old new f n (content_at r old f n)
  pub row : IsRow r places new
  pub more : HasMore (missing (row_edge r old f n)) old new

steps_done : (r : ℕ → ℕ) (places : ℕ) (old mid new : Row) (f n : ℕ) (v c : Content) → IsRow r places old → r old.lo.0 ≤ n → n < r old.hi.0
    → v ≡ content_at r old f n → IsRestoredStep r places old mid f (n + 1) v → IsBegunStep r places mid new f n c → IsSetDone r places old new f n c
steps_done r places old mid new f n v c row low high is one two = record {
  set = set_steps r places old mid new f n v c row low high is one.restored two.begun;
  row = two.row;
  more = set_more r places old mid new f n v c row low high is one.restored two.begun one.more two.more;
}

-- an edge is there already
edge_more : (r : ℕ → ℕ) (old new : Row) (f n : ℕ) → (n ≡ r old.lo.0) ⊎ (n ≡ r old.hi.0) → HasMore 0 old new → HasMore (missing (row_edge r old f n)) old new
edge_more r old new f n at m =
    subst (λ (b : Bool). HasMore (missing b) old new)
    (sym (edge_here (stamps_of r old f) (r old.lo.0) (r old.hi.0) n (⊎_elim (λ (p : n ≡ r old.lo.0). inl p) (λ (p : n ≡ r old.hi.0). inr (inl p)) at)))
    m

-- restored already: the life ends there, or a value is stamped
end_kept : (r : ℕ → ℕ) (places : ℕ) (old : Row) (f t : ℕ) (v : Content) → IsRow r places old → t ≡ r old.hi.0 → IsRestoredStep r places old old f t v
end_kept r places old f t v row e = record {
  restored = record { lo = refl; hi = refl; width = refl; bases = λ g. refl; inside = λ (l : t < r old.hi.0). absurd (omega arith); end = λ _ g n. refl };
  row = row;
  more = edge_more r old old f t (inr e) (more_none old);
}

there_kept : (r : ℕ → ℕ) (places : ℕ) (old : Row) (i f t : ℕ) (v : Content) → IsRow r places old → IsStampAt r old.cells.stamps i f t → r old.lo.0 < t
    → t < r old.hi.0 → IsRestoredStep r places old old f t v
there_kept r places old i f t v row s low high = record {
  restored = restored_row r old old f t v high (there_restored r places old i f t row s v);
  row = row;
  more = more_inner r old old f t low high (there_more r places old i f t row s old (more_none old));
}

new_there : (r : ℕ → ℕ) (places : ℕ) (old mid : Row) (index f t : ℕ) (e : Stamp) → IsRow r places old → IsGap r old.cells.stamps index f t
    → f < width_of old → r old.lo.0 < t → t < r old.hi.0 → e.slot.0 ≡ f → r e.place.0 ≡ t → IsInserted old mid index e → 1 ≤ spare_of old →
    IsRestoredStep r places old mid f t e.content
new_there r places old mid index f t e row gap there low high is_slot is_place ins spare = record {
  restored = restored_row r old mid f t e.content high (new_restored r places old mid index f t e row gap there low high is_slot is_place ins);
  row = new_row r places old mid index f t e row gap there low high is_slot is_place ins;
  more = more_inner r old mid f t low high (new_more r places old mid index f t e row gap there low high is_slot is_place ins spare);
}

-- the content begins with a new stamp
new_begun : (r : ℕ → ℕ) (places : ℕ) (mid new : Row) (index f n : ℕ) (e : Stamp) → IsRow r places mid → IsGap r mid.cells.stamps index f n
    → f < width_of mid → r mid.lo.0 < n → n < r mid.hi.0 → e.slot.0 ≡ f → r e.place.0 ≡ n → IsInserted mid new index e → 1 ≤ spare_of mid →
    IsBegunStep r places mid new f n e.content
new_begun r places mid new index f n e row gap there low high is_slot is_place ins spare = record {
  begun = begun_put r mid new f n e.content low (new_put r places mid new index f n e row gap there low high is_slot is_place ins);
  row = new_row r places mid new index f n e row gap there low high is_slot is_place ins;
  more = more_inner r mid new f n low high (new_more r places mid new index f n e row gap there low high is_slot is_place ins spare);
}

-- it begins in the place of what is held from the position on
module _ (r : ℕ → ℕ) (places : ℕ) (mid new : Row) (f n start index : ℕ) (c : Content) (row : IsRow r places mid) (there : f < width_of mid)
    (high : n < r mid.hi.0) (w : IsWrittenBefore mid new f start index c) where
  base_begun : index ≡ start → n ≡ r mid.lo.0 → IsBegunStep r places mid new f n c
  base_begun i e =
      let slots : new.cells.slots ≡ with_base mid.cells.slots f c = (w.first i).0 in
      let stamps : new.cells.stamps ≡ mid.cells.stamps = (w.first i).1 in
      let count : length new.cells.stamps ≡ length mid.cells.stamps = ap length stamps in
      record {
        begun = rw e (based_begun r places mid new f c row there w.lo w.hi stamps slots);
        row = based_row r places mid new f c row there w.lo w.hi stamps slots;
        more = edge_more r mid new f n (inl e) (record { count = omega arith; spare = omega (arith, w.capacity) });
      }

  stamp_begun : start < index → IsStampAt r mid.cells.stamps (index - 1) f n → r mid.lo.0 < n → IsBegunStep r places mid new f n c
  stamp_begun i s low =
      let slots : new.cells.slots ≡ mid.cells.slots = (w.later i).0 in
      let items : new.cells.stamps ≡ with_content mid.cells.stamps (index - 1) c = (w.later i).1 in
      record {
        begun = begun_put r mid new f n c low (written_put r places mid new (index - 1) f n c row s w.lo w.hi slots items);
        row = written_row r places mid new (index - 1) f n c row s w.lo w.hi slots items;
        more = more_inner r mid new f n low high (there_more r places mid (index - 1) f n row s new (written_more r places mid new (index - 1) f n c row s w.lo w.hi slots items w.capacity));
      }

-- what a search for one position tells of it and of the next one
module _ (r : ℕ → ℕ) (places : ℕ) (old : Row) (f n start index stop : ℕ) (row : IsRow r places old)
    (loc : IsLocated r old.cells.stamps f n start index stop) (low : r old.lo.0 ≤ n) (high : n < r old.hi.0) where
  pub begins_of : (p : Pos) → IsBeginPlace old start index p → Begins r places old f n start index stop row loc (r p.0)
  begins_of p b =
      ⊎_elim (λ (i : index ≡ start). begins_low r places old f n start index stop row loc p (b.first i) low i)
      (λ (ne : index ≡ start → ⊥). let l : start < index = omega (arith, ne, loc.low) in begins_last r places old f n start index stop row loc p old.cells.stamps no_stamp (b.later l) refl l)
      (cases_eq index start)

  pub ends_of : (p : Pos) → IsEndPlace old index stop p → Ends r places old f n start index stop row loc (r p.0)
  ends_of p b =
      ⊎_elim (λ (i : index ≡ stop). rw (b.last i) (ends_high r places old f n start index stop row loc high i))
      (λ (ne : index ≡ stop → ⊥). let l : index < stop = omega (arith, ne, loc.high) in rw (b.earlier l) (ends_next r places old f n start index stop row loc old.cells.stamps no_stamp refl l))
      (cases_eq index stop)

  pub held_is : (v : Content) → IsHeldBefore old f start index v → v ≡ content_at r old f n
  held_is v h =
      ⊎_elim (λ (i : index ≡ start). h.first i ∙ sym (content_base r (r old.lo.0) (r old.hi.0) (length old.cells.slots) old.cells.stamps row.stamps f n start index stop loc (base_of old f) i))
      (λ (ne : index ≡ start → ⊥).
      let l : start < index = omega (arith, ne, loc.low) in
      h.later l ∙ sym (content_last r (r old.lo.0) (r old.hi.0) (length old.cells.slots) old.cells.stamps row.stamps f n start index stop loc (base_of old f) l))
      (cases_eq index start)

  -- a stamp of the slot stands there
  stamp_of_slot : (i t : ℕ) → start ≤ i → i < stop → r (get_or old.cells.stamps i no_stamp).place.0 ≡ t → IsStampAt r old.cells.stamps i f t × (r old.lo.0 < t) × (t < r old.hi.0)
  stamp_of_slot i t a b e =
      let l : i < length old.cells.stamps = omega (arith, loc.within) in
      let k = stamp_inside r (r old.lo.0) (r old.hi.0) (length old.cells.slots) old.cells.stamps row.stamps i l in
      (record { there = l; slot_is = loc.same i a b; place_is = e }, omega (arith, k.1), omega (arith, k.2))

  begins_stamp : (p : Pos) → IsBeginPlace old start index p → r p.0 ≡ n → start < index → IsStampAt r old.cells.stamps (index - 1) f n × (r old.lo.0 < n) × (n < r old.hi.0)
  begins_stamp p b e l = stamp_of_slot (index - 1) n (omega arith) (omega (arith, loc.high)) (ap (λ (q : Pos). r q.0) (sym (b.later l)) ∙ e)

  begins_at : (p : Pos) → IsBeginPlace old start index p → r p.0 ≡ n → index ≡ start → n ≡ r old.lo.0
  begins_at p b e i = sym e ∙ ap (λ (q : Pos). r q.0) (b.first i)

  begins_gap : (p : Pos) → IsBeginPlace old start index p → (r p.0 ≡ n → ⊥) → IsGap r old.cells.stamps index f n × (r old.lo.0 < n)
  begins_gap p b ne =
      let begin : Begins r places old f n start index stop row loc (r p.0) = begins_of p b in (
        located_gap r (r old.lo.0) (r old.hi.0) (length old.cells.slots) old.cells.stamps row.stamps f n start index stop loc (λ (l : start < index) e. ne (ap (λ (q : Pos). r q.0) (b.later l) ∙ e)),
        omega (arith, ne, begin.low, begin.not_after),
      )

  ends_kept : (p : Pos) → IsEndPlace old index stop p → r p.0 ≡ n + 1 → (v : Content) → IsRestoredStep r places old old f (n + 1) v
  ends_kept p b e v =
      ⊎_elim (λ (i : index ≡ stop). end_kept r places old f (n + 1) v row (sym e ∙ ap (λ (q : Pos). r q.0) (b.last i)))
      (λ (ne : index ≡ stop → ⊥).
      let l : index < stop = omega (arith, ne, loc.high) in
      let s = stamp_of_slot index (n + 1) loc.low l (ap (λ (q : Pos). r q.0) (sym (b.earlier l)) ∙ e) in
      there_kept r places old index f (n + 1) v row s.0 s.1 s.2)
      (cases_eq index stop)

  -- the next position divides the slot's stamps at the same index
  next_located : (p : Pos) → IsEndPlace old index stop p → (r p.0 ≡ n + 1 → ⊥) → IsLocated r old.cells.stamps f (n + 1) start index stop
  next_located p b ne = record {
    low = loc.low;
    high = loc.high;
    within = loc.within;
    earlier = loc.earlier;
    same = loc.same;
    later = loc.later;
    before = λ (i : ℕ) (l : start ≤ i) (m : i < index). omega (arith, loc.before i l m);
    after = λ (i : ℕ) (l : index ≤ i) (m : i < stop).
        let end : Ends r places old f n start index stop row loc (r p.0) = ends_of p b in
        omega (arith, ne, end.after_n, end.all i l m);
  }

  ends_gap : (p : Pos) → IsEndPlace old index stop p → (r p.0 ≡ n + 1 → ⊥) → IsGap r old.cells.stamps index f (n + 1) × (n + 1 < r old.hi.0)
  ends_gap p b ne =
      let end : Ends r places old f n start index stop row loc (r p.0) = ends_of p b in (
        located_gap r (r old.lo.0) (r old.hi.0) (length old.cells.slots) old.cells.stamps row.stamps f (n + 1) start index stop (next_located p b ne)
            (λ (l : start < index) e. let k = last_le r (r old.lo.0) (r old.hi.0) (length old.cells.slots) old.cells.stamps row.stamps f n start index stop loc l in omega arith),
        omega (arith, ne, end.after_n, end.high),
      )

  -- in place, on a row in which the stamps up to the index are those of the old one
  written_begun : (new : Row) (c : Content) (p : Pos) → f < width_of old → IsBeginPlace old start index p → r p.0 ≡ n → IsWrittenBefore old new f start index c → IsBegunStep r places old new f n c
  written_begun new c p there b e w =
      ⊎_elim (λ (i : index ≡ start). base_begun r places old new f n start index c row there high w i (begins_at p b e i))
      (λ (ne : index ≡ start → ⊥).
      let l : start < index = omega (arith, ne, loc.low) in
      let s = begins_stamp p b e l in
      stamp_begun r places old new f n start index c row there high w l s.0 s.1)
      (cases_eq index start)

  pub set_written : (new : Row) (c : Content) (p q : Pos) → f < width_of old → IsBeginPlace old start index p → r p.0 ≡ n
      → IsEndPlace old index stop q → r q.0 ≡ n + 1 → IsWrittenBefore old new f start index c → IsSetDone r places old new f n c
  set_written new c p q there b e d e' w =
      steps_done r places old old new f n (content_at r old f n) c row low high refl (ends_kept q d e' (content_at r old f n)) (written_begun new c p there b e w)

  pub set_inserted : (new : Row) (t : Stamp) (p q : Pos) → f < width_of old → IsBeginPlace old start index p → (r p.0 ≡ n → ⊥)
      → IsEndPlace old index stop q → r q.0 ≡ n + 1 → t.slot.0 ≡ f → r t.place.0 ≡ n → IsInserted old new index t → 1 ≤ spare_of old →
      IsSetDone r places old new f n t.content
  set_inserted new t p q there b ne d e' is_slot is_place ins spare =
      let g = begins_gap p b ne in
      steps_done r places old old new f n (content_at r old f n) t.content row low high refl (ends_kept q d e' (content_at r old f n))
      (new_begun r places old new index f n t row g.0 there g.1 high is_slot is_place ins spare)

  -- what was held comes in behind
  module _ (mid : Row) (u : Stamp) (q : Pos) (there : f < width_of old) (d : IsEndPlace old index stop q) (off : r q.0 ≡ n + 1 → ⊥)
      (held : IsHeldBefore old f start index u.content) (is_slot : u.slot.0 ≡ f) (is_place : r u.place.0 ≡ n + 1) (ins : IsInserted old mid index u)
      (spare : 2 ≤ spare_of old) where
    mid_there : IsRestoredStep r places old mid f (n + 1) u.content
    mid_there = let g = ends_gap q d off in new_there r places old mid index f (n + 1) u row g.0 there (omega arith) g.1 is_slot is_place ins (omega arith)

    mid_lo : r mid.lo.0 ≡ r old.lo.0
    mid_lo = ap (λ (p : Pos). r p.0) ins.lo

    mid_hi : r mid.hi.0 ≡ r old.hi.0
    mid_hi = ap (λ (p : Pos). r p.0) ins.hi

    index_within : index ≤ length old.cells.stamps
    index_within = omega (arith, loc.high, loc.within)

    mid_spare : 1 ≤ spare_of mid
    mid_spare = omega (arith, ap length ins.items, length-insert old.cells.stamps index u index_within, ins.capacity)

    pub set_restored : (new : Row) (c : Content) (p : Pos) → IsBeginPlace old start index p → r p.0 ≡ n → IsWrittenBefore mid new f start index c → IsSetDone r places old new f n c
    set_restored new c p b e w =
        let there' : f < width_of mid = omega (arith, ins.slots.count) in
        let high' : n < r mid.hi.0 = omega (arith, mid_hi) in
        steps_done r places old mid new f n u.content c row low high (held_is u.content held) mid_there
        (⊎_elim (λ (i : index ≡ start). base_begun r places mid new f n start index c mid_there.row there' high' w i (begins_at p b e i ∙ sym mid_lo))
        (λ (ne : index ≡ start → ⊥).
        let l : start < index = omega (arith, ne, loc.low) in
        let s = begins_stamp p b e l in
        stamp_begun r places mid new f n start index c mid_there.row there' high' w l
        (rw ins.items (stamp_kept r old.cells.stamps (index - 1) index f n u (omega arith) index_within s.0)) (omega (arith, mid_lo, s.1)))
        (cases_eq index start))

    pub set_both : (new : Row) (t : Stamp) (p : Pos) → IsBeginPlace old start index p → (r p.0 ≡ n → ⊥) → t.slot.0 ≡ f → r t.place.0 ≡ n
        → IsInserted mid new index t → IsSetDone r places old new f n t.content
    set_both new t p b ne is_slot' is_place' ins' =
        let g = begins_gap p b ne in
        let gap : IsGap r mid.cells.stamps index f n = rw ins.items (gap_kept r old.cells.stamps index f n u g.0 is_slot (omega arith)) in
        steps_done r places old mid new f n u.content t.content row low high (held_is u.content held) mid_there
        (new_begun r places mid new index f n t mid_there.row gap (omega (arith, ins.slots.count)) (omega (arith, mid_lo, g.1)) (omega (arith, mid_hi)) is_slot' is_place' ins' mid_spare)

  pub set_two : (new : Row) (t u : Stamp) (p q : Pos) → f < width_of old → IsBeginPlace old start index p → (r p.0 ≡ n → ⊥)
      → IsEndPlace old index stop q → (r q.0 ≡ n + 1 → ⊥) → IsHeldBefore old f start index u.content →
      t.slot.0 ≡ f → r t.place.0 ≡ n → u.slot.0 ≡ f → r u.place.0 ≡ n + 1 → AreInserted old new index t u → 2 ≤ spare_of old → IsSetDone r places old new f n t.content
  set_two new t u p q there b ne d off held is_slot is_place is_slot' is_place' ins spare =
      let same : t.slot.0 ≡ u.slot.0 = is_slot ∙ sym is_slot' in
      set_both (between old new index t u ins same) u q there d off held is_slot' is_place' (second_inserted old new index t u ins same) spare new t p
      b ne is_slot is_place (first_inserted old new index t u ins same)

  -- the segment gets another content
  pub replaced_before : (new : Row) (c : Content) → f < width_of old → IsWrittenBefore old new f start index c → IsRowReplaced r old new f n c × IsRow r places new × HasMore 0 old new
  replaced_before new c there w =
      ⊎_elim
      (λ (i : index ≡ start).
      let slots : new.cells.slots ≡ with_base old.cells.slots f c = (w.first i).0 in
      let stamps : new.cells.stamps ≡ old.cells.stamps = (w.first i).1 in
      let count : length new.cells.stamps ≡ length old.cells.stamps = ap length stamps in (
        base_replaced r places old f n start index stop row loc low high new c there i w.lo w.hi stamps slots,
        based_row r places old new f c row there w.lo w.hi stamps slots,
        record { count = omega arith; spare = omega (arith, w.capacity) },
      ))
      (λ (ne : index ≡ start → ⊥).
      let l : start < index = omega (arith, ne, loc.low) in
      let slots : new.cells.slots ≡ old.cells.slots = (w.later l).0 in
      let items : new.cells.stamps ≡ with_content old.cells.stamps (index - 1) c = (w.later l).1 in
      let both = stamp_replaced r places old f n start index stop row loc low high new c l w.lo w.hi slots items in (
        both.0,
        both.1,
        stamp_replaced_more r places old f n start index stop row loc low high new c l w.lo w.hi slots items w.capacity,
      ))
      (cases_eq index start)

  -- a segment begins at the position, or none does
  pub begins_edge : (p : Pos) → IsBeginPlace old start index p → r p.0 ≡ n → row_edge r old f n ≡ true
  begins_edge p b e =
      let begin : Begins r places old f n start index stop row loc (r p.0) = begins_of p b in
      subst (λ (m : ℕ). row_edge r old f m ≡ true) e begin.edge

  pub begun_there : (new : Row) (t : Stamp) (p : Pos) → f < width_of old → IsBeginPlace old start index p → (r p.0 ≡ n → ⊥)
      → IsHeldBefore old f start index t.content → t.slot.0 ≡ f → r t.place.0 ≡ n → IsInserted old new index t → 1 ≤ spare_of old
      → IsBegunThere r places old new f n
  begun_there new t p there b ne held is_slot is_place ins spare =
      let g = begins_gap p b ne in
      let free : row_edge r old f n ≡ false = inner_edge (stamps_of r old f) (r old.lo.0) (r old.hi.0) n g.1 high ∙ ap is_some (gap_none r old.cells.stamps index f n g.0) in
      let both = cut_is r places old f n start index stop row loc low high new t free there is_slot is_place ins in
      record {
        free = free;
        cut = subst (λ (c : Content). IsRowCut r old new f n c) (held_is t.content held) both.0;
        row = both.1;
        more = more_inner r old new f n g.1 high (new_more r places old new index f n t row g.0 there g.1 high is_slot is_place ins spare);
      }
