-- A row, and the part that is made of it: what begins at a position, and where it ends.
use Rattle.std.proofs.Common.{◌≡◌, ◌≢◌, ℕ, zero, suc, ◌<◌, ◌≤◌, Bool, true, false, cond, List, [], ◌∷◌, get_or, map, Option, Some, None, refl, sym, ap, ◌∙◌, ◌⊎◌, inl, inr, ⊎_elim, arith}
use Rattle.std.specs.Option.{option_map}
use Rattle.std.proofs.lemmas.Bool.{cases_eq, cases_lt, ne_eqb}
use Rattle.pst_rows.specs.declared.content.Content.{Content}
use Rattle.pst_rows.specs.Slots.{SlotValue as Slot}
use Rattle.pst_rows.specs.declared.content.Stamp.{Stamp}
use Rattle.pst_rows.specs.Timeline.{AreInside}
use Rattle.pst_rows.specs.Values.{stamp_at, stamps_in, base_in, content_in, edge_in, no_slot, IsValue}
use Rattle.pst_rows.proofs.TimelineLemmas.{base_below, at_stamp, edge_here, some_is, option_cases}
use Rattle.pst_mirror.proofs.ValueLemmas.{value_inside}
use Rattle.pst_store_meaning.specs.Store.{Node}
use Rattle.pst_image_form.specs.declared.parts.StampPart.{StampPart}
use Rattle.pst_image_rules.specs.Segments.{first, is_at, begins, ends}
use Rattle.pst_image_rules.specs.Laws.{IsSegment}
use Rattle.pst_image_rules.proofs.Order.{begins_at_lo, begins_later}
use Rattle.pst_image_meaning.specs.Parts.{content_number, stamp_part, node_part}

-- ---- bases and stamped values as numbers

pub bases_at : (slots : List Slot) (g : ℕ) → get_or (map (λ c. content_number c.content) slots) g 0 ≡ content_number (get_or slots g no_slot).content
bases_at [] g = refl
bases_at (c ∷ cs) zero = refl
bases_at (c ∷ cs) (suc g) = bases_at cs g

-- one test chooses in both
chosen : (b : Bool) (s : StampPart) (c : Content) (x : Option StampPart) (y : Option Content) → s.content ≡ content_number c → option_map (λ s. s.content) x ≡ option_map content_number y
    → option_map (λ s. s.content) (cond b (Some s) x) ≡ option_map content_number (cond b (Some c) y)
chosen true s c x y e f = ap Some e
chosen false s c x y e f = f

pub stamped : (r : ℕ → ℕ) (es : List Stamp) (g a : ℕ) → option_map (λ s. s.content) (first (is_at g a) (map (stamp_part r) es)) ≡ option_map content_number (stamp_at r es g a)
stamped r [] g a = refl
stamped r (e ∷ es) g a = chosen (is_at g a (stamp_part r e)) (stamp_part r e) e.content (first (is_at g a) (map (stamp_part r) es)) (stamp_at r es g a) refl (stamped r es g a)

some_same : {A : Type 0} (x y : A) → Some x ≡ Some y → x ≡ y
some_same x y e = cc

-- ---- a row at a position

-- a segment of slot g begins at a, and holds what has this number
pub record IsHeld (r : ℕ → ℕ) (n : Node) (g a c : ℕ) : Type 0 where
  pub low : r n.row.lo.0 ≤ a
  pub high : a < r n.row.hi.0
  pub edge : edge_in r n.row g a ≡ true
  pub content : c ≡ content_number (content_in r n.row g a)

-- a segment of slot g from a up to c
pub record IsPiece (r : ℕ → ℕ) (n : Node) (g a c : ℕ) : Type 0 where
  pub begins : edge_in r n.row g a ≡ true
  pub ends : edge_in r n.row g c ≡ true
  pub some : a < c
  pub whole : (m : ℕ) → a < m → m < c → edge_in r n.row g m ≡ false

module _ (r : ℕ → ℕ) (places : ℕ) (n : Node) (v : IsValue r places n.row) where
  inside : (g : ℕ) → AreInside (stamps_in r n.row g) (r n.row.lo.0) (r n.row.hi.0)
  inside g = value_inside r places n.row v g

  -- at the begin of the life stands the base
  pub at_begin : (g a : ℕ) → a ≡ r n.row.lo.0 → content_in r n.row g a ≡ base_in n.row g
  at_begin g a e = base_below (stamps_in r n.row g) (base_in n.row g) a (λ k l. (inside g).after k (omega (arith, e)))

  stamped_low : (g a : ℕ) (c : Content) → stamps_in r n.row g a ≡ Some c → r n.row.lo.0 < a
  stamped_low g a c e = ⊎_elim (λ (l : r n.row.lo.0 < a). l) (λ (l : a ≤ r n.row.lo.0). absurd (let none = (inside g).after a l in cc)) (cases_lt (r n.row.lo.0) a)

  stamped_high : (g a : ℕ) (c : Content) → stamps_in r n.row g a ≡ Some c → a < r n.row.hi.0
  stamped_high g a c e = ⊎_elim (λ (l : a < r n.row.hi.0). l) (λ (l : r n.row.hi.0 ≤ a). absurd (let none = (inside g).before a l in cc)) (cases_lt a (r n.row.hi.0))

  -- what a part says of a position behind the begin
  later : (g a : ℕ) → a ≢ r n.row.lo.0 → begins (node_part r n) g a ≡ option_map content_number (stamps_in r n.row g a)
  later g a not = begins_later (node_part r n) g a not ∙ stamped r n.row.stamps g a

  pub begun : (g a c : ℕ) → begins (node_part r n) g a ≡ Some c → IsHeld r n g a c
  begun g a c e = ⊎_elim first_one other (cases_eq a (r n.row.lo.0))
    where
      first_one : a ≡ r n.row.lo.0 → IsHeld r n g a c
      first_one q =
          let held : Some (get_or (map (λ c. content_number c.content) n.row.slots) g 0) ≡ Some c = sym (begins_at_lo (node_part r n) g a q) ∙ e in
          record {
            low = omega (arith, q);
            high = omega (arith, q, v.life);
            edge = edge_here (stamps_in r n.row g) (r n.row.lo.0) (r n.row.hi.0) a (inl q);
            content = sym (some_same _ c held) ∙ bases_at n.row.slots g ∙ sym (ap content_number (at_begin g a q));
          }

      other : a ≢ r n.row.lo.0 → IsHeld r n g a c
      other not = ⊎_elim
          (λ (none : stamps_in r n.row g a ≡ None). absurd (let z : option_map content_number (stamps_in r n.row g a) ≡ Some c = sym (later g a not)
          ∙ e in let y : None ≡ Some c = sym (ap (option_map content_number) none) ∙ z in cc))
          (λ (x : (w : Content) × (stamps_in r n.row g a ≡ Some w)).
          let z : Some (content_number x.0) ≡ Some c = sym (ap (option_map content_number) x.1) ∙ sym (later g a not) ∙ e in
          record {
            low = omega (arith, stamped_low g a x.0 x.1);
            high = stamped_high g a x.0 x.1;
            edge = edge_here (stamps_in r n.row g) (r n.row.lo.0) (r n.row.hi.0) a (inr (inr (some_is (stamps_in r n.row g a) x.0 x.1)));
            content = sym (some_same (content_number x.0) c z) ∙ sym (ap content_number (at_stamp (stamps_in r n.row g) (base_in n.row g) x.0 a x.1));
          })
          (option_cases (stamps_in r n.row g a))

  unedged : (g a : ℕ) → a ≢ r n.row.lo.0 → a ≢ r n.row.hi.0 → stamps_in r n.row g a ≡ None → edge_in r n.row g a ≡ false
  unedged g a nl nh none = rw (ne_eqb a (r n.row.lo.0) nl, ne_eqb a (r n.row.hi.0) nh, none) refl

  -- where an edge is inside the life, a segment begins
  pub begins_held : (g a : ℕ) → r n.row.lo.0 ≤ a → a < r n.row.hi.0 → edge_in r n.row g a ≡ true → begins (node_part r n) g a ≡ Some (content_number (content_in r n.row g a))
  begins_held g a low high edge = ⊎_elim
      (λ (q : a ≡ r n.row.lo.0). begins_at_lo (node_part r n) g a q ∙ ap Some (bases_at n.row.slots g ∙ sym (ap content_number (at_begin g a q))))
      (λ (not : a ≢ r n.row.lo.0). ⊎_elim
      (λ (none : stamps_in r n.row g a ≡ None). absurd (let nh : a ≢ r n.row.hi.0 = λ q. omega (arith, q, high) in let off = unedged g a not nh none in let no : true ≡ false = sym edge ∙ off in cc))
      (λ (x : (w : Content) × (stamps_in r n.row g a ≡ Some w)). later g a not ∙ ap (option_map content_number) x.1
      ∙ ap Some (sym (ap content_number (at_stamp (stamps_in r n.row g) (base_in n.row g) x.0 a x.1))))
      (option_cases (stamps_in r n.row g a)))
      (cases_eq a (r n.row.lo.0))

  -- where none begins, there is no edge
  none_begins : (g a : ℕ) → a ≢ r n.row.lo.0 → a ≢ r n.row.hi.0 → begins (node_part r n) g a ≡ None → edge_in r n.row g a ≡ false
  none_begins g a nl nh e = ⊎_elim
      (λ (none : stamps_in r n.row g a ≡ None). unedged g a nl nh none)
      (λ (x : (w : Content) × (stamps_in r n.row g a ≡ Some w)). absurd (let z : Some (content_number x.0) ≡ None = sym (ap (option_map content_number) x.1) ∙ sym (later g a nl) ∙ e in cc))
      (option_cases (stamps_in r n.row g a))

  -- a segment of the part is one of the row
  pub piece : (g a c : ℕ) → begins (node_part r n) g a ≡ Some c → IsSegment (node_part r n) g a → IsPiece r n g a (ends (node_part r n) g a)
  piece g a c e h = record {
    begins = (begun g a c e).edge;
    ends = last h.next;
    some = h.some;
    whole = λ m l k. none_begins g m (λ q. omega (arith, q, l, h.low)) (λ q. omega (arith, q, k, h.high)) (h.whole m l k);
  }
    where
      last : (ends (node_part r n) g a ≡ r n.row.hi.0) ⊎ ((c : ℕ) × (begins (node_part r n) g (ends (node_part r n) g a) ≡ Some c)) → edge_in r n.row g (ends (node_part r n) g a) ≡ true
      last (inl q) = edge_here (stamps_in r n.row g) (r n.row.lo.0) (r n.row.hi.0) (ends (node_part r n) g a) (inr (inl q))
      last (inr x) = (begun g (ends (node_part r n) g a) x.0 x.1).edge

  -- the life ends at an edge
  pub last_edge : (g : ℕ) → edge_in r n.row g (r n.row.hi.0) ≡ true
  last_edge g = edge_here (stamps_in r n.row g) (r n.row.lo.0) (r n.row.hi.0) (r n.row.hi.0) (inr (inl refl))
