-- Stamped values in order, and the first that passes a test.
use Rattle.std.proofs.Common.{◌≡◌, ℕ, zero, suc, ◌+◌, ◌-◌, ◌<◌, ◌≤◌, Bool, true, false, List, [], ◌∷◌, length, get_or, Option, Some, None, unwrap_or, refl, sym}
use Rattle.std.proofs.Common.{ap, subst, ◌∙◌, arith, ◌⊎◌, inl, inr, cond, eqb, eq-eqb}
use Rattle.std.specs.Option.{option_map}
use Rattle.std.proofs.lemmas.Bool.{cases_lt, eqb-true}
use Rattle.std.proofs.lemmas.Bool.Decides.{nat_tests}
use Rattle.pst_image_form.specs.declared.parts.StampPart.{StampPart}
use Rattle.pst_image_form.specs.declared.parts.NodePart.{NodePart}
use Rattle.pst_image_rules.specs.Nodes.{no_stamp, stamp_of, IsAfter}
use Rattle.pst_image_rules.specs.Segments.{first, is_at, is_behind, is_before, is_past, begins, ends, IsSorted, IsPosition, IsNextPosition}

-- ---- the first that passes a test

pub first_is : (test : StampPart → Bool) (ss : List StampPart) (i : ℕ) → i < length ss → test (get_or ss i no_stamp) ≡ true
    → ((j : ℕ) → j < i → test (get_or ss j no_stamp) ≡ false) → first test ss ≡ Some (get_or ss i no_stamp)
first_is test [] i lt at before = absurd (omega arith)
first_is test (s ∷ ss) zero lt at before = ap (λ (b : Bool). cond b (Some s) (first test ss)) at
first_is test (s ∷ ss) (suc i) lt at before =
    ap (λ (b : Bool). cond b (Some s) (first test ss)) (before 0 (omega arith)) ∙ first_is test ss i (omega arith) at (λ j less. before (suc j) (omega arith))

pub first_none : (test : StampPart → Bool) (ss : List StampPart) → ((j : ℕ) → j < length ss → test (get_or ss j no_stamp) ≡ false) → first test ss ≡ None
first_none test [] all = refl
first_none test (s ∷ ss) all = ap (λ (b : Bool). cond b (Some s) (first test ss)) (all 0 (omega arith)) ∙ first_none test ss (λ j less. all (suc j) (omega arith))

-- what was found stands there
pub first_there : (test : StampPart → Bool) (ss : List StampPart) (s : StampPart) → first test ss ≡ Some s → (i : ℕ) × (i < length ss) × (get_or ss i no_stamp ≡ s) × (test s ≡ true)
first_there test [] s e = absurd cc
first_there test (t ∷ ss) s e = by (test t) refl (first_there test ss s)
  where
    shift : (first test ss ≡ Some s → (i : ℕ) × (i < length ss) × (get_or ss i no_stamp ≡ s) × (test s ≡ true)) → first test ss ≡ Some s → (i : ℕ)
        × (i < suc (length ss)) × (get_or (t ∷ ss) i no_stamp ≡ s) × (test s ≡ true)
    shift more found = (let m = more found in (suc m.0, omega (arith, m.1), m.2, m.3))

    by : (b : Bool) → test t ≡ b → (first test ss ≡ Some s → (i : ℕ) × (i < length ss) × (get_or ss i no_stamp ≡ s) × (test s ≡ true)) → (i : ℕ)
        × (i < suc (length ss)) × (get_or (t ∷ ss) i no_stamp ≡ s) × (test s ≡ true)
    by true is more =
        let here : Some t ≡ Some s = sym (ap (λ (b : Bool). cond b (Some t) (first test ss)) is) ∙ e in
        let same : t ≡ s = cc in
        (0, omega arith, same, ap test (sym same) ∙ is)
    by false is more = shift more (sym (ap (λ (b : Bool). cond b (Some t) (first test ss)) is) ∙ e)

-- ---- neighbours, and those further on

before_back : (g a : ℕ) (s t : StampPart) → IsAfter s t → is_before g a t ≡ true → is_before g a s ≡ true
before_back g a s t (inl h) e = grind (arith, nat_tests)
before_back g a s t (inr h) e = grind (arith, nat_tests)

late_on : (g a : ℕ) (s t : StampPart) → IsAfter s t → is_before g a s ≡ false → is_before g a t ≡ false
late_on g a s t (inl h) e = grind (arith, nat_tests)
late_on g a s t (inr h) e = grind (arith, nat_tests)

past_on : (g a : ℕ) (s t : StampPart) → IsAfter s t → is_past g a s ≡ true → is_past g a t ≡ true
past_on g a s t (inl h) e = grind (arith, nat_tests)
past_on g a s t (inr h) e = grind (arith, nat_tests)

-- what holds of one and passes to the next holds of all from it on
pub all_on : (k : NodePart) (P : StampPart → Type 0) → IsSorted k → ((s t : StampPart) → IsAfter s t → P s → P t) → (i n : ℕ) → i + n < length k.stamps → P (stamp_of k i) → P (stamp_of k (i + n))
all_on k P sorted pass i zero lt h = (let same : i ≡ i + 0 = omega arith in subst (λ (m : ℕ). P (stamp_of k m)) same h)
all_on k P sorted pass i (suc n) lt h =
    let same : (i + n) + 1 ≡ i + suc n = omega arith in
    subst (λ (m : ℕ). P (stamp_of k m)) same (pass (stamp_of k (i + n)) (stamp_of k ((i + n) + 1)) (sorted.each (i + n) (omega arith)) (all_on k P sorted pass i n (omega arith) h))

-- ---- where a bisection goes on

pub early_to : (k : NodePart) (g a m : ℕ) → IsSorted k → m < length k.stamps → is_before g a (stamp_of k m) ≡ true → (i : ℕ) → i < m + 1 → is_before g a (stamp_of k i) ≡ true
early_to k g a m sorted lt at i less = by (is_before g a (stamp_of k i)) refl
  where
    by : (b : Bool) → is_before g a (stamp_of k i) ≡ b → is_before g a (stamp_of k i) ≡ true
    by true is = is
    by false is =
        let same : i + (m - i) ≡ m = omega arith in
        let late : is_before g a (stamp_of k m) ≡ false = subst (λ (n : ℕ). is_before g a (stamp_of k n) ≡ false) same
        (all_on k (λ s. is_before g a s ≡ false) sorted (late_on g a) i (m - i) (omega arith) is) in
        let clash : true ≡ false = sym at ∙ late in absurd cc

pub late_from : (k : NodePart) (g a m : ℕ) → IsSorted k → m < length k.stamps → is_before g a (stamp_of k m) ≡ false → (i : ℕ) → m ≤ i → i < length k.stamps → is_before g a (stamp_of k i) ≡ false
late_from k g a m sorted lt at i low high =
    let same : m + (i - m) ≡ i = omega arith in
    subst (λ (n : ℕ). is_before g a (stamp_of k n) ≡ false) same (all_on k (λ s. is_before g a s ≡ false) sorted (late_on g a) m (i - m) (omega arith) at)

past_from : (k : NodePart) (g a m : ℕ) → IsSorted k → m < length k.stamps → is_past g a (stamp_of k m) ≡ true → (i : ℕ) → m ≤ i → i < length k.stamps → is_past g a (stamp_of k i) ≡ true
past_from k g a m sorted lt at i low high =
    let same : m + (i - m) ≡ i = omega arith in
    subst (λ (n : ℕ). is_past g a (stamp_of k n) ≡ true) same (all_on k (λ s. is_past g a s ≡ true) sorted (past_on g a) m (i - m) (omega arith) at)

-- ---- what stands at a position

before_not_at : (g a : ℕ) (s : StampPart) → is_before g a s ≡ true → is_at g a s ≡ false
before_not_at g a s e = grind (arith, nat_tests)

before_not_behind : (g a : ℕ) (s : StampPart) → is_before g a s ≡ true → is_behind g a s ≡ false
before_not_behind g a s e = grind (arith, nat_tests)

at_not_behind : (g a : ℕ) (s : StampPart) → is_at g a s ≡ true → is_behind g a s ≡ false
at_not_behind g a s e = grind (arith, nat_tests)

past_not_at : (g a : ℕ) (s : StampPart) → is_past g a s ≡ true → is_at g a s ≡ false
past_not_at g a s e = grind (arith, nat_tests)

neither_past : (g a : ℕ) (s : StampPart) → is_before g a s ≡ false → is_at g a s ≡ false → is_past g a s ≡ true
neither_past g a s e f = grind (arith, nat_tests)

after_at_past : (g a : ℕ) (s t : StampPart) → IsAfter s t → is_at g a s ≡ true → is_past g a t ≡ true
after_at_past g a s t (inl h) e = grind (arith, nat_tests)
after_at_past g a s t (inr h) e = grind (arith, nat_tests)

past_there : (g a : ℕ) (s : StampPart) → is_past g a s ≡ true → s.slot.0 ≡ g → is_behind g a s ≡ true
past_there g a s e f = grind (arith, nat_tests)

past_other : (g a : ℕ) (s : StampPart) → is_past g a s ≡ true → (s.slot.0 ≡ g → ⊥) → g < s.slot.0
past_other g a s e f = grind (arith, nat_tests)

later_slot : (g : ℕ) (s t : StampPart) → IsAfter s t → g < s.slot.0 → g < t.slot.0
later_slot g s t (inl h) lt = omega arith
later_slot g s t (inr h) lt = omega (arith, h.0)

other_not_behind : (g a : ℕ) (s : StampPart) → g < s.slot.0 → is_behind g a s ≡ false
other_not_behind g a s lt = grind (arith, nat_tests)

pub stamped_there : (k : NodePart) (g a n : ℕ) → IsPosition k g a n → n < length k.stamps → is_at g a (stamp_of k n) ≡ true → first (is_at g a) k.stamps ≡ Some (stamp_of k n)
stamped_there k g a n p lt at = first_is (is_at g a) k.stamps n lt at (λ j less. before_not_at g a (stamp_of k j) (p.early j less))

pub next_at : (k : NodePart) (g a n : ℕ) → IsSorted k → IsPosition k g a n → n < length k.stamps → is_at g a (stamp_of k n) ≡ true → IsNextPosition k g a (n + 1)
next_at k g a n sorted p lt at = record {
  high = omega arith;
  early = λ i less. early_by i (cases_lt i n) less;
  late = λ i low high. past_from k g a (n + 1) sorted (omega arith) (after_at_past g a (stamp_of k n) (stamp_of k (n + 1)) (sorted.each n (omega arith)) at) i low high;
} where
  early_by : (i : ℕ) → (i < n) ⊎ (n ≤ i) → i < n + 1 → is_behind g a (stamp_of k i) ≡ false
  early_by i (inl less) lt' = before_not_behind g a (stamp_of k i) (p.early i less)
  early_by i (inr le) lt' = (let same : n ≡ i = omega arith in subst (λ (m : ℕ). is_behind g a (stamp_of k m) ≡ false) same (at_not_behind g a (stamp_of k n) at))

pub next_not : (k : NodePart) (g a n : ℕ) → IsSorted k → IsPosition k g a n → (n < length k.stamps → is_at g a (stamp_of k n) ≡ false) → IsNextPosition k g a n
next_not k g a n sorted p not = record {
  high = p.high;
  early = λ i less. before_not_behind g a (stamp_of k i) (p.early i less);
  late = λ i low high. past_from k g a n sorted (omega arith) (neither_past g a (stamp_of k n) (p.late n (omega arith) (omega arith)) (not (omega arith))) i low high;
}

pub stamped_none : (k : NodePart) (g a n : ℕ) → IsSorted k → IsPosition k g a n → (n < length k.stamps → is_at g a (stamp_of k n) ≡ false) → first (is_at g a) k.stamps ≡ None
stamped_none k g a n sorted p not = first_none (is_at g a) k.stamps (λ j lt. by j lt (cases_lt j n))
  where
    by : (j : ℕ) → j < length k.stamps → (j < n) ⊎ (n ≤ j) → is_at g a (stamp_of k j) ≡ false
    by j lt (inl less) = before_not_at g a (stamp_of k j) (p.early j less)
    by j lt (inr le) = past_not_at g a (stamp_of k j) ((next_not k g a n sorted p not).late j le lt)

pub ends_there : (k : NodePart) (g a n : ℕ) → IsNextPosition k g a n → n < length k.stamps → (stamp_of k n).slot.0 ≡ g → ends k g a ≡ (stamp_of k n).place
ends_there k g a n p lt same =
    ap (λ (o : Option StampPart). unwrap_or (option_map (λ s. s.place) o) k.hi) (first_is (is_behind g a) k.stamps n lt (past_there g a (stamp_of k n) (p.late n (omega arith) lt) same) p.early)

pub ends_none : (k : NodePart) (g a n : ℕ) → IsSorted k → IsNextPosition k g a n → (n < length k.stamps → (stamp_of k n).slot.0 ≡ g → ⊥) → ends k g a ≡ k.hi
ends_none k g a n sorted p other =
    ap (λ (o : Option StampPart). unwrap_or (option_map (λ s. s.place) o) k.hi) (first_none (is_behind g a) k.stamps (λ j lt. by j lt (cases_lt j n)))
  where
    by : (j : ℕ) → j < length k.stamps → (j < n) ⊎ (n ≤ j) → is_behind g a (stamp_of k j) ≡ false
    by j lt (inl less) = p.early j less
    by j lt (inr le) =
        let start : n < length k.stamps = omega arith in
        let greater = past_other g a (stamp_of k n) (p.late n (omega arith) start) (other start) in
        let same : n + (j - n) ≡ j = omega arith in
        other_not_behind g a (stamp_of k j) (subst (λ (m : ℕ). g < (stamp_of k m).slot.0) same (all_on k (λ s. g < s.slot.0) sorted (later_slot g) n (j - n) (omega arith) greater))

pub never : false ≡ true → ⊥
never e = absurd cc

pub not_true : (b : Bool) → (b ≡ true → ⊥) → b ≡ false
not_true true h = absurd (h refl)
not_true false h = refl

-- ---- what begins at a place

pub begins_at_lo : (k : NodePart) (g a : ℕ) → a ≡ k.lo → begins k g a ≡ Some (get_or k.bases g 0)
begins_at_lo k g a is = ap (λ (b : Bool). cond b (Some (get_or k.bases g 0)) (option_map (λ s. s.content) (first (is_at g a) k.stamps))) (eq-eqb a k.lo is)

pub begins_later : (k : NodePart) (g a : ℕ) → (a ≡ k.lo → ⊥) → begins k g a ≡ option_map (λ s. s.content) (first (is_at g a) k.stamps)
begins_later k g a not = ap (λ (b : Bool). cond b (Some (get_or k.bases g 0)) (option_map (λ s. s.content) (first (is_at g a) k.stamps))) (not_true (eqb a k.lo) (λ e. not (eqb-true a k.lo e)))

pub begins_there : (k : NodePart) (g a n : ℕ) → (a ≡ k.lo → ⊥) → IsPosition k g a n → n < length k.stamps → is_at g a (stamp_of k n) ≡ true → begins k g a ≡ Some (stamp_of k n).content
begins_there k g a n not p lt at = begins_later k g a not ∙ ap (λ (o : Option StampPart). option_map (λ s. s.content) o) (stamped_there k g a n p lt at)

pub begins_none : (k : NodePart) (g a n : ℕ) → (a ≡ k.lo → ⊥) → IsSorted k → IsPosition k g a n → (n < length k.stamps → is_at g a (stamp_of k n) ≡ false) → begins k g a ≡ None
begins_none k g a n not sorted p other = begins_later k g a not ∙ ap (λ (o : Option StampPart). option_map (λ s. s.content) o) (stamped_none k g a n sorted p other)

pub at_slot : (g a : ℕ) (s : StampPart) → is_at g a s ≡ true → s.slot.0 ≡ g
at_slot g a s e = grind (arith, nat_tests)

pub at_place : (g a : ℕ) (s : StampPart) → is_at g a s ≡ true → s.place ≡ a
at_place g a s e = grind (arith, nat_tests)
