-- What one slot holds over a life, position by position, and what the calls of a row do to that.
use Rattle.std.specs.Prelude.{◌≡◌, ◌≢◌, ℕ, zero, suc, ◌+◌, ◌<◌, ◌≤◌, Bool, true, false, ◌||◌, ◌==◌, cond, Option, Some, None, unwrap_or, is_some}

-- What a slot holds at each position, from its base and from what is stamped: at a position with a stamp
-- that value, and else what it holds at the position before.
abbrev pub in_force : {C : Type 0} → (ℕ → Option C) → C → ℕ → C
in_force stamps base zero = unwrap_or (stamps zero) base
in_force stamps base (suc n) = unwrap_or (stamps (suc n)) (in_force stamps base n)

-- a segment begins or ends here: the life does, or a value is stamped
abbrev pub is_edge : {C : Type 0} → (ℕ → Option C) → ℕ → ℕ → ℕ → Bool
is_edge stamps lo hi n = (n == lo) || (n == hi) || is_some (stamps n)

-- the segment that begins at a and ends before c
pub record IsSegment {C : Type 0} (stamps : ℕ → Option C) (lo hi a c : ℕ) : Type 0 where
  pub within : lo ≤ a
  pub begins : is_edge stamps lo hi a ≡ true
  pub ends : is_edge stamps lo hi c ≡ true
  pub some : a < c
  pub whole : (n : ℕ) → a < n → n < c → is_edge stamps lo hi n ≡ false

-- stamps lie strictly inside the life
pub record AreInside {C : Type 0} (stamps : ℕ → Option C) (lo hi : ℕ) : Type 0 where
  pub life : lo < hi
  pub after : (n : ℕ) → n ≤ lo → stamps n ≡ None
  pub before : (n : ℕ) → hi ≤ n → stamps n ≡ None

-- One position gets a value of its own, and the next one what it held: at the begin of the life the base is
-- replaced, and at its end nothing is restored.
pub record IsSetOver {C : Type 0} (old new : ℕ → Option C) (base base' : C) (lo hi b : ℕ) (c : C) : Type 0 where
  pub inside : AreInside old lo hi
  pub low : lo ≤ b
  pub high : b < hi
  pub at_begin : lo ≡ b → (base' ≡ c) × (new b ≡ None)
  pub later : lo < b → (base' ≡ base) × (new b ≡ Some c)
  pub restored : b + 1 < hi → new (b + 1) ≡ Some (unwrap_or (old (b + 1)) (in_force old base b))
  pub at_end : b + 1 ≡ hi → new (b + 1) ≡ None
  pub others : (n : ℕ) → n ≢ b → n ≢ b + 1 → new n ≡ old n

-- a stamp is added inside a segment
pub record IsCut {C : Type 0} (old new : ℕ → Option C) (lo hi t : ℕ) (c : C) : Type 0 where
  pub inside : AreInside old lo hi
  pub low : lo < t
  pub high : t < hi
  pub free : old t ≡ None
  pub there : new t ≡ Some c
  pub others : (n : ℕ) → n ≢ t → new n ≡ old n

-- where the segment that covers n begins
abbrev pub start_of : {C : Type 0} → (ℕ → Option C) → ℕ → ℕ → ℕ
start_of stamps lo zero = lo
start_of stamps lo (suc n) = cond (is_some (stamps (suc n))) (suc n) (start_of stamps lo n)

-- the segment that covers t gets another content
pub record IsReplaced {C : Type 0} (old new : ℕ → Option C) (base base' : C) (lo hi t : ℕ) (c : C) : Type 0 where
  pub inside : AreInside old lo hi
  pub low : lo ≤ t
  pub high : t < hi
  pub at_begin : start_of old lo t ≡ lo → (base' ≡ c) × ((n : ℕ) → new n ≡ old n)
  pub later : lo < start_of old lo t → (base' ≡ base) × (new (start_of old lo t) ≡ Some c) × ((n : ℕ) → n ≢ start_of old lo t → new n ≡ old n)

-- the life is cut in two
pub record IsSplitOff {C : Type 0} (old left right : ℕ → Option C) (base left_base right_base : C) (lo hi t : ℕ) : Type 0 where
  pub inside : AreInside old lo hi
  pub low : lo < t
  pub high : t < hi
  pub left_base_is : left_base ≡ base
  pub right_base_is : right_base ≡ in_force old base t
  pub left_kept : (n : ℕ) → n < t → left n ≡ old n
  pub left_dropped : (n : ℕ) → t ≤ n → left n ≡ None
  pub right_kept : (n : ℕ) → t < n → right n ≡ old n
  pub right_dropped : (n : ℕ) → n ≤ t → right n ≡ None
