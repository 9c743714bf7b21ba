-- Where the jumps of a piece of code go, and what pays for its calls, writes and new records.
use Rattle.std.proofs.Common.{◌≡◌, ◌⊎◌, inl, inr, ℕ, ◌+◌, ◌-◌, ◌<◌, ◌≤◌, true, false, List, ◌++◌, length, Some, None, sym, ap, ◌∙◌, subst, arith, slice_get, length-append}
use Rattle.std.specs.List.{AllByRecursion}
use Rattle.std.proofs.lemmas.Option.{slice_get_within}
use Rattle.pst_code.specs.declared.instr.Instr.{Instr}
use Rattle.pst_code.specs.Valid.{JumpsTo, IsCharge, IsQuiet, target_of, is_paid}
use Rattle.pst_translation.proofs.ValidLists.{Place, Front, Back, get_front, get_back, place, all_at}

-- an instruction of a piece is paid for within it; jumps go to indices of the whole code, in which the piece stands at one
pub record PaidAt (code : List Instr) (at i : ℕ) : Type 0 where
  pub charge : ℕ
  pub before : charge < i
  pub is_charge : IsCharge (slice_get code charge)
  pub quiet : (j : ℕ) → charge < j → j < i → IsQuiet (slice_get code j)
  pub apart : (from to : ℕ) → JumpsTo code from to → (to ≤ at + charge) ⊎ (at + i < to)

-- A piece of code that stands at an index: its jumps go into it or just behind it, or to one exit farther on; its jumps
-- back go to charges; and each of its instructions that has to be paid for is.
pub record Piece (code : List Instr) (at exit : ℕ) : Type 0 where
  pub ahead : at + length code ≤ exit
  pub low : (i to : ℕ) → JumpsTo code i to → at ≤ to
  pub high : (i to : ℕ) → JumpsTo code i to → (to ≤ at + length code) ⊎ (to ≡ exit)
  pub back : (i to : ℕ) → JumpsTo code i to → to ≤ at + i → IsCharge (slice_get code (to - at))
  pub paid : (i : ℕ) (x : Instr) → slice_get code i ≡ Some x → is_paid x ≡ true → PaidAt code at i

-- ---- jumps of two pieces

pub jump_within : (code : List Instr) (i to : ℕ) → JumpsTo code i to → i < length code
jump_within code i to j = slice_get_within code i j.instr j.there

pub moved : (code code' : List Instr) (i i' to : ℕ) → slice_get code i ≡ slice_get code' i' → JumpsTo code i to → JumpsTo code' i' to
moved code code' i i' to e j = record { instr = j.instr; there = sym e ∙ j.there; goes = j.goes }

-- what holds of the jumps of both pieces holds of their jumps as one
pub jumps_of : (a b : List Instr) (P : ℕ → ℕ → Type 0) → ((i to : ℕ) → i < length a → JumpsTo a i to → P i to)
    → ((i to : ℕ) → JumpsTo b i to → P (length a + i) to) → (i to : ℕ) → JumpsTo (a ++ b) i to → P i to
jumps_of a b P f g i to j = from (place a b i) where
  from : Place a b i → P i to
  from (Front lt e) = f i to lt (moved (a ++ b) a i i to e j)
  from (Back k at e) = subst (λ (n : ℕ). P n to) (sym at) (g k to (moved (a ++ b) b i k to e j))

-- ---- two pieces

module _ (a b : List Instr) (at exit other : ℕ) (pa : Piece a at exit) (pb : Piece b (at + length a) other) (past : at + length (a ++ b) ≤ exit)
    (meets : (exit ≤ at + length (a ++ b)) ⊎ (exit ≡ other)) where
  whole : length (a ++ b) ≡ length a + length b
  whole = length-append a b

  high_front : (to : ℕ) → (to ≤ at + length a) ⊎ (to ≡ exit) → (to ≤ at + length (a ++ b)) ⊎ (to ≡ other)
  high_front to (inl le) = inl (omega (arith, whole))
  high_front to (inr e) = leaves meets where
    leaves : (exit ≤ at + length (a ++ b)) ⊎ (exit ≡ other) → (to ≤ at + length (a ++ b)) ⊎ (to ≡ other)
    leaves (inl le) = inl (omega arith)
    leaves (inr f) = inr (e ∙ f)

  high_back : (to : ℕ) → (to ≤ at + length a + length b) ⊎ (to ≡ other) → (to ≤ at + length (a ++ b)) ⊎ (to ≡ other)
  high_back to (inl le) = inl (omega (arith, whole))
  high_back to (inr e) = inr e

  abbrev BackAt : ℕ → ℕ → Type 0
  BackAt i to = to ≤ at + i → IsCharge (slice_get (a ++ b) (to - at))

  back_front : (i to : ℕ) → i < length a → JumpsTo a i to → BackAt i to
  back_front i to lt j le =
      let low : at ≤ to = pa.low i to j in
      subst IsCharge (sym (get_front a b (to - at) (omega arith))) (pa.back i to j le)

  back_back : (i to : ℕ) → JumpsTo b i to → BackAt (length a + i) to
  back_back i to j le =
      let low : at + length a ≤ to = pb.low i to j in
      let index : to - at ≡ length a + (to - (at + length a)) = omega arith in
      subst IsCharge (sym (ap (slice_get (a ++ b)) index ∙ get_back a b (to - (at + length a)))) (pb.back i to j (omega arith))

  paid_front : (i : ℕ) → i < length a → PaidAt a at i → PaidAt (a ++ b) at i
  paid_front i lt p = record {
    charge = p.charge;
    before = p.before;
    is_charge = let before : p.charge < i = p.before in subst IsCharge (sym (get_front a b p.charge (omega arith))) p.is_charge;
    quiet = λ j after before. subst IsQuiet (sym (get_front a b j (omega arith))) (p.quiet j after before);
    apart = jumps_of a b (λ k to. (to ≤ at + p.charge) ⊎ (at + i < to)) (λ k to within j. p.apart k to j) (λ k to j. let low : at + length a ≤ to = pb.low k to j in inr (omega arith));
  }

  abbrev Apart : (charge i to : ℕ) → Type 0
  Apart charge i to = (to ≤ at + (length a + charge)) ⊎ (at + (length a + i) < to)

  apart_front : (charge i to : ℕ) → i < length b → (to ≤ at + length a) ⊎ (to ≡ exit) → Apart charge i to
  apart_front charge i to lt (inl le) = inl (omega arith)
  apart_front charge i to lt (inr e) = inr (omega (arith, whole))

  apart_back : (charge i to : ℕ) → (to ≤ at + length a + charge) ⊎ (at + length a + i < to) → Apart charge i to
  apart_back charge i to (inl le) = inl (omega arith)
  apart_back charge i to (inr lt) = inr (omega arith)

  quiet_back : (charge i : ℕ) → ((j : ℕ) → charge < j → j < i → IsQuiet (slice_get b j)) → (j : ℕ) → length a + charge < j → j < length a + i → IsQuiet (slice_get (a ++ b) j)
  quiet_back charge i quiet j after before =
      let index : j ≡ length a + (j - length a) = omega arith in
      subst IsQuiet (sym (ap (slice_get (a ++ b)) index ∙ get_back a b (j - length a))) (quiet (j - length a) (omega arith) (omega arith))

  paid_back : (i : ℕ) → i < length b → PaidAt b (at + length a) i → PaidAt (a ++ b) at (length a + i)
  paid_back i lt p = record {
    charge = length a + p.charge;
    before = let before : p.charge < i = p.before in omega arith;
    is_charge = subst IsCharge (sym (get_back a b p.charge)) p.is_charge;
    quiet = quiet_back p.charge i p.quiet;
    apart = jumps_of a b (λ k to. Apart p.charge i to) (λ k to within j. apart_front p.charge i to lt (pa.high k to j)) (λ k to j. apart_back p.charge i to (p.apart k to j));
  }

  paid_both : (i : ℕ) (x : Instr) → slice_get (a ++ b) i ≡ Some x → is_paid x ≡ true → PaidAt (a ++ b) at i
  paid_both i x there pays = from (place a b i) where
    from : Place a b i → PaidAt (a ++ b) at i
    from (Front lt e) = paid_front i lt (pa.paid i x (sym e ∙ there) pays)
    from (Back k index e) =
        let here : slice_get b k ≡ Some x = sym e ∙ there in
        subst (PaidAt (a ++ b) at) (sym index) (paid_back k (slice_get_within b k x here) (pb.paid k x here pays))

  -- one after the other
  pub joined : Piece (a ++ b) at other
  joined = record {
    ahead = let far : at + length a + length b ≤ other = pb.ahead in omega (arith, whole);
    low = jumps_of a b (λ i to. at ≤ to) (λ i to within j. pa.low i to j) (λ i to j. let low : at + length a ≤ to = pb.low i to j in omega arith);
    high = jumps_of a b (λ i to. (to ≤ at + length (a ++ b)) ⊎ (to ≡ other)) (λ i to within j. high_front to (pa.high i to j)) (λ i to j. high_back to (pb.high i to j));
    back = jumps_of a b BackAt back_front back_back;
    paid = paid_both;
  }

-- a piece whose exit is just behind it has any exit farther on
pub with_exit : (code : List Instr) (at exit other : ℕ) → Piece code at exit → exit ≤ at + length code → at + length code ≤ other → Piece code at other
with_exit code at exit other p near far = record {
  ahead = far;
  low = p.low;
  high = λ i to j. inl (closed i to (p.high i to j));
  back = p.back;
  paid = p.paid;
} where
  closed : (i to : ℕ) → (to ≤ at + length code) ⊎ (to ≡ exit) → to ≤ at + length code
  closed i to (inl le) = le
  closed i to (inr e) = omega arith

-- ---- small pieces

-- neither a jump nor an instruction that has to be paid for
abbrev pub Quiet : Instr → Type 0
Quiet x = IsQuiet (Some x)

no_jump : (x : Instr) (to : ℕ) → target_of x ≡ None → target_of x ≡ Some to → ⊥
no_jump x to e f = absurd (cc)

-- nothing happens in it that a piece speaks of
pub quiet_piece : (code : List Instr) (at exit : ℕ) → AllByRecursion Quiet code → at + length code ≤ exit → Piece code at exit
quiet_piece code at exit quiet far = record {
  ahead = far;
  low = λ i to j. absurd (none i to j);
  high = λ i to j. absurd (none i to j);
  back = λ i to j le. absurd (none i to j);
  paid = λ i x there pays. absurd (let q : is_paid x ≡ false = (all_at Quiet code i x quiet there).1 in cc);
} where
  none : (i to : ℕ) → JumpsTo code i to → ⊥
  none i to j = no_jump j.instr to (all_at Quiet code i j.instr quiet j.there).0 j.goes
