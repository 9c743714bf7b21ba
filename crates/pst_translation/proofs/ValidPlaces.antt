-- Pieces of code: one charge and what it pays for, loops, expressions and conditions.
use Rattle.std.proofs.Common.{◌≡◌, ◌⊎◌, inl, inr, ℕ, zero, suc, ◌+◌, ◌-◌, ◌<◌, ◌≤◌, Bool, true, false, not, List, [], ◌∷◌, ◌++◌, length, Some, None, refl, sym}
use Rattle.std.proofs.Common.{◌∙◌, subst, arith, slice_get, length-append}
use Rattle.std.specs.List.{AllByRecursion}
use Rattle.std.proofs.lemmas.Option.{slice_get_within}
use Rattle.pst_base.specs.declared.names.Kind.{Kind}
use Rattle.pst_base.specs.declared.names.Kind.TheVariants.{Int, Pointer}
use Rattle.pst_base.specs.declared.names.Op.{Op}
use Rattle.pst_base.specs.declared.names.Op.TheVariants as op
use Rattle.pst_base.specs.declared.shape.TypeShape.{TypeShape}
use Rattle.pst_program.specs.Syntax.{Expr, Number, Null, Local, Root, Parens, Load, LoadIndexed, Negate, Not, Binary}
use Rattle.pst_code.specs.declared.instr.Reg.{Reg}
use Rattle.pst_code.specs.declared.instr.Instr.{Instr}
use Rattle.pst_code.specs.declared.instr.Instr.TheVariants as code
use Rattle.pst_code.specs.Valid.{JumpsTo, IsCharge, IsQuiet, target_of, is_paid}
use Rattle.pst_translation.specs.Code.{Temp, reg, register, arithmetic, expr_code, compare_code, test_size, test_code, arguments_code, default_code}
use Rattle.pst_translation.proofs.ValidLists.{Place, Front, Back, get_front, place, all_at, all_join}
use Rattle.pst_translation.proofs.ValidPieces.{Piece, PaidAt, Quiet, joined, quiet_piece, jumps_of, jump_within}

-- ---- one charge, and then quiet instructions and a last one

quiet_at : (code : List Instr) (i : ℕ) → AllByRecursion Quiet code → i < length code → IsQuiet (slice_get code i)
quiet_at [] i q lt = absurd (omega arith)
quiet_at (x ∷ code) zero q lt = q.0
quiet_at (x ∷ code) (suc i) q lt = quiet_at code i q.1 (omega arith)

module _ (line at exit : ℕ) (front : List Instr) (last : Instr) (quiet : AllByRecursion Quiet front) (still : target_of last ≡ None) where
  abbrev straight : List Instr
  straight = code.Charge line ∷ (front ++ last ∷ [])

  size : length straight ≡ length front + 2
  size = let rest : length (front ++ last ∷ []) ≡ length front + 1 = length-append front (last ∷ []) in omega arith

  still_at : (code : List Instr) (i : ℕ) (x : Instr) → AllByRecursion (λ x. target_of x ≡ None) code → slice_get code i ≡ Some x → target_of x ≡ None
  still_at code i x all there = all_at (λ x. target_of x ≡ None) code i x all there

  stills : (code : List Instr) → AllByRecursion Quiet code → AllByRecursion (λ (x : Instr). target_of x ≡ None) code
  stills [] q = tt
  stills (x ∷ code) q = (q.0.0, stills code q.1)

  no_jumps : (i to : ℕ) → JumpsTo straight i to → ⊥
  no_jumps i to j =
      let none : target_of j.instr ≡ None = still_at straight i j.instr (refl, all_join (λ x. target_of x ≡ None) front (last ∷ []) (stills front quiet) (still, tt)) j.there in
      let some : target_of j.instr ≡ Some to = j.goes in
      cc

  between : (i : ℕ) → i ≤ length front → (j : ℕ) → 0 < j → j < suc i → IsQuiet (slice_get straight j)
  between i le zero after before = absurd (omega arith)
  between i le (suc j) after before = subst IsQuiet (sym (get_front front (last ∷ []) j (omega arith))) (quiet_at front j quiet (omega arith))

  pays_at : (i : ℕ) (x : Instr) → slice_get straight i ≡ Some x → is_paid x ≡ true → PaidAt straight at i
  pays_at zero x there pays = absurd (let same : code.Charge line ≡ x = cc in let free : is_paid x ≡ false = subst (λ (x : Instr). is_paid x ≡ false) same refl in cc)
  pays_at (suc i) x there pays =
      let lt : suc i < length straight = slice_get_within straight (suc i) x there in
      record {
        charge = 0;
        before = omega arith;
        is_charge = tt;
        quiet = between i (omega (arith, size));
        apart = λ from to j. absurd (no_jumps from to j);
      }

  pub straight_piece : at + length straight ≤ exit → Piece straight at exit
  straight_piece far = record {
    ahead = far;
    low = λ i to j. absurd (no_jumps i to j);
    high = λ i to j. absurd (no_jumps i to j);
    back = λ i to j le. absurd (no_jumps i to j);
    paid = pays_at;
  }

-- ---- a jump alone, and a charge before a piece

-- a jump forward
pub jump_piece : (x : Instr) (at to : ℕ) → target_of x ≡ Some to → is_paid x ≡ false → at + 1 ≤ to → Piece (x ∷ []) at to
jump_piece x at to goes free far = record {
  ahead = far;
  low = λ i to' j. let e = one i to' j in omega arith;
  high = λ i to' j. inr (one i to' j);
  back = λ i to' j le. absurd (let e = one i to' j in let in' = jump_within (x ∷ []) i to' j in omega arith);
  paid = λ i y there pays. absurd (none i y there pays);
} where
  one : (i to' : ℕ) → JumpsTo (x ∷ []) i to' → to' ≡ to
  one i to' j =
      let e : target_of j.instr ≡ Some to = all_at (λ (y : Instr). target_of y ≡ Some to) (x ∷ []) i j.instr (goes, tt) j.there in
      let f : target_of j.instr ≡ Some to' = j.goes in
      cc

  none : (i : ℕ) (y : Instr) → slice_get (x ∷ []) i ≡ Some y → is_paid y ≡ true → ⊥
  none i y there pays = let e : is_paid y ≡ false = all_at (λ (y : Instr). is_paid y ≡ false) (x ∷ []) i y (free, tt) there in cc

pub charged : (line : ℕ) (inner : List Instr) (at exit : ℕ) → Piece inner (at + 1) exit → Piece (code.Charge line ∷ inner) at exit
charged line inner at exit p =
    let far : at + 1 + length inner ≤ exit = p.ahead in
    joined (code.Charge line ∷ []) inner at exit exit (quiet_piece (code.Charge line ∷ []) at exit ((refl, refl), tt) (omega arith)) p (omega arith) (inr refl)

-- ---- a loop: a piece that begins with a charge, and a jump back to it

module _ (line : ℕ) (inner : List Instr) (at exit other : ℕ) (p : Piece (code.Charge line ∷ inner) at exit) (near : exit ≤ at + (length inner + 2)) (far : at + (length inner + 2) ≤ other) where
  abbrev head : List Instr
  head = code.Charge line ∷ inner

  abbrev loop : List Instr
  loop = head ++ code.Jump at ∷ []

  loop_size : length loop ≡ length inner + 2
  loop_size = let e : length (head ++ code.Jump at ∷ []) ≡ length head + 1 = length-append head (code.Jump at ∷ []) in omega arith

  goes_back : (i to : ℕ) → JumpsTo (code.Jump at ∷ []) i to → to ≡ at
  goes_back i to j =
      let e : target_of j.instr ≡ Some at = all_at (λ (y : Instr). target_of y ≡ Some at) (code.Jump at ∷ []) i j.instr (refl, tt) j.there in
      let f : target_of j.instr ≡ Some to = j.goes in
      cc

  loop_high : (to : ℕ) → (to ≤ at + length head) ⊎ (to ≡ exit) → (to ≤ at + length loop) ⊎ (to ≡ other)
  loop_high to (inl le) = inl (omega (arith, loop_size))
  loop_high to (inr e) = inl (omega (arith, loop_size))

  loop_back : (i to : ℕ) → i < length head → JumpsTo head i to → to ≤ at + i → IsCharge (slice_get loop (to - at))
  loop_back i to lt j le =
      let low : at ≤ to = p.low i to j in
      subst IsCharge (sym (get_front head (code.Jump at ∷ []) (to - at) (omega arith))) (p.back i to j le)

  home_back : (to : ℕ) → to ≡ at → IsCharge (slice_get loop (to - at))
  home_back to e = let none : to - at ≡ 0 = omega arith in subst (λ (k : ℕ). IsCharge (slice_get loop k)) (sym none) tt

  loop_paid : (i : ℕ) → i < length head → PaidAt head at i → PaidAt loop at i
  loop_paid i lt q = record {
    charge = q.charge;
    before = q.before;
    is_charge = let before : q.charge < i = q.before in subst IsCharge (sym (get_front head (code.Jump at ∷ []) q.charge (omega arith))) q.is_charge;
    quiet = λ j after before. subst IsQuiet (sym (get_front head (code.Jump at ∷ []) j (omega arith))) (q.quiet j after before);
    apart = jumps_of head (code.Jump at ∷ []) (λ k to. (to ≤ at + q.charge) ⊎ (at + i < to)) (λ k to within j. q.apart k to j) (λ k to j. let home : to ≡ at = goes_back k to j in inl (omega arith));
  }

  loop_pays : (i : ℕ) (x : Instr) → slice_get loop i ≡ Some x → is_paid x ≡ true → PaidAt loop at i
  loop_pays i x there pays = from (place head (code.Jump at ∷ []) i) where
    from : Place head (code.Jump at ∷ []) i → PaidAt loop at i
    from (Front lt e) = loop_paid i lt (p.paid i x (sym e ∙ there) pays)
    from (Back k index e) = absurd (let free : is_paid x ≡ false = all_at (λ (y : Instr). is_paid y ≡ false) (code.Jump at ∷ []) k x (refl, tt) (sym e ∙ there) in cc)

  pub loop_piece : Piece loop at other
  loop_piece = record {
    ahead = omega (arith, loop_size);
    low = jumps_of head (code.Jump at ∷ []) (λ i to. at ≤ to) (λ i to within j. p.low i to j) (λ i to j. let home = goes_back i to j in omega arith);
    high = jumps_of head (code.Jump at ∷ []) (λ i to. (to ≤ at + length loop) ⊎ (to ≡ other)) (λ i to within j. loop_high to (p.high i to j))
        (λ i to j. let home = goes_back i to j in inl (omega arith));
    back = jumps_of head (code.Jump at ∷ []) (λ i to. to ≤ at + i → IsCharge (slice_get loop (to - at))) loop_back (λ i to j le. home_back to (goes_back i to j));
    paid = loop_pays;
  }

-- ---- expressions

arithmetic_quiet : (operator : Op) (d a b : Reg) → AllByRecursion Quiet (arithmetic operator d a b)
arithmetic_quiet op.Add d a b = ((refl, refl), tt)
arithmetic_quiet op.Sub d a b = ((refl, refl), tt)
arithmetic_quiet op.Mul d a b = ((refl, refl), tt)
arithmetic_quiet op.Div d a b = ((refl, refl), tt)
arithmetic_quiet op.Rem d a b = ((refl, refl), tt)
arithmetic_quiet op.Equal d a b = tt
arithmetic_quiet op.NotEqual d a b = tt
arithmetic_quiet op.Less d a b = tt
arithmetic_quiet op.LessEqual d a b = tt
arithmetic_quiet op.Greater d a b = tt
arithmetic_quiet op.GreaterEqual d a b = tt
arithmetic_quiet op.And d a b = tt
arithmetic_quiet op.Or d a b = tt

pub default_quiet : (kind : Kind) (d : Reg) → Quiet (default_code kind d)
default_quiet Int d = (refl, refl)
default_quiet (Pointer ty) d = (refl, refl)

module _ (shape : List TypeShape) (temp : Temp) where
  pub expr_quiet : (e : Expr) (k : ℕ) → AllByRecursion Quiet (expr_code shape temp e k)
  expr_quiet (Number n) k = ((refl, refl), tt)
  expr_quiet (Null ty) k = ((refl, refl), tt)
  expr_quiet (Local x) k = tt
  expr_quiet (Root slot) k = ((refl, refl), tt)
  expr_quiet (Parens e) k = expr_quiet e k
  expr_quiet (Load e slot kind) k = all_join Quiet (expr_code shape temp e k) _ (expr_quiet e k) ((refl, refl), tt)
  expr_quiet (LoadIndexed e slot elements i kind) k =
      all_join Quiet (expr_code shape temp e k) _ (expr_quiet e k)
      ((refl, refl), all_join Quiet (expr_code shape temp i (k + 1)) _ (expr_quiet i (k + 1)) ((refl, refl), tt))
  expr_quiet (Negate e) k = all_join Quiet (expr_code shape temp e k) _ (expr_quiet e k) ((refl, refl), tt)
  expr_quiet (Not e) k = tt
  expr_quiet (Binary operator a b) k =
      all_join Quiet (expr_code shape temp a k) _ (expr_quiet a k)
      (all_join Quiet (expr_code shape temp b (k + 1)) _ (expr_quiet b (k + 1)) (arithmetic_quiet operator (temp k Int) (register shape temp a k) (register shape temp b (k + 1))))

  pub arguments_quiet : (es : List Expr) (k : ℕ) → AllByRecursion Quiet (arguments_code shape temp es k)
  arguments_quiet [] k = tt
  arguments_quiet (e ∷ es) k = all_join Quiet (expr_code shape temp e k) _ (expr_quiet e k) (arguments_quiet es (k + 1))

-- ---- conditions

pub compare_length : (operator : Op) (want : Bool) (a b : Reg) (to : ℕ) → length (compare_code operator want a b to) ≡ length (compare_code operator true (reg 0) (reg 0) 0)
compare_length op.Add true a b to = refl
compare_length op.Add false a b to = refl
compare_length op.Sub true a b to = refl
compare_length op.Sub false a b to = refl
compare_length op.Mul true a b to = refl
compare_length op.Mul false a b to = refl
compare_length op.Div true a b to = refl
compare_length op.Div false a b to = refl
compare_length op.Rem true a b to = refl
compare_length op.Rem false a b to = refl
compare_length op.Equal true a b to = refl
compare_length op.Equal false a b to = refl
compare_length op.NotEqual true a b to = refl
compare_length op.NotEqual false a b to = refl
compare_length op.Less true a b to = refl
compare_length op.Less false a b to = refl
compare_length op.LessEqual true a b to = refl
compare_length op.LessEqual false a b to = refl
compare_length op.Greater true a b to = refl
compare_length op.Greater false a b to = refl
compare_length op.GreaterEqual true a b to = refl
compare_length op.GreaterEqual false a b to = refl
compare_length op.And true a b to = refl
compare_length op.And false a b to = refl
compare_length op.Or true a b to = refl
compare_length op.Or false a b to = refl

-- a comparison jumps forward, and what is none has no code
compare_piece : (operator : Op) (want : Bool) (a b : Reg) (at to : ℕ) → at + length (compare_code operator want a b to) ≤ to → Piece (compare_code operator want a b to) at to
compare_piece op.Add true a b at to far = quiet_piece [] at to tt far
compare_piece op.Add false a b at to far = quiet_piece [] at to tt far
compare_piece op.Sub true a b at to far = quiet_piece [] at to tt far
compare_piece op.Sub false a b at to far = quiet_piece [] at to tt far
compare_piece op.Mul true a b at to far = quiet_piece [] at to tt far
compare_piece op.Mul false a b at to far = quiet_piece [] at to tt far
compare_piece op.Div true a b at to far = quiet_piece [] at to tt far
compare_piece op.Div false a b at to far = quiet_piece [] at to tt far
compare_piece op.Rem true a b at to far = quiet_piece [] at to tt far
compare_piece op.Rem false a b at to far = quiet_piece [] at to tt far
compare_piece op.Equal true a b at to far = jump_piece (code.Jumpeq a b to) at to refl refl far
compare_piece op.Equal false a b at to far = jump_piece (code.Jumpne a b to) at to refl refl far
compare_piece op.NotEqual true a b at to far = jump_piece (code.Jumpne a b to) at to refl refl far
compare_piece op.NotEqual false a b at to far = jump_piece (code.Jumpeq a b to) at to refl refl far
compare_piece op.Less true a b at to far = jump_piece (code.Jumplt a b to) at to refl refl far
compare_piece op.Less false a b at to far = jump_piece (code.Jumpge a b to) at to refl refl far
compare_piece op.LessEqual true a b at to far = jump_piece (code.Jumple a b to) at to refl refl far
compare_piece op.LessEqual false a b at to far = jump_piece (code.Jumpgt a b to) at to refl refl far
compare_piece op.Greater true a b at to far = jump_piece (code.Jumpgt a b to) at to refl refl far
compare_piece op.Greater false a b at to far = jump_piece (code.Jumple a b to) at to refl refl far
compare_piece op.GreaterEqual true a b at to far = jump_piece (code.Jumpge a b to) at to refl refl far
compare_piece op.GreaterEqual false a b at to far = jump_piece (code.Jumplt a b to) at to refl refl far
compare_piece op.And true a b at to far = quiet_piece [] at to tt far
compare_piece op.And false a b at to far = quiet_piece [] at to tt far
compare_piece op.Or true a b at to far = quiet_piece [] at to tt far
compare_piece op.Or false a b at to far = quiet_piece [] at to tt far

three : (a b c : List Instr) (n : ℕ) → length c ≡ n → length (a ++ (b ++ c)) ≡ length a + (length b + n)
three a b c n e = omega (arith, length-append a (b ++ c), length-append b c)

two : (a b : List Instr) (m n : ℕ) → length a ≡ m → length b ≡ n → length (a ++ b) ≡ m + n
two a b m n e f = omega (arith, length-append a b)

module _ (shape : List TypeShape) (temp : Temp) where
  -- how long the code of a condition is, wherever it stands
  pub test_length : (e : Expr) (want : Bool) (to at : ℕ) → length (test_code shape temp e want to at) ≡ test_size shape temp e
  test_length (Number n) want to at = refl
  test_length (Null ty) want to at = refl
  test_length (Local x) want to at = refl
  test_length (Root slot) want to at = refl
  test_length (Parens e) want to at = test_length e want to at
  test_length (Load e slot kind) want to at = refl
  test_length (LoadIndexed e slot elements i kind) want to at = refl
  test_length (Negate e) want to at = refl
  test_length (Not e) want to at = test_length e (not want) to at
  test_length (Binary op.And a b) false to at = two _ _ _ _ (test_length a _ _ _) (test_length b _ _ _)
  test_length (Binary op.And a b) true to at = two _ _ _ _ (test_length a _ _ _) (test_length b _ _ _)
  test_length (Binary op.Or a b) true to at = two _ _ _ _ (test_length a _ _ _) (test_length b _ _ _)
  test_length (Binary op.Or a b) false to at = two _ _ _ _ (test_length a _ _ _) (test_length b _ _ _)
  test_length (Binary op.Add a b) want to at = three _ _ _ _ (compare_length op.Add want (register shape temp a 0) (register shape temp b 1) to)
  test_length (Binary op.Sub a b) want to at = three _ _ _ _ (compare_length op.Sub want (register shape temp a 0) (register shape temp b 1) to)
  test_length (Binary op.Mul a b) want to at = three _ _ _ _ (compare_length op.Mul want (register shape temp a 0) (register shape temp b 1) to)
  test_length (Binary op.Div a b) want to at = three _ _ _ _ (compare_length op.Div want (register shape temp a 0) (register shape temp b 1) to)
  test_length (Binary op.Rem a b) want to at = three _ _ _ _ (compare_length op.Rem want (register shape temp a 0) (register shape temp b 1) to)
  test_length (Binary op.Equal a b) want to at = three _ _ _ _ (compare_length op.Equal want (register shape temp a 0) (register shape temp b 1) to)
  test_length (Binary op.NotEqual a b) want to at = three _ _ _ _ (compare_length op.NotEqual want (register shape temp a 0) (register shape temp b 1) to)
  test_length (Binary op.Less a b) want to at = three _ _ _ _ (compare_length op.Less want (register shape temp a 0) (register shape temp b 1) to)
  test_length (Binary op.LessEqual a b) want to at = three _ _ _ _ (compare_length op.LessEqual want (register shape temp a 0) (register shape temp b 1) to)
  test_length (Binary op.Greater a b) want to at = three _ _ _ _ (compare_length op.Greater want (register shape temp a 0) (register shape temp b 1) to)
  test_length (Binary op.GreaterEqual a b) want to at = three _ _ _ _ (compare_length op.GreaterEqual want (register shape temp a 0) (register shape temp b 1) to)

  -- two operands and a jump
  comparison : (operator : Op) (want : Bool) (a b : Expr) (to at : ℕ)
      → at + (length (expr_code shape temp a 0) + (length (expr_code shape temp b 1) + length (compare_code operator true (reg 0) (reg 0) 0))) ≤ to
      → Piece (expr_code shape temp a 0 ++ (expr_code shape temp b 1 ++ compare_code operator want (register shape temp a 0) (register shape temp b 1) to)) at to
  comparison operator want a b to at far =
      let ca : List Instr = expr_code shape temp a 0 in
      let cb : List Instr = expr_code shape temp b 1 in
      let jump : List Instr = compare_code operator want (register shape temp a 0) (register shape temp b 1) to in
      let one : length jump ≡ length (compare_code operator true (reg 0) (reg 0) 0) = compare_length operator want (register shape temp a 0) (register shape temp b 1) to in
      let all : length (cb ++ jump) ≡ length cb + length jump = length-append cb jump in
      let whole : length (ca ++ (cb ++ jump)) ≡ length ca + length (cb ++ jump) = length-append ca (cb ++ jump) in
      joined ca (cb ++ jump) at to to (quiet_piece ca at to (expr_quiet shape temp a 0) (omega arith))
      (joined cb jump (at + length ca) to to (quiet_piece cb (at + length ca) to (expr_quiet shape temp b 1) (omega arith))
      (compare_piece operator want (register shape temp a 0) (register shape temp b 1) (at + length ca + length cb) to (omega arith)) (omega arith) (inr refl))
      (omega arith) (inr refl)

  -- one condition and then another, which stands behind it; the first goes where the other goes, or just behind both
  both_tests : (e f : Expr) (want want' : Bool) (exit to at : ℕ) → at + (test_size shape temp e + test_size shape temp f) ≤ exit
      → (exit ≤ at + (test_size shape temp e + test_size shape temp f)) ⊎ (exit ≡ to)
      → Piece (test_code shape temp e want exit at) at exit → Piece (test_code shape temp f want' to (at + test_size shape temp e)) (at + test_size shape temp e) to
      → Piece (test_code shape temp e want exit at ++ test_code shape temp f want' to (at + test_size shape temp e)) at to
  both_tests e f want want' exit to at far meets pa pb =
      let ca : List Instr = test_code shape temp e want exit at in
      let cb : List Instr = test_code shape temp f want' to (at + test_size shape temp e) in
      let a : length ca ≡ test_size shape temp e = test_length e want exit at in
      let b : length cb ≡ test_size shape temp f = test_length f want' to (at + test_size shape temp e) in
      let whole : length (ca ++ cb) ≡ length ca + length cb = length-append ca cb in
      let size : at + (test_size shape temp e + test_size shape temp f) ≡ at + length (ca ++ cb) = omega arith in
      joined ca cb at exit to pa (subst (λ (n : ℕ). Piece cb (at + n) to) (sym a) pb) (omega arith) (subst (λ (n : ℕ). (exit ≤ n) ⊎ (exit ≡ to)) size meets)

  -- a condition goes on behind its code or to the index that it is given
  pub test_piece : (e : Expr) (want : Bool) (to at : ℕ) → at + test_size shape temp e ≤ to → Piece (test_code shape temp e want to at) at to
  test_piece (Number n) want to at far = quiet_piece [] at to tt far
  test_piece (Null ty) want to at far = quiet_piece [] at to tt far
  test_piece (Local x) want to at far = quiet_piece [] at to tt far
  test_piece (Root slot) want to at far = quiet_piece [] at to tt far
  test_piece (Parens e) want to at far = test_piece e want to at far
  test_piece (Load e slot kind) want to at far = quiet_piece [] at to tt far
  test_piece (LoadIndexed e slot elements i kind) want to at far = quiet_piece [] at to tt far
  test_piece (Negate e) want to at far = quiet_piece [] at to tt far
  test_piece (Not e) want to at far = test_piece e (not want) to at far
  test_piece (Binary op.And a b) false to at far =
      both_tests a b false false to to at far (inr refl) (test_piece a false to at (omega arith)) (test_piece b false to (at + test_size shape temp a) (omega arith))
  test_piece (Binary op.And a b) true to at far =
      let on : ℕ = at + (test_size shape temp a + test_size shape temp b) in
      both_tests a b false true on to at (omega arith) (inl (omega arith)) (test_piece a false on at (omega arith)) (test_piece b true to (at + test_size shape temp a) (omega arith))
  test_piece (Binary op.Or a b) true to at far =
      both_tests a b true true to to at far (inr refl) (test_piece a true to at (omega arith)) (test_piece b true to (at + test_size shape temp a) (omega arith))
  test_piece (Binary op.Or a b) false to at far =
      let on : ℕ = at + (test_size shape temp a + test_size shape temp b) in
      both_tests a b true false on to at (omega arith) (inl (omega arith)) (test_piece a true on at (omega arith)) (test_piece b false to (at + test_size shape temp a) (omega arith))
  test_piece (Binary op.Add a b) want to at far = comparison op.Add want a b to at far
  test_piece (Binary op.Sub a b) want to at far = comparison op.Sub want a b to at far
  test_piece (Binary op.Mul a b) want to at far = comparison op.Mul want a b to at far
  test_piece (Binary op.Div a b) want to at far = comparison op.Div want a b to at far
  test_piece (Binary op.Rem a b) want to at far = comparison op.Rem want a b to at far
  test_piece (Binary op.Equal a b) want to at far = comparison op.Equal want a b to at far
  test_piece (Binary op.NotEqual a b) want to at far = comparison op.NotEqual want a b to at far
  test_piece (Binary op.Less a b) want to at far = comparison op.Less want a b to at far
  test_piece (Binary op.LessEqual a b) want to at far = comparison op.LessEqual want a b to at far
  test_piece (Binary op.Greater a b) want to at far = comparison op.Greater want a b to at far
  test_piece (Binary op.GreaterEqual a b) want to at far = comparison op.GreaterEqual want a b to at far
