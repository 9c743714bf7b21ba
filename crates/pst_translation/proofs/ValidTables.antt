-- The table of temporary registers: what is needed is in it, each register has the kind that is needed, and there are few.
use Rattle.std.proofs.Common.{◌≡◌, ℕ, suc, ◌+◌, ◌*◌, ◌<◌, ◌≤◌, Bool, true, false, cond, nat_eq, ◌&&◌, ◌||◌, List, [], ◌∷◌, ◌++◌, length, map, Some, refl, sym, ap, ◌∙◌, subst, arith, slice_get}
use Rattle.std.specs.List.{AllByRecursion, IsDistinct, list_any}
use Rattle.std.proofs.lemmas.Bool.{eq-eqb, eqb-true}
use Rattle.std.proofs.lemmas.Cmp.{nat_eq_equiv}
use Rattle.std.proofs.lemmas.List.{length-map}
use Rattle.std.proofs.lemmas.Map.Keys.{IsDistinct-push}
use Rattle.std.proofs.lemmas.Map.Steps.{length-le_from_distinct_below}
use Rattle.pst_base.specs.declared.names.Kind.{Kind}
use Rattle.pst_base.specs.declared.names.Kind.TheVariants.{Int, Pointer}
use Rattle.pst_base.specs.declared.shape.TypeShape.{TypeShape}
use Rattle.pst_program.specs.Typed.{same_kind, IsKind}
use Rattle.pst_program.proofs.Arrays.{same_kind_true}
use Rattle.pst_translation.specs.declared.need.Need.{Need}
use Rattle.pst_translation.specs.Needs.{same_need, is_noted, noted_one, noted, index_in}
use Rattle.pst_translation.specs.ValidLaws.{IsLow}
use Rattle.pst_translation.proofs.ValidLists.{all_join}

-- ---- what is noted has a place below the table's length

abbrev pub Placed : List Need → Need → Type 0
Placed table n = index_in table n.level n.kind < length table

placed_cons : (b : Bool) (q l : ℕ) → (b ≡ false → q < l) → cond b 0 (suc q) < suc l
placed_cons true q l h = omega arith
placed_cons false q l h = let lt = h refl in omega arith

placed_if : (b : Bool) (q l : ℕ) → cond b 0 (suc q) < suc l → b ≡ false → q < l
placed_if true q l h e = cc
placed_if false q l h e = omega arith

place_grows : (table more : List Need) (n : Need) → Placed table n → Placed (table ++ more) n
place_grows [] more n lt = absurd (omega arith)
place_grows (m ∷ table) more n lt =
    let b : Bool = same_need m n in
    placed_cons b (index_in (table ++ more) n.level n.kind) (length (table ++ more)) (λ e. place_grows table more n (placed_if b (index_in table n.level n.kind) (length table) lt e))

noted_rest : (b rest : Bool) → cond b true rest ≡ true → b ≡ false → rest ≡ true
noted_rest true rest e f = cc
noted_rest false rest e f = e

noted_placed : (table : List Need) (n : Need) → is_noted table n ≡ true → Placed table n
noted_placed [] n e = absurd (cc)
noted_placed (m ∷ table) n e =
    let b : Bool = same_need m n in
    placed_cons b (index_in table n.level n.kind) (length table) (λ f. noted_placed table n (noted_rest b (is_noted table n) e f))

same_kind_refl : (k : Kind) → same_kind k k ≡ true
same_kind_refl Int = refl
same_kind_refl (Pointer ty) = eq-eqb ty.0 ty.0 refl

same_need_refl : (n : Need) → same_need n n ≡ true
same_need_refl n = ap (λ b. b && same_kind n.kind n.kind) (eq-eqb n.level n.level refl) ∙ same_kind_refl n.kind

last_placed : (table : List Need) (n : Need) → Placed (table ++ n ∷ []) n
last_placed [] n = subst (λ b. cond b 0 (suc n.level) < 1) (sym (same_need_refl n)) (omega arith)
last_placed (m ∷ table) n = placed_cons (same_need m n) (index_in (table ++ n ∷ []) n.level n.kind) (length (table ++ n ∷ [])) (λ e. last_placed table n)

one_placed : (b : Bool) (table : List Need) (n : Need) → (b ≡ true → Placed table n) → Placed (cond b table (table ++ n ∷ [])) n
one_placed true table n h = h refl
one_placed false table n h = last_placed table n

other_placed : (b : Bool) (table : List Need) (n m : Need) → Placed table m → Placed (cond b table (table ++ n ∷ [])) m
other_placed true table n m h = h
other_placed false table n m h = place_grows table (n ∷ []) m h

noted_keeps : (needs table : List Need) (m : Need) → Placed table m → Placed (noted table needs) m
noted_keeps [] table m h = h
noted_keeps (n ∷ needs) table m h = noted_keeps needs (noted_one table n) m (other_placed (is_noted table n) table n m h)

-- each need has a place in the table that notes it
pub noted_covers : (needs table : List Need) → AllByRecursion (Placed (noted table needs)) needs
noted_covers [] table = tt
noted_covers (n ∷ needs) table = (noted_keeps needs (noted_one table n) n (one_placed (is_noted table n) table n (noted_placed table n)), noted_covers needs (noted_one table n))

-- ---- the kind at a place

both_true : (a b : Bool) → (a && b) ≡ true → b ≡ true
both_true true b e = e
both_true false b e = absurd (cc)

abbrev kinds_of : List Need → List Kind
kinds_of table = map (λ n. n.kind) table

kind_cons : (b : Bool) (m : Need) (table : List Need) (n : Need) → (b ≡ true → m.kind ≡ n.kind) → (b ≡ false → slice_get (kinds_of table) (index_in table n.level n.kind) ≡ Some n.kind)
    → slice_get (kinds_of (m ∷ table)) (cond b 0 (suc (index_in table n.level n.kind))) ≡ Some n.kind
kind_cons true m table n f g = ap Some (f refl)
kind_cons false m table n f g = g refl

-- the kind that is needed stands where it is looked for
pub kind_at : (table : List Need) (n : Need) → Placed table n → slice_get (kinds_of table) (index_in table n.level n.kind) ≡ Some n.kind
kind_at [] n lt = absurd (omega arith)
kind_at (m ∷ table) n lt =
    kind_cons (same_need m n) m table n
    (λ e. same_kind_true m.kind n.kind (both_true (nat_eq m.level n.level) (same_kind m.kind n.kind) e))
    (λ e. kind_at table n (placed_if (same_need m n) (index_in table n.level n.kind) (length table) lt e))

-- ---- how many there are: needs of one table have different numbers, all below 73 * 65

abbrev number : Kind → ℕ
number Int = 0
number (Pointer ty) = ty.0

abbrev code : Need → ℕ
code n = n.level * 65 + number n.kind

-- a need that an expression of a well-typed program can have
abbrev pub IsFair : List TypeShape → Need → Type 0
IsFair shape n = IsLow n × IsKind shape n.kind

number_low : (shape : List TypeShape) (kind : Kind) → length shape ≤ 65 → IsKind shape kind → number kind < 65
number_low shape Int few is = omega arith
number_low shape (Pointer ty) few is = let below = is.1 in omega arith

same_number : (shape : List TypeShape) (a b : Kind) → IsKind shape a → IsKind shape b → number a ≡ number b → same_kind a b ≡ true
same_number shape Int Int f g e = refl
same_number shape Int (Pointer b) f g e = absurd (let above = g.0 in omega arith)
same_number shape (Pointer a) Int f g e = absurd (let above = f.0 in omega arith)
same_number shape (Pointer a) (Pointer b) f g e = eq-eqb a.0 b.0 e

module _ (shape : List TypeShape) (few : length shape ≤ 65) where
  abbrev Fair : Need → Type 0
  Fair n = IsFair shape n

  code_low : (n : Need) → Fair n → code n < 4745
  code_low n f =
      let number_is : number n.kind < 65 = number_low shape n.kind few f.1 in
      let level_is : n.level ≤ 72 = f.0 in
      omega arith

  same_code : (m n : Need) → Fair m → Fair n → code m ≡ code n → same_need m n ≡ true
  same_code m n f g e =
      let a : number m.kind < 65 = number_low shape m.kind few f.1 in
      let b : number n.kind < 65 = number_low shape n.kind few g.1 in
      let numbers : number m.kind ≡ number n.kind = omega arith in
      let levels : m.level ≡ n.level = omega arith in
      ap (λ b. b && same_kind m.kind n.kind) (eq-eqb m.level n.level levels) ∙ same_number shape m.kind n.kind f.1 g.1 numbers

  code_apart : (m n : Need) → Fair m → Fair n → same_need m n ≡ false → nat_eq (code n) (code m) ≡ false
  code_apart m n f g e = elim (nat_eq (code n) (code m)) as (λ b. nat_eq (code n) (code m) ≡ b → b ≡ false) [
    | true ↦ λ is. absurd (let same : same_need m n ≡ true = same_code m n f g (sym (eqb-true (code n) (code m) is)) in cc)
    | false ↦ λ is. refl
  ] refl

  not_noted : (b rest : Bool) → cond b true rest ≡ false → (b ≡ false) × (rest ≡ false)
  not_noted true rest e = absurd (cc)
  not_noted false rest e = (refl, e)

  neither : (a b : Bool) → a ≡ false → b ≡ false → (a || b) ≡ false
  neither true b e f = absurd (cc)
  neither false b e f = f

  new_code : (table : List Need) (n : Need) → AllByRecursion Fair table → Fair n → is_noted table n ≡ false → list_any (nat_eq (code n)) (map code table) ≡ false
  new_code [] n fs f e = refl
  new_code (m ∷ table) n fs f e =
      let apart = not_noted (same_need m n) (is_noted table n) e in
      neither (nat_eq (code n) (code m)) (list_any (nat_eq (code n)) (map code table)) (code_apart m n fs.0 f apart.0) (new_code table n fs.1 f apart.1)

  map_last : (table : List Need) (n : Need) → map code (table ++ n ∷ []) ≡ map code table ++ code n ∷ []
  map_last [] n = refl
  map_last (m ∷ table) n = ap (λ (xs : List ℕ). code m ∷ xs) (map_last table n)

  -- a table of fair needs with different codes
  record Good (table : List Need) : Type 0 where
    fair : AllByRecursion Fair table
    distinct : IsDistinct nat_eq (map code table)

  good_one : (b : Bool) (table : List Need) (n : Need) → is_noted table n ≡ b → Good table → Fair n → Good (cond b table (table ++ n ∷ []))
  good_one true table n is g f = g
  good_one false table n is g f = record {
    fair = all_join Fair table (n ∷ []) g.fair (f, tt);
    distinct = subst (IsDistinct nat_eq) (sym (map_last table n)) (IsDistinct-push nat_eq_equiv (map code table) (code n) g.distinct (new_code table n g.fair f is));
  }

  good_noted : (needs table : List Need) → Good table → AllByRecursion Fair needs → Good (noted table needs)
  good_noted [] table g fs = g
  good_noted (n ∷ needs) table g fs = good_noted needs (noted_one table n) (good_one (is_noted table n) table n refl g fs.0) fs.1

  one_of : (a b : Bool) (P : Type 0) → (a ≡ true → P) → (b ≡ true → P) → (a || b) ≡ true → P
  one_of true b P f g e = f refl
  one_of false b P f g e = g e

  codes_low : (table : List Need) → AllByRecursion Fair table → (q : ℕ) → list_any (nat_eq q) (map code table) ≡ true → q < 4745
  codes_low [] fs q e = absurd (cc)
  codes_low (m ∷ table) fs q e =
      one_of (nat_eq q (code m)) (list_any (nat_eq q) (map code table)) (q < 4745)
      (λ is. let same : q ≡ code m = eqb-true q (code m) is in let low : code m < 4745 = code_low m fs.0 in omega arith) (codes_low table fs.1 q) e

  few_of : (table : List Need) → Good table → length table ≤ 4745
  few_of table g =
      let size : length (map code table) ≡ length table = length-map table code in
      let most : length (map code table) ≤ 4745 = length-le_from_distinct_below (map code table) 4745 g.distinct (codes_low table g.fair) in
      omega arith

  no_needs : Good []
  unfolding IsDistinct
  no_needs = record { fair = tt; distinct = tt }

  -- fair needs make a table of 73 levels and 65 kinds at most
  pub few_noted : (needs : List Need) → AllByRecursion Fair needs → length (noted [] needs) ≤ 4745
  few_noted needs fs = few_of (noted [] needs) (good_noted needs [] no_needs fs)

  pub noted_fair : (needs : List Need) → AllByRecursion Fair needs → AllByRecursion Fair (noted [] needs)
  noted_fair needs fs = (good_noted needs [] no_needs fs).fair
