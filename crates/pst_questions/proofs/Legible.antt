-- The text of lines tells the lines: a word ends at a space or at the line's end, and a name at the colon.
use Rattle.std.proofs.Common.{◌≡◌, ◌≢◌, ℕ, ◌^◌, ◌<◌, ◌≤◌, suc, ℤ, List, [], ◌∷◌, ◌++◌, length, get_or, Option, Some, None, refl, sym, ap, ◌∙◌, subst, arith, append_assoc, codes}
use Rattle.std.specs.Prelude.{pos, negsuc, IsTrue}
use Rattle.std.specs.List.{flat_map, AllByRecursion}
use Rattle.std.specs.Char.{digit_value}
use Rattle.std.specs.Str.Parse.{AllDigits}
use Rattle.std.specs.Fmt.{decimal, signed_decimal}
use Rattle.std.proofs.lemmas.List.{append_cancel_left, length-append}
use Rattle.std.proofs.lemmas.List.Elements.{recursion_from_All}
use Rattle.std.proofs.lemmas.Fmt.{decimal_is_IsNumeral, decimal_injective, signed_decimal_injective}
use borrow.Author.Tests.{ltb-true}
use lib.Signed.{mag}
use Rattle.pst_base.specs.declared.shape.TypeShape.{TypeShape}
use Rattle.pst_base.specs.Shape.{type_at}
use Rattle.pst_program.specs.declared.program.TypeEntry.{TypeEntry}
use Rattle.pst_program.specs.Names.{type_named}
use Rattle.pst_program.specs.Value.{fits_i64}
use Rattle.pst_questions.specs.Dump.{Line, value_word, target_word, line_text, lines_text}
use Rattle.pst_questions.specs.Renaming.{colon, AreNamedApart}

-- ---- where a word ends

-- the list is empty, or its first item is not one of these
abbrev pub Stops : (ℕ → Type 0) → List ℕ → Type 0
Stops D [] = Unit {0}
Stops D (x ∷ xs) = ¬ (D x)

-- two fronts of such items, each as long as can be, are equal where the lists are
split : (D : ℕ → Type 0) (ds es xs ys : List ℕ) → AllByRecursion D ds → AllByRecursion D es → Stops D xs → Stops D ys → ds ++ xs ≡ es ++ ys → (ds ≡ es) × (xs ≡ ys)
split D [] [] xs ys a b s t e = (refl, e)
split D [] (d ∷ es) xs ys a b s t e = absurd ((subst (Stops D) e s) b.0)
split D (d ∷ ds) [] xs ys a b s t e = absurd ((subst (Stops D) (sym e) t) a.0)
split D (d ∷ ds) (c ∷ es) xs ys a b s t e =
    let first : d ≡ c = cc in
    let rest : ds ++ xs ≡ es ++ ys = cc in
    let more = split D ds es xs ys a.1 b.1 s t rest in
    ((λ i. first i ∷ more.0 i), more.1)

-- no space and no line feed
abbrev pub IsPlain : ℕ → Type 0
IsPlain c = (c ≢ 32) × (c ≢ 10)

abbrev pub IsWord : List ℕ → Type 0
IsWord word = AllByRecursion IsPlain word

digit_plain : (c : ℕ) → digit_value c < 10 → IsPlain c
digit_plain c d = (
  λ e. (let low : digit_value 32 < 10 = subst (λ (c : ℕ). digit_value c < 10) e d in omega arith),
  λ e. (let low : digit_value 10 < 10 = subst (λ (c : ℕ). digit_value c < 10) e d in omega arith),
)

digits_word : (ds : List ℕ) → AllDigits 10 ds → IsWord ds
digits_word [] all = tt
digits_word (d ∷ ds) all = (digit_plain d all.0, digits_word ds all.1)

decimal_word : (n : ℕ) → n < 2 ^ 64 → IsWord (decimal n)
decimal_word n l = digits_word (decimal n) (decimal_is_IsNumeral n l).0.1

-- ---- words one after another, each behind a space

module _ {A : Type 0} (word text : A → List ℕ) (is : (a : A) → word a ≡ 32 ∷ text a) (Fits : A → Type 0) (plain : (a : A) → Fits a → IsWord (text a))
    (tells : (a b : A) → Fits a → Fits b → text a ≡ text b → a ≡ b) where
  stops : (us : List A) (xs : List ℕ) → Stops IsPlain xs → Stops IsPlain (flat_map word us ++ xs)
  stops [] xs s = s
  stops (a ∷ us) xs s = subst (λ (w : List ℕ). Stops IsPlain ((w ++ flat_map word us) ++ xs)) (sym (is a)) (λ p. p.0 refl)

  words_split : (us vs : List A) (xs ys : List ℕ) → length us ≡ length vs → AllByRecursion Fits us → AllByRecursion Fits vs → Stops IsPlain xs
      → Stops IsPlain ys → flat_map word us ++ xs ≡ flat_map word vs ++ ys → (us ≡ vs) × (xs ≡ ys)
  words_split [] [] xs ys l f g s t e = (refl, e)
  words_split [] (b ∷ vs) xs ys l f g s t e = absurd (omega arith)
  words_split (a ∷ us) [] xs ys l f g s t e = absurd (omega arith)
  words_split (a ∷ us) (b ∷ vs) xs ys l f g s t e =
      let left : 32 ∷ (text a ++ (flat_map word us ++ xs)) ≡ flat_map word (a ∷ us) ++ xs = sym (ap (λ w. (w ++ flat_map word us) ++ xs) (is a) ∙ append_assoc (32 ∷ text a) (flat_map word us) xs) in
      let right : flat_map word (b ∷ vs) ++ ys ≡ 32 ∷ (text b ++ (flat_map word vs ++ ys)) = ap (λ w. (w ++ flat_map word vs) ++ ys) (is b) ∙ append_assoc (32 ∷ text b) (flat_map word vs) ys in
      let whole = left ∙ e ∙ right in
      let behind : text a ++ (flat_map word us ++ xs) ≡ text b ++ (flat_map word vs ++ ys) = cc in
      let one = split IsPlain (text a) (text b) (flat_map word us ++ xs) (flat_map word vs ++ ys) (plain a f.0) (plain b g.0) (stops us xs s) (stops vs ys t) behind in
      let first = tells a b f.0 g.0 one.0 in
      let rest = words_split us vs xs ys (omega arith) f.1 g.1 s t one.1 in
      ((λ i. first i ∷ rest.0 i), rest.1)

-- ---- numbers and targets as words

mag_small : (v : ℤ) → IsTrue (fits_i64 v) → mag v < 2 ^ 63
mag_small (pos n) f = ltb-true n (2 ^ 63) f
mag_small (negsuc n) f = ltb-true n (2 ^ 63) f

value_plain : (v : ℤ) → IsTrue (fits_i64 v) → IsWord (signed_decimal v)
value_plain (pos n) f = decimal_word n (let small = ltb-true n (2 ^ 63) f in omega arith)
value_plain (negsuc n) f = ((λ e. omega arith, λ e. omega arith), decimal_word (suc n) (let small = ltb-true n (2 ^ 63) f in omega arith))

abbrev target_text : Option ℕ → List ℕ
target_text None = codes "null"
target_text (Some n) = codes "@" ++ decimal n

target_is : (o : Option ℕ) → target_word o ≡ 32 ∷ target_text o
target_is None = refl
target_is (Some n) = refl

-- a number that is printed whole
abbrev pub IsSmall : Option ℕ → Type 0
IsSmall None = Unit {0}
IsSmall (Some n) = n < 2 ^ 64

target_plain : (o : Option ℕ) → IsSmall o → IsWord (target_text o)
target_plain None f = ((λ e. omega arith, λ e. omega arith), ((λ e. omega arith, λ e. omega arith), ((λ e. omega arith, λ e. omega arith), ((λ e. omega arith, λ e. omega arith), tt))))
target_plain (Some n) f = ((λ e. omega arith, λ e. omega arith), decimal_word n f)

target_tells : (a b : Option ℕ) → IsSmall a → IsSmall b → target_text a ≡ target_text b → a ≡ b
target_tells None None f g e = refl
target_tells None (Some n) f g e = absurd (let first = ap (λ (l : List ℕ). get_or l 0 0) e in omega (arith, first))
target_tells (Some n) None f g e = absurd (let first = ap (λ (l : List ℕ). get_or l 0 0) e in omega (arith, first))
target_tells (Some m) (Some n) f g e = ap Some (decimal_injective m n f g (let rest : decimal m ≡ decimal n = cc in rest))

-- ---- lines

-- what a line tells of a record of a well-formed heap, as far as the text needs it
pub record IsLegible (shape : List TypeShape) (line : Line) : Type 0 where
  pub known : line.ty.0 < length shape
  pub values : length line.values ≡ (type_at shape line.ty).values
  pub targets : length line.targets ≡ length (type_at shape line.ty).targets
  pub numbers : AllByRecursion (λ v. IsTrue (fits_i64 v)) line.values
  pub small : AllByRecursion IsSmall line.targets

unrolled : (d n v t r : List ℕ) → (d ++ codes " " ++ n ++ codes ":" ++ v ++ t ++ codes "\n") ++ r ≡ d ++ (32 ∷ (n ++ (colon ∷ (v ++ (t ++ (10 ∷ r))))))
unrolled d n v t r = simp append_assoc

module _ (shape : List TypeShape) (types : List TypeEntry) (named : AreNamedApart shape types) where
  line_split : (number : ℕ) (l m : Line) (r s : List ℕ) → IsLegible shape l → IsLegible shape m → line_text types number l ++ r ≡ line_text types number m ++ s → (l ≡ m) × (r ≡ s)
  line_split number l m r s a b e =
      let vl = flat_map value_word l.values in
      let vm = flat_map value_word m.values in
      let tl = flat_map target_word l.targets in
      let tm = flat_map target_word m.targets in
      let whole = sym (unrolled (decimal number) (type_named types l.ty) vl tl r) ∙ e ∙ unrolled (decimal number) (type_named types m.ty) vm tm s in
      let behind = append_cancel_left (decimal number) (32 ∷ (type_named types l.ty ++ (colon ∷ (vl ++ (tl ++ (10 ∷ r))))))
      (32 ∷ (type_named types m.ty ++ (colon ∷ (vm ++ (tm ++ (10 ∷ s)))))) whole in
      let named_on : type_named types l.ty ++ (colon ∷ (vl ++ (tl ++ (10 ∷ r)))) ≡ type_named types m.ty ++ (colon ∷ (vm ++ (tm ++ (10 ∷ s)))) = cc in
      let one = split (λ c. c ≢ colon) (type_named types l.ty) (type_named types m.ty) (colon ∷ (vl ++ (tl ++ (10 ∷ r)))) (colon ∷ (vm ++ (tm ++ (10 ∷ s))))
      (recursion_from_All (λ c. c ≢ colon) (type_named types l.ty) (named.plain l.ty a.known))
      (recursion_from_All (λ c. c ≢ colon) (type_named types m.ty) (named.plain m.ty b.known)) (λ no. no refl) (λ no. no refl) named_on in
      let ty = named.differ l.ty m.ty a.known b.known one.0 in
      let contents : vl ++ (tl ++ (10 ∷ r)) ≡ vm ++ (tm ++ (10 ∷ s)) = (let rest = one.1 in cc) in
      let end_l : Stops IsPlain (10 ∷ r) = λ p. p.1 refl in
      let end_m : Stops IsPlain (10 ∷ s) = λ p. p.1 refl in
      let two = words_split value_word signed_decimal (λ v. refl) (λ v. IsTrue (fits_i64 v)) value_plain
      (λ v w f g. signed_decimal_injective v w (mag_small v f) (mag_small w g)) l.values m.values (tl ++ (10 ∷ r)) (tm ++ (10 ∷ s))
      (a.values ∙ ap (λ ty. (type_at shape ty).values) ty ∙ sym b.values) a.numbers b.numbers
      (stops target_word target_text target_is IsSmall target_plain target_tells l.targets (10 ∷ r) end_l)
      (stops target_word target_text target_is IsSmall target_plain target_tells m.targets (10 ∷ s) end_m) contents in
      let three = words_split target_word target_text target_is IsSmall target_plain target_tells l.targets m.targets (10 ∷ r) (10 ∷ s)
      (a.targets ∙ ap (λ ty. length (type_at shape ty).targets) ty ∙ sym b.targets) a.small b.small end_l end_m two.1 in
      ((λ i. record { ty = ty i; values = two.0 i; targets = three.0 i }), (let rest = three.1 in let tail : r ≡ s = cc in tail))

  not_nil : (xs : List ℕ) (y : ℕ) (ys : List ℕ) → ¬ (xs ++ (y ∷ ys) ≡ [])
  not_nil [] y ys e = absurd (cc)
  not_nil (x ∷ xs) y ys e = absurd (cc)

  some_text : (number : ℕ) (l : Line) (r : List ℕ) → ¬ (line_text types number l ++ r ≡ [])
  some_text number l r e = not_nil (decimal number) 32 _ (sym (unrolled (decimal number) (type_named types l.ty) (flat_map value_word l.values) (flat_map target_word l.targets) r) ∙ e)

  -- equal texts are of equal lines
  pub lines_told : (number : ℕ) (ls ms : List Line) → AllByRecursion (IsLegible shape) ls → AllByRecursion (IsLegible shape) ms → lines_text types number ls ≡ lines_text types number ms → ls ≡ ms
  lines_told number [] [] a b e = refl
  lines_told number [] (m ∷ ms) a b e = absurd (some_text number m (lines_text types (suc number) ms) (sym e))
  lines_told number (l ∷ ls) [] a b e = absurd (some_text number l (lines_text types (suc number) ls) e)
  lines_told number (l ∷ ls) (m ∷ ms) a b e =
      let one = line_split number l m (lines_text types (suc number) ls) (lines_text types (suc number) ms) a.0 b.0 e in
      let rest = lines_told (suc number) ls ms a.1 b.1 one.1 in
      λ i. one.0 i ∷ rest i

-- there are no more lines than bytes
pub length-lines_text : (types : List TypeEntry) (number : ℕ) (ls : List Line) → length ls ≤ length (lines_text types number ls)
length-lines_text types number [] = omega arith
length-lines_text types number (l ∷ ls) =
    let rest = length-lines_text types (suc number) ls in
    let more = lines_text types (suc number) ls in
    let whole = ap length (unrolled (decimal number) (type_named types l.ty) (flat_map value_word l.values) (flat_map target_word l.targets) more) in
    let end = length-append (line_text types number l) more in
    let start = length-append (decimal number ++ codes " " ++ type_named types l.ty ++ codes ":" ++ flat_map value_word l.values ++ flat_map target_word l.targets) (codes "\n") in
    omega arith
