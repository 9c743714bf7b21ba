-- A way to write and a way to read that fit each other: what is read stood there as it is written, and what is written is read again.
use Rattle.std.proofs.Common.{◌≡◌, ℕ, zero, suc, ◌+◌, ◌^◌, ◌<◌, ◌≤◌, Bool, true, false, cond, ltb, List, [], ◌∷◌, ◌++◌, length, get_or, take, drop, Option}
use Rattle.std.proofs.Common.{Some, None, refl, sym, ap, subst, ◌∙◌, append_assoc, arith, inl, inr}
use Rattle.std.specs.Int.{w64, from_be_bytes}
use Rattle.std.specs.List.{flat_map, AllByRecursion}
use Rattle.std.proofs.lemmas.Bool.{cases_lt, ltb-false, ltb-true, le-ltb, lt-ltb}
use Rattle.std.proofs.lemmas.List.{take_at, drop_at, take-append-drop, length-append, length-take, get_or-drop, get_or-take, get_or_past}
use Rattle.std.proofs.lemmas.List.Concat.{flat_map-cons}
use Rattle.std.proofs.lemmas.Nat.{be_bytes_8, from_be_bytes-to_be_bytes_8}
use Rattle.pst_image_form.specs.Bytes.{number, counted, text_bytes}
use Rattle.pst_image_form.specs.Reading.{Read, ◌>>=◌, read_number, below, both, times, read_counted, made, read_text}

abbrev pub IsBytes : List ℕ → Type 0
IsBytes bytes = (i : ℕ) → get_or bytes i 0 < 256

pub IsBytes-drop : (n : ℕ) (bytes : List ℕ) → IsBytes bytes → IsBytes (drop n bytes)
IsBytes-drop n bytes h i = rw get_or-drop (h (n + i))

pub IsBytes-take : (n : ℕ) (bytes : List ℕ) → IsBytes bytes → IsBytes (take n bytes)
IsBytes-take n bytes h i =
    elim (cases_lt i n) [
      | inl lt ↦ rw (get_or-take n bytes i 0 lt) (h i)
      | inr le ↦ rw (get_or_past (take n bytes) i 0 (omega (arith, length-take n bytes))) (omega arith)
    ]

-- the value of a step that did not fail
pub bind_some : {A B : Type 0} (r : Option A) (f : A → Option B) (y : B) → (r >>= f) ≡ Some y → (x : A) × (r ≡ Some x) × (f x ≡ Some y)
bind_some (Some x) f y e = (x, refl, e)
bind_some None f y e = absurd cc

-- a test that did not fail
pub guard_some : {A : Type 0} (b : Bool) (x y : A) → cond b None (Some x) ≡ Some y → (b ≡ false) × (x ≡ y)
guard_some true x y e = absurd cc
guard_some false x y e = (refl, cc)

-- a test that held
pub test_some : {A : Type 0} (b : Bool) (x : Option A) (y : A) → cond b x None ≡ Some y → (b ≡ true) × (x ≡ Some y)
test_some true x y e = (refl, e)
test_some false x y e = absurd cc

abbrev done : {A : Type 0} → A → Option A
done x = Some x

pub some_is : {A : Type 0} (x y : A) → done x ≡ done y → x ≡ y
some_is x y e = cc

-- what a reader took from the front
pub record Takes (bytes text rest : List ℕ) : Type 0 where
  pub parts : bytes ≡ text ++ rest
  pub rest_fits : IsBytes rest

pub Takes-then : (a x b y c : List ℕ) → Takes a x b → Takes b y c → Takes a (x ++ y) c
Takes-then a x b y c p q = record { parts = p.parts ∙ ap (λ (t : List ℕ). x ++ t) q.parts ∙ sym (append_assoc x y c); rest_fits = q.rest_fits }

pub record IsCode {A : Type 0} (a : Read A) (bytes : A → List ℕ) (fits : A → Type 0) : Type 0 where
  pub takes : (s : List ℕ) (x : A) (rest : List ℕ) → IsBytes s → a s ≡ Some (x, rest) → Takes s (bytes x) rest × fits x
  pub again : (x : A) (rest : List ℕ) → fits x → a (bytes x ++ rest) ≡ Some (x, rest)

-- ---- numbers

number_length : (n : ℕ) → length (number n) ≡ 8
unfolding number
number_length n = refl

number_back : (bytes : List ℕ) → length bytes ≡ 8 → IsBytes bytes → number (from_be_bytes w64 bytes) ≡ bytes
unfolding number
number_back bytes len fits = be_bytes_8 bytes _ len fits refl

number_same : (n : ℕ) → n < 2 ^ 64 → from_be_bytes w64 (number n) ≡ n
unfolding number
number_same n lt = from_be_bytes-to_be_bytes_8 n lt

number_below : (bytes : List ℕ) → IsBytes bytes → from_be_bytes w64 bytes < 2 ^ 64
number_below bytes fits = omega (arith, fits 0, fits 1, fits 2, fits 3, fits 4, fits 5, fits 6, fits 7)

number_takes : (s : List ℕ) (n : ℕ) (rest : List ℕ) → IsBytes s → read_number s ≡ Some (n, rest) → Takes s (number n) rest × (n < 2 ^ 64)
number_takes s n rest fits e =
    let g = guard_some (ltb (length s) 8) (from_be_bytes w64 (take 8 s), drop 8 s) (n, rest) e in
    let long : 8 ≤ length s = ltb-false _ _ g.0 in
    let n-is : from_be_bytes w64 (take 8 s) ≡ n = ap (λ (p : ℕ × List ℕ). p.0) g.1 in
    let rest-is : drop 8 s ≡ rest = ap (λ (p : ℕ × List ℕ). p.1) g.1 in
    let front : number n ≡ take 8 s = ap number (sym n-is) ∙ number_back (take 8 s) (omega (arith, length-take 8 s)) (IsBytes-take 8 s fits) in (
      record {
        parts = sym (take-append-drop 8 s) ∙ ap (λ (x : List ℕ). x ++ drop 8 s) (sym front)
            ∙ ap (λ (x : List ℕ). number n ++ x) rest-is;
        rest_fits = subst IsBytes rest-is (IsBytes-drop 8 s fits);
      },
      subst (λ (k : ℕ). k < 2 ^ 64) n-is (number_below (take 8 s) (IsBytes-take 8 s fits)),
    )

number_again : (n : ℕ) (rest : List ℕ) → n < 2 ^ 64 → read_number (number n ++ rest) ≡ Some (n, rest)
number_again n rest lt =
    let len = number_length n in
    let long : ltb (length (number n ++ rest)) 8 ≡ false = le-ltb _ _ (omega (arith, length-append (number n) rest)) in
    rw (long, take_at (number n) rest 8 len, drop_at (number n) rest 8 len, number_same n lt) refl

pub number_code : IsCode read_number number (λ n. n < 2 ^ 64)
number_code = record { takes = number_takes; again = number_again }

-- a number of a type
pub below_code : (limit : ℕ) → limit ≤ 2 ^ 64 → IsCode (below limit) number (λ n. n < limit)
below_code limit le = record {
  takes = λ s n rest fits e.
      let a = bind_some (read_number s) (λ p. cond (ltb p.0 limit) (Some p) None) (n, rest) e in
      let t = test_some (ltb a.0.0 limit) (Some a.0) (n, rest) a.2 in
      let same : a.0 ≡ (n, rest) = some_is a.0 (n, rest) t.1 in
      let lt : a.0.0 < limit = ltb-true _ _ t.0 in
      subst (λ (p : ℕ × List ℕ). Takes s (number p.0) p.1 × (p.0 < limit)) same ((number_takes s a.0.0 a.0.1 fits a.1).0, lt);
  again = λ n rest lt.
      let small : n < 2 ^ 64 = omega arith in
      let test : ltb n limit ≡ true = lt-ltb _ _ lt in
      ap (λ (o : Option (ℕ × List ℕ)). o >>= λ p. cond (ltb p.0 limit) (Some p) None) (number_again n rest small) ∙ ap (λ (b : Bool). cond b (Some (n, rest)) None) test;
}

-- ---- one and then another

pub both_code : {A B : Type 0} (a : Read A) (b : Read B) (f : A → List ℕ) (g : B → List ℕ) (p : A → Type 0) (q : B → Type 0) → IsCode a f p → IsCode b g q
    → IsCode (both a b) (λ (x : A × B). f x.0 ++ g x.1) (λ (x : A × B). p x.0 × q x.1)
both_code {A} {B} a b f g p q ca cb = record {
  takes = λ s z rest fits e.
      let one = bind_some (a s) (λ x. b x.1 >>= λ y. Some ((x.0, y.0), y.1)) (z, rest) e in
      let two = bind_some (b one.0.1) (λ y. Some ((one.0.0, y.0), y.1)) (z, rest) one.2 in
      let same = some_is ((one.0.0, two.0.0), two.0.1) (z, rest) two.2 in
      let first = ca.takes s one.0.0 one.0.1 fits one.1 in
      let second = cb.takes one.0.1 two.0.0 two.0.1 first.0.rest_fits two.1 in
      subst (λ (r : (A × B) × List ℕ). Takes s (f r.0.0 ++ g r.0.1) r.1 × (p r.0.0 × q r.0.1)) same (Takes-then s (f one.0.0) one.0.1 (g two.0.0) two.0.1 first.0 second.0, (first.1, second.1));
  again = λ z rest h.
      let regrouped : (f z.0 ++ g z.1) ++ rest ≡ f z.0 ++ (g z.1 ++ rest) = append_assoc (f z.0) (g z.1) rest in
      ap (both a b) regrouped ∙ (ap (λ (o : Option (A × List ℕ)). o >>= λ x. b x.1 >>= λ y. Some ((x.0, y.0), y.1)) (ca.again z.0 (g z.1 ++ rest) h.0)
      ∙ ap (λ (o : Option (B × List ℕ)). o >>= λ y. Some ((z.0, y.0), y.1)) (cb.again z.1 rest h.1));
}

-- ---- so many, one behind the other

times_takes : {A : Type 0} (a : Read A) (f : A → List ℕ) (p : A → Type 0) → IsCode a f p → (n : ℕ) (s : List ℕ) (xs : List A) (rest : List ℕ) → IsBytes s → times a n s ≡ Some (xs, rest)
    → Takes s (flat_map f xs) rest × ((length xs ≡ n) × AllByRecursion p xs)
times_takes {A} a f p ca zero s xs rest fits e =
    subst (λ (r : List A × List ℕ). Takes s (flat_map f r.0) r.1 × ((length r.0 ≡ 0) × AllByRecursion p r.0)) (some_is ([], s) (xs, rest) e) (record { parts = refl; rest_fits = fits }, (refl, tt))
times_takes {A} a f p ca (suc n) s xs rest fits e =
    let one = bind_some (a s) (λ x. times a n x.1 >>= λ ys. Some (x.0 ∷ ys.0, ys.1)) (xs, rest) e in
    let two = bind_some (times a n one.0.1) (λ ys. Some (one.0.0 ∷ ys.0, ys.1)) (xs, rest) one.2 in
    let same = some_is (one.0.0 ∷ two.0.0, two.0.1) (xs, rest) two.2 in
    let first = ca.takes s one.0.0 one.0.1 fits one.1 in
    let second = times_takes a f p ca n one.0.1 two.0.0 two.0.1 first.0.rest_fits two.1 in
    let joined = Takes-then s (f one.0.0) one.0.1 (flat_map f two.0.0) two.0.1 first.0 second.0 in
    subst (λ (r : List A × List ℕ). Takes s (flat_map f r.0) r.1 × ((length r.0 ≡ suc n) × AllByRecursion p r.0)) same (rw flat_map-cons joined, (ap suc second.1.0, (first.1, second.1.1)))

times_again : {A : Type 0} (a : Read A) (f : A → List ℕ) (p : A → Type 0) → IsCode a f p → (xs : List A) (rest : List ℕ) → AllByRecursion p xs
    → times a (length xs) (flat_map f xs ++ rest) ≡ Some (xs, rest)
times_again a f p ca [] rest h = refl
times_again {A} a f p ca (x ∷ xs) rest h =
    let regrouped : flat_map f (x ∷ xs) ++ rest ≡ f x ++ (flat_map f xs ++ rest) = ap (λ (y : List ℕ). y ++ rest) (flat_map-cons f x xs) ∙ append_assoc (f x) (flat_map f xs) rest in
    ap (times a (suc (length xs))) regrouped ∙ (ap (λ (o : Option (A × List ℕ)). o >>= λ y. times a (length xs) y.1 >>= λ ys. Some (y.0 ∷ ys.0, ys.1)) (ca.again x (flat_map f xs ++ rest) h.0)
    ∙ ap (λ (o : Option (List A × List ℕ)). o >>= λ ys. Some (x ∷ ys.0, ys.1)) (times_again a f p ca xs rest h.1))

-- how many, and then each of them
pub counted_code : {A : Type 0} (limit : ℕ) (a : Read A) (f : A → List ℕ) (p : A → Type 0) → limit ≤ 2 ^ 64 → IsCode a f p
    → IsCode (read_counted limit a) (counted f) (λ xs. (length xs < limit) × AllByRecursion p xs)
counted_code {A} limit a f p le ca = record {
  takes = λ s xs rest fits e.
      let one = bind_some (below limit s) (λ n. times a n.0 n.1) (xs, rest) e in
      let first = (below_code limit le).takes s one.0.0 one.0.1 fits one.1 in
      let second = times_takes a f p ca one.0.0 one.0.1 xs rest first.0.rest_fits one.2 in
      let joined = Takes-then s (number one.0.0) one.0.1 (flat_map f xs) rest first.0 second.0 in
      subst (λ (n : ℕ). Takes s (number n ++ flat_map f xs) rest × ((n < limit) × AllByRecursion p xs)) (sym second.1.0) (joined, (first.1, second.1.1));
  again = λ xs rest h.
      let regrouped : counted f xs ++ rest ≡ number (length xs) ++ (flat_map f xs ++ rest) = append_assoc (number (length xs)) (flat_map f xs) rest in
      ap (read_counted limit a) regrouped ∙ (ap (λ (o : Option (ℕ × List ℕ)). o >>= λ n. times a n.0 n.1)
      ((below_code limit le).again (length xs) (flat_map f xs ++ rest) h.0) ∙ times_again a f p ca xs rest h.1);
}

-- ---- the parts of a thing, put together

pub record IsMade {A B : Type 0} (f : A → List ℕ) (p : A → Type 0) (g : B → List ℕ) (q : B → Type 0) (make : A → B) (parts : B → A) : Type 0 where
  pub same : (b : B) → make (parts b) ≡ b
  pub written : (a : A) → g (make a) ≡ f a
  pub fitting : (a : A) → p a → q (make a)
  pub parted : (b : B) → q b → p (parts b)

pub made_code : {A B : Type 0} (a : Read A) (f : A → List ℕ) (p : A → Type 0) (g : B → List ℕ) (q : B → Type 0) (make : A → B) (parts : B → A)
    → IsMade f p g q make parts → IsCode a f p → IsCode (made make a) g q
made_code {A} {B} a f p g q make parts m ca = record {
  takes = λ s b rest fits e.
      let one = bind_some (a s) (λ x. Some (make x.0, x.1)) (b, rest) e in
      let same = some_is (make one.0.0, one.0.1) (b, rest) one.2 in
      let first = ca.takes s one.0.0 one.0.1 fits one.1 in
      let there : Takes s (g (make one.0.0)) one.0.1 = subst (λ (t : List ℕ). Takes s t one.0.1) (sym (m.written one.0.0)) first.0 in
      subst (λ (r : B × List ℕ). Takes s (g r.0) r.1 × q r.0) same (there, m.fitting one.0.0 first.1);
  again = λ b rest h.
      let bytes : g b ≡ f (parts b) = ap g (sym (m.same b)) ∙ m.written (parts b) in
      ap (λ (t : List ℕ). made make a (t ++ rest)) bytes ∙ (ap (λ (o : Option (A × List ℕ)). o >>= λ x. Some (make x.0, x.1))
      (ca.again (parts b) rest (m.parted b h)) ∙ ap (λ (x : B). Some (x, rest)) (m.same b));
}

-- ---- texts

pub text_code : IsCode read_text text_bytes (λ text. length text < 2 ^ 64)
unfolding read_text
text_code = record {
  takes = λ s text rest fits e.
      let a = bind_some (read_number s) (λ n. cond (ltb (length n.1) n.0) None (Some (take n.0 n.1, drop n.0 n.1))) (text, rest) e in
      let t = number_takes s a.0.0 a.0.1 fits a.1 in
      let g = guard_some (ltb (length a.0.1) a.0.0) (take a.0.0 a.0.1, drop a.0.0 a.0.1) (text, rest) a.2 in
      let long : a.0.0 ≤ length a.0.1 = ltb-false _ _ g.0 in
      let len : length (take a.0.0 a.0.1) ≡ a.0.0 = omega (arith, length-take a.0.0 a.0.1) in
      let second : Takes a.0.1 (take a.0.0 a.0.1) (drop a.0.0 a.0.1) = record { parts = sym (take-append-drop a.0.0 a.0.1); rest_fits = IsBytes-drop a.0.0 a.0.1 t.0.rest_fits } in
      let both = Takes-then s (number a.0.0) a.0.1 (take a.0.0 a.0.1) (drop a.0.0 a.0.1) t.0 second in
      let whole : Takes s (text_bytes (take a.0.0 a.0.1)) (drop a.0.0 a.0.1) = subst (λ (k : ℕ). Takes s (number k ++ take a.0.0 a.0.1) (drop a.0.0 a.0.1)) (sym len) both in
      let small : length (take a.0.0 a.0.1) < 2 ^ 64 = omega (arith, t.1) in
      subst (λ (p : List ℕ × List ℕ). Takes s (text_bytes p.0) p.1 × (length p.0 < 2 ^ 64)) g.1 (whole, small);
  again = λ text rest lt.
      let regrouped : text_bytes text ++ rest ≡ number (length text) ++ (text ++ rest) = append_assoc (number (length text)) text rest in
      let long : ltb (length (text ++ rest)) (length text) ≡ false = le-ltb _ _ (omega (arith, length-append text rest)) in
      ap read_text regrouped ∙ rw (number_again (length text) (text ++ rest) lt, long, take_at text rest (length text) refl, drop_at text rest (length text) refl) refl;
}
