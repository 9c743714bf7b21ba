-- Laws of the checks in a text.
use Rattle.std.proofs.Common.{◌≡◌, ◌≢◌, inl, inr, ℕ, zero, suc, ◌+◌, ◌-◌, ◌<◌, ◌≤◌, List, [], ◌∷◌, ◌++◌, length, take, drop, map, slice_index, refl, sym, ◌∙◌, ap, subst, arith}
use Rattle.std.proofs.lemmas.Bool.{cases_lt, cases_eq}
use Rattle.std.proofs.lemmas.List.{append-nil, append_assoc, length-append, length-take, length-drop, length-map, get_or-map, get_or-take, get_or-drop, get_or_append_left, get_or-append_right, take_at, drop_at, drop-drop, take-append-drop, ext_get_or, take_all}
use Rattle.sha2.specs.Sha256.{sha256}
use Rattle.sha2.proofs.Facts256.{length-sha256}
use Rattle.pst_kept_text.specs.Text.{whole, joined, IsPlain}
use Rattle.pst_kept_text.proofs.TextLemmas.{whole_zero, whole_end, whole_mid}
use Rattle.pst_kept_files.specs.Checks.{letter, letters, check, sealed, text_of, last_check, said, ArePlain, IsSealed}

-- ---- the letters of a check

pub letters_are : (digest out : List ℕ) → length digest ≡ 32 → length out ≡ 16 → ((j : ℕ) → j < 16 → slice_index out j ≡ letter (slice_index digest j)) → out ≡ letters digest
unfolding letters
letters_are digest out size short each = ext_get_or 0 out (map letter (take 16 digest)) (omega (arith, length-map (take 16 digest) letter, length-take 16 digest)) (λ j low.
    let in_both : j < 16 = omega arith in
    let below : j < length (take 16 digest) = omega (arith, length-take 16 digest) in
    each j in_both ∙ sym (ap letter (get_or-take 16 digest j 0 in_both)) ∙ sym (get_or-map letter (take 16 digest) j 0 0 below))

pub length_letters : (digest : List ℕ) → 16 ≤ length digest → length (letters digest) ≡ 16
unfolding letters
length_letters digest long = length-map (take 16 digest) letter ∙ omega (arith, length-take 16 digest)

plain_letters : (digest : List ℕ) → IsPlain (letters digest)
unfolding letters
plain_letters digest i low =
    let below : i < length (take 16 digest) = omega (arith, length-map (take 16 digest) letter) in
    let is : slice_index (map letter (take 16 digest)) i ≡ letter (slice_index (take 16 digest) i) = get_or-map letter (take 16 digest) i 0 0 below in
    (λ none. omega (arith, is, none), λ end. omega (arith, is, end))

pub length_check : (before body : List ℕ) → length (check before body) ≡ 16
length_check before body = length_letters (sha256 (before ++ body)) (omega (arith, length-sha256 (before ++ body)))

plain_check : (before body : List ℕ) → IsPlain (check before body)
plain_check before body = plain_letters (sha256 (before ++ body))

pub plain_both : (xs ys : List ℕ) → IsPlain xs → IsPlain ys → IsPlain (xs ++ ys)
plain_both xs ys one two i low = elim (cases_lt i (length xs)) [
  | inl left ↦ let is = get_or_append_left xs ys 0 i left in let at = one i left in (λ none. at.0 (sym is ∙ none), λ end. at.1 (sym is ∙ end))
  | inr right ↦
      let is = get_or-append_right xs ys (length xs) i 0 refl right in
      let at = two (i - length xs) (omega (arith, length-append xs ys)) in
      (λ none. at.0 (sym is ∙ none), λ end. at.1 (sym is ∙ end))
]

-- a body with its check holds no end
pub plain_sealed : (before body : List ℕ) → IsPlain body → IsPlain (body ++ check before body)
plain_sealed before body plain = plain_both body (check before body) plain (plain_check before body)

-- a body is told by its check
pub same_body : (before one two rest : List ℕ) → one ++ rest ≡ two ++ check before two → length rest ≡ 16 → (one ≡ two) × (rest ≡ check before two)
same_body before one two rest is size =
    let n : length one ≡ length two = omega (arith, ap length is, length-append one rest, length-append two (check before two), length_check before two) in (
      sym (take_at one rest (length one) refl) ∙ ap (take (length one)) is ∙ take_at two (check before two) (length one) (sym n),
      sym (drop_at one rest (length one) refl) ∙ ap (drop (length one)) is ∙ drop_at two (check before two) (length one) (sym n),
    )

pub short_body : (before body group : List ℕ) → group ≡ body ++ check before body → 16 ≤ length group
short_body before body group is = omega (arith, ap length is, length-append body (check before body), length_check before body)

-- ---- one group more

pub text_more : (first : List ℕ) (bodies : List (List ℕ)) (body : List ℕ) → text_of first (bodies ++ body ∷ []) ≡ text_of first bodies ++ sealed (last_check first bodies) body
text_more first [] body = append-nil (sealed first body)
text_more first (b ∷ bodies) body = ap (λ (l : List ℕ). sealed first b ++ l) (text_more (check first b) bodies body)
    ∙ sym (append_assoc (sealed first b) (text_of (check first b) bodies) (sealed (last_check first (b ∷ bodies)) body))

pub last_more : (first : List ℕ) (bodies : List (List ℕ)) (body : List ℕ) → last_check first (bodies ++ body ∷ []) ≡ check (last_check first bodies) body
last_more first [] body = refl
last_more first (b ∷ bodies) body = last_more (check first b) bodies body

pub said_more : (bodies : List (List ℕ)) (body : List ℕ) → said (bodies ++ body ∷ []) ≡ said bodies ++ body
said_more [] body = append-nil body
said_more (b ∷ bodies) body = ap (λ (l : List ℕ). b ++ l) (said_more bodies body) ∙ sym (append_assoc b (said bodies) body)

pub plain_more : (bodies : List (List ℕ)) (body : List ℕ) → ArePlain bodies → IsPlain body → ArePlain (bodies ++ body ∷ [])
plain_more [] body plain one = (one, tt)
plain_more (b ∷ bodies) body plain one = (plain.0, plain_more bodies body plain.1 one)

pub sealed_more : (first text commands last body : List ℕ) → IsSealed first text commands last → IsPlain body
    → IsSealed first (text ++ sealed last body) (commands ++ body) (check last body)
sealed_more first text commands last body h one =
    let bodies = h.bodies in
    record {
      bodies = bodies ++ body ∷ [];
      plain = plain_more bodies body h.plain one;
      text_is = ap (λ (l : List ℕ). l ++ sealed last body) h.text_is ∙ ap (λ (l : List ℕ). text_of first bodies ++ sealed l body) h.last_is ∙ sym (text_more first bodies body);
      commands_are = ap (λ (l : List ℕ). l ++ body) h.commands_are ∙ sym (said_more bodies body);
      last_is = ap (λ (l : List ℕ). check l body) h.last_is ∙ sym (last_more first bodies body);
    }

pub sealed_none : (first : List ℕ) → IsSealed first [] [] first
sealed_none first = record { bodies = []; plain = tt; text_is = refl; commands_are = refl; last_is = refl }

-- ---- telling the groups of a text

abbrev pub HasNoEnd : List ℕ → Type 0
HasNoEnd xs = (i : ℕ) → i < length xs → slice_index xs i ≢ 30

-- what stands before the first end is one thing
pub same_front : (xs us ys vs : List ℕ) → HasNoEnd xs → HasNoEnd us → xs ++ 30 ∷ ys ≡ us ++ 30 ∷ vs → (xs ≡ us) × (ys ≡ vs)
same_front [] [] ys vs one two is = (refl, cc is)
same_front [] (u ∷ us) ys vs one two is = let here : 30 ≡ u = cc is in absurd (two 0 (omega arith) (sym here))
same_front (x ∷ xs) [] ys vs one two is = let here : x ≡ 30 = cc is in absurd (one 0 (omega arith) here)
same_front (x ∷ xs) (u ∷ us) ys vs one two is =
    let here : x ≡ u = cc is in
    let rest : xs ++ 30 ∷ ys ≡ us ++ 30 ∷ vs = cc is in
    let both = same_front xs us ys vs (λ i low. one (suc i) (omega arith)) (λ i low. two (suc i) (omega arith)) rest in
    (ap (λ (b : ℕ). b ∷ xs) here ∙ ap (λ (l : List ℕ). u ∷ l) both.0, both.1)

-- the first group of a text of bodies
pub record FirstIs (before front rest : List ℕ) : Type 0 where
  pub body : List ℕ
  pub front_is : front ≡ body ++ check before body
  pub more : List (List ℕ)
  pub plain : ArePlain more
  pub rest_is : rest ≡ text_of (check before body) more

some_there : (front rest : List ℕ) (x : ℕ) → front ++ x ∷ rest ≢ []
some_there front rest x is = absurd (omega (arith, ap length is, length-append front (x ∷ rest)))

pub first_is : (before front rest : List ℕ) (more : List (List ℕ)) → ArePlain more → HasNoEnd front → front ++ 30 ∷ rest ≡ text_of before more → FirstIs before front rest
first_is before front rest [] plain none is = absurd (some_there front rest 30 is)
first_is before front rest (b ∷ more) plain none is =
    let whole_group = plain_sealed before b plain.0 in
    let both = same_front front (b ++ check before b) rest (text_of (check before b) more) none (λ i low. (whole_group i low).1) (is ∙ append_assoc (b ++ check before b) (30 ∷ []) (text_of (check before b) more)) in
    record { body = b; front_is = both.0; more = more; plain = plain.1; rest_is = both.1 }

-- the bytes of whole groups
joined_rest : (b : ℕ) (ys xs : List ℕ) → joined b ys ≡ b ∷ xs → ys ≡ xs
joined_rest b [] xs h = absurd (cc h)
joined_rest b (y ∷ ys) xs h = cc h

tail_whole : (b : ℕ) (t : List ℕ) → whole (b ∷ t) ≡ b ∷ t → whole t ≡ t
tail_whole b t h = elim (cases_eq b 0) [
  | inl none ↦ absurd (cc (whole_zero b t none, h))
  | inr some ↦ elim (cases_eq b 30) [
    | inl end ↦ cc (whole_end b t end, h)
    | inr mid ↦ joined_rest b (whole t) t (sym (whole_mid b t some mid) ∙ h)
  ]
]

pub whole_some : (t : List ℕ) → whole t ≡ t → (i : ℕ) → i < length t → slice_index t i ≢ 0
whole_some [] h i low = absurd (omega arith)
whole_some (b ∷ t) h zero low = λ none. absurd (cc (whole_zero b t none, h))
whole_some (b ∷ t) h (suc i) low = whole_some t (tail_whole b t h) i (omega arith)

pub whole_last : (t : List ℕ) → whole t ≡ t → (n : ℕ) → length t ≡ suc n → slice_index t n ≡ 30
whole_last [] h n size = absurd (omega arith)
whole_last (b ∷ []) h n size = elim (cases_eq b 0) [
  | inl none ↦ absurd (cc (whole_zero b [] none, h))
  | inr some ↦ elim (cases_eq b 30) [
    | inl end ↦ let at : n ≡ 0 = omega arith in ap (slice_index (b ∷ [])) at ∙ end
    | inr mid ↦ absurd (cc (whole_mid b [] some mid, h))
  ]
]
whole_last (b ∷ x ∷ t) h n size =
    let at : n ≡ suc (length t) = omega arith in
    ap (slice_index (b ∷ x ∷ t)) at ∙ whole_last (x ∷ t) (tail_whole b (x ∷ t) h) (length t) refl

pub record RestIs (last rest : List ℕ) : Type 0 where
  pub more : List (List ℕ)
  pub plain : ArePlain more
  pub is : rest ≡ text_of last more

-- What the loop over the bytes knows: the groups up to `begin`, and no end from there up to `i`.
pub record UnsealedTo (first text : List ℕ) (begin i : ℕ) (commands last : List ℕ) : Type 0 where
  pub begins : begin ≤ i
  pub within : i ≤ length text
  pub groups : IsSealed first (take begin text) commands last
  pub none : (k : ℕ) → begin ≤ k → k < i → slice_index text k ≢ 30
  pub rest : (all : List (List ℕ)) → ArePlain all → text ≡ text_of first all → RestIs last (drop begin text)

pub unsealed_none : (first text : List ℕ) → UnsealedTo first text 0 0 [] first
unsealed_none first text = record {
  begins = omega arith;
  within = omega arith;
  groups = sealed_none first;
  none = λ k from low. absurd (omega arith);
  rest = λ all plain is. record { more = all; plain = plain; is = is };
}

pub unsealed_byte : (first text : List ℕ) (begin i : ℕ) (commands last : List ℕ) → UnsealedTo first text begin i commands last → i < length text → slice_index text i ≢ 30
    → UnsealedTo first text begin (i + 1) commands last
unsealed_byte first text begin i commands last h low other = record {
  begins = omega (arith, h.begins);
  within = omega arith;
  groups = h.groups;
  none = λ k from below. elim (cases_eq k i) [ inl here ↦ λ end. other (ap (slice_index text) (sym here) ∙ end) | inr before ↦ h.none k from (omega arith) ];
  rest = h.rest;
}

module _ (first text : List ℕ) (begin i : ℕ) (commands last : List ℕ) (h : UnsealedTo first text begin i commands last) (low : i < length text) (end : slice_index text i ≡ 30) where
  abbrev pub group : List ℕ
  group = take (i - begin) (drop begin text)

  size : length group ≡ i - begin
  size = omega (arith, length-take (i - begin) (drop begin text), length-drop begin text, h.begins)

  at : (k : ℕ) → k < length group → slice_index group k ≡ slice_index text (begin + k)
  at k below = get_or-take (i - begin) (drop begin text) k 0 (omega (arith, size)) ∙ get_or-drop begin text k 0

  no_end : HasNoEnd group
  no_end k below is = h.none (begin + k) (omega arith) (omega (arith, size)) (sym (at k below) ∙ is)

  split : drop begin text ≡ group ++ 30 ∷ drop (i + 1) text
  split =
      let there : begin + (i - begin) ≡ i = omega (arith, h.begins) in
      let tail : drop (i - begin) (drop begin text) ≡ drop i text = drop-drop (i - begin) begin text ∙ ap (λ (n : ℕ). drop n text) there in
      let same : suc i ≡ i + 1 = omega arith in
      let head : drop i text ≡ 30 ∷ drop (i + 1) text = at_byte text i low end ∙ ap (λ (n : ℕ). 30 ∷ drop n text) same in
      sym (take-append-drop (i - begin) (drop begin text)) ∙ ap (λ (l : List ℕ). group ++ l) (tail ∙ head)
    where
      at_byte : (t : List ℕ) (n : ℕ) → n < length t → slice_index t n ≡ 30 → drop n t ≡ 30 ∷ drop (suc n) t
      at_byte [] n low is = absurd (omega arith)
      at_byte (x ∷ t) zero low is = ap (λ (b : ℕ). b ∷ t) is
      at_byte (x ∷ t) (suc n) low is = at_byte t n (omega arith) is

  -- what any bodies of the text have here
  pub next : (all : List (List ℕ)) → ArePlain all → text ≡ text_of first all → FirstIs last group (drop (i + 1) text)
  next all plain is = let r = h.rest all plain is in first_is last group (drop (i + 1) text) r.more r.plain no_end (sym split ∙ r.is)

  pub unsealed_group : whole text ≡ text → (body : List ℕ) → group ≡ body ++ check last body → UnsealedTo first text (i + 1) (i + 1) (commands ++ body) (check last body)
  unsealed_group whole_text body is =
      let plain_group : IsPlain group = λ k below. (λ none. whole_some text whole_text (begin + k) (omega (arith, size)) (sym (at k below) ∙ none), λ found. no_end k below found) in
      let plain : IsPlain body = λ k below.
      let inside : k < length group = omega (arith, ap length is, length-append body (check last body)) in
      let same : slice_index group k ≡ slice_index body k = ap (λ (l : List ℕ). slice_index l k) is ∙ get_or_append_left body (check last body) 0 k below in
      let both = plain_group k inside in
      (λ none. both.0 (same ∙ none), λ found. both.1 (same ∙ found)) in
      let text_to : take (i + 1) text ≡ take begin text ++ sealed last body =
      let cut : text ≡ (take begin text ++ (group ++ 30 ∷ [])) ++ drop (i + 1) text = sym (take-append-drop begin text) ∙ ap (λ (l : List ℕ). take begin text ++ l) (split ∙ sym (append_assoc group (30 ∷ []) (drop (i + 1) text)))
      ∙ sym (append_assoc (take begin text) (group ++ 30 ∷ []) (drop (i + 1) text)) in
      let n : length (take begin text ++ (group ++ 30 ∷ [])) ≡ i + 1 = omega (arith, length-append (take begin text) (group ++ 30 ∷ []), length-append group (30 ∷ []), size, length-take begin text, h.begins) in
      ap (λ (l : List ℕ). take (i + 1) l) cut ∙ take_at (take begin text ++ (group ++ 30 ∷ [])) (drop (i + 1) text) (i + 1) n ∙ ap (λ (l : List ℕ). take begin text ++ (l ++ 30 ∷ [])) is in
      record {
        begins = omega arith;
        within = omega arith;
        groups = subst (λ (l : List ℕ). IsSealed first l (commands ++ body) (check last body)) (sym text_to) (sealed_more first (take begin text) commands last body h.groups plain);
        none = λ k from below. absurd (omega arith);
        rest = λ all are all_is.
            let f = next all are all_is in
            let told : body ++ check last body ≡ f.body ++ check last f.body = sym is ∙ f.front_is in
            let same = (same_body last body f.body (check last body) told (length_check last body)).0 in
            record { more = f.more; plain = f.plain; is = f.rest_is ∙ ap (λ (b : List ℕ). text_of (check last b) f.more) (sym same) };
      }

pub unsealed_all : (first text : List ℕ) (begin i : ℕ) (commands last : List ℕ) → whole text ≡ text → length text ≤ i → UnsealedTo first text begin i commands last → IsSealed first text commands last
unsealed_all first text begin i commands last whole_text over h = elim (cases_lt begin (length text)) [
  | inl some ↦
      let size : length text ≡ suc (length text - 1) = omega arith in
      absurd (h.none (length text - 1) (omega arith) (omega (arith, over)) (whole_last text whole_text (length text - 1) size))
  | inr all ↦ subst (λ (l : List ℕ). IsSealed first l commands last) (take_all begin text (omega arith)) h.groups
]
