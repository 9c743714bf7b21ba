-- Laws of `whole`.
use Rattle.std.proofs.Common.{◌≡◌, ◌≢◌, ◌⊎◌, inl, inr, ℕ, suc, ◌+◌, ◌<◌, ◌≤◌, List, [], ◌∷◌, ◌++◌, length, slice_index, refl, sym, ◌∙◌, ap, arith}
use Rattle.std.proofs.lemmas.Bool.{cases_eq, cases_lt}
use Rattle.std.proofs.lemmas.Bool.Decides.{nat_tests}
use Rattle.std.proofs.lemmas.List.{append-nil, append_assoc, get_or_past, get_or_append_left, length-append}
use Rattle.pst_kept_text.specs.Text.{joined, whole, IsPlain, IsGroup, IsTornEnd}

-- some first bytes, which are whole groups
pub record AreFirst (lines first : List ℕ) : Type 0 where
  pub rest : List ℕ
  pub split : first ++ rest ≡ lines
  pub are_whole : whole first ≡ first

pub whole_zero : (b : ℕ) (xs : List ℕ) → b ≡ 0 → whole (b ∷ xs) ≡ []
whole_zero b xs h = grind (arith, nat_tests)

pub whole_end : (b : ℕ) (xs : List ℕ) → b ≡ 30 → whole (b ∷ xs) ≡ b ∷ whole xs
whole_end b xs h = grind (arith, nat_tests)

pub whole_mid : (b : ℕ) (xs : List ℕ) → b ≢ 0 → b ≢ 30 → whole (b ∷ xs) ≡ joined b (whole xs)
whole_mid b xs h k = grind (arith, nat_tests)

joined_tail : (b : ℕ) (ys xs : List ℕ) → joined b ys ≡ b ∷ xs → ys ≡ xs
joined_tail b [] xs h = absurd (cc h)
joined_tail b (y ∷ ys) xs h = cc

joined-append : (b : ℕ) (xs ys : List ℕ) → joined b xs ≡ b ∷ xs → joined b (xs ++ ys) ≡ b ∷ (xs ++ ys)
joined-append b [] ys h = absurd (cc h)
joined-append b (x ∷ xs) ys h = refl

-- whole lines stand for themselves, whatever comes behind them
pub whole-append : (xs ys : List ℕ) → whole xs ≡ xs → whole (xs ++ ys) ≡ xs ++ whole ys
whole-append [] ys h = refl
whole-append (b ∷ xs) ys h = elim (cases_eq b 0) [
  | inl none ↦ absurd (cc (whole_zero b xs none))
  | inr some ↦ elim (cases_eq b 30) [
    | inl line_end ↦
        let rest : whole xs ≡ xs = cc (whole_end b xs line_end) in
        whole_end b (xs ++ ys) line_end ∙ ap (λ (l : List ℕ). b ∷ l) (whole-append xs ys rest)
    | inr inner ↦
        let here : joined b (whole xs) ≡ b ∷ xs = sym (whole_mid b xs some inner) ∙ h in
        let rest : whole xs ≡ xs = joined_tail b (whole xs) xs here in
        let at : joined b xs ≡ b ∷ xs = ap (λ (l : List ℕ). joined b l) (sym rest) ∙ here in
        whole_mid b (xs ++ ys) some inner ∙ ap (λ (l : List ℕ). joined b l) (whole-append xs ys rest) ∙ joined-append b xs (whole ys) at
  ]
]

-- some first ones of the bytes, which are whole lines
pub none_of : (lines : List ℕ) → AreFirst lines []
none_of lines = record { rest = lines; split = refl; are_whole = refl }

more_of : (b : ℕ) (lines first : List ℕ) → b ≢ 0 → AreFirst lines first → AreFirst (b ∷ lines) (whole (b ∷ first))
more_of b lines first some are = elim (cases_eq b 30) [
  | inl line_end ↦
      let is : whole (b ∷ first) ≡ b ∷ first = whole_end b first line_end ∙ ap (λ (l : List ℕ). b ∷ l) are.are_whole in
      rw is (record { rest = are.rest; split = ap (λ (l : List ℕ). b ∷ l) are.split; are_whole = is })
  | inr inner ↦ rw (whole_mid b first some inner, are.are_whole) (inner_of first are inner)
]
  where
    inner_of : (xs : List ℕ) → AreFirst lines xs → b ≢ 30 → AreFirst (b ∷ lines) (joined b xs)
    inner_of [] is inner = none_of (b ∷ lines)
    inner_of (x ∷ xs) is inner = record { rest = is.rest; split = ap (λ (l : List ℕ). b ∷ l) is.split; are_whole = whole_mid b (x ∷ xs) some inner ∙ ap (λ (l : List ℕ). joined b l) is.are_whole }

-- where each byte is 0 or that of the lines, and 0 behind them, the text stands for some first ones of them
pub whole_faint : (lines text : List ℕ) → ((i : ℕ) → i < length lines → (slice_index text i ≡ 0) ⊎ (slice_index text i ≡ slice_index lines i)) → ((i : ℕ) → length lines ≤ i → slice_index text i ≡ 0) → AreFirst lines (whole text)
whole_faint lines [] each behind = none_of lines
whole_faint [] (x ∷ text) each behind = rw (whole_zero x text (behind 0 (omega arith))) (none_of [])
whole_faint (b ∷ lines) (x ∷ text) each behind = elim (cases_eq x 0) [
  | inl none ↦ rw (whole_zero x text none) (none_of (b ∷ lines))
  | inr some ↦ elim (each 0 (omega arith)) [
    | inl none ↦ absurd (some none)
    | inr same ↦
        let rest : AreFirst lines (whole text) = whole_faint lines text (λ i low. each (suc i) (omega arith)) (λ i high. behind (suc i) (omega arith)) in
        let here : x ≡ b = same in
        let more : AreFirst (x ∷ lines) (whole (x ∷ whole text)) = more_of x lines (whole text) some rest in
        let is : whole (x ∷ whole text) ≡ whole (x ∷ text) = again x text some rest.are_whole in
        rw (← is, ← here) more
  ]
]
  where
    again : (y : ℕ) (t : List ℕ) → y ≢ 0 → whole (whole t) ≡ whole t → whole (y ∷ whole t) ≡ whole (y ∷ t)
    again y t some h = elim (cases_eq y 30) [
      | inl line_end ↦ whole_end y (whole t) line_end ∙ ap (λ (l : List ℕ). y ∷ l) h ∙ sym (whole_end y t line_end)
      | inr inner ↦ whole_mid y (whole t) some inner ∙ ap (λ (l : List ℕ). joined y l) h ∙ sym (whole_mid y t some inner)
    ]

pub whole-whole : (t : List ℕ) → whole (whole t) ≡ whole t
whole-whole t = (whole_faint t t (λ i low. inr refl) (λ i high. get_or_past t i 0 high)).are_whole

-- a text that begins with a zero stands for none
pub whole_none : (t : List ℕ) → slice_index t 0 ≡ 0 → whole t ≡ []
whole_none [] h = refl
whole_none (x ∷ t) h = whole_zero x t h

nil_of : (xs ys : List ℕ) → xs ++ ys ≡ [] → xs ≡ []
nil_of [] ys h = refl
nil_of (x ∷ xs) ys h = absurd (cc h)

-- of a text with no whole line, no first ones are some
pub first_of_none : (t p : List ℕ) → whole t ≡ [] → AreFirst t p → p ≡ []
first_of_none t p none are =
    let both : whole (p ++ are.rest) ≡ [] = ap whole are.split ∙ none in
    nil_of p (whole are.rest) (sym (whole-append p are.rest are.are_whole) ∙ both)

-- what a loop over the bytes knows: `kept` are the lines so far, `seen` the bytes
abbrev pub held : List ℕ → List ℕ → List ℕ → List ℕ
held kept seen [] = kept
held kept seen (x ∷ xs) = seen ++ x ∷ xs

pub held_zero : (kept seen : List ℕ) (b : ℕ) (rest : List ℕ) → b ≡ 0 → held kept seen (whole (b ∷ rest)) ≡ kept
held_zero kept seen b rest h = ap (held kept seen) (whole_zero b rest h)

held_same : (kept more : List ℕ) → held kept kept more ≡ kept ++ more
held_same kept [] = sym (append-nil kept)
held_same kept (x ∷ xs) = refl

pub held_end : (kept seen : List ℕ) (b : ℕ) (rest : List ℕ) → b ≡ 30 → held kept seen (whole (b ∷ rest)) ≡ held (seen ++ b ∷ []) (seen ++ b ∷ []) (whole rest)
held_end kept seen b rest h = ap (held kept seen) (whole_end b rest h) ∙ sym (append_assoc seen (b ∷ []) (whole rest)) ∙ sym (held_same (seen ++ b ∷ []) (whole rest))

held_joined : (kept seen : List ℕ) (b : ℕ) (xs : List ℕ) → held kept seen (joined b xs) ≡ held kept (seen ++ b ∷ []) xs
held_joined kept seen b [] = refl
held_joined kept seen b (x ∷ xs) = sym (append_assoc seen (b ∷ []) (x ∷ xs))

pub held_mid : (kept seen : List ℕ) (b : ℕ) (rest : List ℕ) → b ≢ 0 → b ≢ 30 → held kept seen (whole (b ∷ rest)) ≡ held kept (seen ++ b ∷ []) (whole rest)
held_mid kept seen b rest h k = ap (held kept seen) (whole_mid b rest h k) ∙ held_joined kept seen b (whole rest)

-- bytes of which none is zero or ends a group have no whole group
plain_tail : (b : ℕ) (body : List ℕ) → IsPlain (b ∷ body) → IsPlain body
plain_tail b body plain i low = plain (suc i) (omega arith)

pub plain_none : (body : List ℕ) → IsPlain body → whole body ≡ []
plain_none [] plain = refl
plain_none (b ∷ body) plain =
    let here = plain 0 (omega arith) in
    whole_mid b body here.0 here.1 ∙ ap (λ (l : List ℕ). joined b l) (plain_none body (plain_tail b body plain))

-- a group is whole
pub plain_whole : (body : List ℕ) → IsPlain body → whole (body ++ 30 ∷ []) ≡ body ++ 30 ∷ []
plain_whole [] plain = refl
plain_whole (b ∷ body) plain =
    let here = plain 0 (omega arith) in
    whole_mid b (body ++ 30 ∷ []) here.0 here.1 ∙ ap (λ (l : List ℕ). joined b l) (plain_whole body (plain_tail b body plain)) ∙ some b body
  where
    some : (b : ℕ) (body : List ℕ) → joined b (body ++ 30 ∷ []) ≡ b ∷ (body ++ 30 ∷ [])
    some b [] = refl
    some b (x ∷ xs) = refl

pub group_whole : (group : List ℕ) → IsGroup group → whole group ≡ group
group_whole group g = ap whole g.is ∙ plain_whole g.body g.plain ∙ sym g.is

-- of a group all or nothing is whole
pub all_or_none : (group first : List ℕ) → IsGroup group → AreFirst group first → (first ≡ []) ⊎ (first ≡ group)
all_or_none group first g are = elim (cases_lt (length g.body) (length first)) [
  | inl all ↦
      let long : length first + length are.rest ≡ length g.body + 1 = sym (length-append first are.rest) ∙ ap length (are.split ∙ g.is) ∙ length-append g.body (30 ∷ []) in
      let none : are.rest ≡ [] = nil_at are.rest (omega arith) in
      inr (sym (append-nil first) ∙ ap (λ (l : List ℕ). first ++ l) (sym none) ∙ are.split)
  | inr part ↦
      let both : first ++ are.rest ≡ g.body ++ 30 ∷ [] = are.split ∙ g.is in
      let plain : IsPlain first = λ i low.
      let same : slice_index first i ≡ slice_index g.body i = sym (get_or_append_left first are.rest 0 i low) ∙ ap (λ (l : List ℕ). slice_index l i) both ∙ get_or_append_left g.body (30 ∷ []) 0 i (omega arith) in
      let at = g.plain i (omega arith) in
      (λ none. at.0 (sym same ∙ none), λ end. at.1 (sym same ∙ end)) in
      inl (sym are.are_whole ∙ plain_none first plain)
]
  where
    nil_at : (xs : List ℕ) → length xs ≡ 0 → xs ≡ []
    nil_at [] h = refl
    nil_at (x ∷ xs) h = absurd (omega arith)

-- a zero first is what a crash may leave
pub torn_zero : (rest : List ℕ) → 0 < length rest → slice_index rest 0 ≡ 0 → IsTornEnd rest
torn_zero rest some is = record { zero_at = 0; inside = some; is_zero = is; last = inl is }

-- a group that was written in part has nothing behind its end
pub end_last : (group tail : List ℕ) → IsGroup group → ((i : ℕ) → i < length group → (slice_index tail i ≡ 0) ⊎ (slice_index tail i ≡ slice_index group i)) → ((i : ℕ) → length group ≤ i → slice_index tail i ≡ 0)
    → (i j : ℕ) → i < j → slice_index tail i ≡ 30 → slice_index tail j ≡ 0
end_last group tail g each past i j low is = elim (cases_lt i (length g.body)) [
  | inl inside ↦ absurd (elim (each i (omega (arith, long))) [
    | inl none ↦ omega (arith, none, is)
    | inr same ↦ (g.plain i inside).1 (sym (get_or_append_left g.body (30 ∷ []) 0 i inside) ∙ sym (ap (λ (l : List ℕ). slice_index l i) g.is) ∙ sym same ∙ is)
  ])
  | inr outside ↦ past j (omega (arith, long))
]
  where
    long : length group ≡ length g.body + 1
    long = ap length g.is ∙ length-append g.body (30 ∷ [])

pub group_some : (group : List ℕ) → IsGroup group → 0 < length group
group_some group g = omega (arith, ap length g.is, length-append g.body (30 ∷ []))

-- a group ends before there
pub record EndsBefore (rest : List ℕ) (n : ℕ) : Type 0 where
  pub at : ℕ
  pub below : at < n
  pub is : slice_index rest at ≡ 30
