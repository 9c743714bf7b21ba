-- Lists of stamps.
use Rattle.std.proofs.Common.{◌≡◌, ◌≢◌, ℕ, zero, suc, ◌<◌, ◌≤◌, true, false, cond, List, [], ◌∷◌, ◌++◌, length, take, get_or, eqb, leb, refl, sym, ap, ◌∙◌, ◌⊎◌, inl, inr, ⊎_elim, arith}
use Rattle.std.proofs.Math.ListN.{set}
use Rattle.std.proofs.lemmas.Bool.{cases_Bool, cases_lt, eq-eqb, eqb-true, ne_eqb, le-leb, leb-true, and_parts, false_from_ne_true}
use Rattle.pst_line_nodes.specs.declared.content.Content.{Content}
use Rattle.pst_line_nodes.specs.declared.content.Content.TheVariants.{Null}
use Rattle.pst_line_nodes.specs.declared.content.StampedContent.{StampedContent}
use Rattle.pst_line_nodes.specs.Contents.{stamped_from}
use Rattle.pst_line_nodes.specs.Rows.{is_for, held, since_in, IsBefore, AreRising, IsStampAt, IsUnstamped, with_content}

-- ---- the scan

pub held-step : (xs : List StampedContent) (i : ℕ) (d : StampedContent) (slot n : ℕ) (c : Content) → i < length xs → held (take (suc i) xs) slot n c ≡ cond (is_for slot n (get_or xs i d)) (get_or xs i d).content (held (take i xs) slot n c)
held-step [] i d slot n c l = absurd (omega arith)
held-step (e ∷ es) zero d slot n c l = refl
held-step (e ∷ es) (suc i) d slot n c l = held-step es i d slot n (cond (is_for slot n e) e.content c) (omega arith)

-- ---- which stamps are for a slot

pub for_true : (slot n : ℕ) (e : StampedContent) → e.slot.0 ≡ slot → e.from.0 ≤ n → is_for slot n e ≡ true
for_true slot n e p q = rw (eq-eqb e.slot.0 slot p, le-leb e.from.0 n q) refl

pub for_parts : (slot n : ℕ) (e : StampedContent) → is_for slot n e ≡ true → (e.slot.0 ≡ slot) × (e.from.0 ≤ n)
for_parts slot n e h = let p = and_parts (eqb e.slot.0 slot) (leb e.from.0 n) h in (eqb-true e.slot.0 slot p.0, leb-true e.from.0 n p.1)

pub for_other : (slot n : ℕ) (e : StampedContent) → e.slot.0 ≢ slot → is_for slot n e ≡ false
for_other slot n e ne = false_from_ne_true (is_for slot n e) (λ h. ne (for_parts slot n e h).0)

pub for_late : (slot n : ℕ) (e : StampedContent) → n < e.from.0 → is_for slot n e ≡ false
for_late slot n e l = false_from_ne_true (is_for slot n e) (λ h. let p = for_parts slot n e h in absurd (omega (arith, p.1)))

-- ---- a list without stamps of a slot

pub held-none : (xs : List StampedContent) (slot n : ℕ) (c : Content) → ((k : ℕ) (d : StampedContent) → k < length xs → (get_or xs k d).slot.0 ≢ slot) → held xs slot n c ≡ c
held-none [] slot n c h = refl
held-none (e ∷ es) slot n c h = ap (λ b. held es slot n (cond b e.content c)) (for_other slot n e (h 0 e (omega arith))) ∙ held-none es slot n c (λ k d l. h (suc k) d (omega arith))

pub since-none : (xs : List StampedContent) (slot m : ℕ) → ((k : ℕ) (d : StampedContent) → k < length xs → (get_or xs k d).slot.0 ≢ slot) → since_in xs slot m ≡ m
since-none [] slot m h = refl
since-none (e ∷ es) slot m h = ap (λ b. since_in es slot (cond b e.from.0 m)) (ne_eqb e.slot.0 slot (h 0 e (omega arith))) ∙ since-none es slot m (λ k d l. h (suc k) d (omega arith))

pub rising_to : (m t : ℕ) (xs : List StampedContent) (k : ℕ) (d : StampedContent) → AreRising m t xs → k < length xs → (m < (get_or xs k d).from.0) × ((get_or xs k d).from.0 ≤ t)
rising_to m t [] k d r l = absurd (omega arith)
rising_to m t (e ∷ es) zero d r l = (r.0, r.1)
rising_to m t (e ∷ es) (suc k) d r l = rising_to m t es k d r.3 (omega arith)

-- a node that begins at the newest stamp has none
pub rising_empty : (t : ℕ) (xs : List StampedContent) → AreRising t t xs → xs ≡ []
rising_empty t [] r = refl
rising_empty t (e ∷ es) r = absurd (omega (arith, r.0, r.1))

-- behind a stamp of the newest number there is none of its slot
pub none_behind : (m t : ℕ) (e : StampedContent) (es : List StampedContent) → e.from.0 ≡ t → IsBefore e es → AreRising m t es → (k : ℕ) (d : StampedContent) → k < length es → (get_or es k d).slot.0 ≢ e.slot.0
none_behind m t e es f b r k d l s = let p = rising_to m t es k d r l in let q = b k d l s in absurd (omega (arith, p.1, q, f))

-- ---- a stamp is pushed

pub held-push : (xs : List StampedContent) (e : StampedContent) (slot n : ℕ) (c : Content) → held (xs ++ e ∷ []) slot n c ≡ cond (is_for slot n e) e.content (held xs slot n c)
held-push [] e slot n c = refl
held-push (x ∷ xs) e slot n c = held-push xs e slot n (cond (is_for slot n x) x.content c)

pub since-push : (xs : List StampedContent) (e : StampedContent) (slot m : ℕ) → since_in (xs ++ e ∷ []) slot m ≡ cond (eqb e.slot.0 slot) e.from.0 (since_in xs slot m)
since-push [] e slot m = refl
since-push (x ∷ xs) e slot m = since-push xs e slot (cond (eqb x.slot.0 slot) x.from.0 m)

-- since when the newest content is in force: the first stamp, or that of an entry
pub since-cases : (xs : List StampedContent) (slot m : ℕ) → (since_in xs slot m ≡ m) ⊎ ((k : ℕ) × (k < length xs) × ((d : StampedContent) → (get_or xs k d).slot.0 ≡ slot) × ((d : StampedContent) → (get_or xs k d).from.0 ≡ since_in xs slot m))
since-cases [] slot m = inl refl
since-cases (e ∷ es) slot m = elim (cases_Bool (eqb e.slot.0 slot)) [
  | inl p ↦ elim (since-cases es slot (cond (eqb e.slot.0 slot) e.from.0 m)) [
    | inl q ↦ inr (0, omega arith, (λ d. eqb-true e.slot.0 slot p), (λ d. sym (q ∙ ap (λ b. cond b e.from.0 m) p)))
    | inr q ↦ inr (suc q.0, omega (arith, q.1), q.2, q.3)
  ]
  | inr p ↦ elim (since-cases es slot (cond (eqb e.slot.0 slot) e.from.0 m)) [
    | inl q ↦ inl (q ∙ ap (λ b. cond b e.from.0 m) p)
    | inr q ↦ inr (suc q.0, omega (arith, q.1), q.2, q.3)
  ]
]

pub since_unstamped : (xs : List StampedContent) (slot m t : ℕ) → m < t → IsUnstamped xs slot t → since_in xs slot m ≢ t
since_unstamped xs slot m t l none e = elim (since-cases xs slot m) [
  | inl q ↦ absurd (omega arith)
  | inr q ↦ let d : StampedContent = stamped_from 0 0 Null in none q.0 d q.1 (q.2 d) (q.3 d ∙ e)
]

rising_push : (m t : ℕ) (xs : List StampedContent) (e : StampedContent) → AreRising m t xs → m < e.from.0 → e.from.0 ≡ t → IsUnstamped xs e.slot.0 t → AreRising m t (xs ++ e ∷ [])
rising_push m t [] e r l f none = (l, omega arith, (λ k d l s. absurd (omega arith)), tt)
rising_push m t (x ∷ xs) e r l f none = (r.0, r.1, before xs r.2, rising_push m t xs e r.3 l f (λ k d l s. none (suc k) d (omega arith) s))
  where
    before : (ys : List StampedContent) → IsBefore x ys → IsBefore x (ys ++ e ∷ [])
    before [] b zero d q s = ⊎_elim (λ (p : x.from.0 < e.from.0). p) (λ (p : e.from.0 ≤ x.from.0). absurd (none 0 x (omega arith) (sym s) (omega (arith, r.1)))) (cases_lt x.from.0 e.from.0)
    before [] b (suc k) d q s = absurd (omega arith)
    before (y ∷ ys) b zero d q s = b 0 d (omega arith) s
    before (y ∷ ys) b (suc k) d q s = before ys (λ k d l s. b (suc k) d (omega arith) s) k d (omega arith) s

pub rising-pushed : (m t : ℕ) (xs : List StampedContent) (e : StampedContent) → AreRising m t xs → m < e.from.0 → e.from.0 ≡ t → IsUnstamped xs e.slot.0 t → AreRising m t (xs ++ e ∷ [])
rising-pushed = rising_push

pub length-push : (xs : List StampedContent) (e : StampedContent) → length (xs ++ e ∷ []) ≡ suc (length xs)
length-push [] e = refl
length-push (x ∷ xs) e = ap suc (length-push xs e)

-- ---- a stamp's content is replaced

pub set-with_content : (xs : List StampedContent) (i : ℕ) (d : StampedContent) (c : Content) → i < length xs → set xs i (record { slot = (get_or xs i d).slot; from = (get_or xs i d).from; content = c }) ≡ with_content xs i c
set-with_content [] i d c l = absurd (omega arith)
set-with_content (x ∷ xs) zero d c l = refl
set-with_content (x ∷ xs) (suc i) d c l = ap (λ ys. x ∷ ys) (set-with_content xs i d c (omega arith))

pub length-with_content : (xs : List StampedContent) (i : ℕ) (c : Content) → length (with_content xs i c) ≡ length xs
length-with_content [] i c = refl
length-with_content (x ∷ xs) zero c = refl
length-with_content (x ∷ xs) (suc i) c = ap suc (length-with_content xs i c)

with_content-parts : (xs : List StampedContent) (i : ℕ) (c : Content) (k : ℕ) (d : StampedContent) → ((get_or (with_content xs i c) k d).slot.0 ≡ (get_or xs k d).slot.0) × ((get_or (with_content xs i c) k d).from.0 ≡ (get_or xs k d).from.0)
with_content-parts [] i c k d = (refl, refl)
with_content-parts (x ∷ xs) zero c zero d = (refl, refl)
with_content-parts (x ∷ xs) zero c (suc k) d = (refl, refl)
with_content-parts (x ∷ xs) (suc i) c zero d = (refl, refl)
with_content-parts (x ∷ xs) (suc i) c (suc k) d = with_content-parts xs i c k d

pub rising-with_content : (m t : ℕ) (xs : List StampedContent) (i : ℕ) (c : Content) → AreRising m t xs → AreRising m t (with_content xs i c)
rising-with_content m t [] i c r = tt
rising-with_content m t (x ∷ xs) zero c r = (r.0, r.1, (λ k d l s. r.2 k d l s), r.3)
rising-with_content m t (x ∷ xs) (suc i) c r = (
  r.0,
  r.1,
  (λ k d l s. let p = with_content-parts xs i c k d in let q = r.2 k d (omega (arith, l, length-with_content xs i c)) (sym p.0 ∙ s) in omega (arith, q, p.1)),
  rising-with_content m t xs i c r.3,
)

pub since-with_content : (xs : List StampedContent) (i : ℕ) (c : Content) (slot m : ℕ) → since_in (with_content xs i c) slot m ≡ since_in xs slot m
since-with_content [] i c slot m = refl
since-with_content (x ∷ xs) zero c slot m = refl
since-with_content (x ∷ xs) (suc i) c slot m = since-with_content xs i c slot (cond (eqb x.slot.0 slot) x.from.0 m)

module _ (m t : ℕ) where
  pub with_content-late : (xs : List StampedContent) (i slot : ℕ) (c : Content) (n : ℕ) (b : Content) → AreRising m t xs → IsStampAt xs i slot t → t ≤ n → held (with_content xs i c) slot n b ≡ c
  with_content-late [] i slot c n b r s l = absurd (omega (arith, s.there))
  with_content-late (e ∷ es) zero slot c n b r s l =
      let is : e.slot.0 ≡ slot = s.slot_is e in
      let f : e.from.0 ≡ t = s.from_is e in
      ap (λ k. held es slot n (cond k c b)) (for_true slot n (record { slot = e.slot; from = e.from; content = c }) is (omega arith))
      ∙ held-none es slot n c (λ k d q p. none_behind m t e es f r.2 r.3 k d q (p ∙ sym is))
  with_content-late (e ∷ es) (suc i) slot c n b r s l = with_content-late es i slot c n (cond (is_for slot n e) e.content b) r.3 (record { there = omega (arith, s.there); slot_is = s.slot_is; from_is = s.from_is }) l

  pub with_content-early : (xs : List StampedContent) (i slot : ℕ) (c : Content) (n : ℕ) (b : Content) → IsStampAt xs i slot t → n < t → held (with_content xs i c) slot n b ≡ held xs slot n b
  with_content-early [] i slot c n b s l = refl
  with_content-early (e ∷ es) zero slot c n b s l =
      let f : e.from.0 ≡ t = s.from_is e in
      ap (λ k. held es slot n (cond k c b)) (for_late slot n (record { slot = e.slot; from = e.from; content = c }) (omega arith)) ∙ ap (λ k. held es slot n (cond k e.content b)) (sym (for_late slot n e (omega arith)))
  with_content-early (e ∷ es) (suc i) slot c n b s l = with_content-early es i slot c n (cond (is_for slot n e) e.content b) (record { there = omega (arith, s.there); slot_is = s.slot_is; from_is = s.from_is }) l

  pub with_content-others : (xs : List StampedContent) (i slot : ℕ) (c : Content) (g n : ℕ) (b : Content) → IsStampAt xs i slot t → g ≢ slot → held (with_content xs i c) g n b ≡ held xs g n b
  with_content-others [] i slot c g n b s ne = refl
  with_content-others (e ∷ es) zero slot c g n b s ne =
      let is : e.slot.0 ≡ slot = s.slot_is e in
      ap (λ k. held es g n (cond k c b)) (for_other g n (record { slot = e.slot; from = e.from; content = c }) (λ p. ne (sym p ∙ is))) ∙ ap (λ k. held es g n (cond k e.content b)) (sym (for_other g n e (λ p. ne (sym p ∙ is))))
  with_content-others (e ∷ es) (suc i) slot c g n b s ne = with_content-others es i slot c g n (cond (is_for g n e) e.content b) (record { there = omega (arith, s.there); slot_is = s.slot_is; from_is = s.from_is }) ne

  pub since-stamped : (xs : List StampedContent) (i slot k : ℕ) → AreRising m t xs → IsStampAt xs i slot t → since_in xs slot k ≡ t
  since-stamped [] i slot k r s = absurd (omega (arith, s.there))
  since-stamped (e ∷ es) zero slot k r s =
      let is : e.slot.0 ≡ slot = s.slot_is e in
      let f : e.from.0 ≡ t = s.from_is e in
      ap (λ b. since_in es slot (cond b e.from.0 k)) (eq-eqb e.slot.0 slot is) ∙ since-none es slot e.from.0 (λ k d q p. none_behind m t e es f r.2 r.3 k d q (p ∙ sym is)) ∙ f
  since-stamped (e ∷ es) (suc i) slot k r s = since-stamped es i slot (cond (eqb e.slot.0 slot) e.from.0 k) r.3 (record { there = omega (arith, s.there); slot_is = s.slot_is; from_is = s.from_is })
