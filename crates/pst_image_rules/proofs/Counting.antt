-- How many of a range have a property: none, just one, or more.
use Rattle.std.proofs.Common.{◌≡◌, ◌≢◌, ℕ, ◌+◌, ◌<◌, ◌≤◌, Bool, true, false, refl, subst, arith, ◌⊎◌, inl, inr}
use Rattle.std.specs.Prelude.{IsTrue, ◌↔◌}
use Rattle.std.proofs.lemmas.Bool.{cases_eq}
use Rattle.pst_image_rules.specs.Mirror.{IsOneOf}
use Rattle.pst_image_rules.specs.Sides.{IsCounted}

below_or : (i n : ℕ) → i < n + 1 → (i ≡ n) ⊎ (i < n)
below_or i n lt = by (cases_eq i n)
  where
    by : (i ≡ n) ⊎ (i ≢ n) → (i ≡ n) ⊎ (i < n)
    by (inl e) = inl e
    by (inr e) = inr (omega arith)

pub none_counted : (P : ℕ → Type 0) (from : ℕ) → IsCounted P from from false
none_counted P from = record { count = λ t low high p. omega arith }

pub first_counted : (P : ℕ → Type 0) (from n : ℕ) → from ≤ n → IsCounted P from n false → P n → IsCounted P from (n + 1) true
first_counted P from n low h p = record { count = (n, low, omega arith, p, λ t t_low t_high q. by t t_low q (below_or t n t_high)) }
  where
    by : (t : ℕ) → from ≤ t → P t → (t ≡ n) ⊎ (t < n) → t ≡ n
    by t t_low q (inl is) = is
    by t t_low q (inr lt) = absurd (h.count t t_low lt q)

pub passed_over : (P : ℕ → Type 0) (from n : ℕ) (found : Bool) → IsCounted P from n found → (P n → ⊥) → IsCounted P from (n + 1) found
passed_over P from n false h not = record { count = λ t low high p. by t low p (below_or t n high) }
  where
    by : (t : ℕ) → from ≤ t → P t → (t ≡ n) ⊎ (t < n) → ⊥
    by t low p (inl is) = not (subst P is p)
    by t low p (inr lt) = h.count t low lt p
passed_over P from n true h not = record { count = (h.count.0, h.count.1, omega (arith, h.count.2), h.count.3, λ t low high p. by t low p (below_or t n high)) }
  where
    by : (t : ℕ) → from ≤ t → P t → (t ≡ n) ⊎ (t < n) → t ≡ h.count.0
    by t low p (inl is) = absurd (not (subst P is p))
    by t low p (inr lt) = h.count.4 t low lt p

-- a second one
pub two_of : (P : ℕ → Type 0) (from n to : ℕ) → from ≤ n → n < to → IsCounted P from n true → P n → IsOneOf P from to → ⊥
two_of P from n to low high h p one =
    let first = one.4 h.count.0 h.count.1 (omega (arith, h.count.2)) h.count.3 in
    omega (arith, first, one.4 n low high p, h.count.2)

pub is_one : (P : ℕ → Type 0) (from n to : ℕ) (found : Bool) → IsCounted P from n found → n ≡ to → IsTrue found ↔ IsOneOf P from to
is_one P from n to true h is = (λ t. subst (λ (m : ℕ). IsOneOf P from m) is h.count, λ one. refl)
is_one P from n to false h is = (λ t. absurd (never t), λ one. absurd (h.count one.0 one.1 (omega (arith, one.2)) one.3))
  where
    never : false ≡ true → ⊥
    never e = absurd cc
