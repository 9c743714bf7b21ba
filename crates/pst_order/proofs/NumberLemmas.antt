use Rattle.std.proofs.Common.{◌≡◌, ℕ, zero, suc, ◌+◌, ◌-◌, ◌*◌, ◌/◌, ◌%◌, ◌<◌, ◌≤◌, refl, sym, subst, ◌⊎◌, inl, inr, ⊎_elim, arith}
use Rattle.std.proofs.lemmas.Bool.{cases_lt, lt-ltb, le-ltb}
use Rattle.std.proofs.lemmas.Nat.{mod-mul-add, div-mul-add, le-div, div-add-mod'}
use Rattle.std.proofs.Math.Nat.{div-le_of_le-mul, mul-le-mul_left}
use Rattle.pst_order.specs.Labels.{circle, ahead}

pub circle_is : circle ≡ 4611686018427387904
unfolding circle
circle_is = refl

pub wrap_low : (c s : ℕ) → s < c → s % c ≡ s
wrap_low c s l =
    let e : 0 * c + s ≡ s = omega arith in
    subst (λ (t : ℕ). t % c ≡ s) e (mod-mul-add 0 c s l)

pub wrap_high : (c s b : ℕ) → s ≡ c + b → b < c → s % c ≡ b
wrap_high c s b e l =
    let e' : 1 * c + b ≡ s = omega arith in
    subst (λ (t : ℕ). t % c ≡ b) e' (mod-mul-add 1 c b l)

-- a sum that goes round once at most
pub wrap_cases : (c s : ℕ) → s < c + c → ((s < c) × (s % c ≡ s)) ⊎ ((c ≤ s) × (s % c + c ≡ s))
wrap_cases c s l =
    ⊎_elim
    (λ (h : s < c). inl (h, wrap_low c s h))
    (λ (h : c ≤ s).
    let e : s % c ≡ s - c = wrap_high c s (s - c) (omega arith) (omega arith) in
    let r : s % c + c ≡ s = omega arith in
    inr (h, r))
    (cases_lt s c)

pub ahead_cases : (a b : ℕ) → a < circle → ((a < b) × (ahead a b + a ≡ b)) ⊎ ((b ≤ a) × (ahead a b + a ≡ b + circle))
ahead_cases a b l =
    ⊎_elim
    (λ (h : a < b). let r : ahead a b + a ≡ b = rw (lt-ltb a b h) (omega arith) in inl (h, r))
    (λ (h : b ≤ a). let r : ahead a b + a ≡ b + circle = rw (le-ltb a b h) (omega arith) in inr (h, r))
    (cases_lt a b)

pub ahead_some : (a b : ℕ) → a < circle → 1 ≤ ahead a b
ahead_some a b l = omega (arith, ahead_cases a b l)

pub ahead_low : (a b : ℕ) → a < circle → b < circle → ahead a b ≤ circle
ahead_low a b l k = omega (arith, ahead_cases a b l)

pub ahead_self : (a : ℕ) → a < circle → ahead a a ≡ circle
ahead_self a l = omega (arith, ahead_cases a a l)

-- two ways in a row
pub ahead-ahead : (a b d : ℕ) → a < circle → b < circle → d < circle → ahead a b + ahead b d ≤ circle → ahead a b + ahead b d ≡ ahead a d
ahead-ahead a b d l k m s = omega (arith, ahead_cases a b l, ahead_cases b d k, ahead_cases a d l)

-- the label that is so far ahead
pub ahead_back : (a b : ℕ) → a < circle → b < circle → (a + ahead a b) % circle ≡ b
ahead_back a b l k = omega (arith, ahead_cases a b l, wrap_cases circle (a + ahead a b) (omega (arith, ahead_cases a b l)))

pub ahead_between : (a u v : ℕ) → a < circle → u < v → v ≤ circle → ahead ((a + u) % circle) ((a + v) % circle) + u ≡ v
ahead_between a u v l m n =
    let p : ((a + u < circle) × ((a + u) % circle ≡ a + u)) ⊎ ((circle ≤ a + u) × ((a + u) % circle + circle ≡ a + u)) = wrap_cases circle (a + u) (omega arith) in
    let q : ((a + v < circle) × ((a + v) % circle ≡ a + v)) ⊎ ((circle ≤ a + v) × ((a + v) % circle + circle ≡ a + v)) = wrap_cases circle (a + v) (omega arith) in
    omega (arith, p, q, ahead_cases ((a + u) % circle) ((a + v) % circle) (omega (arith, p)))

pub share_rises : (w k j : ℕ) → 0 < j → j ≤ w → w * k / j < w * suc k / j
share_rises w k j l m =
    let e : w * k / j * j + w * k % j ≡ w * k = div-add-mod' (w * k) j in
    let s : suc (w * k / j) * j ≤ w * suc k = grind arith in
    le-div (suc (w * k / j)) (w * suc k) j l s

pub share_all : (w j : ℕ) → 0 < j → w * j / j ≡ w
share_all w j l =
    let e : w * j + 0 ≡ w * j = omega arith in
    subst (λ (t : ℕ). t / j ≡ w) e (div-mul-add w j 0 l)

pub share_low : (w k d j : ℕ) → k + d ≡ j → 0 < j → j ≤ w → w * k / j ≤ w
share_low w k zero j e l m = let s : w * j / j ≡ w = share_all w j l in let e' : k ≡ j = omega arith in subst (λ (t : ℕ). w * t / j ≤ w) (sym e') (omega arith)
share_low w k (suc d) j e l m =
    let h : w * suc k / j ≤ w = share_low w (suc k) d j (omega arith) l m in
    omega (arith, share_rises w k j l m)

-- what is made up of so many wholes, and of less than one more, is so many when divided
pub share_is : (w k j whole parts : ℕ) → whole * j + parts ≡ w * k → parts < j → w * k / j ≡ whole
share_is w k j whole parts e l = subst (λ (t : ℕ). t / j ≡ whole) e (div-mul-add whole j parts l)

-- no share is more than the whole width
pub share_within : (w k j : ℕ) → k ≤ j → w * k / j ≤ w
share_within w k j l =
    let m : w * k ≤ w * j = mul-le-mul_left w l in
    let n : w * k ≤ j * w = grind arith in
    div-le_of_le-mul j n

-- the next share is reached by adding the first
pub share_next : (w k j whole parts whole' parts' : ℕ) → whole * j + parts ≡ w * k → whole' * j + parts' ≡ (whole * j + parts) + (w / j * j + w % j) → whole' * j + parts' ≡ w * (k + 1)
share_next w k j whole parts whole' parts' e f =
    let d : w / j * j + w % j ≡ w = div-add-mod' w j in
    let m : w * (k + 1) ≡ w * k + w = grind arith in
    omega (arith, d, e, f, m)

-- more than j * j leaves more than one for each share
pub share_more : (w j : ℕ) → 1 ≤ j → j * j < w → (2 ≤ w * 1 / j) × (j ≤ w)
share_more w zero l m = absurd (omega arith)
share_more w (suc zero) l m = let two : 2 * 1 ≤ w * 1 = omega arith in (le-div 2 (w * 1) 1 (omega arith) two, omega arith)
share_more w (suc (suc i)) l m =
    let e : suc (suc i) * suc (suc i) ≡ i * i + 4 * i + 4 = grind arith in
    let two : 2 * suc (suc i) ≤ w * 1 = omega arith in
    (le-div 2 (w * 1) (suc (suc i)) (omega arith) two, omega arith)

pub square_le : (k m : ℕ) → k ≤ m → k * k ≤ m * m
square_le k m l =
    let d : ℕ = m - k in
    let e : (k + d) * (k + d) ≡ k * k + (2 * (k * d) + d * d) = grind arith in
    let s : k + d ≡ m = omega arith in
    subst (λ (t : ℕ). k * k ≤ t * t) s (omega (arith, e))
