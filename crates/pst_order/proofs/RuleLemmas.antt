use Rattle.std.proofs.Common.{◌≡◌, ℕ, suc, ◌+◌, ◌-◌, ◌*◌, ◌%◌, ◌<◌, ◌≤◌, [], ◌∷◌, get_or, refl, subst, ◌⊎◌, ⊎_elim, arith}
use Rattle.std.proofs.lemmas.Bool.{cases_lt, cases_eq, lt-ltb, le-ltb}
use Rattle.pst_order.specs.Labels.{circle, ahead, label_of, reach, LeastLaw, AheadLaw}
use Rattle.pst_order.proofs.NumberLemmas.{ahead_cases, wrap_cases}

pub least : LeastLaw
least labels a [] k i l h = absurd (omega arith)
least labels a (q ∷ qs) k i l h =
    ⊎_elim
    (λ (t : k * k < ahead a (label_of labels q)).
    let e : reach labels a (q ∷ qs) k ≡ k = rw (lt-ltb (k * k) (ahead a (label_of labels q)) t) refl in
    absurd (omega arith))
    (λ (t : ahead a (label_of labels q) ≤ k * k).
    let e : reach labels a (q ∷ qs) k ≡ reach labels a qs (suc k) = rw (le-ltb (k * k) (ahead a (label_of labels q)) t) refl in
    ⊎_elim
    (λ (u : k ≡ i).
    let z : k - k ≡ 0 = omega arith in
    let t' : ahead a (label_of labels (get_or (q ∷ qs) (k - k) 0)) ≤ k * k = rw z t in
    subst (λ (n : ℕ). ahead a (label_of labels (get_or (q ∷ qs) (n - k) 0)) ≤ n * n) u t')
    (λ (u : k ≡ i → ⊥).
    let z : i - k ≡ suc (i - suc k) = omega (arith, u) in
    let r : ahead a (label_of labels (get_or qs (i - suc k) 0)) ≤ i * i = least labels a qs (suc k) i (omega (arith, u)) (omega arith) in
    rw z r)
    (cases_eq k i))
    (cases_lt (k * k) (ahead a (label_of labels q)))

pub ahead_law : AheadLaw
ahead_law a b l m =
    let w : ((b + circle - a < circle) × ((b + circle - a) % circle ≡ b + circle - a))
    ⊎ ((circle ≤ b + circle - a) × ((b + circle - a) % circle + circle ≡ b + circle - a)) = wrap_cases circle (b + circle - a) (omega arith) in
    (λ (n : a ≡ b → ⊥). omega (arith, n, w, ahead_cases a b l), λ (e : a ≡ b). omega (arith, ahead_cases a b l))
