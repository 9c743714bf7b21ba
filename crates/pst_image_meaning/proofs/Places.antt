-- Places that are named by their positions.
use Rattle.std.proofs.Common.{◌≡◌, ℕ, zero, suc, ◌<◌, ◌∷◌, cond, refl, ap, ◌∙◌, arith}
use Rattle.std.proofs.lemmas.Bool.{eq-eqb, ne_eqb}
use Rattle.pst_base.specs.Below.{listed}
use Rattle.pst_order.specs.Places.{rank}

-- where the places differ, each stands where it is listed
pub rank-listed : (n : ℕ) (f : ℕ → ℕ) → ((a b : ℕ) → f a ≡ f b → a ≡ b) → (k : ℕ) → k < n → rank (listed n f) (f k) ≡ k
rank-listed zero f one k l = absurd (omega arith)
rank-listed (suc n) f one zero l = ap (λ b. cond b 0 (suc (rank (listed n (λ k. f (suc k))) (f 0)))) (eq-eqb (f 0) (f 0) refl)
rank-listed (suc n) f one (suc k) l =
    ap (λ b. cond b 0 (suc (rank (listed n (λ k. f (suc k))) (f (suc k))))) (ne_eqb (f 0) (f (suc k)) (λ e. let z : 0 ≡ suc k = one 0 (suc k) e in omega (arith, z)))
    ∙ ap suc (rank-listed n (λ k. f (suc k)) (λ a b e. let z : suc a ≡ suc b = one (suc a) (suc b) e in omega (arith, z)) k (omega (arith, l)))
