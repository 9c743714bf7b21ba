-- A list of places that are named by their positions, and one more behind the last.
use Rattle.std.proofs.Common.{◌≡◌, ◌≢◌, cond, ℕ, suc, ◌<◌, ◌≤◌, List, [], ◌∷◌, ◌++◌, length, refl, sym, ap, ◌∙◌, subst, ⊎_elim, arith}
use Rattle.std.proofs.lemmas.Bool.{cases_eq, cases_lt, ne_eqb}
use Rattle.std.proofs.lemmas.List.Edits.{insert_end}
use Rattle.std.specs.List.{insert}
use Rattle.pst_base.proofs.Below.{length-listed}
use Rattle.pst_order.specs.Places.{rank, IsIn, AreNumbered, AreBelow, IsInsertedAfter}
use Rattle.pst_image_meaning.specs.Denoted.{places_of}
use Rattle.pst_image_meaning.proofs.Places.{rank-listed}
use Rattle.pst_image_unpack.proofs.Lists.{listed-snoc}

length_snoc : (xs : List ℕ) (x : ℕ) → length (xs ++ x ∷ []) ≡ suc (length xs)
length_snoc [] x = refl
length_snoc (y ∷ xs) x = ap suc (length_snoc xs x)

below_last : (n z : ℕ) (xs : List ℕ) → AreBelow n (xs ++ z ∷ []) → z < n
below_last n z [] h = h.0
below_last n z (x ∷ xs) h = below_last n z xs h.1

-- a list of one place has place 0
pub one_place : (ps : List ℕ) → length ps ≡ 1 → AreNumbered ps → ps ≡ places_of 1
one_place [] e h = absurd (omega (arith, e))
one_place (p ∷ []) e h = let zero_is : p ≡ 0 = omega (arith, h.small.0) in ap (λ q. q ∷ []) zero_is
one_place (p ∷ (q ∷ ps)) e h = absurd (omega (arith, e))

-- the one at position 0 there is place 0
pub only_place : (ps : List ℕ) (p : ℕ) → length ps ≡ 1 → AreNumbered ps → rank ps p ≡ 0 → p ≡ 0
only_place [] p e h at = absurd (omega (arith, e))
only_place (q ∷ []) p e h at = ⊎_elim
    (λ (same : q ≡ p). omega (arith, h.small.0, same))
    (λ (other : q ≢ p). absurd (let one : rank (q ∷ []) p ≡ 1 = ap (λ b. cond b 0 1) (ne_eqb q p other) in omega (arith, one, at)))
    (cases_eq q p)
only_place (q ∷ (r ∷ ps)) p e h at = absurd (omega (arith, e))

-- the last one is there
pub last_there : (ps : List ℕ) (last : ℕ) → ps ≡ places_of (suc last) → IsIn ps last
last_there ps last e =
    let stands : rank ps last ≡ last = ap (λ (qs : List ℕ). rank qs last) e ∙ rank-listed (suc last) (λ k. k) (λ a b e. e) last (omega arith) in
    let many : length ps ≡ suc last = ap length e ∙ length-listed (suc last) (λ k. k) in
    record { there = omega (arith, stands, many) }

pub place_count : (ps : List ℕ) (n : ℕ) → ps ≡ places_of n → length ps ≡ n
place_count ps n e = ap length e ∙ length-listed n (λ k. k)

-- one more, behind the last one
pub next_place : (old new : List ℕ) (k z : ℕ) → old ≡ places_of (suc k) → IsInsertedAfter old new k z → AreNumbered new → (z ≡ suc k) × (new ≡ places_of (suc (suc k)))
next_place old new k z o i h =
    let len : length old ≡ suc k = ap length o ∙ length-listed (suc k) (λ j. j) in
    let stands : rank old k ≡ k = ap (λ (qs : List ℕ). rank qs k) o ∙ rank-listed (suc k) (λ j. j) (λ a b e. e) k (omega arith) in
    let grown : new ≡ old ++ z ∷ [] = i.list ∙ ap (λ n. insert old n z) (let same : suc (rank old k) ≡ length old = omega (arith, stands, len) in same) ∙ insert_end old z in
    let many : length new ≡ suc (suc k) = ap length grown ∙ (let P : ℕ → Type 0 = λ n. length (old ++ z ∷ []) ≡ suc n in subst P len (length_snoc old z)) in
    let small : z < suc (suc k) = let P : List ℕ → Type 0 = λ qs. AreBelow (suc (suc k)) qs in
    below_last (suc (suc k)) z old (subst P grown (let Q : ℕ → Type 0 = λ n. AreBelow n new in subst Q many h.small)) in
    let is : z ≡ suc k = ⊎_elim
    (λ (lt : z < suc k). absurd (let at : rank old z ≡ z = ap (λ (qs : List ℕ). rank qs z) o ∙ rank-listed (suc k) (λ j. j) (λ a b e. e) z lt in let out = i.fresh in omega (arith, at, out, len, lt)))
    (λ (le : suc k ≤ z). omega (arith, le, small))
    (cases_lt z (suc k)) in
    (is, grown ∙ ap (λ (qs : List ℕ). qs ++ z ∷ []) o ∙ ap (λ q. places_of (suc k) ++ q ∷ []) is ∙ sym (listed-snoc (suc k) (λ j. j)))
