use Rattle.std.proofs.Common.{◌≡◌, ℕ, zero, suc, ◌<◌, ◌≤◌, ◌≢◌, List, [], ◌∷◌, ◌++◌, length, get_or, set, take, drop, refl, sym, ◌∙◌, ap, subst, ⊎_elim, arith, append-nil, append_assoc}
use Rattle.std.proofs.lemmas.Bool.{cases_eq}
use Rattle.std.proofs.lemmas.List.{get_or_append_left, get_or-set_other}
use Rattle.pst_order.specs.Places.{rank, AreBelow, AreDistinct}
use Rattle.pst_order.specs.Labels.{walk, AreLinked}

pub AreBelow-get : (n : ℕ) (xs : List ℕ) (i : ℕ) → AreBelow n xs → i < length xs → get_or xs i 0 < n
AreBelow-get n [] i b l = absurd (omega arith)
AreBelow-get n (x ∷ xs) zero b l = b.0
AreBelow-get n (x ∷ xs) (suc i) b l = AreBelow-get n xs i b.1 (omega arith)

pub AreBelow-set : (n : ℕ) (xs : List ℕ) (i v : ℕ) → AreBelow n xs → v < n → AreBelow n (set xs i v)
AreBelow-set n [] i v b l = tt
AreBelow-set n (x ∷ xs) zero v b l = (l, b.1)
AreBelow-set n (x ∷ xs) (suc i) v b l = (b.0, AreBelow-set n xs i v b.1 l)

pub AreBelow-push : (n : ℕ) (xs : List ℕ) (v : ℕ) → AreBelow n xs → v < n → AreBelow n (xs ++ v ∷ [])
AreBelow-push n [] v b l = (l, tt)
AreBelow-push n (x ∷ xs) v b l = (b.0, AreBelow-push n xs v b.1 l)

pub AreBelow-left : (n : ℕ) (xs ys : List ℕ) → AreBelow n (xs ++ ys) → AreBelow n xs
AreBelow-left n [] ys b = tt
AreBelow-left n (x ∷ xs) ys b = (b.0, AreBelow-left n xs ys b.1)

pub AreBelow-right : (n : ℕ) (xs ys : List ℕ) → AreBelow n (xs ++ ys) → AreBelow n ys
AreBelow-right n [] ys b = b
AreBelow-right n (x ∷ xs) ys b = AreBelow-right n xs ys b.1

pub AreBelow-rank : (n : ℕ) (xs : List ℕ) (p : ℕ) → AreBelow n xs → rank xs p < length xs → p < n
AreBelow-rank n [] p b l = absurd (omega arith)
AreBelow-rank n (x ∷ xs) p b l =
    ⊎_elim
    (λ (e : x ≡ p). subst (λ (t : ℕ). t < n) e b.0)
    (λ (ne : x ≡ p → ⊥). let l' : rank xs p < length xs = grind (arith, ne) in AreBelow-rank n xs p b.1 l')
    (cases_eq x p)

pub rank_le : (xs : List ℕ) (p : ℕ) → rank xs p ≤ length xs
rank_le [] p = omega arith
rank_le (q ∷ xs) p = let h : rank xs p ≤ length xs = rank_le xs p in grind arith

pub get-rank : (xs : List ℕ) (p : ℕ) → rank xs p < length xs → get_or xs (rank xs p) 0 ≡ p
get-rank [] p l = absurd (omega arith)
get-rank (x ∷ xs) p l = let h : rank xs p < length xs → get_or xs (rank xs p) 0 ≡ p = get-rank xs p in grind arith

pub rank_inj : (xs : List ℕ) (a b : ℕ) → rank xs a < length xs → rank xs a ≡ rank xs b → a ≡ b
rank_inj xs a b l e = sym (get-rank xs a l) ∙ (ap (λ (i : ℕ). get_or xs i 0) e ∙ get-rank xs b (omega arith))

pub split_at : (xs : List ℕ) (p : ℕ) → rank xs p < length xs → xs ≡ take (rank xs p) xs ++ p ∷ drop (suc (rank xs p)) xs
split_at [] p l = absurd (omega arith)
split_at (x ∷ xs) p l = let h : rank xs p < length xs → xs ≡ take (rank xs p) xs ++ p ∷ drop (suc (rank xs p)) xs = split_at xs p in grind arith

-- what is kept where the first goes last holds of each rotation
pub rotate : (P : List ℕ → Type 0) → ((x : ℕ) (xs : List ℕ) → P (x ∷ xs) → P (xs ++ x ∷ [])) → (xs ys : List ℕ) → P (xs ++ ys) → P (ys ++ xs)
rotate P step [] ys p = subst P (sym (append-nil ys)) p
rotate P step (x ∷ xs) ys p =
    let a : P (xs ++ (ys ++ x ∷ [])) = subst P (append_assoc xs ys (x ∷ [])) (step x (xs ++ ys) p) in
    subst P (append_assoc ys (x ∷ []) xs) (rotate P step xs (ys ++ x ∷ []) a)

pub rank_push : (xs : List ℕ) (x q : ℕ) → q ≢ x → rank xs q ≡ length xs → rank (xs ++ x ∷ []) q ≡ length (xs ++ x ∷ [])
rank_push [] x q n e = grind arith
rank_push (y ∷ xs) x q n e = let h : rank xs q ≡ length xs → rank (xs ++ x ∷ []) q ≡ length (xs ++ x ∷ []) = rank_push xs x q n in let l : rank xs q ≤ length xs = rank_le xs q in grind arith

pub AreDistinct-push : (xs : List ℕ) (x : ℕ) → rank xs x ≡ length xs → AreDistinct xs → AreDistinct (xs ++ x ∷ [])
AreDistinct-push [] x f d = (refl, tt)
AreDistinct-push (q ∷ xs) x f d =
    let l : rank xs x ≤ length xs = rank_le xs x in
    let n : q ≢ x = λ (e : q ≡ x). grind arith in
    (rank_push xs x q n d.0, AreDistinct-push xs x (grind arith) d.1)

pub AreDistinct-step : (x : ℕ) (xs : List ℕ) → AreDistinct (x ∷ xs) → AreDistinct (xs ++ x ∷ [])
AreDistinct-step x xs d = AreDistinct-push xs x d.0 d.1

pub rank_left : (xs ys : List ℕ) (q : ℕ) → rank (xs ++ ys) q ≡ length (xs ++ ys) → rank xs q ≡ length xs
rank_left [] ys q e = refl
rank_left (x ∷ xs) ys q e = let h : rank (xs ++ ys) q ≡ length (xs ++ ys) → rank xs q ≡ length xs = rank_left xs ys q in grind arith

pub rank_right : (xs ys : List ℕ) (q : ℕ) → rank (xs ++ ys) q ≡ length (xs ++ ys) → rank ys q ≡ length ys
rank_right [] ys q e = e
rank_right (x ∷ xs) ys q e = let h : rank (xs ++ ys) q ≡ length (xs ++ ys) = grind arith in rank_right xs ys q h

pub AreDistinct-left : (xs ys : List ℕ) → AreDistinct (xs ++ ys) → AreDistinct xs
AreDistinct-left [] ys d = tt
AreDistinct-left (x ∷ xs) ys d = (rank_left xs ys x d.0, AreDistinct-left xs ys d.1)

-- what stands in the second part doesn't stand in the first
pub apart : (xs ys : List ℕ) (q : ℕ) → AreDistinct (xs ++ ys) → rank ys q < length ys → rank xs q ≡ length xs
apart [] ys q d l = refl
apart (x ∷ xs) ys q d l =
    let h : rank xs q ≡ length xs = apart xs ys q d.1 l in
    ⊎_elim
    (λ (e : x ≡ q). absurd (let r : rank ys x ≡ length ys = rank_right xs ys x d.0 in let r' : rank ys q ≡ length ys = subst (λ (t : ℕ). rank ys t ≡ length ys) e r in omega arith))
    (λ (ne : x ≡ q → ⊥). grind (arith, ne))
    (cases_eq x q)

pub length-walk : (next : List ℕ) (n p : ℕ) → length (walk next n p) ≡ n
length-walk next zero p = refl
length-walk next (suc n) p = ap suc (length-walk next n (get_or next p 0))

pub walk_step : (next : List ℕ) (n p i : ℕ) → suc i < n → get_or (walk next n p) (suc i) 0 ≡ get_or next (get_or (walk next n p) i 0) 0
walk_step next zero p i l = absurd (omega arith)
walk_step next (suc zero) p i l = absurd (omega arith)
walk_step next (suc (suc n)) p zero l = refl
walk_step next (suc (suc n)) p (suc i) l = walk_step next (suc n) (get_or next p 0) i (omega arith)

pub walk_below : (next : List ℕ) (n p : ℕ) → AreBelow (length next) next → p < length next → AreBelow (length next) (walk next n p)
walk_below next zero p b l = tt
walk_below next (suc n) p b l = (l, walk_below next n (get_or next p 0) b (AreBelow-get (length next) next p b l))

pub linked_walk : (next : List ℕ) (qs : List ℕ) (p : ℕ) → AreLinked next p qs → walk next (length qs) (get_or next p 0) ≡ qs
linked_walk next [] p k = refl
linked_walk next (q ∷ qs) p k =
    let e : get_or next p 0 ≡ q = k.0 in
    rw e (ap (λ (t : List ℕ). q ∷ t) (linked_walk next qs q k.1))

pub linked_left : (next : List ℕ) (xs ys : List ℕ) (p : ℕ) → AreLinked next p (xs ++ ys) → AreLinked next p xs
linked_left next [] ys p k = tt
linked_left next (x ∷ xs) ys p k = (k.0, linked_left next xs ys x k.1)

pub linked_push : (next : List ℕ) (qs : List ℕ) (r s p : ℕ) → AreLinked next p (qs ++ r ∷ []) → get_or next r 0 ≡ s → AreLinked next p ((qs ++ r ∷ []) ++ s ∷ [])
linked_push next [] r s p k e = (k.0, (e, tt))
linked_push next (q ∷ qs) r s p k e = (k.0, linked_push next qs r s q k.1 e)

-- the links behind a place that is put in behind p stay
pub linked_kept : (next : List ℕ) (p v z : ℕ) (qs : List ℕ) (q : ℕ) → rank (q ∷ qs) p ≡ length (q ∷ qs) → AreBelow (length next) (q ∷ qs)
    → AreLinked next q (qs ++ p ∷ []) → AreLinked (set (next ++ v ∷ []) p z) q (qs ++ p ∷ [])
linked_kept next p v z [] q f b k =
    let ne : q ≢ p = λ (e : q ≡ p). grind arith in
    (get_or-set_other (next ++ v ∷ []) p q z 0 ne ∙ (get_or_append_left next (v ∷ []) 0 q b.0 ∙ k.0), tt)
linked_kept next p v z (q' ∷ qs) q f b k =
    let ne : q ≢ p = λ (e : q ≡ p). grind arith in
    let f' : rank (q' ∷ qs) p ≡ length (q' ∷ qs) = grind (arith, ne) in
    (get_or-set_other (next ++ v ∷ []) p q z 0 ne ∙ (get_or_append_left next (v ∷ []) 0 q b.0 ∙ k.0), linked_kept next p v z qs q' f' b.1 k.1)
