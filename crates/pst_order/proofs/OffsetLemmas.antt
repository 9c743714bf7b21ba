use Rattle.std.proofs.Common.{◌≡◌, ℕ, zero, suc, ◌+◌, ◌-◌, ◌<◌, ◌≤◌, ◌≢◌, ◌↔◌, List, [], ◌∷◌, ◌++◌, length, get_or, ap, subst, ◌⊎◌, inl, inr, ⊎_elim, arith}
use Rattle.std.proofs.lemmas.Bool.{cases_lt, cases_eq}
use Rattle.pst_order.specs.Places.{rank, AreBelow}
use Rattle.pst_order.specs.Labels.{circle, ahead, label_of, offset, walk, trip, IsRound, IsRing}
use Rattle.pst_order.proofs.NumberLemmas.{ahead_cases, ahead_some, wrap_cases}
use Rattle.pst_order.proofs.ListLemmas.{rank_inj}
use Rattle.pst_order.proofs.RingLemmas.{label_low}

pub offset_cases : (labels : List ℕ) (p : ℕ) → AreBelow circle labels
    → ((label_of labels 0 ≤ label_of labels p) × (offset labels p + label_of labels 0 ≡ label_of labels p))
    ⊎ ((label_of labels p < label_of labels 0) × (offset labels p + label_of labels 0 ≡ label_of labels p + circle))
offset_cases labels p b =
    let l0 : label_of labels 0 < circle = label_low labels 0 b in
    let lp : label_of labels p < circle = label_low labels p b in
    let w : ((label_of labels p + circle - label_of labels 0 < circle) × (offset labels p ≡ label_of labels p + circle - label_of labels 0))
    ⊎ ((circle ≤ label_of labels p + circle - label_of labels 0) × (offset labels p + circle ≡ label_of labels p + circle - label_of labels 0)) =
    wrap_cases circle (label_of labels p + circle - label_of labels 0) (omega arith) in
    ⊎_elim
    (λ (h : label_of labels p < label_of labels 0). inr (h, omega (arith, w)))
    (λ (h : label_of labels 0 ≤ label_of labels p). inl (h, omega (arith, w)))
    (cases_lt (label_of labels p) (label_of labels 0))

pub offset_next : (labels : List ℕ) (p q : ℕ) → AreBelow circle labels → offset labels p + ahead (label_of labels p) (label_of labels q) < circle
    → offset labels q ≡ offset labels p + ahead (label_of labels p) (label_of labels q)
offset_next labels p q b l =
    let lp : label_of labels p < circle = label_low labels p b in
    let lq : label_of labels q < circle = label_low labels q b in
    omega (arith, offset_cases labels p b, offset_cases labels q b, ahead_cases (label_of labels p) (label_of labels q) lp)

trip_some : (labels : List ℕ) (qs : List ℕ) (p r : ℕ) → AreBelow circle labels → 1 ≤ trip labels p (qs ++ r ∷ [])
trip_some labels [] p r b = omega (arith, ahead_some (label_of labels p) (label_of labels r) (label_low labels p b))
trip_some labels (q ∷ qs) p r b = omega (arith, ahead_some (label_of labels p) (label_of labels q) (label_low labels p b))

pub offsets_rise : (labels : List ℕ) → AreBelow circle labels → (qs : List ℕ) (p r a : ℕ) → offset labels p + trip labels p (qs ++ r ∷ []) ≤ circle
    → rank qs a < length qs → offset labels p < offset labels a
offsets_rise labels b [] p r a l h = absurd (omega arith)
offsets_rise labels b (q ∷ qs) p r a l h =
    let s : 1 ≤ trip labels q (qs ++ r ∷ []) = trip_some labels qs q r b in
    let f : 1 ≤ ahead (label_of labels p) (label_of labels q) = ahead_some (label_of labels p) (label_of labels q) (label_low labels p b) in
    let e : offset labels q ≡ offset labels p + ahead (label_of labels p) (label_of labels q) = offset_next labels p q b (omega arith) in
    ⊎_elim
    (λ (u : q ≡ a). subst (λ (t : ℕ). offset labels p < offset labels t) u (omega arith))
    (λ (ne : q ≡ a → ⊥).
    let h' : rank qs a < length qs = grind (arith, ne) in
    let i : offset labels q < offset labels a = offsets_rise labels b qs q r a (omega arith) h' in
    omega arith)
    (cases_eq q a)

pub offsets_ordered : (labels : List ℕ) → AreBelow circle labels → (qs : List ℕ) (p r x y : ℕ)
    → offset labels p + trip labels p (qs ++ r ∷ []) ≤ circle → rank (p ∷ qs) x < rank (p ∷ qs) y → rank (p ∷ qs) y < length (p ∷ qs)
    → offset labels x < offset labels y
offsets_ordered labels b [] p r x y l h k = absurd (omega arith)
offsets_ordered labels b (q ∷ qs) p r x y l h k =
    ⊎_elim
    (λ (u : p ≡ x).
    let k' : rank (q ∷ qs) y < length (q ∷ qs) = grind arith in
    subst (λ (t : ℕ). offset labels t < offset labels y) u (offsets_rise labels b (q ∷ qs) p r y l k'))
    (λ (ne : p ≡ x → ⊥).
    let s : 1 ≤ trip labels q (qs ++ r ∷ []) = trip_some labels qs q r b in
    let e : offset labels q ≡ offset labels p + ahead (label_of labels p) (label_of labels q) = offset_next labels p q b (omega arith) in
    let h' : rank (q ∷ qs) x < rank (q ∷ qs) y = after p q qs x y ne h in
    let k' : rank (q ∷ qs) y < length (q ∷ qs) = after_there p q qs x y ne h k in
    offsets_ordered labels b qs q r x y (omega arith) h' k')
    (cases_eq p x)
  where
    after : (p q : ℕ) (qs : List ℕ) (x y : ℕ) → p ≢ x → rank (p ∷ q ∷ qs) x < rank (p ∷ q ∷ qs) y → rank (q ∷ qs) x < rank (q ∷ qs) y
    after p q qs x y ne h = grind (arith, ne)

    after_there : (p q : ℕ) (qs : List ℕ) (x y : ℕ) → p ≢ x → rank (p ∷ q ∷ qs) x < rank (p ∷ q ∷ qs) y → rank (p ∷ q ∷ qs) y < length (p ∷ q ∷ qs) → rank (q ∷ qs) y < length (q ∷ qs)
    after_there p q qs x y ne h k = grind (arith, ne)

offset_zero : (labels : List ℕ) → AreBelow circle labels → offset labels 0 ≡ 0
offset_zero labels b = omega (arith, offset_cases labels 0 b)

walk_ordered : (next labels : List ℕ) (n x y : ℕ) → AreBelow circle labels → IsRound next labels (walk next n 0)
    → rank (walk next n 0) x < rank (walk next n 0) y → rank (walk next n 0) y < length (walk next n 0) → offset labels x < offset labels y
walk_ordered next labels zero x y b r h k = absurd (omega arith)
walk_ordered next labels (suc n) x y b r h k = offsets_ordered labels b (walk next n (get_or next 0 0)) 0 0 x y (omega (arith, offset_zero labels b, r.1)) h k

-- the offsets decide the order
pub ordered_by_offsets : (next labels : List ℕ) (x y : ℕ) → IsRing next labels
    → rank (walk next (length next) 0) x < length (walk next (length next) 0)
    → rank (walk next (length next) 0) y < length (walk next (length next) 0)
    → (offset labels x < offset labels y) ↔ (rank (walk next (length next) 0) x < rank (walk next (length next) 0) y)
ordered_by_offsets next labels x y ring lx ly =
    let ps : List ℕ = walk next (length next) 0 in (
      λ (h : offset labels x < offset labels y).
          ⊎_elim
          (λ (u : rank ps x < rank ps y). u)
          (λ (u : rank ps y ≤ rank ps x).
          ⊎_elim
          (λ (e : rank ps x ≡ rank ps y). absurd (let e' : x ≡ y = rank_inj ps x y lx e in let e'' : offset labels x ≡ offset labels y = ap (offset labels) e' in omega arith))
          (λ (ne : rank ps x ≡ rank ps y → ⊥). absurd (let g : offset labels y < offset labels x =
          walk_ordered next labels (length next) y x ring.low ring.round (omega (arith, ne)) lx in omega arith))
          (cases_eq (rank ps x) (rank ps y)))
          (cases_lt (rank ps x) (rank ps y)),
      λ (h : rank ps x < rank ps y). walk_ordered next labels (length next) x y ring.low ring.round h ly,
    )
