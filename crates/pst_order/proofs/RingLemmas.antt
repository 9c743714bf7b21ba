use Rattle.std.proofs.Common.{◌≡◌, ℕ, zero, suc, ◌+◌, ◌-◌, ◌*◌, ◌/◌, ◌%◌, ◌<◌, ◌≤◌, ◌≢◌, List, [], ◌∷◌, ◌++◌, length, get_or, set, refl, sym, ◌∙◌, ap, ap₂}
use Rattle.std.proofs.Common.{subst, ⊎_elim, arith, append_assoc, length-append, length-set}
use Rattle.std.proofs.lemmas.Bool.{cases_lt, lt-ltb, le-ltb}
use Rattle.std.proofs.lemmas.Nat.{mod_below}
use Rattle.std.proofs.lemmas.List.{get_or_append_left, get_or_push, get_or-set_same, get_or-set_other}
use Rattle.pst_order.specs.Places.{rank, AreBelow, AreDistinct}
use Rattle.pst_order.specs.Labels.{circle, ahead, label_of, reach, spread, trip, IsRound}
use Rattle.pst_order.proofs.NumberLemmas.{ahead_low, ahead-ahead, ahead_back, ahead_between, wrap_low, share_rises, share_all, share_low, share_more, square_le}
use Rattle.pst_order.proofs.ListLemmas.{AreBelow-set, AreBelow-left, AreBelow-right, AreBelow-rank, AreDistinct-left, apart, linked_push, rank_le}

pub circle_some : 0 < circle
unfolding circle
circle_some = omega arith

pub label_low : (labels : List ℕ) (p : ℕ) → AreBelow circle labels → label_of labels p < circle
label_low [] p b = circle_some
label_low (x ∷ xs) zero b = b.0
label_low (x ∷ xs) (suc p) b = label_low xs p b.1

pub trip_split : (labels : List ℕ) (qs : List ℕ) (r : ℕ) (rs : List ℕ) (p : ℕ) → trip labels p (qs ++ r ∷ rs) ≡ trip labels p (qs ++ r ∷ []) + trip labels r rs
trip_split labels [] r rs p = omega arith
trip_split labels (q ∷ qs) r rs p =
    let h : trip labels q (qs ++ r ∷ rs) ≡ trip labels q (qs ++ r ∷ []) + trip labels r rs = trip_split labels qs r rs q in
    omega arith

pub round_step : (next labels : List ℕ) (x : ℕ) (xs : List ℕ) → IsRound next labels (x ∷ xs) → IsRound next labels (xs ++ x ∷ [])
round_step next labels x [] r = r
round_step next labels x (y ∷ ys) r =
    let t : trip labels y ((ys ++ x ∷ []) ++ y ∷ []) ≡ circle =
    ap (λ (l : List ℕ). trip labels y l) (append_assoc ys (x ∷ []) (y ∷ [])) ∙ (trip_split labels ys x (y ∷ []) y ∙ omega (arith, r.1)) in
    (linked_push next ys x y y r.0.1 r.0.0, t)

-- a trip that is no more than once round is the way to its end
pub trip_short : (labels : List ℕ) → AreBelow circle labels → (qs : List ℕ) (r p : ℕ) → trip labels p (qs ++ r ∷ []) ≤ circle
    → trip labels p (qs ++ r ∷ []) ≡ ahead (label_of labels p) (label_of labels r)
trip_short labels b [] r p l = omega arith
trip_short labels b (q ∷ qs) r p l =
    let h : trip labels q (qs ++ r ∷ []) ≡ ahead (label_of labels q) (label_of labels r) = trip_short labels b qs r q (omega arith) in
    let k : ahead (label_of labels p) (label_of labels q) + ahead (label_of labels q) (label_of labels r) ≤ circle = omega arith in
    let e : ahead (label_of labels p) (label_of labels q) + ahead (label_of labels q) (label_of labels r) ≡ ahead (label_of labels p)
    (label_of labels r) = ahead-ahead (label_of labels p) (label_of labels q) (label_of labels r) (label_low labels p b) (label_low labels q b)
    (label_low labels r b) k in
    omega arith

-- the trip is the same where the labels are
pub trip_same : (labels labels' : List ℕ) (qs : List ℕ) (p : ℕ) → label_of labels' p ≡ label_of labels p
    → ((q : ℕ) → rank qs q < length qs → label_of labels' q ≡ label_of labels q) → trip labels' p qs ≡ trip labels p qs
trip_same labels labels' [] p e h = refl
trip_same labels labels' (q ∷ qs) p e h =
    let e' : label_of labels' q ≡ label_of labels q = h q (grind arith) in
    let h' : (s : ℕ) → rank qs s < length qs → label_of labels' s ≡ label_of labels s = λ (s : ℕ) (l : rank qs s < length qs). h s (grind arith) in
    ap₂ (λ (a b : ℕ). a + b) (ap₂ (λ (a b : ℕ). ahead a b) e e') (trip_same labels labels' qs q e' h')

-- the place that is reached
pub record IsReached (labels : List ℕ) (a : ℕ) (qs : List ℕ) (k j : ℕ) : Type 0 where
  pub from : k ≤ j
  pub there : j < k + length qs
  pub wide : j * j < ahead a (label_of labels (get_or qs (j - k) 0))

pub one_more : (labels : List ℕ) (a q : ℕ) (qs : List ℕ) (k j : ℕ) → IsReached labels a qs (suc k) j → IsReached labels a (q ∷ qs) k j
one_more labels a q qs k j r =
    let z : j - k ≡ suc (j - suc k) = omega (arith, r.from) in
    record {
      from = omega (arith, r.from);
      there = omega (arith, r.there);
      wide = rw z r.wide;
    }

pub reach_found : (labels : List ℕ) (a : ℕ) (qs : List ℕ) (p k m : ℕ) → k + length qs ≤ m → m * m < ahead a (label_of labels p) → IsReached labels a (qs ++ p ∷ []) k (reach labels a (qs ++ p ∷ []) k)
reach_found labels a [] p k m l h =
    let s : k * k ≤ m * m = square_le k m (omega arith) in
    let t : k * k < ahead a (label_of labels p) = omega arith in
    let e : reach labels a (p ∷ []) k ≡ k = rw (lt-ltb (k * k) (ahead a (label_of labels p)) t) refl in
    subst (λ (j : ℕ). IsReached labels a (p ∷ []) k j) (sym e) (record {
      from = omega arith;
      there = omega arith;
      wide = let z : k - k ≡ 0 = omega arith in rw z t;
    })
reach_found labels a (q ∷ qs) p k m l h =
    ⊎_elim
    (λ (t : k * k < ahead a (label_of labels q)).
    let e : reach labels a (q ∷ (qs ++ p ∷ [])) k ≡ k = rw (lt-ltb (k * k) (ahead a (label_of labels q)) t) refl in
    subst (λ (j : ℕ). IsReached labels a (q ∷ (qs ++ p ∷ [])) k j) (sym e) (record {
      from = omega arith;
      there = omega arith;
      wide = let z : k - k ≡ 0 = omega arith in rw z t;
    }))
    (λ (t : ahead a (label_of labels q) ≤ k * k).
    let e : reach labels a (q ∷ (qs ++ p ∷ [])) k ≡ reach labels a (qs ++ p ∷ []) (suc k) = rw (le-ltb (k * k) (ahead a (label_of labels q)) t) refl in
    let r : IsReached labels a (qs ++ p ∷ []) (suc k) (reach labels a (qs ++ p ∷ []) (suc k)) = reach_found labels a qs p (suc k) m (omega arith) h in
    subst (λ (j : ℕ). IsReached labels a (q ∷ (qs ++ p ∷ [])) k j) (sym e)
    (one_more labels a q (qs ++ p ∷ []) k (reach labels a (qs ++ p ∷ []) (suc k)) r))
    (cases_lt (k * k) (ahead a (label_of labels q)))

pub length-spread : (labels : List ℕ) (qs : List ℕ) (a w j k : ℕ) → length (spread labels qs a w j k) ≡ length labels
length-spread labels [] a w j k = refl
length-spread labels (q ∷ qs) a w j k = length-spread (set labels q ((a + w * k / j) % circle)) qs a w j (suc k) ∙ length-set labels q ((a + w * k / j) % circle)

pub spread_low : (labels : List ℕ) (qs : List ℕ) (a w j k : ℕ) → AreBelow circle labels → AreBelow circle (spread labels qs a w j k)
spread_low labels [] a w j k b = b
spread_low labels (q ∷ qs) a w j k b = spread_low (set labels q ((a + w * k / j) % circle)) qs a w j (suc k)
    (AreBelow-set circle labels q ((a + w * k / j) % circle) b (mod_below (a + w * k / j) circle circle_some))

pub spread_other : (labels : List ℕ) (qs : List ℕ) (a w j k q : ℕ) → rank qs q ≡ length qs → label_of (spread labels qs a w j k) q ≡ label_of labels q
spread_other labels [] a w j k q e = refl
spread_other labels (x ∷ qs) a w j k q e =
    let ne : q ≢ x = λ (u : q ≡ x). grind arith in
    let l : rank qs q ≤ length qs = rank_le qs q in
    let e' : rank qs q ≡ length qs = grind (arith, ne) in
    spread_other (set labels x ((a + w * k / j) % circle)) qs a w j (suc k) q e' ∙ get_or-set_other labels x q ((a + w * k / j) % circle) 0 ne

-- each place has the label of its share
abbrev pub AreSpread : List ℕ → List ℕ → ℕ → ℕ → ℕ → ℕ → Type 0
AreSpread labels [] a w j k = Unit {0}
AreSpread labels (q ∷ qs) a w j k = (label_of labels q ≡ (a + w * k / j) % circle) × AreSpread labels qs a w j (suc k)

pub spread_done : (labels : List ℕ) (qs : List ℕ) (a w j k : ℕ) → AreDistinct qs → AreBelow (length labels) qs → AreSpread (spread labels qs a w j k) qs a w j k
spread_done labels [] a w j k d b = tt
spread_done labels (q ∷ qs) a w j k d b =
    let v : ℕ = (a + w * k / j) % circle in
    let n : length (set labels q v) ≡ length labels = length-set labels q v in (
      spread_other (set labels q v) qs a w j (suc k) q d.0 ∙ get_or-set_same labels q v 0 b.0,
      spread_done (set labels q v) qs a w j (suc k) d.1 (subst (λ (t : ℕ). AreBelow t qs) (sym n) b.1),
    )

pub AreSpread-same : (labels labels' : List ℕ) (qs : List ℕ) (a w j k : ℕ)
    → ((q : ℕ) → rank qs q < length qs → label_of labels' q ≡ label_of labels q) → AreSpread labels qs a w j k → AreSpread labels' qs a w j k
AreSpread-same labels labels' [] a w j k h s = tt
AreSpread-same labels labels' (q ∷ qs) a w j k h s =
    let h' : (r : ℕ) → rank qs r < length qs → label_of labels' r ≡ label_of labels r = λ (r : ℕ) (l : rank qs r < length qs). h r (grind arith) in
    (h q (grind arith) ∙ s.0, AreSpread-same labels labels' qs a w j (suc k) h' s.1)

pub AreSpread-push : (labels : List ℕ) (qs : List ℕ) (r a w j k : ℕ) → 0 < j → k + length qs ≡ j → label_of labels r ≡ (a + w) % circle
    → AreSpread labels qs a w j k → AreSpread labels (qs ++ r ∷ []) a w j k
AreSpread-push labels [] r a w j k l e h s =
    let e' : k ≡ j = omega arith in
    let f : w * k / j ≡ w = ap (λ (t : ℕ). w * t / j) e' ∙ share_all w j l in
    (h ∙ ap (λ (t : ℕ). (a + t) % circle) (sym f), tt)
AreSpread-push labels (q ∷ qs) r a w j k l e h s = (s.0, AreSpread-push labels qs r a w j (suc k) l (omega arith) h s.1)

-- the trip over the shares
pub spread_trip : (labels : List ℕ) (a w j : ℕ) → a < circle → w ≤ circle → 0 < j → j ≤ w → (qs : List ℕ) (q p u k : ℕ) → k + length qs ≡ j
    → label_of labels p ≡ (a + u) % circle → u < w * k / j → AreSpread labels (q ∷ qs) a w j k → trip labels p (q ∷ qs) + u ≡ w
spread_trip labels a w j la lw lj lj' [] q p u k e h l s =
    let e' : k ≡ j = omega arith in
    let f : w * k / j ≡ w = ap (λ (t : ℕ). w * t / j) e' ∙ share_all w j lj in
    let g : ahead ((a + u) % circle) ((a + w * k / j) % circle) + u ≡ w * k / j = ahead_between a u (w * k / j) la l (omega arith) in
    let g' : ahead (label_of labels p) (label_of labels q) + u ≡ w * k / j = ap (λ (t : ℕ). t + u) (ap₂ (λ (x y : ℕ). ahead x y) h s.0) ∙ g in
    omega arith
spread_trip labels a w j la lw lj lj' (r ∷ qs) q p u k e h l s =
    let top : w * k / j ≤ w = share_low w k (suc (length qs)) j (omega arith) lj lj' in
    let g : ahead ((a + u) % circle) ((a + w * k / j) % circle) + u ≡ w * k / j = ahead_between a u (w * k / j) la l (omega arith) in
    let g' : ahead (label_of labels p) (label_of labels q) + u ≡ w * k / j = ap (λ (t : ℕ). t + u) (ap₂ (λ (x y : ℕ). ahead x y) h s.0) ∙ g in
    let i : trip labels q (r ∷ qs) + w * k / j ≡ w = spread_trip labels a w j la lw lj lj' qs r q (w * k / j) (suc k) (omega arith) s.0 (share_rises w k j lj lj') s.1 in
    omega arith

spread_head : (labels : List ℕ) (qs : List ℕ) (r : ℕ) (rs : List ℕ) (a w j k : ℕ) → AreSpread labels (qs ++ r ∷ []) a w j k → label_of labels (get_or (qs ++ r ∷ rs) 0 0) ≡ (a + w * k / j) % circle
spread_head labels [] r rs a w j k s = s.0
spread_head labels (q ∷ qs) r rs a w j k s = s.0

trip_shares : (labels : List ℕ) (a w j : ℕ) → a < circle → w ≤ circle → 0 < j → j ≤ w → (qs : List ℕ) (r p u : ℕ) → suc (length qs) ≡ j
    → label_of labels p ≡ (a + u) % circle → u < w * 1 / j → AreSpread labels (qs ++ r ∷ []) a w j 1 → trip labels p (qs ++ r ∷ []) + u ≡ w
trip_shares labels a w j la lw lj lj' [] r p u e h l s = spread_trip labels a w j la lw lj lj' [] r p u 1 (omega arith) h l s
trip_shares labels a w j la lw lj lj' (q ∷ qs) r p u e h l s =
    let n : length (qs ++ r ∷ []) ≡ length qs + 1 = length-append qs (r ∷ []) in
    spread_trip labels a w j la lw lj lj' (qs ++ r ∷ []) q p u 1 (omega arith) h l s

-- what insertion does to the labels, where r is reached behind qs
pub record IsSpread (labels : List ℕ) (qs : List ℕ) (r : ℕ) (rs : List ℕ) (p : ℕ) (room : List ℕ) (g : ℕ) : Type 0 where
  pub gap : 2 ≤ g
  pub round : trip (room ++ ((label_of labels p + g / 2) % circle) ∷ []) p (length labels ∷ (qs ++ r ∷ rs)) ≡ circle

pub spreads : (labels : List ℕ) (qs : List ℕ) (r : ℕ) (rs : List ℕ) (p w j g : ℕ) (room : List ℕ) →
    w ≡ ahead (label_of labels p) (label_of labels r) → j ≡ suc (length qs) → j * j < w → room ≡ spread labels qs (label_of labels p) w j 1
    → g ≡ ahead (label_of labels p) (label_of room (get_or (qs ++ r ∷ rs) 0 0)) →
    AreBelow circle labels → AreDistinct (qs ++ r ∷ rs) → AreBelow (length labels) (qs ++ r ∷ rs) → rank qs p ≡ length qs → p < length labels → trip labels p (qs ++ r ∷ rs) ≡ circle →
    IsSpread labels qs r rs p room g
spreads labels qs r rs p w j g room we je wide re ge low dist below np lp trip_is =
    let a : ℕ = label_of labels p in
    let la : a < circle = label_low labels p low in
    let lr : label_of labels r < circle = label_low labels r low in
    let n : length room ≡ length labels = rw re (length-spread labels qs a w j 1) in
    let lj : 0 < j = omega arith in
    let m : (2 ≤ w * 1 / j) × (j ≤ w) = share_more w j (omega arith) wide in
    let lw : w ≤ circle = rw we (ahead_low a (label_of labels r) la lr) in
    let f1 : w * 1 / j ≤ w = share_low w 1 (length qs) j (omega arith) lj m.1 in
    let dq : AreDistinct qs = AreDistinct-left qs (r ∷ rs) dist in
    let bq : AreBelow (length labels) qs = AreBelow-left (length labels) qs (r ∷ rs) below in
    let kept : (q : ℕ) → rank qs q ≡ length qs → label_of room q ≡ label_of labels q = λ (q : ℕ) (e : rank qs q ≡ length qs). rw re (spread_other labels qs a w j 1 q e) in
    let in_rest : (q : ℕ) → rank (r ∷ rs) q < length (r ∷ rs) → label_of room q ≡ label_of labels q = λ (q : ℕ) (l : rank (r ∷ rs) q < length (r ∷ rs)). kept q (apart qs (r ∷ rs) q dist l) in
    let r_there : rank (r ∷ rs) r < length (r ∷ rs) = grind arith in
    let r_at : label_of room r ≡ (a + w) % circle = in_rest r r_there ∙ (sym (ahead_back a (label_of labels r) la lr) ∙ ap (λ (t : ℕ). (a + t) % circle) (sym we)) in
    let s0 : AreSpread room qs a w j 1 = rw re (spread_done labels qs a w j 1 dq bq) in
    let s1 : AreSpread room (qs ++ r ∷ []) a w j 1 = AreSpread-push room qs r a w j 1 lj (omega arith) r_at s0 in
    let a0 : (a + 0) % circle ≡ a = let z : a + 0 ≡ a = omega arith in rw z (wrap_low circle a la) in
    let head : label_of room (get_or (qs ++ r ∷ rs) 0 0) ≡ (a + w * 1 / j) % circle = spread_head room qs r rs a w j 1 s1 in
    let g0 : ahead ((a + 0) % circle) ((a + w * 1 / j) % circle) + 0 ≡ w * 1 / j = ahead_between a 0 (w * 1 / j) la (omega arith) (omega arith) in
    let g1 : ahead a (label_of room (get_or (qs ++ r ∷ rs) 0 0)) ≡ ahead ((a + 0) % circle) ((a + w * 1 / j) % circle) = ap₂ (λ (x y : ℕ). ahead x y) (sym a0) head in
    let g2 : g ≡ w * 1 / j = omega arith in
    let v : ℕ = (a + g / 2) % circle in
    let labels' : List ℕ = room ++ v ∷ [] in
    let z : ℕ = length labels in
    let same' : (q : ℕ) → q < length labels → label_of labels' q ≡ label_of room q = λ (q : ℕ) (l : q < length labels). get_or_append_left room (v ∷ []) 0 q (omega arith) in
    let p' : label_of labels' p ≡ (a + 0) % circle = same' p lp ∙ (kept p np ∙ sym a0) in
    let z' : label_of labels' z ≡ (a + g / 2) % circle = get_or_push room v 0 z n in
    let below1 : AreBelow (length labels) (qs ++ r ∷ []) = AreBelow-left (length labels) (qs ++ r ∷ []) rs (subst (AreBelow (length labels)) (sym (append_assoc qs (r ∷ []) rs)) below) in
    let s2 : AreSpread labels' (qs ++ r ∷ []) a w j 1 = AreSpread-same room labels' (qs ++ r ∷ []) a w j 1
    (λ (q : ℕ) (l : rank (qs ++ r ∷ []) q < length (qs ++ r ∷ [])). same' q (AreBelow-rank (length labels) (qs ++ r ∷ []) q below1 l)) s1 in
    let half : 0 < g / 2 = omega arith in
    let half' : g / 2 < w * 1 / j = omega arith in
    let t0 : ahead ((a + 0) % circle) ((a + g / 2) % circle) + 0 ≡ g / 2 = ahead_between a 0 (g / 2) la half (omega arith) in
    let t1 : ahead (label_of labels' p) (label_of labels' z) ≡ ahead ((a + 0) % circle) ((a + g / 2) % circle) = ap₂ (λ (x y : ℕ). ahead x y) p' z' in
    let t2 : trip labels' z (qs ++ r ∷ []) + g / 2 ≡ w = trip_shares labels' a w j la lw lj m.1 qs r z (g / 2) (omega arith) z' half' s2 in
    let below2 : AreBelow (length labels) (r ∷ rs) = AreBelow-right (length labels) qs (r ∷ rs) below in
    let rest : (q : ℕ) → rank (r ∷ rs) q < length (r ∷ rs) → label_of labels' q ≡ label_of labels q =
    λ (q : ℕ) (l : rank (r ∷ rs) q < length (r ∷ rs)). same' q (AreBelow-rank (length labels) (r ∷ rs) q below2 l) ∙ in_rest q l in
    let t3 : trip labels' r rs ≡ trip labels r rs = trip_same labels labels' rs r (rest r r_there) (λ (q : ℕ) (l : rank rs q < length rs). rest q (grind arith)) in
    let t4 : trip labels p (qs ++ r ∷ rs) ≡ trip labels p (qs ++ r ∷ []) + trip labels r rs = trip_split labels qs r rs p in
    let t5 : trip labels p (qs ++ r ∷ []) ≡ ahead a (label_of labels r) = trip_short labels low qs r p (omega arith) in
    let t6 : trip labels' z (qs ++ r ∷ rs) ≡ trip labels' z (qs ++ r ∷ []) + trip labels' r rs = trip_split labels' qs r rs z in
    record {
      gap = omega (arith, m.0);
      round = omega arith;
    }
