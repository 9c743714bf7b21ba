use Rattle.std.proofs.Common.{◌≡◌, ℕ, zero, suc, ◌+◌, ◌-◌, ◌*◌, ◌/◌, ◌%◌, ◌^◌, ◌<◌, ◌≤◌, ◌≢◌, List, [], ◌∷◌, ◌++◌, length, get_or, set, take, drop, refl, sym}
use Rattle.std.proofs.Common.{◌∙◌, ap, subst, arith, append_assoc, length-append, length-set, length-take, length-drop, take-append-drop}
use Rattle.std.proofs.lemmas.Nat.{mod_below}
use Rattle.std.proofs.lemmas.List.{get_or_push, get_or-set_same, get_or-set_other, drop_more, take_more, take-append-le}
use Rattle.std.proofs.lemmas.List.Edits.{length-insert, get_or-insert_below}
use Rattle.std.specs.List.{insert}
use Rattle.pst_order.specs.Places.{rank, AreBelow, AreDistinct, AreNumbered, IsInsertedAfter}
use Rattle.pst_order.proofs.RankLemmas.{AreNumbered-insert, AreBelow-wider, rank_above}
use Rattle.pst_order.specs.Labels.{circle, ahead, label_of, around, reach, width, with_room, gap, labels_after, walk, trip, IsRound, AreLinked, IsRing}
use Rattle.pst_order.proofs.NumberLemmas.{ahead_self, circle_is, square_le}
use Rattle.pst_order.proofs.ListLemmas.{AreBelow-get, AreBelow-set, AreBelow-push, AreDistinct-step, rank_left, get-rank, split_at, rotate, length-walk, linked_walk, linked_left, linked_kept}
use Rattle.pst_order.proofs.RingLemmas.{circle_some, label_low, round_step, spreads, IsSpread, IsReached, reach_found, length-spread, spread_low}

-- the circle from a place on
pub record IsCircleFrom (next labels ps : List ℕ) (p : ℕ) (others : List ℕ) : Type 0 where
  pub round : IsRound next labels (p ∷ others)
  pub distinct : AreDistinct (p ∷ others)
  pub below : AreBelow (length next) (p ∷ others)
  pub count : suc (length others) ≡ length next
  pub around_is : around ps p ≡ others ++ p ∷ []
  pub walk_is : walk next (length next) (get_or next p 0) ≡ others ++ p ∷ []
  pub list : ps ≡ take (rank ps p) ps ++ p ∷ drop (suc (rank ps p)) ps
  pub others_are : others ≡ drop (suc (rank ps p)) ps ++ take (rank ps p) ps

pub AreBelow-step : (n x : ℕ) (xs : List ℕ) → AreBelow n (x ∷ xs) → AreBelow n (xs ++ x ∷ [])
AreBelow-step n x xs b = AreBelow-push n xs x b.1 b.0

pub circle_from : (next labels : List ℕ) (p : ℕ) → IsRing next labels → rank (walk next (length next) 0) p < length (walk next (length next) 0)
    → IsCircleFrom next labels (walk next (length next) 0) p (drop (suc (rank (walk next (length next) 0) p)) (walk next (length next) 0) ++ take
    (rank (walk next (length next) 0) p) (walk next (length next) 0))
circle_from next labels p ring l =
    let ps : List ℕ = walk next (length next) 0 in
    let n : length ps ≡ length next = length-walk next (length next) 0 in
    let i : ℕ = rank ps p in
    let before : List ℕ = take i ps in
    let after : List ℕ = drop (suc i) ps in
    let e : ps ≡ before ++ p ∷ after = split_at ps p l in
    let small : AreBelow (length next) ps = subst (λ (t : ℕ). AreBelow t ps) n ring.numbered.small in
    let r : IsRound next labels (p ∷ (after ++ before)) = rotate (IsRound next labels) (round_step next labels) before (p ∷ after) (subst (IsRound next labels) e ring.round) in
    let d : AreDistinct (p ∷ (after ++ before)) = rotate AreDistinct AreDistinct-step before (p ∷ after) (subst AreDistinct e ring.numbered.distinct) in
    let b : AreBelow (length next) (p ∷ (after ++ before)) = rotate (AreBelow (length next)) (AreBelow-step (length next)) before (p ∷ after) (subst (AreBelow (length next)) e small) in
    let c : suc (length (after ++ before)) ≡ length next = omega (arith, length-append after before, length-drop (suc i) ps, length-take i ps) in
    let m : length ((after ++ before) ++ p ∷ []) ≡ length next = omega (arith, c, length-append (after ++ before) (p ∷ [])) in
    record {
      round = r;
      distinct = d;
      below = b;
      count = c;
      around_is = refl;
      walk_is = subst (λ (t : ℕ). walk next t (get_or next p 0) ≡ (after ++ before) ++ p ∷ []) m (linked_walk next ((after ++ before) ++ p ∷ []) p r.0);
      list = e;
      others_are = refl;
    }

-- what is reached stands in the list, and how the list falls in two there
pub record IsSplitAt (qs : List ℕ) (j : ℕ) (front : List ℕ) (r : ℕ) (back : List ℕ) : Type 0 where
  pub list : qs ≡ front ++ r ∷ back
  pub count : suc (length front) ≡ j

pub split_reached : (qs : List ℕ) (j : ℕ) → 1 ≤ j → j ≤ length qs → IsSplitAt qs j (take (j - 1) qs) (get_or qs (j - 1) 0) (drop j qs)
split_reached qs j l m =
    let e : (j - 1) + 1 ≡ j = omega arith in
    let d : drop (j - 1) qs ≡ get_or qs (j - 1) 0 ∷ drop ((j - 1) + 1) qs = drop_more qs (j - 1) 0 (omega arith) in
    let d' : drop (j - 1) qs ≡ get_or qs (j - 1) 0 ∷ drop j qs = subst (λ (t : ℕ). drop (j - 1) qs ≡ get_or qs (j - 1) 0 ∷ drop t qs) e d in
    record {
      list = sym (take-append-drop (j - 1) qs) ∙ ap (λ (t : List ℕ). take (j - 1) qs ++ t) d';
      count = omega (arith, length-take (j - 1) qs);
    }

-- a successor that is far enough is there
pub reached : (labels others : List ℕ) (p n : ℕ) → AreBelow circle labels → suc (length others) ≡ n → n < 2 ^ 30
    → IsReached labels (label_of labels p) (others ++ p ∷ []) 1 (reach labels (label_of labels p) (others ++ p ∷ []) 1)
reached labels others p n low c few =
    let s : ahead (label_of labels p) (label_of labels p) ≡ circle = ahead_self (label_of labels p) (label_low labels p low) in
    let q : n * n ≤ 1073741824 * 1073741824 = square_le n 1073741824 (omega arith) in
    let t : n * n < circle = omega (arith, circle_is) in
    reach_found labels (label_of labels p) others p 1 n (omega arith) (omega arith)

-- the labels of the new list go round once
pub record IsRelabelled (labels others : List ℕ) (p : ℕ) : Type 0 where
  pub gap : 2 ≤ gap labels (others ++ p ∷ []) p
  pub round : trip (labels_after labels (others ++ p ∷ []) p) p (length labels ∷ (others ++ p ∷ [])) ≡ circle
  pub low : AreBelow circle (labels_after labels (others ++ p ∷ []) p)
  pub count : length (labels_after labels (others ++ p ∷ []) p) ≡ suc (length labels)

pub relabelled : (next labels ps : List ℕ) (p : ℕ) (others : List ℕ) → length labels ≡ length next → AreBelow circle labels → length next < 2 ^ 30
    → IsCircleFrom next labels ps p others → IsRelabelled labels others p
relabelled next labels ps p others same low few c =
    let a : ℕ = label_of labels p in
    let qs : List ℕ = others ++ p ∷ [] in
    let j : ℕ = reach labels a qs 1 in
    let f : IsReached labels a qs 1 j = reached labels others p (length next) low c.count few in
    let n : length qs ≡ length next = omega (arith, length-append others (p ∷ []), c.count) in
    let front : List ℕ = take (j - 1) qs in
    let r : ℕ = get_or qs (j - 1) 0 in
    let back : List ℕ = drop j qs in
    let s : IsSplitAt qs j front r back = split_reached qs j f.from (omega (arith, f.there)) in
    let room : List ℕ = with_room labels qs p in
    let d : AreDistinct (front ++ r ∷ back) = subst AreDistinct s.list (AreDistinct-step p others c.distinct) in
    let b : AreBelow (length labels) (front ++ r ∷ back) = subst (AreBelow (length labels)) s.list (subst (λ (t : ℕ). AreBelow t qs) (sym same) (AreBelow-step (length next) p others c.below)) in
    let front_is : front ≡ take (j - 1) others = take-append-le (j - 1) others (p ∷ []) (omega (arith, f.there, n, c.count)) in
    let np : rank front p ≡ length front = rw front_is (rank_left (take (j - 1) others) (drop (j - 1) others) p (rw (take-append-drop (j - 1) others) c.distinct.0)) in
    let lp : p < length labels = rw same c.below.0 in
    let t : trip labels p (front ++ r ∷ back) ≡ circle = subst (λ (u : List ℕ). trip labels p u ≡ circle) s.list c.round.1 in
    let g_is : gap labels qs p ≡ ahead a (label_of room (get_or (front ++ r ∷ back) 0 0)) = ap (λ (u : List ℕ). ahead a (label_of room (get_or u 0 0))) s.list in
    let done : IsSpread labels front r back p room (gap labels qs p) = spreads labels front r back p (width labels a qs) j (gap labels qs p) room refl (sym s.count) f.wide refl g_is low d b np lp t in
    record {
      gap = done.gap;
      round = subst (λ (u : List ℕ). trip (room ++ ((a + gap labels qs p / 2) % circle) ∷ []) p (length labels ∷ u) ≡ circle) (sym s.list) done.round;
      low = AreBelow-push circle room ((a + gap labels qs p / 2) % circle) (spread_low labels front a (width labels a qs) j 1 low) (mod_below (a + gap labels qs p / 2) circle circle_some);
      count = omega (arith, length-append room (((a + gap labels qs p / 2) % circle) ∷ []), length-spread labels front a (width labels a qs) j 1);
    }

linked_new : (next others : List ℕ) (p : ℕ) → AreLinked next p (others ++ p ∷ []) → AreDistinct (p ∷ others) → AreBelow (length next) (p ∷ others)
    → AreLinked (set (next ++ get_or next p 0 ∷ []) p (length next)) p (length next ∷ (others ++ p ∷ []))
linked_new next [] p k d b =
    let v : ℕ = get_or next p 0 in
    let lp : p < length next = b.0 in
    let ne : length next ≢ p = λ (e : length next ≡ p). omega arith in
    let l : p < length (next ++ v ∷ []) = omega (arith, length-append next (v ∷ [])) in
    (get_or-set_same (next ++ v ∷ []) p (length next) 0 l, (get_or-set_other (next ++ v ∷ []) p (length next) (length next) 0 ne ∙ (get_or_push next v 0 (length next) refl ∙ k.0), tt))
linked_new next (q ∷ others) p k d b =
    let v : ℕ = get_or next p 0 in
    let lp : p < length next = b.0 in
    let ne : length next ≢ p = λ (e : length next ≡ p). omega arith in
    let l : p < length (next ++ v ∷ []) = omega (arith, length-append next (v ∷ [])) in (
      get_or-set_same (next ++ v ∷ []) p (length next) 0 l,
      (
        get_or-set_other (next ++ v ∷ []) p (length next) (length next) 0 ne
            ∙ (get_or_push next v 0 (length next) refl ∙ k.0),
        linked_kept next p v (length next) others q d.0 b.1 k.1,
      ),
    )

round_walk : (next labels ys : List ℕ) → 0 < length ys → get_or ys 0 0 ≡ 0 → IsRound next labels ys → walk next (length ys) 0 ≡ ys
round_walk next labels [] l h r = absurd (omega arith)
round_walk next labels (y ∷ ys) l h r =
    let k : AreLinked next y ys = linked_left next ys (y ∷ []) y r.0 in
    let w : walk next (suc (length ys)) y ≡ y ∷ ys = ap (λ (t : List ℕ). y ∷ t) (linked_walk next ys y k) in
    subst (λ (t : ℕ). walk next (suc (length ys)) t ≡ y ∷ ys) h w

walk_first : (next : List ℕ) (n : ℕ) → 0 < n → get_or (walk next n 0) 0 0 ≡ 0
walk_first next zero l = refl
walk_first next (suc n) l = refl

-- what insertion leaves
pub record IsDone (next labels : List ℕ) (p : ℕ) (next' labels' : List ℕ) : Type 0 where
  pub ring : IsRing next' labels'
  pub places : IsInsertedAfter (walk next (length next) 0) (walk next' (length next') 0) p (length next)
  pub gap : 2 ≤ gap labels (around (walk next (length next) 0) p) p

pub done : (next labels : List ℕ) (p : ℕ) → IsRing next labels → rank (walk next (length next) 0) p < length (walk next (length next) 0)
    → length next < 2 ^ 30 → IsDone next labels p (set (next ++ get_or next p 0 ∷ []) p (length next))
    (labels_after labels (around (walk next (length next) 0) p) p)
done next labels p ring l few =
    let ps : List ℕ = walk next (length next) 0 in
    let i : ℕ = rank ps p in
    let before : List ℕ = take i ps in
    let after : List ℕ = drop (suc i) ps in
    let z : ℕ = length next in
    let v : ℕ = get_or next p 0 in
    let next' : List ℕ = set (next ++ v ∷ []) p z in
    let labels' : List ℕ = labels_after labels (around ps p) p in
    let n : length ps ≡ length next = length-walk next (length next) 0 in
    let c : IsCircleFrom next labels ps p (after ++ before) = circle_from next labels p ring l in
    let m : IsRelabelled labels (after ++ before) p = relabelled next labels ps p (after ++ before) ring.same ring.low few c in
    let n' : length next' ≡ suc (length next) = omega (arith, length-set (next ++ v ∷ []) p z, length-append next (v ∷ [])) in
    let t : trip labels' p (z ∷ ((after ++ before) ++ p ∷ [])) ≡ circle = subst (λ (k : ℕ). trip labels' p (k ∷ ((after ++ before) ++ p ∷ [])) ≡ circle) ring.same m.round in
    let r : IsRound next' labels' ((p ∷ z ∷ after) ++ before) = (linked_new next (after ++ before) p c.round.0 c.distinct c.below, t) in
    let r' : IsRound next' labels' (before ++ (p ∷ z ∷ after)) = rotate (IsRound next' labels') (round_step next' labels') (p ∷ z ∷ after) before r in
    let e1 : i + 1 ≡ suc i = omega arith in
    let e2 : take (suc i) ps ≡ before ++ p ∷ [] = subst (λ (k : ℕ). take k ps ≡ before ++ p ∷ []) e1 (subst (λ (k : ℕ). take (i + 1) ps ≡ before ++ k ∷ []) (get-rank ps p l) (take_more ps i 0 l)) in
    let ins : insert ps (suc i) z ≡ before ++ (p ∷ z ∷ after) = ap (λ (k : List ℕ). k ++ z ∷ after) e2 ∙ append_assoc before (p ∷ []) (z ∷ after) in
    let r'' : IsRound next' labels' (insert ps (suc i) z) = subst (IsRound next' labels') (sym ins) r' in
    let len : length (insert ps (suc i) z) ≡ length ps + 1 = length-insert ps (suc i) z (omega arith) in
    let first : get_or (insert ps (suc i) z) 0 0 ≡ 0 = get_or-insert_below ps (suc i) z 0 0 (omega arith) (omega arith) ∙ walk_first next (length next) (omega (arith, ring.numbered.some, n)) in
    let w : walk next' (length (insert ps (suc i) z)) 0 ≡ insert ps (suc i) z = round_walk next' labels' (insert ps (suc i) z) (omega arith) first r'' in
    let same_len : length (insert ps (suc i) z) ≡ length next' = omega arith in
    let w' : walk next' (length next') 0 ≡ insert ps (suc i) z = subst (λ (k : ℕ). walk next' k 0 ≡ insert ps (suc i) z) same_len w in
    let b1 : AreBelow (suc (length next)) next = AreBelow-wider next (length next) (suc (length next)) (omega arith) ring.inside in
    let lp : p < length next = c.below.0 in
    let lv : v < length next = AreBelow-get (length next) next p ring.inside lp in
    let b2 : AreBelow (suc (length next)) next' = AreBelow-set (suc (length next)) (next ++ v ∷ []) p z (AreBelow-push (suc (length next)) next v b1 (omega arith)) (omega arith) in
    record {
      ring = record {
        same = omega (arith, m.count, ring.same, n');
        inside = subst (λ (k : ℕ). AreBelow k next') (sym n') b2;
        low = m.low;
        numbered = subst AreNumbered (sym w') (AreNumbered-insert ps (suc i) z (omega arith) (omega arith) ring.numbered);
        round = subst (IsRound next' labels') (sym w') r'';
      };
      places = record {
        fresh = rank_above ps (length ps) z (omega arith) ring.numbered.small;
        list = w';
      };
      gap = m.gap;
    }
