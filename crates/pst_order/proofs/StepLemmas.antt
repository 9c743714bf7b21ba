use Rattle.std.proofs.Common.{◌≡◌, ℕ, zero, suc, ◌+◌, ◌-◌, ◌*◌, ◌/◌, ◌%◌, ◌^◌, ◌<◌, ◌≤◌, ◌≢◌, ◌↔◌, List, [], ◌∷◌, ◌++◌, length, get_or, set, slice_get, take}
use Rattle.std.proofs.Common.{drop, Some, None, ◌⊎◌, inl, inr, refl, sym, ◌∙◌, ap, ap₂, subst, ⊎_elim, arith, length-append, length-take}
use Rattle.std.proofs.lemmas.Bool.{cases_lt, cases_eq, lt-ltb, le-ltb}
use Rattle.std.proofs.lemmas.Option.{slice_get-get_or, slice_get_past}
use Rattle.std.proofs.lemmas.List.{get_or_append_left, get_or_push, drop_more, get_or-take}
use Rattle.pst_order.specs.Places.{rank, IsIn, AreDistinct, IsInsertedAfter}
use Rattle.pst_order.specs.Labels.{Labelled, circle, ahead, label_of, around, reach, spread, with_room, gap, labels_after, walk, IsRound, AreLinked, IsRing}
use Rattle.pst_order.proofs.NumberLemmas.{ahead_self}
use Rattle.pst_order.proofs.ListLemmas.{get-rank, rank_le, length-walk, walk_step}
use Rattle.pst_order.proofs.RingLemmas.{circle_some, IsReached}
use Rattle.pst_order.proofs.InsertLemmas.{IsCircleFrom, circle_from, reached, IsDone, done}

-- what a caller sees of the fields
abbrev pub seen_of : List ℕ → List ℕ → ℕ → Labelled
seen_of next labels spare = record { places = walk next (length next) 0; labels = labels; spare = spare }

pub seen : {spare : ℕ} (next labels : List ℕ) (now : Labelled) (p : ℕ) → seen_of next labels spare ≡ now → IsIn now.places p → rank (walk next (length next) 0) p < length (walk next (length next) 0)
seen next labels now p e h = subst (λ (s : Labelled). rank s.places p < length s.places) (sym e) h.there

pub in_range : {spare : ℕ} (next labels : List ℕ) (now : Labelled) (p : ℕ) → seen_of next labels spare ≡ now → IsRing next labels → IsIn now.places p → p < length next
in_range next labels now p e ring h = (circle_from next labels p ring (seen next labels now p e h)).below.0

pub ring_one : (next labels : List ℕ) → next ≡ 0 ∷ [] → labels ≡ 0 ∷ [] → IsRing next labels
ring_one next labels e f =
    let one : 0 < 1 = omega arith in
    let a : ahead 0 0 ≡ circle = ahead_self 0 circle_some in
    let r : IsRing (0 ∷ []) (0 ∷ []) = record {
      same = refl;
      inside = (one, tt);
      low = (circle_some, tt);
      numbered = record { some = one; distinct = (refl, tt); small = (one, tt) };
      round = ((refl, tt), omega (arith, a));
    } in
    subst (λ (ls : List ℕ). IsRing next ls) (sym f) (subst (λ (ns : List ℕ). IsRing ns (0 ∷ [])) (sym e) r)

first_rank : (next : List ℕ) (n : ℕ) → 0 < n → rank (walk next n 0) 0 ≡ 0
first_rank next zero l = absurd (omega arith)
first_rank next (suc n) l = refl

pub record IsFirst (places : List ℕ) : Type 0 where
  pub in_list : IsIn places 0
  pub first : rank places 0 ≡ 0
  pub distinct : AreDistinct places

pub first_is : {spare : ℕ} (next labels : List ℕ) (now : Labelled) → seen_of next labels spare ≡ now → IsRing next labels → IsFirst now.places
first_is next labels now e ring =
    let n : length (walk next (length next) 0) ≡ length next = length-walk next (length next) 0 in
    let f : rank (walk next (length next) 0) 0 ≡ 0 = first_rank next (length next) (omega (arith, ring.numbered.some)) in
    subst (λ (s : Labelled). IsFirst s.places) e (record {
      in_list = record { there = omega (arith, ring.numbered.some) };
      first = f;
      distinct = ring.numbered.distinct;
    })

rank_at : (xs : List ℕ) (q : ℕ) (k : ℕ) → k < length xs → rank xs q ≡ length xs → get_or xs k 0 ≢ q
rank_at [] q k l e u = absurd (omega arith)
rank_at (x ∷ xs) q zero l e u = grind arith
rank_at (x ∷ xs) q (suc k) l e u =
    let s : rank xs q ≤ length xs = rank_le xs q in
    rank_at xs q k (omega arith) (grind arith) u

pub rank-get : (xs : List ℕ) (k : ℕ) → AreDistinct xs → k < length xs → rank xs (get_or xs k 0) ≡ k
rank-get [] k d l = absurd (omega arith)
rank-get (x ∷ xs) zero d l = grind arith
rank-get (x ∷ xs) (suc k) d l =
    let h : rank xs (get_or xs k 0) ≡ k = rank-get xs k d.1 (omega arith) in
    let ne : get_or xs k 0 ≢ x = rank_at xs x k (omega arith) d.0 in
    grind (arith, ne)

linked_get : (next : List ℕ) (qs : List ℕ) (p i : ℕ) → AreLinked next p qs → i < length qs → get_or next (get_or (p ∷ qs) i 0) 0 ≡ get_or qs i 0
linked_get next [] p i k l = absurd (omega arith)
linked_get next (q ∷ qs) p zero k l = k.0
linked_get next (q ∷ qs) p (suc i) k l = linked_get next qs q i k.1 (omega arith)

-- the last place leads to the first
last_next : (next labels : List ℕ) (n i : ℕ) → IsRound next labels (walk next n 0) → suc i ≡ n → get_or next (get_or (walk next n 0) i 0) 0 ≡ 0
last_next next labels zero i r e = absurd (omega arith)
last_next next labels (suc n) i r e =
    let rest : List ℕ = walk next n (get_or next 0 0) in
    let m : length rest ≡ i = omega (arith, length-walk next n (get_or next 0 0)) in
    let l : i < length (rest ++ 0 ∷ []) = omega (arith, length-append rest (0 ∷ [])) in
    let g : get_or (rest ++ 0 ∷ []) i 0 ≡ 0 = get_or_push rest 0 0 i m in
    let k : get_or next (get_or ((0 ∷ rest) ++ 0 ∷ []) i 0) 0 ≡ get_or (rest ++ 0 ∷ []) i 0 = linked_get next (rest ++ 0 ∷ []) 0 i r.0 l in
    let j : get_or ((0 ∷ rest) ++ 0 ∷ []) i 0 ≡ get_or (0 ∷ rest) i 0 = get_or_append_left (0 ∷ rest) (0 ∷ []) 0 i (omega arith) in
    subst (λ (t : ℕ). get_or next t 0 ≡ get_or (rest ++ 0 ∷ []) i 0) j k ∙ g

pub follows_is : (next labels : List ℕ) (a b : ℕ) → IsRing next labels → rank (walk next (length next) 0) a < length (walk next (length next) 0)
    → rank (walk next (length next) 0) b < length (walk next (length next) 0) → b ≢ 0
    → (get_or next a 0 ≡ b) ↔ (rank (walk next (length next) 0) b ≡ suc (rank (walk next (length next) 0) a))
follows_is next labels a b ring la lb ne =
    let ps : List ℕ = walk next (length next) 0 in
    let n : length ps ≡ length next = length-walk next (length next) 0 in
    let at_a : get_or ps (rank ps a) 0 ≡ a = get-rank ps a la in (
      λ (h : get_or next a 0 ≡ b).
          ⊎_elim
          (λ (u : suc (rank ps a) ≡ length next).
          absurd (ne (sym h ∙ subst (λ (t : ℕ). get_or next t 0 ≡ 0) at_a (last_next next labels (length next) (rank ps a) ring.round u))))
          (λ (u : suc (rank ps a) ≡ length next → ⊥).
          let l : suc (rank ps a) < length next = omega (arith, u) in
          let e : get_or ps (suc (rank ps a)) 0 ≡ b = walk_step next (length next) 0 (rank ps a) l ∙ (ap (λ (t : ℕ). get_or next t 0) at_a ∙ h) in
          subst (λ (t : ℕ). rank ps t ≡ suc (rank ps a)) e (rank-get ps (suc (rank ps a)) ring.numbered.distinct (omega arith)))
          (cases_eq (suc (rank ps a)) (length next)),
      λ (h : rank ps b ≡ suc (rank ps a)).
          let l : suc (rank ps a) < length next = omega arith in
          let e : get_or ps (suc (rank ps a)) 0 ≡ get_or next (get_or ps (rank ps a) 0) 0 = walk_step next (length next) 0 (rank ps a) l in
          ap (λ (t : ℕ). get_or next t 0) (sym at_a) ∙ (sym e ∙ (ap (λ (t : ℕ). get_or ps t 0) (sym h) ∙ get-rank ps b lb)),
    )

-- the link of a place leads to the next one of the list, and that of the last to place 0
pub next_is : (next labels : List ℕ) (a : ℕ) → IsRing next labels → rank (walk next (length next) 0) a < length (walk next (length next) 0) →
    ((get_or next a 0 ≡ 0) × (slice_get (walk next (length next) 0) (suc (rank (walk next (length next) 0) a)) ≡ None))
    ⊎ ((get_or next a 0 ≢ 0) × (slice_get (walk next (length next) 0) (suc (rank (walk next (length next) 0) a)) ≡ Some (get_or next a 0)))
next_is next labels a ring la =
    let ps : List ℕ = walk next (length next) 0 in
    let n : length ps ≡ length next = length-walk next (length next) 0 in
    let at_a : get_or ps (rank ps a) 0 ≡ a = get-rank ps a la in
    ⊎_elim
    (λ (u : suc (rank ps a) ≡ length next). inl (
      subst (λ (t : ℕ). get_or next t 0 ≡ 0) at_a
          (last_next next labels (length next) (rank ps a) ring.round u),
      slice_get_past ps (suc (rank ps a)) (omega arith),
    ))
    (λ (u : suc (rank ps a) ≡ length next → ⊥).
    let l : suc (rank ps a) < length next = omega (arith, u) in
    let e : get_or ps (suc (rank ps a)) 0 ≡ get_or next a 0 = walk_step next (length next) 0 (rank ps a) l ∙ ap (λ (t : ℕ). get_or next t 0) at_a in
    let r : rank ps (get_or ps (suc (rank ps a)) 0) ≡ suc (rank ps a) = rank-get ps (suc (rank ps a)) ring.numbered.distinct (omega arith) in
    let f : rank ps 0 ≡ 0 = first_rank next (length next) (omega arith) in
    inr (
      λ (z : get_or next a 0 ≡ 0). let same : rank ps (get_or ps (suc (rank ps a)) 0) ≡ rank ps 0 = ap (rank ps) (e ∙ z) in
          absurd (omega (arith, same, r, f)),
      slice_get-get_or ps (suc (rank ps a)) 0 (omega arith) ∙ ap Some e,
    ))
    (cases_eq (suc (rank ps a)) (length next))

pub reach_from : (labels : List ℕ) (a : ℕ) (qs : List ℕ) (k : ℕ) → k ≤ reach labels a qs k
reach_from labels a [] k = omega arith
reach_from labels a (q ∷ qs) k =
    ⊎_elim
    (λ (h : k * k < ahead a (label_of labels q)). let e : reach labels a (q ∷ qs) k ≡ k = rw (lt-ltb (k * k) (ahead a (label_of labels q)) h) refl in omega arith)
    (λ (h : ahead a (label_of labels q) ≤ k * k). let e : reach labels a (q ∷ qs) k ≡ reach labels a qs (suc k) =
    rw (le-ltb (k * k) (ahead a (label_of labels q)) h) refl in let r : suc k ≤ reach labels a qs (suc k) = reach_from labels a qs (suc k) in omega arith)
    (cases_lt (k * k) (ahead a (label_of labels q)))

-- one step of the search for room
pub record IsSearched (labels : List ℕ) (a : ℕ) (qs : List ℕ) (s : ℕ) : Type 0 where
  pub rest : reach labels a (drop ((s + 1) - 1) qs) (s + 1) ≡ reach labels a qs 1
  pub within : s + 1 ≤ reach labels a qs 1

pub search_on : (labels : List ℕ) (a : ℕ) (qs : List ℕ) (s q w : ℕ) → 1 ≤ s → s ≤ length qs → reach labels a (drop (s - 1) qs) s ≡ reach labels a qs 1
    → q ≡ get_or qs (s - 1) 0 → w ≡ ahead a (label_of labels q) → w ≤ s * s → IsSearched labels a qs s
search_on labels a qs s q w l m r e we h =
    let d : drop (s - 1) qs ≡ get_or qs (s - 1) 0 ∷ drop ((s - 1) + 1) qs = drop_more qs (s - 1) 0 (omega arith) in
    let i : (s - 1) + 1 ≡ (s + 1) - 1 = omega arith in
    let d' : drop (s - 1) qs ≡ q ∷ drop ((s + 1) - 1) qs = d ∙ ap₂ (λ (x n : ℕ). x ∷ drop n qs) (sym e) i in
    let h' : ahead a (label_of labels q) ≤ s * s = omega arith in
    let f : reach labels a (q ∷ drop ((s + 1) - 1) qs) s ≡ reach labels a (drop ((s + 1) - 1) qs) (suc s) = rw (le-ltb (s * s) (ahead a (label_of labels q)) h') refl in
    let n : suc s ≡ s + 1 = omega arith in
    let g : reach labels a (drop ((s + 1) - 1) qs) (s + 1) ≡ reach labels a qs 1 =
    ap (λ (t : ℕ). reach labels a (drop ((s + 1) - 1) qs) t) (sym n) ∙ (sym f ∙ (ap (λ (t : List ℕ). reach labels a t s) (sym d') ∙ r)) in
    record { rest = g; within = omega (arith, reach_from labels a (drop ((s + 1) - 1) qs) (s + 1)) }

pub search_end : (labels : List ℕ) (a : ℕ) (qs : List ℕ) (s q w : ℕ) → 1 ≤ s → s ≤ length qs
    → reach labels a (drop (s - 1) qs) s ≡ reach labels a qs 1 → q ≡ get_or qs (s - 1) 0 → w ≡ ahead a (label_of labels q) → s * s < w → s ≡ reach labels a qs 1
search_end labels a qs s q w l m r e we h =
    let d : drop (s - 1) qs ≡ get_or qs (s - 1) 0 ∷ drop ((s - 1) + 1) qs = drop_more qs (s - 1) 0 (omega arith) in
    let d' : drop (s - 1) qs ≡ q ∷ drop ((s - 1) + 1) qs = d ∙ ap (λ (x : ℕ). x ∷ drop ((s - 1) + 1) qs) (sym e) in
    let h' : s * s < ahead a (label_of labels q) = omega arith in
    let f : reach labels a (q ∷ drop ((s - 1) + 1) qs) s ≡ s = rw (lt-ltb (s * s) (ahead a (label_of labels q)) h') refl in
    sym f ∙ (ap (λ (t : List ℕ). reach labels a t s) (sym d') ∙ r)

pub walk_on : (next : List ℕ) (n p s q : ℕ) → 1 ≤ s → s < n → q ≡ get_or (walk next n p) (s - 1) 0 → get_or next q 0 ≡ get_or (walk next n p) ((s + 1) - 1) 0
walk_on next n p s q l m e =
    let i : suc (s - 1) ≡ (s + 1) - 1 = omega arith in
    let h : get_or (walk next n p) (suc (s - 1)) 0 ≡ get_or next (get_or (walk next n p) (s - 1) 0) 0 = walk_step next n p (s - 1) (omega arith) in
    ap (λ (t : ℕ). get_or next t 0) e ∙ (sym h ∙ ap (λ (t : ℕ). get_or (walk next n p) t 0) i)

walk_head : (next : List ℕ) (n p : ℕ) → 0 < n → get_or (walk next n p) 0 0 ≡ p
walk_head next zero p l = absurd (omega arith)
walk_head next (suc n) p l = refl

pub head_is : (next : List ℕ) (n p : ℕ) → 0 < n → p ≡ get_or (walk next n p) 0 0
head_is next n p l = sym (walk_head next n p l)

-- one step of the labelling
pub share_step : (labels qs : List ℕ) (a w j k at v : ℕ) → 1 ≤ k → k < j → j ≤ length qs → at ≡ get_or qs (k - 1) 0 → v ≡ (a + w * k / j) % circle
    → spread (set labels at v) (drop ((k + 1) - 1) (take (j - 1) qs)) a w j (k + 1) ≡ spread labels (drop (k - 1) (take (j - 1) qs)) a w j k
share_step labels qs a w j k at v l m n e f =
    let t : List ℕ = take (j - 1) qs in
    let d : drop (k - 1) t ≡ get_or t (k - 1) 0 ∷ drop ((k - 1) + 1) t = drop_more t (k - 1) 0 (omega (arith, length-take (j - 1) qs)) in
    let g : get_or t (k - 1) 0 ≡ at = get_or-take (j - 1) qs (k - 1) 0 (omega arith) ∙ sym e in
    let i : (k - 1) + 1 ≡ (k + 1) - 1 = omega arith in
    let d' : drop (k - 1) t ≡ at ∷ drop ((k + 1) - 1) t = d ∙ ap₂ (λ (x y : ℕ). x ∷ drop y t) g i in
    let s : suc k ≡ k + 1 = omega arith in
    ap₂ (λ (x y : ℕ). spread (set labels at x) (drop ((k + 1) - 1) t) a w j y) f (sym s) ∙ ap (λ (u : List ℕ). spread labels u a w j k) (sym d')

pub few_is : {spare : ℕ} (next labels : List ℕ) (now : Labelled) → seen_of next labels spare ≡ now → length now.places < 2 ^ 30 → length next < 2 ^ 30
few_is next labels now e l =
    let h : length (walk next (length next) 0) < 2 ^ 30 = subst (λ (s : Labelled). length s.places < 2 ^ 30) (sym e) l in
    omega (arith, length-walk next (length next) 0)

pub found_is : (next labels : List ℕ) (p : ℕ) → IsRing next labels → rank (walk next (length next) 0) p < length (walk next (length next) 0)
    → length next < 2 ^ 30 → reach labels (label_of labels p) (walk next (length next) (get_or next p 0)) 1 ≤ length next
found_is next labels p ring l few =
    let ps : List ℕ = walk next (length next) 0 in
    let others : List ℕ = drop (suc (rank ps p)) ps ++ take (rank ps p) ps in
    let c : IsCircleFrom next labels ps p others = circle_from next labels p ring l in
    let r : IsReached labels (label_of labels p) (others ++ p ∷ []) 1 (reach labels (label_of labels p) (others ++ p ∷ []) 1) = reached labels others p (length next) ring.low c.count few in
    let s : reach labels (label_of labels p) (others ++ p ∷ []) 1 ≤ length next = omega (arith, r.there, c.count, length-append others (p ∷ [])) in
    subst (λ (qs : List ℕ). reach labels (label_of labels p) qs 1 ≤ length next) (sym c.walk_is) s

pub same_around : (next labels : List ℕ) (p : ℕ) → IsRing next labels → rank (walk next (length next) 0) p < length (walk next (length next) 0)
    → walk next (length next) (get_or next p 0) ≡ around (walk next (length next) 0) p
same_around next labels p ring l = (circle_from next labels p ring l).walk_is

-- what the body of insertion has made
pub record IsMade (next labels : List ℕ) (p : ℕ) (behind fresh label : ℕ) (room : List ℕ) : Type 0 where
  pub behind_is : behind ≡ get_or next p 0
  pub fresh_is : fresh ≡ length next
  pub room_is : room ≡ with_room labels (walk next (length next) (get_or next p 0)) p
  pub label_is : label ≡ (label_of labels p + gap labels (walk next (length next) (get_or next p 0)) p / 2) % circle

pub record IsAllDone (now : Labelled) (p : ℕ) (next' labels' : List ℕ) (fresh : ℕ) : Type 0 where
  pub ring : IsRing next' labels'
  pub places : IsInsertedAfter now.places (walk next' (length next') 0) p fresh
  pub labels : labels' ≡ labels_after now.labels (around now.places p) p

pub all_done : {spare : ℕ} (next labels : List ℕ) (now : Labelled) (p behind fresh label : ℕ) (room next' labels' : List ℕ)
    → seen_of next labels spare ≡ now → IsRing next labels → IsIn now.places p → length now.places < 2 ^ 30
    → IsMade next labels p behind fresh label room → next' ≡ next ++ behind ∷ [] → labels' ≡ room ++ label ∷ []
    → IsAllDone now p (set next' p fresh) labels' fresh
all_done next labels now p behind fresh label room next' labels' e ring h few m en el =
    let l : rank (walk next (length next) 0) p < length (walk next (length next) 0) = seen next labels now p e h in
    let w : walk next (length next) (get_or next p 0) ≡ around (walk next (length next) 0) p = same_around next labels p ring l in
    let d : IsDone next labels p (set (next ++ get_or next p 0 ∷ []) p (length next)) (labels_after labels (around (walk next (length next) 0) p) p) =
    done next labels p ring l (few_is next labels now e few) in
    let en' : set next' p fresh ≡ set (next ++ get_or next p 0 ∷ []) p (length next) = ap₂ (λ (t : List ℕ) (z : ℕ). set t p z) (en ∙ ap (λ (v : ℕ). next ++ v ∷ []) m.behind_is) m.fresh_is in
    let el' : labels' ≡ labels_after labels (walk next (length next) (get_or next p 0)) p = el ∙ ap₂ (λ (t : List ℕ) (v : ℕ). t ++ v ∷ []) m.room_is m.label_is in
    let el'' : labels' ≡ labels_after labels (around (walk next (length next) 0) p) p = el' ∙ ap (λ (qs : List ℕ). labels_after labels qs p) w in
    let r : IsRing (set next' p fresh) labels' = subst (λ (t : List ℕ). IsRing (set next' p fresh) t) (sym el'')
    (subst (λ (t : List ℕ). IsRing t (labels_after labels (around (walk next (length next) 0) p) p)) (sym en') d.ring) in
    let q : IsInsertedAfter (walk next (length next) 0) (walk (set next' p fresh) (length (set next' p fresh)) 0) p (length next) =
    subst (λ (t : List ℕ). IsInsertedAfter (walk next (length next) 0) (walk t (length t) 0) p (length next)) (sym en') d.places in
    let q' : IsInsertedAfter (walk next (length next) 0) (walk (set next' p fresh) (length (set next' p fresh)) 0) p fresh =
    subst (λ (z : ℕ). IsInsertedAfter (walk next (length next) 0) (walk (set next' p fresh) (length (set next' p fresh)) 0) p z) (sym m.fresh_is) q in
    record {
      ring = r;
      places = subst (λ (s : Labelled). IsInsertedAfter s.places (walk (set next' p fresh) (length (set next' p fresh)) 0) p fresh) e q';
      labels = el'' ∙ ap (λ (s : Labelled). labels_after s.labels (around s.places p) p) e;
    }

-- there is a label for a place behind each one
pub record IsFound (now : Labelled) (p : ℕ) : Type 0 where
  pub found : reach now.labels (label_of now.labels p) (around now.places p) 1 ≤ length now.places
  pub gap : 2 ≤ gap now.labels (around now.places p) p

pub found_there : {spare : ℕ} (next labels : List ℕ) (now : Labelled) (p : ℕ) → seen_of next labels spare ≡ now → IsRing next labels → IsIn now.places p → length now.places < 2 ^ 30 → IsFound now p
found_there next labels now p e ring h few =
    let l : rank (walk next (length next) 0) p < length (walk next (length next) 0) = seen next labels now p e h in
    let w : walk next (length next) (get_or next p 0) ≡ around (walk next (length next) 0) p = same_around next labels p ring l in
    let d : IsDone next labels p (set (next ++ get_or next p 0 ∷ []) p (length next)) (labels_after labels (around (walk next (length next) 0) p) p) =
    done next labels p ring l (few_is next labels now e few) in
    let r : reach labels (label_of labels p) (walk next (length next) (get_or next p 0)) 1 ≤ length next = found_is next labels p ring l (few_is next labels now e few) in
    let s : reach labels (label_of labels p) (around (walk next (length next) 0) p) 1 ≤ length (walk next (length next) 0) =
    omega (arith, length-walk next (length next) 0, subst (λ (qs : List ℕ). reach labels (label_of labels p) qs 1 ≤ length next) w r) in
    subst (λ (t : Labelled). IsFound t p) e (record { found = s; gap = d.gap })
