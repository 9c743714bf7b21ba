-- What the bisection finds among the held nodes, and an insertion in a list of numbers.
use Rattle.std.proofs.Common.{◌≡◌, ℕ, suc, ◌+◌, ◌-◌, ◌*◌, ◌%◌, ◌^◌, ◌<◌, ◌≤◌, lit<, List, [], ◌∷◌, length, get_or, map, insert, refl, sym, ap, ◌∙◌, subst, ⊎_elim, arith}
use Rattle.std.proofs.lemmas.Bool.{cases_lt}
use Rattle.std.proofs.lemmas.List.{get_or-map}
use Rattle.pst_order.specs.Places.{rank}
use Rattle.pst_order.specs.Search.{IsFewMore}
use Rattle.std.proofs.lemmas.Nat.{pow-add}
use Rattle.std.proofs.Math.Nat.{pow-le-pow_right}
use Rattle.std.proofs.Math.Pow.{shl_exact}
use Rattle.pst_nodes.specs.declared.node.Node.{Node}
use Rattle.pst_nodes.specs.Arena.{lo_at}
use Rattle.pst_roots.specs.declared.pieces.Stretch.{Stretch}
use Rattle.pst_roots.specs.declared.pieces.Halves.{Halves}
use Rattle.pst_roots.specs.Pieces.{Held}
use Rattle.pst_roots.specs.Stretches.{AreHalvesOf}
use Rattle.pst_roots.specs.Roots.{begins_of, AreRoots, IsLastIndex, IsLastBefore, IsAddedRoot}

pow_more : (k : ℕ) → 2 ^ (k + 1) ≡ 2 * 2 ^ k
pow_more k = omega (arith, pow-add 2 k 1)

pow_grows : (k m : ℕ) → 2 ^ k ≤ 2 ^ (k + m)
pow_grows k m = pow-le-pow_right (omega arith) (omega arith)

-- Of the held nodes, the last one that does not begin after a place is the one at `low` or stands behind it, before `high`; and
-- `left` comparisons more find it.
pub record IsBetween (list : List ℕ) (nodes : List Node) (held : List ℕ) (at low high left old new : ℕ) : Type 0 where
  pub ordered : low < high
  pub within : high ≤ length held
  pub early : rank list (get_or (begins_of nodes held) low 0) ≤ rank list at
  pub late : (i : ℕ) → high ≤ i → i < length held → rank list at < rank list (get_or (begins_of nodes held) i 0)
  pub near : high - low ≤ 2 ^ left
  pub more : ℕ
  pub count : new ≡ old + more
  pub few : 2 ^ (more + left) ≤ 2 * length held + 1
  pub least : more + left ≤ 64

module _ (list : List ℕ) (nodes : List Node) (held : List ℕ) (at : ℕ) (are : AreRoots list nodes held at) where
  begin_is : (i : ℕ) → i < length held → get_or (begins_of nodes held) i 0 ≡ lo_at nodes (get_or held i 0)
  begin_is i l = get_or-map (lo_at nodes) held i 0 0 l

  -- before the first comparison
  pub between_all : (count log old : ℕ) → count ≡ length held → 2 ^ log ≤ count → count < 2 * 2 ^ log → log < 64 → IsBetween list nodes held at 0 count (log + 1) old old
  between_all count log old is least most small =
      let twice : 2 ^ (log + 1) ≡ 2 * 2 ^ log = pow_more log in
      let none : 0 + (log + 1) ≡ log + 1 = omega arith in
      record {
        ordered = omega (arith, are.some);
        within = omega arith;
        early = subst (λ (p : ℕ). rank list p ≤ rank list at) (sym (begin_is 0 are.some)) are.first;
        late = λ i a b. absurd (omega arith);
        near = omega arith;
        more = 0;
        count = omega arith;
        few = subst (λ (k : ℕ). 2 ^ k ≤ 2 * length held + 1) (sym none) (omega arith);
        least = omega arith;
      }

  module _ (low high left old new : ℕ) (b : IsBetween list nodes held at low high left old new) where
    -- where only one is left, it is found
    pub last_index : high - low ≤ 1 → IsLastIndex list nodes held at low
    last_index one = record {
      within = omega (arith, b.ordered, b.within);
      early = subst (λ (p : ℕ). rank list p ≤ rank list at) (begin_is low (omega (arith, b.ordered, b.within))) b.early;
      late = λ i l m. subst (λ (p : ℕ). rank list at < rank list p) (begin_is i m) (b.late i (omega arith) m);
    }

    -- a comparison is left where two nodes are
    pub some_left : 1 < high - low → 0 < left
    some_left two = ⊎_elim
        (λ (l : 0 < left). l)
        (λ (l : left ≤ 0).
        let none : left ≡ 0 = omega arith in
        let one : 2 ^ left ≡ 1 = ap (λ (k : ℕ). 2 ^ k) none in
        absurd (omega (arith, b.near)))
        (cases_lt 0 left)

    -- half as many as before may be left after it, a power that is shifted
    pub shifted : 0 < left → (1 * 2 ^ (left - 1)) % 2 ^ 64 ≡ 2 ^ (left - 1)
    shifted some =
        let one : 1 * 2 ^ (left - 1) ≡ 2 ^ (left - 1) = omega arith in
        let small : 1 < 2 ^ 1 = lit< tt in
        shl_exact 1 (left - 1) 64 small (omega (arith, b.least)) ∙ one

    pub halves : 0 < left → high - low ≤ 2 * 2 ^ (left - 1)
    halves some =
        let next : left ≡ (left - 1) + 1 = omega arith in
        let twice : 2 ^ left ≡ 2 * 2 ^ (left - 1) = ap (λ (k : ℕ). 2 ^ k) next ∙ pow_more (left - 1) in
        omega (arith, b.near)

    still_few : (half : ℕ) → half ≡ left - 1 → 0 < left → 2 ^ ((b.more + 1) + half) ≤ 2 * length held + 1
    still_few half is some =
        let same : b.more + left ≡ (b.more + 1) + half = omega arith in
        subst (λ (k : ℕ). 2 ^ k ≤ 2 * length held + 1) same b.few

    module _ (half middle new' : ℕ) (is : half ≡ left - 1) (some : 0 < left) (after : low < middle) (before : middle < high) (called : new' ≡ new + 1) where
      pub before_middle : middle - low ≤ 2 ^ half → rank list at < rank list (get_or (begins_of nodes held) middle 0) → IsBetween list nodes held at low middle half old new'
      before_middle few h = record {
        ordered = after;
        within = omega (arith, b.within);
        early = b.early;
        late = λ i l m. ⊎_elim
            (λ (k : middle < i). omega (arith, h, are.rising.rising middle i (omega arith) k m))
            (λ (k : i ≤ middle).
            let same : middle ≡ i = omega arith in
            subst (λ (j : ℕ). rank list at < rank list (get_or (begins_of nodes held) j 0)) same h)
            (cases_lt middle i);
        near = few;
        more = b.more + 1;
        count = omega (arith, b.count);
        few = still_few half is some;
        least = omega (arith, b.least);
      }

      pub from_middle : high - middle ≤ 2 ^ half → rank list (get_or (begins_of nodes held) middle 0) ≤ rank list at → IsBetween list nodes held at middle high half old new'
      from_middle few h = record {
        ordered = before;
        within = b.within;
        early = h;
        late = b.late;
        near = few;
        more = b.more + 1;
        count = omega (arith, b.count);
        few = still_few half is some;
        least = omega (arith, b.least);
      }

    -- few comparisons were made at the end
    pub few_more : IsFewMore (length held) old new
    few_more = record {
      more = b.more;
      count = b.count;
      few = omega (arith, b.few, pow_grows b.more left);
    }

-- where a stretch in which the node stands is cut in two
module _ (list : List ℕ) (nodes : List Node) (held : Held) (at : ℕ) (are : AreRoots list nodes held.nodes at) (stretch : Stretch) (left old new : ℕ)
    (b : IsBetween list nodes held.nodes at stretch.low stretch.high left old new) (two : 1 < stretch.high - stretch.low) (cut : Halves)
    (halves : AreHalvesOf held stretch ((1 * 2 ^ (left - 1)) % 2 ^ 64) cut) where
  there : cut.second.low < length held.nodes
  there = omega (arith, halves.second.ordered, halves.second.within)

  begins : lo_at nodes cut.node.0 ≡ get_or (begins_of nodes held.nodes) cut.second.low 0
  begins = ap (lo_at nodes) halves.node ∙ sym (get_or-map (lo_at nodes) held.nodes cut.second.low 0 0 there)

  -- the first node of the second half begins at a place of the list
  pub begins_in : rank list (lo_at nodes cut.node.0) < length list
  begins_in = subst (λ (p : ℕ). rank list p < length list) (sym begins) (are.rising.each cut.second.low (omega arith) there)

  some : 0 < left
  some = some_left list nodes held.nodes at are stretch.low stretch.high left old new b two

  shift : (1 * 2 ^ (left - 1)) % 2 ^ 64 ≡ 2 ^ (left - 1)
  shift = shifted list nodes held.nodes at are stretch.low stretch.high left old new b some

  pub in_first : (new' : ℕ) → new' ≡ new + 1 → rank list at < rank list (lo_at nodes cut.node.0) → IsBetween list nodes held.nodes at cut.first.low cut.first.high (left - 1) old new'
  in_first new' called h =
      let found : IsBetween list nodes held.nodes at stretch.low cut.second.low (left - 1) old new' =
      before_middle list nodes held.nodes at are stretch.low stretch.high left old new b (left - 1) cut.second.low new' refl some
      (omega (arith, halves.first.ordered, halves.low, halves.meet))
      (omega (arith, halves.second.ordered, halves.high))
      called
      (omega (arith, halves.first_most, halves.low, halves.meet, shift))
      (subst (λ (p : ℕ). rank list at < rank list p) begins h) in
      subst (λ (i : ℕ). IsBetween list nodes held.nodes at i cut.first.high (left - 1) old new') (sym halves.low)
      (subst (λ (i : ℕ). IsBetween list nodes held.nodes at stretch.low i (left - 1) old new') (sym halves.meet) found)

  pub in_second : (new' : ℕ) → new' ≡ new + 1 → rank list (lo_at nodes cut.node.0) ≤ rank list at → IsBetween list nodes held.nodes at cut.second.low cut.second.high (left - 1) old new'
  in_second new' called h =
      let found : IsBetween list nodes held.nodes at cut.second.low stretch.high (left - 1) old new' =
      from_middle list nodes held.nodes at are stretch.low stretch.high left old new b (left - 1) cut.second.low new' refl some
      (omega (arith, halves.first.ordered, halves.low, halves.meet))
      (omega (arith, halves.second.ordered, halves.high))
      called
      (omega (arith, halves.second_most, halves.high, shift))
      (subst (λ (p : ℕ). rank list p ≤ rank list at) begins h) in
      subst (λ (i : ℕ). IsBetween list nodes held.nodes at cut.second.low i (left - 1) old new') (sym halves.high) found

-- a held node does not begin after the place, and the next one does
pub last_beside : (list : List ℕ) (nodes : List Node) (held : List ℕ) (at k : ℕ) → AreRoots list nodes held at → suc k < length held
    → rank list (get_or (begins_of nodes held) k 0) ≤ rank list at → rank list at < rank list (get_or (begins_of nodes held) (suc k) 0)
    → IsLastIndex list nodes held at k
last_beside list nodes held at k are l early next =
    let begin_is : (i : ℕ) → i < length held → get_or (begins_of nodes held) i 0 ≡ lo_at nodes (get_or held i 0) = λ i l. get_or-map (lo_at nodes) held i 0 0 l in
    record {
      within = omega (arith, l);
      early = subst (λ (p : ℕ). rank list p ≤ rank list at) (begin_is k (omega (arith, l))) early;
      late = λ i a b. subst (λ (p : ℕ). rank list at < rank list p) (begin_is i b) (⊎_elim
          (λ (m : suc k < i). omega (arith, next, are.rising.rising (suc k) i (omega arith) m b))
          (λ (m : i ≤ suc k).
          let same : suc k ≡ i = omega (arith, m, a) in
          subst (λ (j : ℕ). rank list at < rank list (get_or (begins_of nodes held) j 0)) same next)
          (cases_lt (suc k) i));
    }

-- the node at the index is the last one before the place
abbrev pub last_before : (list : List ℕ) (nodes : List Node) (held : List ℕ) (at k : ℕ) → IsLastIndex list nodes held at k → IsLastBefore list nodes held at (get_or held k 0)
last_before list nodes held at k last = record { index = k; within = last.within; held_there = refl; early = last.early; late = last.late }

-- the list with a node behind that one
pub added_root : (list : List ℕ) (nodes : List Node) (old new : List ℕ) (right k : ℕ) → IsLastIndex list nodes old (lo_at nodes right) k
    → new ≡ insert old (suc k) right → IsAddedRoot list nodes old new right
added_root list nodes old new right k last is = record { left = get_or old k 0; before = last_before list nodes old (lo_at nodes right) k last; held = is }

module _ {A : Type 0} (f : A → ℕ) where
  pub length_of : (xs : List A) → length (map f xs) ≡ length xs
  length_of [] = refl
  length_of (x ∷ xs) = ap suc (length_of xs)
