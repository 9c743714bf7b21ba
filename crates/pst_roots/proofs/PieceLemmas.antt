-- Lists in pieces: where each piece starts, an element put into a piece, and a piece that is cut in two.
use Rattle.std.proofs.Common.{◌≡◌, ℕ, zero, suc, ◌+◌, ◌-◌, ◌*◌, ◌^◌, ◌<◌, ◌≤◌, Bool, true, false, cond, List, [], ◌∷◌, ◌++◌, length, get_or, map, take, drop}
use Rattle.std.proofs.Common.{set, insert, All, ⊎_elim, leb, leb-true, leb-false, refl, sym, ap, ◌∙◌, subst, add-one, arith}
use Rattle.std.specs.List.{concat}
use Rattle.std.specs.Vec.{vec_capacity}
use Rattle.std.specs.declared.vec.Vec.{Vec}
use Rattle.std.specs.declared.alloc.Global.{Global}
use Rattle.std.specs.List.Sorted.{IsPartitionPoint, IsNonDecreasing}
use Rattle.std.proofs.lemmas.List.Sorted.{IsNonDecreasingBy-from_default}
use Rattle.std.proofs.lemmas.Bool.{cases_lt}
use Rattle.std.proofs.lemmas.List.{append_assoc, length-append, length-set, length-drop, length-take-le, get_or_append_left, get_or-append-add}
use Rattle.std.proofs.lemmas.List.{take-append-drop, nil_from_length, get_or_read, get_or_default}
use Rattle.std.proofs.lemmas.List.Elements.{All-head, All-tail, All-cons, All-append, All-set, All-take, All-drop}
use Rattle.std.proofs.lemmas.List.Edits.{length-insert, insert-append_left, insert-append_right}
use Rattle.pst_roots.specs.Pieces.{starts_from, IsPiece, AreCut, IsStartBefore, IsPieceAt, FallsInto, halved}

-- what a call that succeeds leaves
pub when_true : {X : Type 0} (b : Bool) (now x y : X) → b ≡ true → now ≡ cond b x y → now ≡ x
when_true b now x y is e = subst (λ (t : Bool). now ≡ cond t x y) is e

pub map_insert : {A B : Type 0} (f : A → B) (xs : List A) (i : ℕ) (y : A) → map f (insert xs i y) ≡ insert (map f xs) i (f y)
map_insert f [] zero y = refl
map_insert f [] (suc i) y = refl
map_insert f (x ∷ xs) zero y = refl
map_insert f (x ∷ xs) (suc i) y = ap (λ ys. f x ∷ ys) (map_insert f xs i y)

pub length_starts : (n : ℕ) (ps : List (List ℕ)) → length (starts_from n ps) ≡ length ps
length_starts n [] = refl
length_starts n (p ∷ ps) = ap suc (length_starts (n + length p) ps)

-- where the pieces before a piece end, counted from 0
abbrev pub before : List (List ℕ) → ℕ → ℕ
before ps k = length (concat (take k ps))

pub start_is : (n : ℕ) (ps : List (List ℕ)) (k : ℕ) → k < length ps → get_or (starts_from n ps) k 0 ≡ n + before ps k
start_is n [] k l = absurd (omega arith)
start_is n (p ∷ ps) zero l = omega arith
start_is n (p ∷ ps) (suc k) l = omega (arith, start_is (n + length p) ps k (omega arith), length-append p (concat (take k ps)))

-- a piece ends no later than all pieces, and where the next one starts
pub end_within : (ps : List (List ℕ)) (k : ℕ) → k < length ps → before ps k + length (get_or ps k []) ≤ length (concat ps)
end_within [] k l = absurd (omega arith)
end_within (p ∷ ps) zero l = omega (arith, length-append p (concat ps))
end_within (p ∷ ps) (suc k) l = omega (arith, end_within ps k (omega arith), length-append p (concat ps), length-append p (concat (take k ps)))

pub before_next : (ps : List (List ℕ)) (k : ℕ) → k < length ps → before ps (suc k) ≡ before ps k + length (get_or ps k [])
before_next [] k l = absurd (omega arith)
before_next (p ∷ ps) zero l = omega (arith, length-append p [])
before_next (p ∷ ps) (suc k) l = omega (arith, before_next ps k (omega arith), length-append p (concat (take (suc k) ps)), length-append p (concat (take k ps)))

pub last_end : (ps : List (List ℕ)) (k : ℕ) → suc k ≡ length ps → before ps k + length (get_or ps k []) ≡ length (concat ps)
last_end [] k e = absurd (omega arith)
last_end (p ∷ []) zero e = omega (arith, length-append p [])
last_end (p ∷ q ∷ ps) zero e = absurd (omega arith)
last_end (p ∷ ps) (suc k) e = omega (arith, last_end ps k (omega arith), length-append p (concat ps), length-append p (concat (take k ps)))

pub before_rises : (ps : List (List ℕ)) (i j : ℕ) → i ≤ j → before ps i ≤ before ps j
before_rises [] zero zero l = omega arith
before_rises [] zero (suc j) l = omega arith
before_rises [] (suc i) zero l = absurd (omega arith)
before_rises [] (suc i) (suc j) l = omega arith
before_rises (p ∷ ps) zero j l = omega arith
before_rises (p ∷ ps) (suc i) zero l = absurd (omega arith)
before_rises (p ∷ ps) (suc i) (suc j) l = omega (arith, before_rises ps i j (omega arith), length-append p (concat (take i ps)), length-append p (concat (take j ps)))

-- an element by its piece
pub element_at : (ps : List (List ℕ)) (k j : ℕ) → k < length ps → j < length (get_or ps k []) → get_or (concat ps) (before ps k + j) 0 ≡ get_or (get_or ps k []) j 0
element_at [] k j l h = absurd (omega arith)
element_at (p ∷ ps) zero j l h =
    let at : 0 + j ≡ j = omega arith in
    ap (λ (i : ℕ). get_or (p ++ concat ps) i 0) at ∙ get_or_append_left p (concat ps) 0 j h
element_at (p ∷ ps) (suc k) j l h =
    let at : length (p ++ concat (take k ps)) + j ≡ length p + (before ps k + j) = omega (arith, length-append p (concat (take k ps))) in
    ap (λ (i : ℕ). get_or (p ++ concat ps) i 0) at ∙ get_or-append-add p (concat ps) (before ps k + j) 0 ∙ element_at ps k j (omega arith) h

-- an element put into a piece
pub insert_in : (ps : List (List ℕ)) (k i y : ℕ) → k < length ps → i ≤ length (get_or ps k []) → concat (set ps k (insert (get_or ps k []) i y)) ≡ insert (concat ps) (before ps k + i) y
insert_in [] k i y l h = absurd (omega arith)
insert_in (p ∷ ps) zero i y l h =
    let at : i ≡ 0 + i = omega arith in
    sym (insert-append_left p (concat ps) i y h) ∙ ap (λ (j : ℕ). insert (p ++ concat ps) j y) at
insert_in (p ∷ ps) (suc k) i y l h =
    let at : length (p ++ concat (take k ps)) + i ≡ length p + (before ps k + i) = omega (arith, length-append p (concat (take k ps))) in
    let rest : (length p + (before ps k + i)) - length p ≡ before ps k + i = omega arith in
    ap (λ (qs : List ℕ). p ++ qs) (insert_in ps k i y (omega arith) h)
    ∙ ap (λ (j : ℕ). p ++ insert (concat ps) j y) (sym rest)
    ∙ sym (insert-append_right p (concat ps) (length p) (length p + (before ps k + i)) y refl (omega arith))
    ∙ ap (λ (j : ℕ). insert (p ++ concat ps) j y) (sym at)

-- each start one higher
pub starts_suc : (n : ℕ) (ps : List (List ℕ)) → starts_from (suc n) ps ≡ map suc (starts_from n ps)
starts_suc n [] = refl
starts_suc n (p ∷ ps) =
    let next : suc n + length p ≡ suc (n + length p) = omega arith in
    ap (λ (qs : List ℕ). suc n ∷ qs) (ap (λ (m : ℕ). starts_from m ps) next ∙ starts_suc (n + length p) ps)

-- the starts where a piece gets one element more
pub starts_grown : (n : ℕ) (ps : List (List ℕ)) (k : ℕ) (q : List ℕ) → k < length ps → length q ≡ length (get_or ps k []) + 1
    → starts_from n (set ps k q) ≡ take (suc k) (starts_from n ps) ++ map suc (drop (suc k) (starts_from n ps))
starts_grown n [] k q l e = absurd (omega arith)
starts_grown n (p ∷ ps) zero q l e =
    let next : n + length q ≡ suc (n + length p) = omega (arith, e) in
    ap (λ (qs : List ℕ). n ∷ qs) (ap (λ (m : ℕ). starts_from m ps) next ∙ starts_suc (n + length p) ps)
starts_grown n (p ∷ ps) (suc k) q l e = ap (λ (qs : List ℕ). n ∷ qs) (starts_grown (n + length p) ps k q (omega arith) e)

module _ (a b : List ℕ) where
  -- what is in the pieces where one is cut in two
  pub concat_cut : (ps : List (List ℕ)) (k : ℕ) → k < length ps → a ++ b ≡ get_or ps k [] → concat (insert (set ps k a) (suc k) b) ≡ concat ps
  concat_cut [] k l e = absurd (omega arith)
  concat_cut (p ∷ ps) zero l e = sym (append_assoc a b (concat ps)) ∙ ap (λ (q : List ℕ). q ++ concat ps) e
  concat_cut (p ∷ ps) (suc k) l e = ap (λ (q : List ℕ). p ++ q) (concat_cut ps k (omega arith) e)

  -- the pieces before it stay
  pub take_cut : (ps : List (List ℕ)) (k : ℕ) → k < length ps → take k (insert (set ps k a) (suc k) b) ≡ take k ps
  take_cut [] k l = absurd (omega arith)
  take_cut (p ∷ ps) zero l = refl
  take_cut (p ∷ ps) (suc k) l = ap (λ (qs : List (List ℕ)). p ∷ qs) (take_cut ps k (omega arith))

  -- the two pieces that it becomes
  pub first_part : (ps : List (List ℕ)) (k : ℕ) → k < length ps → get_or (insert (set ps k a) (suc k) b) k [] ≡ a
  first_part [] k l = absurd (omega arith)
  first_part (p ∷ ps) zero l = refl
  first_part (p ∷ ps) (suc k) l = first_part ps k (omega arith)

  pub second_part : (ps : List (List ℕ)) (k : ℕ) → k < length ps → get_or (insert (set ps k a) (suc k) b) (suc k) [] ≡ b
  second_part [] k l = absurd (omega arith)
  second_part (p ∷ ps) zero l = refl
  second_part (p ∷ ps) (suc k) l = second_part ps k (omega arith)

  pub length_cut : (ps : List (List ℕ)) (k : ℕ) → k < length ps → length (insert (set ps k a) (suc k) b) ≡ suc (length ps)
  length_cut [] k l = absurd (omega arith)
  length_cut (p ∷ ps) zero l = refl
  length_cut (p ∷ ps) (suc k) l = ap suc (length_cut ps k (omega arith))

  -- the starts of them
  pub starts_cut : (n : ℕ) (ps : List (List ℕ)) (k : ℕ) → k < length ps → length a + length b ≡ length (get_or ps k [])
      → starts_from n (insert (set ps k a) (suc k) b) ≡ insert (starts_from n ps) (suc k) (get_or (starts_from n ps) k 0 + length a)
  starts_cut n [] k l e = absurd (omega arith)
  starts_cut n (p ∷ ps) zero l e =
      let next : (n + length a) + length b ≡ n + length p = omega (arith, e) in
      ap (λ (m : ℕ). n ∷ (n + length a) ∷ starts_from m ps) next
  starts_cut n (p ∷ ps) (suc k) l e = ap (λ (qs : List ℕ). n ∷ qs) (starts_cut (n + length p) ps k (omega arith) e)

-- how much pieces hold
pub few_held : (ps : List (List ℕ)) → All IsPiece ps → length (concat ps) ≤ 1024 * length ps
few_held [] each = omega arith
few_held (p ∷ ps) each =
    let head : IsPiece p = All-head IsPiece p ps each in
    omega (arith, head.most, few_held ps (All-tail IsPiece p ps each), length-append p (concat ps))

module _ (starts : List ℕ) (index r : ℕ) (first : IsStartBefore starts index) (point : IsPartitionPoint (λ (s : ℕ). leb s index ≡ true) (λ (s : ℕ). leb s index ≡ false) starts r) where
  -- the first piece starts before the index
  pub some_start : 0 < r
  some_start = ⊎_elim
      (λ (l : 0 < r). l)
      (λ (l : r ≤ 0). absurd (omega (arith, leb-false _ _ (point.1 0 0 l first.some), first.first)))
      (cases_lt 0 r)

  pub piece_found : r ≤ length starts → IsPieceAt starts index (r - 1)
  piece_found bound = record {
    there = omega (arith, some_start);
    early = leb-true _ _ (point.0 (r - 1) 0 (omega arith) (omega (arith, some_start)));
    late = λ k a b. leb-false _ _ (point.1 k 0 (omega (arith, some_start)) b);
  }

module _ (ps : List (List ℕ)) (starts : List ℕ) (are : starts ≡ starts_from 0 ps) where
  pub many_starts : length starts ≡ length ps
  many_starts = ap length are ∙ length_starts 0 ps

  -- a piece starts where the pieces before it end
  pub start_at : (k : ℕ) → k < length ps → get_or starts k 0 ≡ before ps k
  start_at k l = omega (arith, ap (λ (xs : List ℕ). get_or xs k 0) are, start_is 0 ps k l)

  pub starts_rise : IsNonDecreasing starts
  starts_rise = IsNonDecreasingBy-from_default (λ x. x) starts 0 (λ i j low high.
      let there : j < length ps = omega (arith, many_starts) in
      omega (arith, start_at i (omega arith), start_at j there, before_rises ps i j low))

  pub start_before : (index : ℕ) → index < length (concat ps) → IsStartBefore starts index
  start_before index l =
      let some : 0 < length ps = ⊎_elim
      (λ (h : 0 < length ps). h)
      (λ (h : length ps ≤ 0). absurd (omega (arith, ap (λ (qs : List (List ℕ)). length (concat qs)) (nil_from_length ps (omega arith)))))
      (cases_lt 0 (length ps)) in
      record { some = omega (arith, many_starts); first = omega (arith, start_at 0 some) }

  -- an index falls into the last piece that does not start behind it
  pub falls_into : (seen : List ℕ) → seen ≡ starts → (index at : ℕ) → index < length (concat ps) → IsPieceAt seen index at → FallsInto ps starts index at
  falls_into seen same index at l found =
      let piece : IsPieceAt starts index at = subst (λ (xs : List ℕ). IsPieceAt xs index at) same found in
      let there : at < length ps = omega (arith, piece.there, many_starts) in
      record {
        there = there;
        early = piece.early;
        within = ⊎_elim
            (λ (h : suc at < length ps). omega (arith, piece.late (suc at) (omega arith) (omega (arith, many_starts)), start_at (suc at) h, start_at at there, before_next ps at there))
            (λ (h : length ps ≤ suc at). omega (arith, last_end ps at (omega arith), start_at at there))
            (cases_lt (suc at) (length ps));
      }

  -- a start that was read
  pub start_read : (at start : ℕ) → at < length ps → start ≡ get_or starts at start → start ≡ get_or starts at 0
  start_read at start l e = get_or_read starts at start (omega (arith, many_starts)) e 0

  pub falls_element : (index at : ℕ) → FallsInto ps starts index at → get_or (get_or ps at []) (index - get_or starts at 0) 0 ≡ get_or (concat ps) index 0
  falls_element index at falls =
      let at_is : before ps at + (index - get_or starts at 0) ≡ index = omega (arith, start_at at falls.there, falls.early) in
      sym (element_at ps at (index - get_or starts at 0) falls.there (omega (arith, falls.early, falls.within))) ∙ ap (λ (i : ℕ). get_or (concat ps) i 0) at_is

  -- the first element of a piece stands where the piece starts
  module _ (each : All IsPiece ps) (k : ℕ) (l : k < length ps) where
    some : IsPiece (get_or ps k [])
    some = each k [] l

    -- where a piece starts is an index that falls into it
    pub own_piece : IsPieceAt starts (get_or starts k 0) k
    own_piece = record {
      there = omega (arith, l, many_starts);
      early = omega arith;
      late = λ j a b. omega (arith, start_at k l, start_at j (omega (arith, b, many_starts)), before_next ps k l, before_rises ps (suc k) j a, some.some);
    }

    pub first_within : get_or starts k 0 < length (concat ps)
    first_within = omega (arith, start_at k l, end_within ps k l, some.some)

    pub first_element : get_or (get_or ps k []) 0 0 ≡ get_or (concat ps) (get_or starts k 0) 0
    first_element =
        let none : get_or starts k 0 - get_or starts k 0 ≡ 0 = omega arith in
        ap (λ (i : ℕ). get_or (get_or ps k []) i 0) (sym none)
        ∙ falls_element (get_or starts k 0) k (record { there = l; early = omega arith; within = omega (arith, some.some) })

-- the starts are far below the end of a `usize`
pub starts_are_low : (pieces : Vec (List ℕ) Global) (starts : Vec ℕ Global) (pool : Vec (List ℕ) Global) → AreCut pieces starts pool → All (λ start. start < 2 ^ 63) starts.items
starts_are_low pieces starts pool cut k d l =
    let there : k < length pieces.items = omega (arith, l, many_starts pieces.items starts.items cut.starts_are) in
    omega (arith, get_or_default starts.items k d 0 l, start_at pieces.items starts.items cut.starts_are k there, end_within pieces.items k there, few_held pieces.items cut.each, cut.few)

All-insert : {X : Type 0} (P : X → Type 0) (xs : List X) (i : ℕ) (y : X) → All P xs → P y → All P (insert xs i y)
All-insert P xs i y each p = All-append P (take i xs) (y ∷ drop i xs) (All-take P i xs each) (All-cons P y (drop i xs) p (All-drop P i xs each))

module _ (pieces pieces' : Vec (List ℕ) Global) (starts starts' : Vec ℕ Global) (pool pool' : Vec (List ℕ) Global) (cut : AreCut pieces starts pool) (at : ℕ) (there : at < length pieces.items) where
  -- the pieces where a full one is cut in two
  pub still_cut : length (get_or pieces.items at []) ≡ 1024
      → pieces'.items ≡ halved pieces.items at
      → starts'.items ≡ insert starts.items (suc at) (get_or starts.items at 0 + 512)
      → length pool.items ≡ length pool'.items + 1
      → All (λ piece. piece ≡ []) pool'.items
      → vec_capacity pieces ≤ vec_capacity pieces'
      → vec_capacity starts ≤ vec_capacity starts'
      → AreCut pieces' starts' pool'
  still_cut full pieces_are starts_are pool_is empty pieces_room starts_room =
      let part : List ℕ = get_or pieces.items at [] in
      let first : length (take 512 part) ≡ 512 = length-take-le 512 part (omega (arith, full)) in
      let second : length (drop 512 part) ≡ 512 = omega (arith, length-drop 512 part, full) in
      let same : length (set pieces.items at (take 512 part)) ≡ length pieces.items = length-set pieces.items at (take 512 part) in
      let more : length pieces'.items ≡ length pieces.items + 1 = ap length pieces_are
      ∙ length-insert (set pieces.items at (take 512 part)) (suc at) (drop 512 part) (omega (arith, same)) ∙ ap (λ (n : ℕ). n + 1) same in
      let more_starts : length starts'.items ≡ length starts.items + 1 = ap length starts_are
      ∙ length-insert starts.items (suc at) (get_or starts.items at 0 + 512) (omega (arith, many_starts pieces.items starts.items cut.starts_are)) in
      let is_first : IsPiece (take 512 part) = record { some = omega (arith, first); most = omega (arith, first) } in
      let is_second : IsPiece (drop 512 part) = record { some = omega (arith, second); most = omega (arith, second) } in
      let each : All IsPiece (halved pieces.items at) =
      All-insert IsPiece (set pieces.items at (take 512 part)) (suc at) (drop 512 part) (All-set IsPiece pieces.items at (take 512 part) is_first cut.each) is_second in
      record {
        each = subst (λ (ps : List (List ℕ)). All IsPiece ps) (sym pieces_are) each;
        starts_are = starts_are
            ∙ ap (λ (xs : List ℕ). insert xs (suc at) (get_or xs at 0 + 512)) cut.starts_are
            ∙ ap (λ (n : ℕ). insert (starts_from 0 pieces.items) (suc at) (get_or (starts_from 0 pieces.items) at 0 + n)) (sym first)
            ∙ sym (starts_cut (take 512 part) (drop 512 part) 0 pieces.items at there (omega (arith, first, second, full)))
            ∙ ap (starts_from 0) (sym pieces_are);
        empty = empty;
        few = omega (arith, more, pool_is, cut.few);
        pieces_room = omega (arith, more, pool_is, cut.pieces_room, pieces_room);
        starts_room = omega (arith, more_starts, pool_is, cut.starts_room, starts_room);
      }

  -- the pieces where one that is not full gets one element more
  pub still_grown : (q : List ℕ) → length (get_or pieces.items at []) < 1024
      → length q ≡ length (get_or pieces.items at []) + 1
      → pieces'.items ≡ set pieces.items at q
      → starts'.items ≡ take (suc at) starts.items ++ map suc (drop (suc at) starts.items)
      → pool'.items ≡ pool.items
      → vec_capacity pieces ≤ vec_capacity pieces'
      → vec_capacity starts ≤ vec_capacity starts'
      → AreCut pieces' starts' pool'
  still_grown q room longer pieces_are starts_are pool_is pieces_room starts_room =
      let same : length pieces'.items ≡ length pieces.items = ap length pieces_are ∙ length-set pieces.items at q in
      let are : starts'.items ≡ starts_from 0 pieces'.items = starts_are
      ∙ ap (λ (xs : List ℕ). take (suc at) xs ++ map suc (drop (suc at) xs)) cut.starts_are
      ∙ sym (starts_grown 0 pieces.items at q there longer)
      ∙ ap (starts_from 0) (sym pieces_are) in
      let same_starts : length starts'.items ≡ length starts.items = many_starts pieces'.items starts'.items are ∙ same ∙ sym (many_starts pieces.items starts.items cut.starts_are) in
      record {
        each = subst (λ (ps : List (List ℕ)). All IsPiece ps) (sym pieces_are)
            (All-set IsPiece pieces.items at q (record { some = omega (arith, longer); most = omega (arith, longer, room) }) cut.each);
        starts_are = are;
        empty = subst (λ (ps : List (List ℕ)). All (λ piece. piece ≡ []) ps) (sym pool_is) cut.empty;
        few = omega (arith, same, ap length pool_is, cut.few);
        pieces_room = omega (arith, same, ap length pool_is, cut.pieces_room, pieces_room);
        starts_room = omega (arith, same_starts, ap length pool_is, cut.starts_room, starts_room);
      }

-- A piece has a node more, which stands directly behind an index.
pub record IsPutBehind (ps : List (List ℕ)) (index at y : ℕ) (piece : List ℕ) : Type 0 where
  pub held : concat (set ps at piece) ≡ insert (concat ps) (suc index) y
  pub longer : length piece ≡ length (get_or ps at []) + 1

-- a node put into the piece that an index falls into, by the piece and the start that were read
pub put_behind : (ps : List (List ℕ)) (starts : List ℕ) → starts ≡ starts_from 0 ps → (index at y : ℕ) → FallsInto ps starts index at → (old : List ℕ)
    → old ≡ get_or ps at old → (start : ℕ) → start ≡ get_or starts at start → (piece : List ℕ) → piece ≡ insert old ((index - start) + 1) y
    → IsPutBehind ps index at y piece
put_behind ps starts are index at y falls old old_read start read piece is =
    let part : List ℕ = get_or ps at [] in
    let start_is : start ≡ get_or starts at 0 = start_read ps starts are at start falls.there read in
    let at_is : before ps at + ((index - start) + 1) ≡ suc index = omega (arith, start_at ps starts are at falls.there, falls.early, start_is) in
    let put : piece ≡ insert part ((index - start) + 1) y = is ∙ ap (λ (xs : List ℕ). insert xs ((index - start) + 1) y) (get_or_read ps at old falls.there old_read []) in
    let within : (index - start) + 1 ≤ length part = omega (arith, falls.early, falls.within, start_is) in
    record {
      held = ap (λ (xs : List ℕ). concat (set ps at xs)) put ∙ insert_in ps at ((index - start) + 1) y falls.there within ∙ ap (λ (i : ℕ). insert (concat ps) i y) at_is;
      longer = ap length put ∙ length-insert part ((index - start) + 1) y within;
    }

-- An index falls into one of the halves of a full piece that is cut in two.
pub record AreHalves (ps ps' : List (List ℕ)) (starts' : List ℕ) (index at : ℕ) : Type 0 where
  pub there : at + 1 < length starts'
  pub first : index < get_or starts' (at + 1) 0 → FallsInto ps' starts' index at
  pub first_room : length (get_or ps' at []) < 1024
  pub second : get_or starts' (at + 1) 0 ≤ index → FallsInto ps' starts' index (at + 1)
  pub second_room : length (get_or ps' (at + 1) []) < 1024
  pub held : concat ps' ≡ concat ps

module _ (ps ps' : List (List ℕ)) (starts starts' : List ℕ) (are : starts ≡ starts_from 0 ps) (are' : starts' ≡ starts_from 0 ps') (index at : ℕ)
    (falls : FallsInto ps starts index at) (full : length (get_or ps at []) ≡ 1024) (halves : ps' ≡ halved ps at) where
  part : List ℕ
  part = get_or ps at []

  first_is : length (get_or ps' at []) ≡ 512
  unfolding part
  first_is = ap (λ (qs : List (List ℕ)). length (get_or qs at [])) halves ∙ ap length (first_part (take 512 part) (drop 512 part) ps at falls.there) ∙ length-take-le 512 part (omega (arith, full))

  second_is : length (get_or ps' (suc at) []) ≡ 512
  unfolding part
  second_is =
      ap (λ (qs : List (List ℕ)). length (get_or qs (suc at) [])) halves ∙ ap length (second_part (take 512 part) (drop 512 part) ps at falls.there)
      ∙ length-drop 512 part ∙ ap (λ (n : ℕ). n - 512) full

  more : length ps' ≡ suc (length ps)
  unfolding part
  more = ap length halves ∙ length_cut (take 512 part) (drop 512 part) ps at falls.there

  first_start : get_or starts' at 0 ≡ get_or starts at 0
  unfolding part
  first_start =
      start_at ps' starts' are' at (omega (arith, more, falls.there))
      ∙ ap (λ (qs : List (List ℕ)). length (concat (take at qs))) halves
      ∙ ap (λ (qs : List (List ℕ)). length (concat qs)) (take_cut (take 512 part) (drop 512 part) ps at falls.there)
      ∙ sym (start_at ps starts are at falls.there)

  second_start : get_or starts' (suc at) 0 ≡ get_or starts at 0 + 512
  second_start = omega (
    arith,
    start_at ps' starts' are' (suc at) (omega (arith, more, falls.there)),
    before_next ps' at (omega (arith, more, falls.there)),
    start_at ps' starts' are' at (omega (arith, more, falls.there)),
    first_is,
    first_start,
  )

  same_held : concat ps' ≡ concat ps
  unfolding part
  same_held = ap concat halves ∙ concat_cut (take 512 part) (drop 512 part) ps at falls.there (take-append-drop 512 part)

  first_falls : index < get_or starts' (suc at) 0 → FallsInto ps' starts' index at
  first_falls l = record { there = omega (arith, more, falls.there); early = omega (arith, first_start, falls.early); within = omega (arith, l, second_start, first_start, first_is) }

  second_falls : get_or starts' (suc at) 0 ≤ index → FallsInto ps' starts' index (suc at)
  second_falls l = record { there = omega (arith, more, falls.there); early = l; within = omega (arith, second_start, second_is, falls.within, full) }

  are_halves : AreHalves ps ps' starts' index at
  are_halves = record {
    there = omega (arith, many_starts ps' starts' are', more, falls.there);
    first = subst (λ (i : ℕ). index < get_or starts' i 0 → FallsInto ps' starts' index at) (sym (add-one at)) first_falls;
    first_room = omega (arith, first_is);
    second = subst (λ (i : ℕ). get_or starts' i 0 ≤ index → FallsInto ps' starts' index i) (sym (add-one at)) second_falls;
    second_room = subst (λ (i : ℕ). length (get_or ps' i []) < 1024) (sym (add-one at)) (omega (arith, second_is));
    held = same_held;
  }

-- a piece that was read, and is not below its most, is full
pub full_read : (ps : List (List ℕ)) → All IsPiece ps → (at : ℕ) → at < length ps → (piece : List ℕ) → piece ≡ get_or ps at piece → (n : ℕ) → n ≡ length piece
    → 1024 ≤ n → length (get_or ps at []) ≡ 1024
full_read ps each at l piece e n count many =
    let most : IsPiece (get_or ps at []) = each at [] l in
    omega (arith, ap length (get_or_read ps at piece l e []), most.most, count, many)

-- the same, by what was read of the starts and of the piece
pub cut_halves : (ps ps' : List (List ℕ)) (starts starts' : List ℕ) → starts ≡ starts_from 0 ps → starts' ≡ starts_from 0 ps' → All IsPiece ps → (seen : List ℕ) → seen ≡ starts
    → (index at : ℕ) → index < length (concat ps) → IsPieceAt seen index at → (piece : List ℕ) → piece ≡ get_or ps at piece → (n : ℕ)
    → n ≡ length piece → 1024 ≤ n → ps' ≡ halved ps at → AreHalves ps ps' starts' index at
cut_halves ps ps' starts starts' are are' each seen same index at l found piece e n count many halves =
    let falls = falls_into ps starts are seen same index at l found in
    are_halves ps ps' starts starts' are are' index at falls (full_read ps each at falls.there piece e n count many) halves
