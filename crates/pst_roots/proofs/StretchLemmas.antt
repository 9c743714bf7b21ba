-- Stretches of a list in pieces, and how they are cut in two.
use Rattle.std.proofs.Common.{◌≡◌, ℕ, ◌+◌, ◌-◌, ◌<◌, ◌≤◌, List, [], length, get_or, All, ⊎_elim, sym, ap, ◌∙◌, subst, arith}
use Rattle.std.specs.List.{concat}
use Rattle.std.proofs.lemmas.Bool.{cases_lt}
use Rattle.std.proofs.lemmas.List.{get_or_read}
use Rattle.pst_roots.specs.declared.pieces.Stretch.{Stretch}
use Rattle.pst_roots.specs.Pieces.{Held, starts_from, IsPiece, IsPieceAt, FallsInto}
use Rattle.pst_roots.specs.Stretches.{IsStretch, IsCut}
use Rattle.pst_roots.proofs.PieceLemmas.{many_starts, start_at, start_before, start_read, first_within, falls_into, falls_element, own_piece}

-- What is read of the piece that an index falls into is what stands there.
pub record IsRead (nodes : List ℕ) (index start : ℕ) (part : List ℕ) : Type 0 where
  pub within : index - start < length part
  pub element : get_or part (index - start) 0 ≡ get_or nodes index 0

module _ (held : Held) (ps : List (List ℕ)) (starts : List ℕ) (are : starts ≡ starts_from 0 ps) (each : All IsPiece ps) (nodes : concat ps ≡ held.nodes) (same : starts ≡ held.starts) where
  pub read_at : (index at : ℕ) → index < length held.nodes → IsPieceAt held.starts index at → (start : ℕ) → start ≡ get_or starts at start
      → (part : List ℕ) → part ≡ get_or ps at part → IsRead held.nodes index start part
  read_at index at l found start start_is part part_is =
      let falls : FallsInto ps starts index at = falls_into ps starts are held.starts (sym same) index at (omega (arith, ap length nodes, l)) found in
      let first : start ≡ get_or starts at 0 = start_read ps starts are at start falls.there start_is in
      let whole : part ≡ get_or ps at [] = get_or_read ps at part falls.there part_is [] in
      record {
        within = omega (arith, ap length whole, first, falls.early, falls.within);
        element = ap (λ (xs : List ℕ). get_or xs (index - start) 0) whole
            ∙ ap (λ (s : ℕ). get_or (get_or ps at []) (index - s) 0) first
            ∙ falls_element ps starts are index at falls
            ∙ ap (λ (xs : List ℕ). get_or xs index 0) nodes;
      }

  pub many_held : length held.starts ≡ length ps
  many_held = omega (arith, ap length same, many_starts ps starts are)

  -- where a piece starts is an index that falls into it
  pub own : (i : ℕ) → i < length held.starts → IsPieceAt held.starts (get_or held.starts i 0) i
  own i l = subst (λ (xs : List ℕ). IsPieceAt xs (get_or xs i 0) i) same (own_piece ps starts are each i (omega (arith, l, many_held)))

  starts_order : (i j : ℕ) → i ≤ j → j < length held.starts → get_or held.starts i 0 ≤ get_or held.starts j 0
  starts_order i j a b = ⊎_elim
      (λ (l : i < j). omega (arith, (own i (omega arith)).late j l b))
      (λ (l : j ≤ i).
      let one : i ≡ j = omega arith in
      omega (arith, ap (λ (k : ℕ). get_or held.starts k 0) one))
      (cases_lt i j)

  -- all that is held
  pub whole_stretch : (count end : ℕ) → 0 < count → count ≡ length held.nodes → end ≡ length ps → IsStretch held (record { low = 0; high = count; piece = 0; end = end })
  whole_stretch count end l count_is end_is =
      let some : 0 < length ps = omega (arith, many_starts ps starts are, (start_before ps starts are 0 (omega (arith, ap length nodes))).some) in
      let first : get_or held.starts 0 0 ≡ 0 = sym (ap (λ (xs : List ℕ). get_or xs 0 0) same) ∙ start_at ps starts are 0 some in
      record {
        ordered = l;
        within = omega arith;
        falls = subst (λ (i : ℕ). IsPieceAt held.starts i 0) first (own 0 (omega (arith, many_held)));
        some = omega arith;
        there = omega (arith, many_held);
        early = λ k b. omega (arith, first_within ps starts are each k (omega arith), ap length nodes, ap (λ (xs : List ℕ). get_or xs k 0) same);
        late = λ k a b. absurd (omega (arith, many_held));
      }

  module _ (stretch : Stretch) (is : IsStretch held stretch) where
    -- it is cut where one of its pieces starts that is not the first one
    pub start_cut : (most start k : ℕ) → stretch.piece < k → k < stretch.end → start ≡ get_or starts k start → start - stretch.low ≤ most
        → stretch.high - start ≤ most → IsCut held stretch most (record { index = start; piece = k })
    start_cut most start k a b start_is first second =
        let there : k < length held.starts = omega (arith, is.there) in
        let at : get_or held.starts k 0 ≡ start = ap (λ (xs : List ℕ). get_or xs k 0) (sym same) ∙ sym (start_read ps starts are k start (omega (arith, many_held)) start_is) in
        record {
          after = omega (arith, at, is.falls.late k a there);
          before = omega (arith, at, is.early k b);
          first = first;
          second = second;
          falls = subst (λ (i : ℕ). IsPieceAt held.starts i k) at (own k there);
        }

    pub start_early : (start k : ℕ) → k < stretch.end → start ≡ get_or starts k start → start < stretch.high
    start_early start k b start_is = omega (
      arith,
      start_read ps starts are k start (omega (arith, many_held, is.there)) start_is,
      ap (λ (xs : List ℕ). get_or xs k 0) same,
      is.early k b,
    )

    -- cut at an index inside
    module _ (index k : ℕ) (after : stretch.low < index) (before : index < stretch.high) (at : IsPieceAt held.starts index k) where
      pub first_piece : stretch.piece ≤ k
      first_piece = ⊎_elim
          (λ (l : k < stretch.piece). absurd (omega (arith, at.late stretch.piece l is.falls.there, is.falls.early)))
          (λ (l : stretch.piece ≤ k). l)
          (cases_lt k stretch.piece)

      pub second_piece : k < stretch.end
      second_piece = ⊎_elim
          (λ (l : k < stretch.end). l)
          (λ (l : stretch.end ≤ k). absurd (omega (arith, is.late k l at.there, at.early)))
          (cases_lt k stretch.end)

      -- the first half ends inside the piece of the index
      pub ends_inside : (end : ℕ) → get_or held.starts k 0 < index → end ≡ k + 1 → IsStretch held (record { low = stretch.low; high = index; piece = stretch.piece; end = end })
      ends_inside end inside end_is = record {
        ordered = after;
        within = omega (arith, is.within);
        falls = is.falls;
        some = omega (arith, first_piece);
        there = omega (arith, at.there);
        early = λ j b. omega (arith, starts_order j k (omega arith) at.there);
        late = λ j a b. omega (arith, at.late j (omega arith) b);
      }

      -- the first half ends where the piece of the index starts
      pub ends_before : (end : ℕ) → index ≤ get_or held.starts k 0 → end ≡ k → IsStretch held (record { low = stretch.low; high = index; piece = stretch.piece; end = end })
      ends_before end start end_is =
          let some : stretch.piece < k = ⊎_elim
          (λ (l : stretch.piece < k). l)
          (λ (l : k ≤ stretch.piece).
          let one : stretch.piece ≡ k = omega (arith, first_piece) in
          absurd (omega (arith, ap (λ (i : ℕ). get_or held.starts i 0) one, is.falls.early)))
          (cases_lt stretch.piece k) in
          record {
            ordered = after;
            within = omega (arith, is.within);
            falls = is.falls;
            some = omega (arith, some);
            there = omega (arith, at.there);
            early = λ j b. omega (arith, (own j (omega (arith, at.there))).late k (omega arith) at.there, at.early);
            late = λ j a b. omega (arith, starts_order k j (omega arith) b);
          }

      pub second_half : IsStretch held (record { low = index; high = stretch.high; piece = k; end = stretch.end })
      second_half = record { ordered = before; within = is.within; falls = at; some = second_piece; there = is.there; early = is.early; late = is.late }
