-- Numbered lists.
use Rattle.std.proofs.Common.{◌≡◌, ◌≢◌, ◌⊎◌, inl, inr, ℕ, ◌+◌, ◌<◌, ◌≤◌, List, [], ◌∷◌, ◌++◌, length, refl, ap, sym, ◌∙◌, arith, zero, suc, slice_get, Option, Some, None, Bool}
use Rattle.std.specs.Prelude.{count_by}
use Rattle.std.specs.Option.{option_and_then}
use Rattle.std.proofs.lemmas.List.{length-set}
use Rattle.std.proofs.lemmas.Option.{slice_get_within}
use Rattle.pst_base.specs.declared.names.Counts.{Counts}
use Rattle.pst_history.specs.declared.history.Run.{Run}
use Rattle.pst_base.specs.Counts.{counts_plus}
use Rattle.pst_history.specs.History.{index_from, numbered, with_index, with_numbered, total_counts}
use Rattle.pst_history.proofs.Lists.{slice_get-before, slice_get-last, slice_get-set_same, slice_get-set_other, slice_get-of_set}
use Rattle.pst_history.proofs.Sums.{unit_of, count_by-store, counted-set}

-- the index of a number
pub index-at : (first i : ℕ) → index_from first (first + i) ≡ Some i
index-at zero i = ap Some (omega arith)
index-at (suc first) i = let e : suc first + i ≡ suc (first + i) = omega arith in ap (index_from (suc first)) e ∙ index-at first i

pub index-of : (first n i : ℕ) → index_from first n ≡ Some i → n ≡ first + i
index-of zero n i e = let same : n ≡ i = cc in omega arith
index-of (suc first) zero i e = absurd (cc)
index-of (suc first) (suc n) i e = let same = index-of first n i e in omega arith

pub index-below : (first n : ℕ) → n < first → index_from first n ≡ None
index-below zero n le = absurd (omega arith)
index-below (suc first) zero le = refl
index-below (suc first) (suc n) le = index-below first n (omega arith)

-- where a number is found
pub record IsAt {A : Type 0} (first : ℕ) (xs : List A) (n : ℕ) (x : A) : Type 0 where
  pub index : ℕ
  pub number : n ≡ first + index
  pub found : slice_get xs index ≡ Some x
  pub within : index < length xs

found-at : {A : Type 0} (first : ℕ) (xs : List A) (n : ℕ) (x : A) (o : Option ℕ) → index_from first n ≡ o → option_and_then (slice_get xs) o ≡ Some x → IsAt first xs n x
found-at first xs n x None e q = absurd (cc)
found-at first xs n x (Some i) e q = record { index = i; number = index-of first n i e; found = q; within = slice_get_within xs i x q }

pub at-number : {A : Type 0} (first : ℕ) (xs : List A) (n : ℕ) (x : A) → numbered first xs n ≡ Some x → IsAt first xs n x
at-number first xs n x e = found-at first xs n x (index_from first n) refl e

pub numbered-is : {A : Type 0} (first : ℕ) (xs : List A) (i : ℕ) → numbered first xs (first + i) ≡ slice_get xs i
numbered-is first xs i = ap (λ o. option_and_then (slice_get xs) o) (index-at first i)

pub numbered-at : {A : Type 0} (first : ℕ) (xs : List A) (n i : ℕ) → n ≡ first + i → numbered first xs n ≡ slice_get xs i
numbered-at first xs n i e = ap (numbered first xs) e ∙ numbered-is first xs i

pub numbered-within : {A : Type 0} (first : ℕ) (xs : List A) (n : ℕ) (x : A) → numbered first xs n ≡ Some x → (first ≤ n) × (n < first + length xs)
numbered-within first xs n x e = let w = at-number first xs n x e in (omega (arith, w.number), omega (arith, w.number, w.within))

pub numbered-before : {A : Type 0} (first : ℕ) (xs : List A) (y : A) (n : ℕ) (x : A) → numbered first xs n ≡ Some x → numbered first (xs ++ y ∷ []) n ≡ Some x
numbered-before first xs y n x e =
    let w = at-number first xs n x e in
    numbered-at first (xs ++ y ∷ []) n w.index w.number ∙ slice_get-before xs (y ∷ []) w.index w.within ∙ w.found

-- whatever is there, unless it is the number of the appended one
pub numbered-append : {A : Type 0} (first : ℕ) (xs : List A) (y : A) (n : ℕ) → n < first + length xs → numbered first (xs ++ y ∷ []) n ≡ numbered first xs n
numbered-append first xs y n less = on (index_from first n) refl
  where
    on : (o : Option ℕ) → index_from first n ≡ o → option_and_then (slice_get (xs ++ y ∷ [])) o ≡ option_and_then (slice_get xs) o
    on None e = refl
    on (Some i) e = let at = index-of first n i e in slice_get-before xs (y ∷ []) i (omega arith)

pub numbered-last : {A : Type 0} (first : ℕ) (xs : List A) (y : A) → numbered first (xs ++ y ∷ []) (first + length xs) ≡ Some y
numbered-last first xs y = numbered-is first (xs ++ y ∷ []) (length xs) ∙ slice_get-last xs y

-- ---- another run under a number

module _ (first : ℕ) (runs : List Run) where
  with-at : (n i : ℕ) (new : Run) → n ≡ first + i → with_numbered first runs n new ≡ with_index runs (Some i) new
  with-at n i new e = ap (λ k. with_index runs (index_from first k) new) e ∙ ap (λ o. with_index runs o new) (index-at first i)

  pub numbered-same : (n : ℕ) (r new : Run) → numbered first runs n ≡ Some r → numbered first (with_numbered first runs n new) n ≡ Some new
  numbered-same n r new e =
      let w = at-number first runs n r e in
      ap (λ xs. numbered first xs n) (with-at n w.index new w.number) ∙ numbered-at first (with_index runs (Some w.index) new) n w.index w.number ∙ slice_get-set_same runs w.index new w.within

  pub numbered-other : (n k : ℕ) (new : Run) → k ≢ n → numbered first (with_numbered first runs n new) k ≡ numbered first runs k
  numbered-other n k new ne = on (index_from first n) refl (index_from first k) refl
    where
      on : (o : Option ℕ) → index_from first n ≡ o → (p : Option ℕ) → index_from first k ≡ p → option_and_then (slice_get (with_index runs o new)) p ≡ option_and_then (slice_get runs) p
      on None e p q = refl
      on (Some i) e None q = refl
      on (Some i) e (Some j) q = slice_get-set_other runs i j new (λ same. ne (index-of first k j q ∙ ap (λ x. first + x) same ∙ sym (index-of first n i e)))

  pub numbered-length : (n : ℕ) (new : Run) → length (with_numbered first runs n new) ≡ length runs
  numbered-length n new = on (index_from first n)
    where
      on : (o : Option ℕ) → length (with_index runs o new) ≡ length runs
      on None = refl
      on (Some i) = length-set runs i new

  pub numbered-of : (n : ℕ) (new r : Run) (i : ℕ) → slice_get (with_numbered first runs n new) i ≡ Some r → (slice_get runs i ≡ Some r) ⊎ ((first + i ≡ n) × (r ≡ new))
  numbered-of n new r i e = on (index_from first n) refl e
    where
      on : (o : Option ℕ) → index_from first n ≡ o → slice_get (with_index runs o new) i ≡ Some r → (slice_get runs i ≡ Some r) ⊎ ((first + i ≡ n) × (r ≡ new))
      on None q e = inl e
      on (Some k) q e = elim (slice_get-of_set runs k new r i e) [ inl x ↦ inl x | inr x ↦ inr (ap (λ j. first + j) x.0 ∙ sym (index-of first n k q), x.1) ]

  pub numbered-count : (p : Run → Bool) (n : ℕ) (old new : Run) → numbered first runs n ≡ Some old → count_by p (with_numbered first runs n new) + unit_of (p old) ≡ count_by p runs + unit_of (p new)
  numbered-count p n old new e =
      let w = at-number first runs n old e in
      ap (λ xs. count_by p xs + unit_of (p old)) (with-at n w.index new w.number) ∙ count_by-store p runs w.index old new w.found

  pub numbered-sum : (f : ℕ → Run → Counts) (n : ℕ) (old new : Run) → numbered first runs n ≡ Some old
      → counts_plus (total_counts f first (with_numbered first runs n new)) (f n old) ≡ counts_plus (total_counts f first runs) (f n new)
  numbered-sum f n old new e =
      let w = at-number first runs n old e in
      ap (λ xs. counts_plus (total_counts f first xs) (f n old)) (with-at n w.index new w.number)
      ∙ ap (λ k. counts_plus (total_counts f first (with_index runs (Some w.index) new)) (f k old)) w.number
      ∙ counted-set f first runs w.index old new w.found ∙ ap (λ k. counts_plus (total_counts f first runs) (f k new)) (sym w.number)
