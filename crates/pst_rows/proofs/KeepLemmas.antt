use Rattle.std.proofs.Common.{◌≡◌, ℕ, zero, suc, refl, ◌+◌, ◌-◌, ◌<◌, ◌≤◌, Bool, true, false, List, [], ◌∷◌, ◌++◌, length, get_or, set, take, drop, filter, sym}
use Rattle.std.proofs.Common.{ap, ◌∙◌, subst, ⊎_elim, append_assoc, length-drop, arith}
use Rattle.std.specs.Prelude.{All}
use Rattle.std.proofs.lemmas.Bool.{false≢true, cases_lt}
use Rattle.std.proofs.lemmas.List.{take_more, take_more_set, length-set, drop-set-lt, get_or-drop}
use Rattle.std.proofs.lemmas.List.Elements.{filter-append}
use Rattle.std.proofs.lemmas.List.{append-nil}
use Rattle.pst_rows.specs.declared.content.Stamp.{Stamp}

-- what is not found to stand before
pub not_below : (m n : ℕ) {b : Bool} → b ≡ false → (m < n → b ≡ true) → n ≤ m
not_below m n f h = ⊎_elim (λ (l : m < n). absurd (false≢true (sym f ∙ h l))) (λ (l : n ≤ m). l) (cases_lt m n)

-- the cells up to an index were looked at: those that pass stand at the front, behind so many others, and the rest is as it was
pub record AreKept (p : Stamp → Bool) (front : ℕ) (old new : List Stamp) (kept index : ℕ) : Type 0 where
  pub low : front ≤ kept
  pub high : kept ≤ index
  pub count : length new ≡ length old
  pub done : take kept new ≡ take front old ++ filter p (take (index - front) (drop front old))
  pub rest : drop index new ≡ drop index old

-- one more is looked at
one_more : (p : Stamp → Bool) (front : ℕ) (old : List Stamp) (index : ℕ) (d : Stamp) → front ≤ index → index < length old →
    filter p (take (index + 1 - front) (drop front old)) ≡ filter p (take (index - front) (drop front old)) ++ filter p (get_or old index d ∷ [])
one_more p front old index d l m =
    let n : ℕ = index - front in
    let e : index + 1 - front ≡ n + 1 = omega arith in
    let back : front + n ≡ index = omega arith in
    ap (λ (k : ℕ). filter p (take k (drop front old))) e
    ∙ ap (filter p) (take_more (drop front old) n d (omega (arith, length-drop front old)))
    ∙ filter-append p (take n (drop front old)) (get_or (drop front old) n d ∷ [])
    ∙ ap (λ (x : Stamp). filter p (take n (drop front old)) ++ filter p (x ∷ [])) (get_or-drop front old n d ∙ ap (λ (j : ℕ). get_or old j d) back)

-- it stands there as it was
same_cell : (old new : List Stamp) (index : ℕ) (d : Stamp) → drop index new ≡ drop index old → get_or new index d ≡ get_or old index d
same_cell old new index d rest =
    let e : index + 0 ≡ index = omega arith in
    ap (λ (j : ℕ). get_or new j d) (sym e) ∙ sym (get_or-drop index new 0 d) ∙ ap (λ (xs : List Stamp). get_or xs 0 d) rest ∙ get_or-drop index old 0 d ∙ ap (λ (j : ℕ). get_or old j d) e

-- what is so of all cells behind the front is so of the one at the index
pub kept_one : (Q : Stamp → Type 0) (p : Stamp → Bool) (front : ℕ) (old new : List Stamp) (kept index : ℕ) (d : Stamp)
    → AreKept p front old new kept index → All Q (drop front old) → index < length new → Q (get_or new index d)
kept_one Q p front old new kept index d h all l =
    let back : front + (index - front) ≡ index = omega (arith, h.low, h.high) in
    subst Q (get_or-drop front old (index - front) d ∙ ap (λ (j : ℕ). get_or old j d) back ∙ sym (same_cell old new index d h.rest))
    (all (index - front) d (omega (arith, l, h.count, h.low, h.high, length-drop front old)))

behind : (old new : List Stamp) (index : ℕ) → drop index new ≡ drop index old → drop (index + 1) new ≡ drop (index + 1) old
behind old new index rest = sym (drop-add index 1 new) ∙ ap (drop 1) rest ∙ drop-add index 1 old
  where
    none : List Stamp
    none = []

    nothing : (m : ℕ) → drop m none ≡ none
    nothing zero = refl
    nothing (suc m) = refl

    drop-add : (n m : ℕ) (xs : List Stamp) → drop m (drop n xs) ≡ drop (n + m) xs
    drop-add zero m xs = let e : m ≡ 0 + m = omega arith in ap (λ (j : ℕ). drop j xs) e
    drop-add (suc n) m [] = nothing m ∙ sym (nothing (suc n + m))
    drop-add (suc n) m (x ∷ xs) = let e : suc (n + m) ≡ suc n + m = omega arith in drop-add n m xs ∙ ap (λ (j : ℕ). drop j (x ∷ xs)) e

pub keep_more : (p : Stamp → Bool) (front : ℕ) (old new : List Stamp) (kept index : ℕ) (d : Stamp) → AreKept p front old new kept index
    → index < length new → p (get_or new index d) ≡ true → AreKept p front old (set new kept (get_or new index d)) (kept + 1) (index + 1)
keep_more p front old new kept index d h l passes =
    let e : Stamp = get_or new index d in
    let same : e ≡ get_or old index d = same_cell old new index d h.rest in
    let there : filter p (get_or old index d ∷ []) ≡ e ∷ [] = subst (λ (x : Stamp). filter p (x ∷ []) ≡ e ∷ []) same (rw passes refl) in
    record {
      low = omega (arith, h.low);
      high = omega (arith, h.high);
      count = length-set new kept e ∙ h.count;
      done =
          take_more_set new kept e (omega (arith, h.high))
          ∙ ap (λ (ys : List Stamp). ys ++ e ∷ []) h.done
          ∙ append_assoc (take front old) (filter p (take (index - front) (drop front old))) (e ∷ [])
          ∙ ap (λ (ys : List Stamp). take front old ++ ys) (ap (λ (ys : List Stamp). filter p (take (index - front) (drop front old)) ++ ys)
          (sym there) ∙ sym (one_more p front old index d (omega (arith, h.low, h.high)) (omega (arith, h.count))));
      rest = drop-set-lt (index + 1) new kept e (omega (arith, h.high)) ∙ behind old new index h.rest;
    }

pub keep_less : (p : Stamp → Bool) (front : ℕ) (old new : List Stamp) (kept index : ℕ) (d : Stamp) → AreKept p front old new kept index
    → index < length new → p (get_or new index d) ≡ false → AreKept p front old new kept (index + 1)
keep_less p front old new kept index d h l fails =
    let same : get_or new index d ≡ get_or old index d = same_cell old new index d h.rest in
    let none : filter p (get_or old index d ∷ []) ≡ [] = subst (λ (x : Stamp). filter p (x ∷ []) ≡ []) same (rw fails refl) in
    let before : List Stamp = filter p (take (index - front) (drop front old)) in
    record {
      low = h.low;
      high = omega (arith, h.high);
      count = h.count;
      done = h.done ∙ ap (λ (ys : List Stamp). take front old ++ ys)
          (sym (append-nil before) ∙ ap (λ (ys : List Stamp). before ++ ys) (sym none)
          ∙ sym (one_more p front old index d (omega (arith, h.low, h.high)) (omega (arith, h.count))));
      rest = behind old new index h.rest;
    }
