-- Walks over lists, one item at a time.
use Rattle.std.proofs.Common.{◌≡◌, ℕ, ◌+◌, ◌<◌, inl, inr, List, ◌∷◌, map, length, drop, get_or, Result, Ok, sym, ap, ◌∙◌, add-one}
use Rattle.std.proofs.Math.Seq.{drop-cons, drop-length}
use Rattle.pst_typing.specs.declared.fault.TypeFault.{TypeFault}
use Rattle.pst_typing.specs.Answers.{and_then, through}
use Rattle.pst_typing.specs.View.{Fails}

-- the item at an index and the rest
pub at_index : {B : Type 0} (xs : List B) (i : ℕ) (x : B) → i < length xs → x ≡ get_or xs i x → drop i xs ≡ x ∷ drop (i + 1) xs
at_index xs i x below is = drop-cons xs i x below ∙ (λ j. sym is j ∷ drop (sym (add-one i) j) xs)

-- a fault of a part is a fault of the whole
pub fails_then : {A B : Type 0} (f : TypeFault) (r : Result A TypeFault) (next : A → Result B TypeFault) → Fails f r → Fails f (and_then r next)
fails_then f r next (inl memory) = inl memory
fails_then f r next (inr is) = inr (ap (λ x. and_then x next) is)

pub fails_as : {A : Type 0} (f : TypeFault) (r s : Result A TypeFault) → r ≡ s → Fails f r → Fails f s
fails_as f r s e (inl memory) = inl memory
fails_as f r s e (inr is) = inr (sym e ∙ is)

module _ {S A B : Type 0} (judge : S → A → Result S TypeFault) (view : B → A) (xs : List B) (start : Result S TypeFault) where
  -- all that is left, from an index on, with what came before
  abbrev pub Left : (i : ℕ) (s : S) → Type 0
  Left i s = through judge s (map view (drop i xs)) ≡ start

  pub goes_on : (i : ℕ) (x : B) (s t : S) → i < length xs → x ≡ get_or xs i x → Left i s → judge s (view x) ≡ Ok t → Left (i + 1) t
  goes_on i x s t below is left e =
      sym (ap (λ l. through judge s (map view l)) (at_index xs i x below is) ∙ ap (λ r. and_then r (λ now. through judge now (map view (drop (i + 1) xs)))) e) ∙ left

  pub fails_there : (i : ℕ) (x : B) (s : S) (f : TypeFault) → i < length xs → x ≡ get_or xs i x → Left i s → Fails f (judge s (view x)) → Fails f start
  fails_there i x s f below is left bad =
      fails_as f _ start (sym (ap (λ l. through judge s (map view l)) (at_index xs i x below is)) ∙ left)
      (fails_then f (judge s (view x)) (λ now. through judge now (map view (drop (i + 1) xs))) bad)

  pub at_end : (i : ℕ) (s : S) → i ≡ length xs → Left i s → start ≡ Ok s
  at_end i s end left = sym left ∙ ap (λ l. through judge s (map view l)) (ap (λ k. drop k xs) end ∙ drop-length xs)
