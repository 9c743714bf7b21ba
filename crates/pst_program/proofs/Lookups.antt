-- Look-ups by name.
use Rattle.std.proofs.Common.{◌≡◌, ℕ, ◌+◌, List, [], ◌∷◌, map, Some, cond, refl, sym, ap, ◌∙◌, bytes_eq}
use Rattle.std.specs.List.{position_from}
use Rattle.std.proofs.lemmas.Iterator.Adapters.{position_from-zero}
use Rattle.pst_program.specs.Procedures.{Signature, number_named}

mapped_from : {A B : Type 0} (signature : B → Signature) (f : A → B) (name : List ℕ) (i : ℕ) (xs : List A)
    → position_from (λ p. bytes_eq (signature p).name name) i (map f xs) ≡ position_from (λ x. bytes_eq (signature (f x)).name name) i xs
mapped_from signature f name i [] = refl
mapped_from signature f name i (x ∷ xs) = ap (cond (bytes_eq (signature (f x)).name name) (Some i)) (mapped_from signature f name (i + 1) xs)

-- procedures made from others have the names that they are made with
pub number_named-map : {A B : Type 0} (signature : B → Signature) (f : A → B) (xs : List A) (name : List ℕ) → number_named signature (map f xs) name ≡ number_named (λ x. signature (f x)) xs name
number_named-map signature f xs name =
    position_from-zero (λ p. bytes_eq (signature p).name name) (map f xs) ∙ mapped_from signature f name 0 xs ∙ sym (position_from-zero (λ x. bytes_eq (signature (f x)).name name) xs)
