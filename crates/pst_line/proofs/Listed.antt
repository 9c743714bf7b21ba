-- The undo list, as it lies in a map.
use Rattle.std.proofs.Common.{◌≡◌, ℕ, ◌-◌, ◌++◌, ◌||◌, Bool, true, false, cond, List, [], ◌∷◌, length, reverse, Option, Some, is_some, refl, sym, ap, ◌∙◌}
use Rattle.std.proofs.lemmas.Bool.{false≢true}
use Rattle.std.proofs.lemmas.List.{map-append, reverse-append, length-reverse, length-map}
use Rattle.std.proofs.lemmas.List.Folds.{list_any-append}
use Rattle.std.specs.Prelude.{◌==◌, ◌&&◌, if◌then◌else◌}
use Rattle.std.specs.List.{list_any}
use Rattle.std.specs.Map.{lookup}
use Rattle.indexmap.specs.IndexMap.{insert_entry}
use Rattle.pst_line_nodes.specs.declared.content.Content.{Content}
use Rattle.pst_line.specs.declared.place.Undo.{Undo}
use Rattle.pst_line.specs.Noted.{entry_in, entries_in, is_of, is_noted, with_entry}

-- two keys that the map does not tell apart
abbrev pub same_key : ℕ × ℕ → ℕ × ℕ → Bool
same_key a b = (a.0 == b.0) && (a.1 == b.1)

or_turn : (a b : Bool) → (a || (b || false)) ≡ (b || a)
or_turn true true = refl
or_turn true false = refl
or_turn false true = refl
or_turn false false = refl

any_reverse : {A : Type 0} (p : A → Bool) (xs : List A) → list_any p (reverse xs) ≡ list_any p xs
any_reverse p [] = refl
any_reverse p (x ∷ xs) = ap (list_any p) (reverse-append (x ∷ []) xs) ∙ list_any-append p (reverse xs) (x ∷ []) ∙ ap (λ b. b || (p x || false)) (any_reverse p xs) ∙ or_turn (list_any p xs) (p x)

some_cond : (b : Bool) (v : Content) (o : Option Content) → (b || is_some o) ≡ is_some (cond b (Some v) o)
some_cond true v o = refl
some_cond false v o = refl

noted_by_key : (k : ℕ × ℕ) (es : List ((ℕ × ℕ) × Content)) → is_noted (entries_in es) k ≡ is_some (lookup (same_key k) es)
noted_by_key k [] = refl
noted_by_key k (e ∷ es) = ap (λ b. same_key k e.0 || b) (noted_by_key k es) ∙ some_cond (same_key k e.0) e.1 (lookup (same_key k) es)

appended : (es : List ((ℕ × ℕ) × Content)) (k : ℕ × ℕ) (v : Content) → is_some (lookup (same_key k) es) ≡ false → insert_entry same_key es k v ≡ es ++ (k, v) ∷ []
appended [] k v n = refl
appended (e ∷ es) k v n = elim (same_key k e.0) as (λ b. is_some (cond b (Some e.1) (lookup (same_key k) es)) ≡ false → cond b ((e.0, v) ∷ es) (e ∷ insert_entry same_key es k v) ≡ e ∷ (es ++ (k, v) ∷ [])) [
  | true ↦ λ n. absurd (false≢true (sym n))
  | false ↦ λ n. ap (λ fs. e ∷ fs) (appended es k v n)
] n

-- us is what is seen of the map with the entries es
module _ (es : List ((ℕ × ℕ) × Content)) (us : List Undo) (view : reverse (entries_in es) ≡ us) where
  module _ (u : Undo) (b : Bool) (is : b ≡ is_some (lookup (same_key (u.node.0, u.slot.0)) es)) where
    noted : is_noted us (u.node.0, u.slot.0) ≡ b
    noted = ap (λ us. is_noted us (u.node.0, u.slot.0)) (sym view) ∙ any_reverse (is_of (u.node.0, u.slot.0)) (entries_in es) ∙ noted_by_key (u.node.0, u.slot.0) es ∙ sym is

    pub noted_before : b ≡ true → us ≡ with_entry u us
    noted_before n = sym (ap (λ c. if c then us else u ∷ us) (noted ∙ n))

    pub noted_now : b ≡ false → (fs : List ((ℕ × ℕ) × Content)) → fs ≡ insert_entry same_key es (u.node.0, u.slot.0) u.content → reverse (entries_in fs) ≡ with_entry u us
    noted_now n fs e =
        ap (λ fs. reverse (entries_in fs)) (e ∙ appended es (u.node.0, u.slot.0) u.content (sym is ∙ n))
        ∙ ap reverse (map-append entry_in es (((u.node.0, u.slot.0), u.content) ∷ [])) ∙ reverse-append (entries_in es) (u ∷ []) ∙ ap (λ us. u ∷ us) view
        ∙ sym (ap (λ c. if c then us else u ∷ us) (noted ∙ n))

  pub long : length es ≡ length us
  long = sym (length-map es entry_in) ∙ sym (length-reverse (entries_in es)) ∙ ap length view
