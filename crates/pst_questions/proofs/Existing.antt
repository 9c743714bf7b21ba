-- A well-formed heap can be numbered: no more records are noted than it has, so the walk comes to an end.
use Rattle.std.proofs.Common.{◌≡◌, ℕ, ◌+◌, ◌<◌, ◌≤◌, zero, suc, true, false, cond, List, [], ◌∷◌, length, get_or, Option, Some, None, refl, sym, ap, ◌∙◌, subst, arith, inl, inr}
use Rattle.std.specs.Prelude.{slice_get, IsSome}
use Rattle.std.specs.Option.{option_map}
use Rattle.std.specs.Map.{lookup}
use Rattle.std.specs.Cmp.{eq_by_cmp_equiv}
use Rattle.std.specs.FinMap.{find, entries, get-entries}
use Rattle.std.proofs.lemmas.Bool.{cases_lt}
use Rattle.std.proofs.lemmas.Map.Keys.{IsDistinct-from_apart}
use Rattle.std.proofs.lemmas.Map.Steps.{length-le_from_keys}
use Rattle.std.proofs.lemmas.Option.{slice_get-get_or, slice_get-map}
use Rattle.indexmap.proofs.CallerLemmas.{Contains-list_any}
use Rattle.pst_base.specs.declared.names.Name.{Name}
use Rattle.pst_base.specs.declared.shape.TypeShape.{TypeShape}
use Rattle.pst_base.specs.Name.{name_cmp, name_eq, root_name}
use Rattle.pst_base.specs.Heap.{Rec, Heap, IsWellFormed}
use Rattle.pst_base.proofs.NameLemmas.{name_cmp-total, name_eq-true}
use Rattle.pst_questions.specs.Paths.{Leads, AreNumbered}
use Rattle.pst_questions.specs.Walk.{pointers_in, all_noted}
use Rattle.pst_questions.proofs.Lists.{Placed, place}
use Rattle.pst_questions.proofs.Walked.{Reach, names_in, Walked, WalkedOn}
use Rattle.pst_questions.proofs.Numbered.{WalkedOn-none, WalkedOn-next, AreNumbered-all}
use Rattle.pst_questions.proofs.Reached.{HasRecord, reached_found}

find_is : (n : Name) (es : List (Name × Rec)) → lookup (name_eq n) es ≡ find name_cmp n es
find_is n [] = refl
find_is n (e ∷ es) = ap (cond (name_eq n e.0) (Some e.1)) (find_is n es)

name_at : (es : List Reach) (i : ℕ) (e : Reach) → slice_get es i ≡ Some e → slice_get (names_in es) i ≡ Some e.name
name_at es i e at = slice_get-map (λ (e : Reach). e.name) es i ∙ ap (option_map (λ (e : Reach). e.name)) at

-- a name of the list, with the path by which it was noted
record Noted (es : List Reach) (i : ℕ) (n : Name) : Type 0 where
  reach : Reach
  at : slice_get es i ≡ Some reach
  name_is : reach.name ≡ n

noted_from : (es : List Reach) (i : ℕ) (n : Name) (o : Option Reach) → slice_get es i ≡ o → slice_get (names_in es) i ≡ Some n → Noted es i n
noted_from es i n None is at = absurd (let none = slice_get-map (λ (e : Reach). e.name) es i ∙ ap (option_map (λ (e : Reach). e.name)) is in cc)
noted_from es i n (Some e) is at = (let some = name_at es i e is in record { reach = e; at = is; name_is = cc })

noted : (es : List Reach) (i : ℕ) (n : Name) → slice_get (names_in es) i ≡ Some n → Noted es i n
noted es i n at = noted_from es i n (slice_get es i) refl at

module _ (shape : List TypeShape) (h : Heap) (w : IsWellFormed shape h) where
  there : (done : ℕ) (es : List Reach) → Walked h done es → (n : Name) → Placed (names_in es) n → HasRecord h n
  there done es v n p =
      let e = noted es p.index n p.at in
      reached_found shape h n w (e.reach.path, subst (Leads h e.reach.path) e.name_is (v.rises.leads p.index e.reach e.at))

  apart : (done : ℕ) (es : List Reach) → Walked h done es → (i j : ℕ) (d : Name) → i < j → j < length (names_in es) → name_eq (get_or (names_in es) i d) (get_or (names_in es) j d) ≡ false
  apart done es v i j d less within =
      let a = noted es i (get_or (names_in es) i d) (slice_get-get_or (names_in es) i d (omega arith)) in
      let b = noted es j (get_or (names_in es) j d) (slice_get-get_or (names_in es) j d within) in
      elim (name_eq (get_or (names_in es) i d) (get_or (names_in es) j d)) as (λ t. name_eq (get_or (names_in es) i d) (get_or (names_in es) j d) ≡ t → t ≡ false) [
        | true ↦ λ same. absurd (
            let e = name_eq-true (get_or (names_in es) i d) (get_or (names_in es) j d) same in
            let one = v.rises.apart i j a.reach b.reach a.at b.at (a.name_is ∙ e ∙ sym b.name_is) in
            omega arith)
        | false ↦ λ _. refl
      ] refl

  -- there are no more notes than records
  few : (done : ℕ) (es : List Reach) → Walked h done es → length (names_in es) ≤ length (entries h)
  few done es v = length-le_from_keys (eq_by_cmp_equiv name_cmp-total) (names_in es) (entries h) (IsDistinct-from_apart name_eq (names_in es) (apart done es v)) (λ q is.
      let f = there done es v q (place (names_in es) q (Contains-list_any name_eq name_eq-true (names_in es) q is)) in
      subst IsSome (sym (find_is q (entries h) ∙ sym (get-entries h q) ∙ f.at)) refl)

  few_names : (done : ℕ) (names : List Name) → WalkedOn h done names → length names ≤ length (entries h)
  few_names done names v = subst (λ (ns : List Name). length ns ≤ length (entries h)) v.names_are (few done v.reaches v.walked)

  walk_from : (fuel done : ℕ) (names : List Name) → WalkedOn h done names → length (entries h) ≤ done + fuel → (all : List Name) × AreNumbered h all
  walk_from zero done names v bound = (names, AreNumbered-all h done names v (let most = few_names done names v in omega arith))
  walk_from (suc fuel) done names v bound = elim (cases_lt done (length names)) [
    | inl more ↦
        let n = get_or names done root_name in
        walk_from fuel (done + 1) (all_noted names (pointers_in h n)) (WalkedOn-next h done names n v (slice_get-get_or names done root_name more)) (omega arith)
    | inr through ↦ (names, AreNumbered-all h done names v through)
  ]

  pub numbering : (names : List Name) × AreNumbered h names
  numbering = walk_from (length (entries h)) 0 (root_name ∷ []) (WalkedOn-none h) (omega arith)
