-- The lists that are made of the fields of a record type.
use Rattle.std.proofs.Common.{◌≡◌, ℕ, ◌+◌, ◌<◌, List, [], ◌∷◌, ◌++◌, map, length, drop, get_or, refl, sym, ap, ◌∙◌, append_assoc, Bor}
use Rattle.std.specs.Map.{values_of}
use Rattle.std.proofs.Math.Seq.{drop-length}
use Rattle.std.proofs.lemmas.List.{append-nil}
use Rattle.pst_base.specs.declared.names.TypeNo.{TypeNo}
use Rattle.pst_types_scope.specs.declared.names.Member.{Member}
use Rattle.pst_typing.specs.Names.{Scope, elements_of}
use Rattle.pst_typing.specs.Declarations.{with_targets, targets_of}
use Rattle.pst_types_scope.specs.View.{kind_word, member_of, entries_of}
use Rattle.pst_typing.proofs.Through.{at_index}

-- the types of the fields that hold pointers, without names
abbrev pub targets_in : Scope → List Member → List TypeNo
targets_in scope [] = []
targets_in scope (m ∷ ms) = with_targets scope (kind_word m.kind) (elements_of m.elements) (targets_in scope ms)

pub targets_are : (scope : Scope) (es : List (Bor (List ℕ) × Member)) → targets_of scope (entries_of member_of es) ≡ targets_in scope (values_of es)
targets_are scope [] = refl
targets_are scope (e ∷ es) = ap (with_targets scope (kind_word e.1.kind) (elements_of e.1.elements)) (targets_are scope es)

pub targets_at : (scope : Scope) (ms : List Member) (i : ℕ) (m : Member) → i < length ms → m ≡ get_or ms i m
    → targets_in scope (drop i ms) ≡ with_targets scope (kind_word m.kind) (elements_of m.elements) (targets_in scope (drop (i + 1) ms))
targets_at scope ms i m below is = ap (targets_in scope) (at_index ms i m below is)

pub ruleset targets = (targets_are, targets_at, append_assoc)

pub targets_done : (scope : Scope) (es : List (Bor (List ℕ) × Member)) (ms : List Member) (i : ℕ) (done all : List TypeNo) → ms ≡ map (λ e. e.1) es
    → i ≡ length ms → done ++ targets_in scope (drop i ms) ≡ targets_in scope ms → all ≡ done →
    targets_of scope (entries_of member_of es) ≡ all
targets_done scope es ms i done all values end so_far is =
    let past : drop i ms ≡ [] = ap (λ k. drop k ms) end ∙ drop-length ms in
    targets_are scope es ∙ ap (targets_in scope) (sym values) ∙ sym so_far ∙ ap (λ l. done ++ targets_in scope l) past ∙ append-nil done ∙ sym is
