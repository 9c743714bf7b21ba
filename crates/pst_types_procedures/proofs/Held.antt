-- What the parameters and locals hold.
use Rattle.std.proofs.Common.{◌≡◌, ℕ, List, [], ◌∷◌, map, length, take, refl, sym, ap, ◌∙◌, Bor}
use Rattle.std.proofs.Math.Seq.{take-length}
use Rattle.pst_base.specs.declared.names.Kind.{Kind}
use Rattle.pst_typing.specs.Names.{Scope, kind_of}
use Rattle.pst_types_scope.specs.declared.names.Variable.{Variable}
use Rattle.pst_types_scope.specs.View.{kind_word, local_of, entries_of}

kinds_are : (scope : Scope) (es : List (Bor (List ℕ) × Variable)) → map (λ v. kind_of scope v.1.kind) (entries_of local_of es) ≡ map (λ v. kind_of scope (kind_word v.kind)) (map (λ e. e.1) es)
kinds_are scope [] = refl
kinds_are scope (e ∷ es) = ap (λ l. kind_of scope (kind_word e.1.kind) ∷ l) (kinds_are scope es)

pub kinds_done : (scope : Scope) (es : List (Bor (List ℕ) × Variable)) (vs : List Variable) (i : ℕ) (done all : List Kind) → vs ≡ map (λ e. e.1) es
    → i ≡ length vs → done ≡ map (λ v. kind_of scope (kind_word v.kind)) (take i vs) → all ≡ done →
    map (λ v. kind_of scope v.1.kind) (entries_of local_of es) ≡ all
kinds_done scope es vs i done all values end so_far is =
    kinds_are scope es ∙ ap (map (λ v. kind_of scope (kind_word v.kind))) (sym values ∙ sym (ap (λ k. take k vs) end ∙ take-length vs)) ∙ sym so_far ∙ sym is
