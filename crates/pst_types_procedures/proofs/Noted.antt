-- Declarations that are noted.
use Rattle.std.proofs.Common.{◌≡◌, ℕ, ◌+◌, ◌<◌, Bool, true, List, [], ◌∷◌, ◌++◌, length, nat_lt, ℤ, Result, Ok, sym, ap, ◌∙◌}
use Rattle.std.proofs.lemmas.Bool.{lt-ltb}
use Rattle.pst_grammar.specs.Syntax as tree
use Rattle.pst_typing.specs.declared.fault.TypeFault.{TypeFault}
use Rattle.pst_typing.specs.Answers.{check}
use Rattle.pst_typing.specs.Names.{Scope, RecordType, Signature, no_members, members_from, is_free}
use Rattle.pst_typing.specs.Declarations.{noted}

pass_two : {A : Type 0} (a b : Bool) (f g : TypeFault) (next : Result A TypeFault) → a ≡ true → b ≡ true → check a f (check b g next) ≡ next
pass_two a b f g next p q = ap (λ c. check c f (check b g next)) p ∙ ap (λ c. check c g next) q

pub noted_record : (scope : Scope) (line : ℕ) (x : List ℕ) (limit : ℤ) (fields : List tree.FieldText) (count : ℕ) (r : RecordType)
    (after : List (List ℕ × RecordType)) → count ≡ length scope.types → count < 64 → is_free scope x ≡ true →
    r.number.0 ≡ count + 1 → r.members ≡ members_from no_members fields → after ≡ scope.types ++ (x, r) ∷ [] →
    let all : Scope = record { types = after; roots = scope.roots; procedures = scope.procedures } in noted scope (tree.Record line x limit fields) ≡ Ok all
noted_record scope line x limit fields count r after counted few free numbered laid is =
    let n : r.number.0 ≡ length scope.types + 1 = numbered ∙ ap (λ k. k + 1) counted in
    pass_two _ _ _ _ _ (sym (ap (λ k. nat_lt k 64) counted) ∙ lt-ltb count 64 few) free
    ∙ (λ i. Ok (record { types = scope.types ++ (x, record { number = record { 0 = sym n i }; members = sym laid i }) ∷ []; roots = scope.roots; procedures = scope.procedures }))
    ∙ (λ i. Ok (record { types = sym is i; roots = scope.roots; procedures = scope.procedures }))

pub noted_procedure : (scope : Scope) (p : tree.ProcedureText) (count : ℕ) (s : Signature) (after : List (List ℕ × Signature))
    → count ≡ length scope.procedures → count < 256 → is_free scope p.name ≡ true →
    s.number.0 ≡ count → s.query ≡ p.query → s.parameters ≡ p.parameters → s.result ≡ p.result → after ≡ scope.procedures ++ (p.name, s) ∷ [] →
    let all : Scope = record { types = scope.types; roots = scope.roots; procedures = after } in noted scope (tree.Procedure p) ≡ Ok all
noted_procedure scope p count s after counted few free numbered queries parameters gives is =
    let n : s.number.0 ≡ length scope.procedures = numbered ∙ counted in
    pass_two _ _ _ _ _ (sym (ap (λ k. nat_lt k 256) counted) ∙ lt-ltb count 256 few) free
    ∙ (λ i. Ok (record {
      types = scope.types;
      roots = scope.roots;
      procedures =
          scope.procedures ++ (
            p.name,
            record {
              number = record { 0 = sym n i };
              query = sym queries i;
              parameters = sym parameters i;
              result =
                  sym gives i;
            },
          ) ∷ [];
    }))
    ∙ (λ i. Ok (record { types = scope.types; roots = scope.roots; procedures = sym is i }))
