-- Verdicts, which do not depend on what was made before.
use Rattle.std.proofs.Common.{◌≡◌, ℕ, ℤ, List, [], ◌∷◌, ◌++◌, Option, None, Some, Result, Ok, Err, refl, sym, ap, ◌∙◌, subst}
use Rattle.pst_grammar.specs.Syntax as tree
use Rattle.pst_typing.specs.declared.fault.TypeFault.{TypeFault}
use Rattle.pst_typing.specs.declared.fault.TypeFault.TheVariants.{Limit}
use Rattle.pst_typing.specs.Answers.{and_then, found, through}
use Rattle.pst_typing.specs.Names.{Members, Scope, no_members, nothing_declared}
use Rattle.pst_typing.specs.Declarations.{limit_of, field, shape_of, names_of, NamedProgram, noted, declared, root_alone, checked}
use Rattle.pst_typing.specs.View.{Answers, Approves}
use Rattle.pst_types.specs.Added.{members_judged}

-- an answer is a verdict, too
pub approved_as : {A : Type 0} (made : A) (verdict : Result (Unit {0}) TypeFault) (answer : Result A TypeFault) → Answers (λ _. made) verdict answer → Approves verdict answer
approved_as made (Ok done) answer is = (made, is)
approved_as made (Err f) answer bad = bad

limited : {C : Type 0} (limit : Option ℕ) (f : TypeFault) (r : Result Members TypeFault) (make : ℕ → Members → C) →
    found limit f (λ n. and_then r (λ members. Ok (make n members))) ≡ and_then {A = ℕ × Members} (found limit f (λ n. and_then r (λ members. Ok (n, members)))) (λ p. Ok (make p.0 p.1))
limited None f r make = refl
limited (Some n) f (Ok members) make = refl
limited (Some n) f (Err g) make = refl

-- a record type is judged where its limit and its fields are
pub record_judged : (scope : Scope) (before : NamedProgram) (line : ℕ) (x : List ℕ) (limit : ℤ) (fields : List tree.FieldText) (n : ℕ)
    (members : Members) → members_judged scope line limit fields ≡ Ok (n, members) →
    (now : NamedProgram) × (declared scope before (tree.Record line x limit fields) ≡ Ok now)
record_judged scope before line x limit fields n members is =
    let add : ℕ → Members → NamedProgram = λ k ms. record before { shape = before.shape ++ shape_of scope k ms ∷ []; names = before.names ++ names_of x ms ∷ [] } in
    (add n members, limited (limit_of limit) (Limit line) (through (field scope) no_members fields) add ∙ ap (λ r. and_then {A = ℕ × Members} r (λ p. Ok (add p.0 p.1))) is)

-- both walks, of which the first gives the declared names
pub approved_checked : (items whole : List tree.Item) (scope : Scope) (verdict : Result (Unit {0}) TypeFault) → items ≡ whole → through noted nothing_declared items ≡ Ok scope →
    Approves verdict (through (declared scope) (root_alone scope) items) → Approves verdict (checked whole)
approved_checked items whole scope verdict all is approved =
    subst (λ answer. Approves verdict answer) (sym (ap (λ r. and_then r (λ now. through (declared now) (root_alone now) items)) is) ∙ ap checked all) approved
