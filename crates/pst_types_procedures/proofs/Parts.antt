-- A procedure is its parts.
use Rattle.std.proofs.Common.{◌≡◌, ℕ, ◌+◌, Bool, true, false, List, [], length, Result, Ok, Err, refl, sym, ap, ◌∙◌, subst}
use Rattle.pst_grammar.specs.Syntax as tree
use Rattle.pst_typing.specs.declared.fault.TypeFault.{TypeFault}
use Rattle.pst_typing.specs.declared.fault.TypeFault.TheVariants.{Unknown}
use Rattle.pst_typing.specs.Answers.{and_then, check, through}
use Rattle.pst_typing.specs.Names.{Scope, Local, Setting}
use Rattle.pst_typing.specs.Statements.{block}
use Rattle.pst_typing.specs.View.{Approves, Fails}
use Rattle.pst_typing.specs.Declarations.{variable, is_result_known, procedure}
use Rattle.pst_typing.proofs.Through.{fails_then, fails_as}
use Rattle.pst_types_procedures.specs.Parts.{Variables, counted, variables_in, setting_in, stand_in, made_in, procedure_in, by_parts}

-- the next checks may be made with what the checks before gave together
module _ {B : Type 0} (next : Variables → Result B TypeFault) where
  after_locals : (r : Result (List (List ℕ × Local)) TypeFault) (n : ℕ) →
      and_then r (λ vs. next (counted vs n)) ≡ and_then (and_then r (λ vs. Ok (counted vs n))) next
  after_locals (Ok vs) n = refl
  after_locals (Err f) n = refl

  after_result : (b : Bool) (f : TypeFault) (r : Result (List (List ℕ × Local)) TypeFault) (n : ℕ) →
      check b f (and_then r (λ vs. next (counted vs n))) ≡ and_then (check b f (and_then r (λ vs. Ok (counted vs n)))) next
  after_result true f r n = after_locals r n
  after_result false f r n = refl

  after_parameters : (r : Result (List (List ℕ × Local)) TypeFault) (b : Bool) (f : TypeFault) (more : List (List ℕ × Local) → Result (List (List ℕ × Local)) TypeFault) →
      and_then r (λ ps. check b f (and_then (more ps) (λ vs. next (counted vs (length ps)))))
      ≡ and_then (and_then r (λ ps. check b f (and_then (more ps) (λ vs. Ok (counted vs (length ps)))))) next
  after_parameters (Ok ps) b f more = after_result b f (more ps) (length ps)
  after_parameters (Err g) b f more = refl

-- to where the statements stand the parts that are judged lead at once
stood : {A B C : Type 0} (r : Result A TypeFault) (place : A → B) (next : B → Result C TypeFault) → and_then r (λ a. next (place a)) ≡ and_then (and_then r (λ a. Ok (place a))) next
stood (Ok a) place next = refl
stood (Err f) place next = refl

-- its names together, and then its statements
all_named : (scope : Scope) (p : tree.ProcedureText) → procedure scope p ≡ and_then (variables_in scope p) (λ vs. procedure_in (setting_in scope p vs) vs.parameters p)
all_named scope p =
    after_parameters (λ vs. procedure_in (setting_in scope p vs) vs.parameters p) (through (variable scope 8) [] p.parameters) (is_result_known scope p.result) (Unknown p.line)
    (λ ps. through (variable scope (length ps + 64)) ps p.locals)

pub parts : (scope : Scope) (p : tree.ProcedureText) → procedure scope p ≡ by_parts scope p
parts scope p =
    all_named scope p ∙ stood (variables_in scope p) (λ vs. (setting_in scope p vs, vs.parameters)) (λ s. procedure_in s.0 s.1 p)

-- ---- the verdict alone

-- a verdict is that of what is made of the answer, too
pub approved_made : {A B : Type 0} (make : A → B) (verdict : Result (Unit {0}) TypeFault) (answer : Result A TypeFault) → Approves verdict answer
    → Approves verdict (and_then answer (λ a. Ok (make a)))
approved_made make (Ok done) answer (a, is) = (make a, ap (λ r. and_then r (λ x. Ok (make x))) is)
approved_made make (Err f) answer bad = fails_then f answer (λ a. Ok (make a)) bad

-- where the statements stand decides, or they do
pub stands_fail : (scope : Scope) (p : tree.ProcedureText) (f : TypeFault) → Fails f (stand_in scope p) → Fails f (procedure scope p)
stands_fail scope p f bad = fails_as f _ _ (sym (parts scope p)) (fails_then f (stand_in scope p) (λ s. procedure_in s.0 s.1 p) bad)

pub stands_then : (scope : Scope) (p : tree.ProcedureText) (setting : Setting) (n : ℕ) (verdict : Result (Unit {0}) TypeFault)
    → stand_in scope p ≡ Ok (setting, n) → Approves verdict (block setting p.body) → Approves verdict (procedure scope p)
stands_then scope p setting n verdict is approved =
    subst (λ answer. Approves verdict answer) (sym (parts scope p ∙ ap (λ r. and_then r (λ s. procedure_in s.0 s.1 p)) is))
    (approved_made (made_in setting n p) verdict (block setting p.body) approved)
