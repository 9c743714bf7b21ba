-- How many parameters and locals there are.
use Rattle.std.proofs.Common.{◌≡◌, ℕ, ◌+◌, ◌<◌, ◌≤◌, true, List, [], ◌∷◌, ◌++◌, length, nat_lt, Result, Ok, sym, ap, ◌∙◌, arith}
use Rattle.std.proofs.Common.{length-append}
use Rattle.std.proofs.lemmas.Bool.Decides.{nat_tests}
use Rattle.pst_grammar.specs.Syntax.{LocalText}
use Rattle.pst_typing.specs.declared.fault.TypeFault.{TypeFault}
use Rattle.pst_typing.specs.declared.fault.TypeFault.TheVariants.{Duplicate, Unknown}
use Rattle.pst_typing.specs.Answers.{check, through}
use Rattle.pst_typing.specs.Names.{Scope, Local, is_known}
use Rattle.pst_typing.specs.Declarations.{variable, is_new}
use Rattle.pst_typing.proofs.Passed.{passed, first_passed, same_ok}

below : (a b : ℕ) → nat_lt a b ≡ true → a < b
below a b e = grind (arith, nat_tests)

-- no more than there may be
pub through_few : (scope : Scope) (most : ℕ) (list : List LocalText) (before after : List (List ℕ × Local)) → length before ≤ most
    → through (variable scope most) before list ≡ Ok after → length after ≤ most
through_few scope most [] before after few e = let same : before ≡ after = cc in omega (arith, ap length same)
through_few scope most (l ∷ ls) before after few e =
    let s = first_passed (variable scope most before l) (λ now. through (variable scope most) now ls) after e in
    let p = passed (nat_lt (length before) most) _ _ s.0 s.1.0 in
    let after_one : Result (List (List ℕ × Local)) TypeFault = Ok (before ++ (l.name, record { number = length before; kind = l.kind }) ∷ []) in
    let q = passed (is_new scope before l.name) (Duplicate l.line) (check (is_known scope l.kind) (Unknown l.line) after_one) s.0 p.1 in
    let r = passed (is_known scope l.kind) (Unknown l.line) after_one s.0 q.1 in
    let made : before ++ (l.name, record { number = length before; kind = l.kind }) ∷ [] ≡ s.0 = same_ok _ _ r.1 in
    let longer : length s.0 ≡ length before + 1 = sym (ap length made) ∙ length-append before _ in
    let few_now : length s.0 ≤ most = omega (arith, longer, below (length before) most p.0) in
    through_few scope most ls s.0 after few_now s.1.1
