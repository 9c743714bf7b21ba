-- How many parameters there are.
use Rattle.std.proofs.Common.{◌≡◌, ℕ, ◌≤◌, List, [], length, Ok, ap, ◌∙◌, arith, Bor}
use Rattle.pst_grammar.specs.Syntax.{LocalText}
use Rattle.pst_typing.specs.Answers.{through}
use Rattle.pst_typing.specs.Names.{Scope}
use Rattle.pst_typing.specs.Declarations.{variable}
use Rattle.pst_typing.proofs.Few.{through_few}
use Rattle.pst_types_scope.specs.declared.names.Variable.{Variable}
use Rattle.pst_types_scope.specs.View.{entries_of, local_of}
use Rattle.pst_types_scope.proofs.Lookups.{length_entries}

pub few_parameters : (scope : Scope) (list : List LocalText) (none es : List (Bor (List ℕ) × Variable)) (n : ℕ) → none ≡ []
    → through (variable scope 8) (entries_of local_of none) list ≡ Ok (entries_of local_of es) → n ≡ length es → n ≤ 8
few_parameters scope list none es n empty e count =
    let start : length (entries_of local_of none) ≡ 0 = length_entries local_of none ∙ ap length empty in
    let few : length (entries_of local_of none) ≤ 8 = omega (arith, start) in
    omega (arith, count, length_entries local_of es, through_few scope 8 list (entries_of local_of none) (entries_of local_of es) few e)
