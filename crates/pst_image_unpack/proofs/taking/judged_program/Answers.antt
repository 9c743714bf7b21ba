use Rattle.std.proofs.Common.{refl, sym, subst, ℕ, List, Option}
use Rattle.std.specs.Option.{MatchOption}
use Rattle.pst_image_rules.specs.declared.rule.Rule.TheVariants.{Text}
use Rattle.pst_program.specs.declared.program.Program.{Program}
use Rattle.pst_typing.specs.Declarations.{NamedProgram}
use Rattle.pst_typing.specs.View.{program_of}
use Rattle.pst_image_unpack.specs.Unpacked.{IsOwnText}
use Rattle.pst_image_unpack.proofs.Deciding.{same_rule}
use Rattle.pst_image_unpack.proofs.taking.judged_program.Goals as goal

pub returns-in_default-clause-bad : goal.returns-in_default-clause-bad
returns-in_default-clause-bad c rule e =
    let none : (named : NamedProgram) → IsOwnText c.as_slice.result.now named → ⊥ =
    subst (λ (o : Option Program). MatchOption o ((named : NamedProgram) → IsOwnText c.as_slice.result.now named → ⊥)
    (λ program. IsOwnText c.as_slice.result.now (program_of program))) c.in_default.is c.in_ok-program.ensures.found in
    same_rule c.args.parts.now Text rule _ _ refl refl (λ named own. none named (subst (λ (t : List ℕ). IsOwnText t named) (sym c.as_slice.ensures) own)) e
