use Rattle.std.proofs.Common.{length}
use Rattle.std.specs.Option.{option_map}
use Rattle.pst_questions.specs.Path.{names_in}
use Rattle.pst_questions.proofs.PathLemmas.{Left}
use Rattle.pst_questions.proofs.fields.resolve.Given as goal

abbrev pub invariant-loop-rest : goal.invariant-loop-rest
invariant-loop-rest l = Left l.program l.path l.steps.items l.kind (option_map (λ rest. rest.now) l.rest)

abbrev pub decreases-loop-rest : goal.decreases-loop-rest
decreases-loop-rest l = length (names_in (option_map (λ rest. rest.now) l.rest))
