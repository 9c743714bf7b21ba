-- Code has one meaning.
use Rattle.std.proofs.Common.{sym, ◌∙◌}
use Rattle.pst_translation.specs.Compiled.{code_of}
use Rattle.pst_translation.specs.ValidLaws.{CompiledIsValid}
use Rattle.pst_history.specs.Direct.{direct}
use Rattle.pst_engine_runs.specs.Coded.{CompiledCodeMeansTheProgram}
use Rattle.pst_engine_runs.specs.Bare.{by_machine, CodeHasOneMeaning, ValidCodeHasAMeaning, TheMachineMeansTheProgram}

pub one_meaning : CodeHasOneMeaning
one_meaning parts m n a b = record {
  shape = a.shape ∙ sym b.shape;
  proc = λ name. a.proc name ∙ sym (b.proc name);
  query = λ name. a.query name ∙ sym (b.query name);
  outcome = λ w granted heap ready. let to = a.comes w granted heap ready in a.outcome w granted heap to.0 to.1 ∙ sym (b.outcome w granted heap to.0 to.1);
}

-- the code of a well-typed program by its machine alone
pub machine_means : CompiledIsValid → ValidCodeHasAMeaning → CompiledCodeMeansTheProgram → TheMachineMeansTheProgram
machine_means valid alone program r typed =
    one_meaning (code_of r) (by_machine (code_of r)) (direct r) (alone (code_of r) (valid r typed)).0 (program r typed).0
