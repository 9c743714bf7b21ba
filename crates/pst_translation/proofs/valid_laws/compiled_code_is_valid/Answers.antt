use Rattle.pst_translation.proofs.Valid.{compiled_is_valid}
use Rattle.pst_translation.proofs.valid_laws.compiled_code_is_valid.Goals as goal

pub returns : goal.returns
returns c = compiled_is_valid
