use Rattle.pst_translation.proofs.Valid.{few_registers}
use Rattle.pst_translation.proofs.valid_laws.registers_are_few.Goals as goal

pub returns : goal.returns
returns c = few_registers
