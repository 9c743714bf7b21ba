use Rattle.pst_typing.proofs.Accepted.{accepted}
use Rattle.pst_typing.proofs.laws.accepted_programs_are_typed.Goals as goal

pub returns : goal.returns
returns c = accepted
