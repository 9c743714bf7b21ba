use Rattle.std.proofs.Common.{◌≡◌, map, take}
use Rattle.pst_machine_steps.specs.declared.register.Register.TheVariants as register
use Rattle.pst_machine.proofs.calling.hold_first.Given as goal

abbrev pub invariant-loop-n : goal.invariant-loop-n
invariant-loop-n g l = l.registers.items ≡ map register.Number (take l.n-index l.arguments)
