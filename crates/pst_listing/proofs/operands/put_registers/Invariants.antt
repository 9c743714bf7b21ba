use Rattle.std.proofs.Common.{◌≡◌, ◌++◌, drop}
use Rattle.pst_listing.specs.Listing.{register_words}
use Rattle.pst_listing.proofs.operands.put_registers.Given as goal

abbrev pub invariant-loop-register : goal.invariant-loop-register
invariant-loop-register l = l.out.items ++ register_words (drop l.register-index l.registers) ≡ l.fn.out.items ++ register_words l.registers
