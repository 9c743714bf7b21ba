use Rattle.std.proofs.Common.{◌≡◌, true}
use Rattle.pst_program.specs.Typed.{all_hold}
use Rattle.pst_code.proofs.kinds.all_hold.Given as goal

abbrev pub invariant-loop-index : goal.invariant-loop-index
invariant-loop-index l = all_hold l.shape l.kind l.fn.slot.0 l.index ≡ true
