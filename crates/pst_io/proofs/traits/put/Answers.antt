use Rattle.std.proofs.Common.{arith, length-drop}
use Rattle.std.proofs.lemmas.List.{take_rest}
use Rattle.pst_io.proofs.Parts.{Appends-more}
use Rattle.pst_io.proofs.traits.put.Goals as goal

pub loop-done-preserved : goal.loop-done-preserved
loop-done-preserved g c = record {
  within = omega (arith, length-drop c.loop-done.done c.args.piece.now, c.in_ok-done.ensures.bound);
  taken = Appends-more _ _ _ c.args.piece.now c.loop-done.done c.in_ok-done.field-0 c.loop-done.invariant.taken (rw take_rest at c.in_ok-done.ensures.bytes);
  later = grind arith;
  unmoved = grind (arith, c.in_ok-done.ensures.some);
}
