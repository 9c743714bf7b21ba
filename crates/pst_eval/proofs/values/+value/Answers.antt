use Rattle.std.proofs.Common.{arith}
use Rattle.std.proofs.Math.Nat.{le-max_right}
use Rattle.pst_program.specs.declared.typed.Typed.{size-Typed}
use Rattle.pst_eval.proofs.values.+value.Goals as goal

-- the second part is no deeper than the deeper one of both
pub combined-value-requires-2 : goal.combined-value-requires-2
combined-value-requires-2 t c =
    (omega (arith, le-max_right (size-Typed c.args.left.now) (size-Typed c.args.right.now)), tt)

pub element-value-requires-2 : goal.element-value-requires-2
element-value-requires-2 t c =
    (omega (arith, le-max_right (size-Typed c.args.object.now) (size-Typed c.args.index.now)), tt)
