use Rattle.std.proofs.Common.{◌≡◌, ◌++◌, map, take}
use Rattle.std.specs.Prelude.{vec_capacity}
use Rattle.pst_machine_steps.specs.Calls.{held_in}
use Rattle.pst_machine_steps.proofs.calls.gathered.Given as goal

abbrev pub invariant-loop-r : goal.invariant-loop-r
invariant-loop-r g l = (l.all.items ≡ l.fn.list.items ++ map (held_in l.frame) (take l.r-index l.arguments)) × (vec_capacity l.all ≡ vec_capacity l.fn.list)
