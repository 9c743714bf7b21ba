use Rattle.std.proofs.Common.{◌≡◌, ◌++◌, map, drop, length}
use Rattle.std.specs.Prelude.{vec_len, vec_capacity}
use Rattle.pst_machine_steps.specs.Calls.{register_default}
use Rattle.pst_machine_steps.proofs.calls.filled.Given as goal

abbrev pub invariant-loop-i : goal.invariant-loop-i
invariant-loop-i g l = (l.all.items ++ map register_default (drop l.i l.kinds) ≡ l.fn.list.items ++ map register_default
    (drop (length l.fn.list.items) l.kinds)) × (vec_len l.all ≡ l.i) × (vec_capacity l.all ≡ vec_capacity l.fn.list)
