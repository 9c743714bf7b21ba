use Rattle.std.proofs.Common.{◌≡◌, map, All, length}
use Rattle.pst_machine_steps.specs.View.{value_of}
use Rattle.pst_machine_steps.specs.Live.{IsLive}
use Rattle.pst_machine_steps.proofs.fields.renew_all.Given as goal

abbrev pub invariant-loop-i : goal.invariant-loop-i
invariant-loop-i g l =
    let s = g.H.HeapAt.state l.heap in
    (map (value_of s.name) l.registers.items ≡ map (value_of s.name) l.fn.registers.items) × All (IsLive s l.at) l.registers.items × (length l.registers.items ≡ length l.fn.registers.items)
