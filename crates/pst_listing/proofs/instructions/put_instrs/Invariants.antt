use Rattle.std.proofs.Common.{◌≡◌, ◌++◌, drop}
use Rattle.pst_listing.specs.Listing.{instr_lines}
use Rattle.pst_listing.proofs.instructions.put_instrs.Given as goal

abbrev pub invariant-loop-index : goal.invariant-loop-index
invariant-loop-index l =
    l.out.items ++ instr_lines l.program.names l.procedures l.index (drop l.index l.instrs) ≡ l.fn.out.items ++ instr_lines l.program.names l.procedures 0 l.instrs
