use Rattle.std.proofs.Common.{length, ◌+◌, ◌-◌, ◌≡◌, ◌≤◌, false, take, Some}
use Rattle.pst_lex.specs.Bytes.{gap, feeds}
use Rattle.pst_lex.proofs.gaps.gap_length.Given as goal

abbrev pub invariant-loop-n : goal.invariant-loop-n
invariant-loop-n l =
    (l.n ≤ length l.text) × (gap false (take l.n l.text) ≡ Some l.inside) × (l.line ≡ l.fn.line + feeds (take l.n l.text)) × (l.line ≤ l.fn.line + l.n)

abbrev pub decreases-loop-n : goal.decreases-loop-n
decreases-loop-n l = length l.text - l.n
