use Rattle.std.proofs.Common.{◌≡◌, List, ℕ, ◌++◌, ◌+ℤ◌, pos, fold, length}
use Rattle.pst_io.specs.Text.{lines_of}
use Rattle.pst_history.specs.Meaning.{Meaning}
use Rattle.pst_history.specs.History.{History}
use Rattle.pst_cli_scripts.specs.Pieces.{state_after}
use Rattle.pst_cli_scripts.specs.Script.{script_of}
use Rattle.pst_cli_bench.specs.Bench.{printed_from}
use Rattle.pst_cli_bench.proofs.summary.sum_lines.Given as goal

-- on each history that they stood for, these first lines were carried out and summed, and they stand for the one after them
abbrev pub invariant-lines : goal.invariant-lines
invariant-lines g l = (m : Meaning) (h : History) → g.X.Session.stands l.fn.session l.fn.held m h
    → (given : List (List ℕ)) × (lines_of l.fn.text ≡ given ++ lines_of l.rest) × (l.sum ≡ fold ◌+ℤ◌ (pos 0) (printed_from g.X.Session.rules m h given))
    × g.X.Session.stands l.session l.held m (state_after (script_of g.X.Session.rules m) h given)

abbrev pub decreases-lines : goal.decreases-lines
decreases-lines g l = length l.rest
