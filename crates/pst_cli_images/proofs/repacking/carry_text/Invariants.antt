use Rattle.std.proofs.Common.{◌≡◌, List, ℕ, ◌++◌, length}
use Rattle.pst_io.specs.Text.{lines_of}
use Rattle.pst_history.specs.Meaning.{Meaning}
use Rattle.pst_history.specs.History.{History}
use Rattle.pst_cli_scripts.specs.Pieces.{state_after}
use Rattle.pst_cli_scripts.specs.Script.{script_of}
use Rattle.pst_cli_images.proofs.repacking.carry_text.Given as goal

-- on each history that they stood for, they stand for the one after these first lines
abbrev pub invariant-carrying : goal.invariant-carrying
invariant-carrying g l = record {
  given : (m : Meaning) (h : History) → g.X.Session.stands l.fn.session l.fn.held m h
      → (given : List (List ℕ)) × (lines_of l.fn.text ≡ given ++ lines_of l.rest) × g.X.Session.stands l.session l.held m (state_after (script_of g.X.Session.rules m) h given);
  about : g.X.Session.about l.session ≡ g.X.Session.about l.fn.session;
}

abbrev pub decreases-carrying : goal.decreases-carrying
decreases-carrying g l = length l.rest
