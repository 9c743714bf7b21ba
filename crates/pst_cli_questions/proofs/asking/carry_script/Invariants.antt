use Rattle.std.proofs.Common.{◌≡◌, ◌≤◌, ◌-◌, List, ℕ}
use Rattle.pst_io.specs.Input.{Gives}
use Rattle.pst_io.specs.Lines.{IsOpen}
use Rattle.pst_history.specs.Meaning.{Meaning}
use Rattle.pst_history.specs.History.{History}
use Rattle.pst_cli_scripts.specs.Pieces.{state_after}
use Rattle.pst_cli_scripts.specs.Script.{script_of}
use Rattle.pst_cli_scripts.specs.Reading.{IsNear}
use Rattle.pst_cli_questions.proofs.asking.carry_script.Given as goal

-- on each history that they stood for, these lines were handed out, and they stand for the one after the lines
abbrev pub invariant-carrying : goal.invariant-carrying
invariant-carrying g l = record {
  given : (m : Meaning) (h : History) → g.X.Session.stands l.fn.session l.fn.held m h
      → (given : List (List ℕ)) × Gives l.fn.lines.input (g.S.Source.left l.fn.source) l.lines.input (g.S.Source.left l.source) given
      × g.X.Session.stands l.session l.held m (state_after (script_of g.X.Session.rules m) h given);
  about : g.X.Session.about l.session ≡ g.X.Session.about l.fn.session;
  near : IsNear l.lines.input;
  limit : l.lines.input.most ≡ l.fn.lines.input.most;
  opened : IsOpen l.lines (g.S.Source.left l.source);
  later : g.S.Source.faults l.fn.source ≤ g.S.Source.faults l.source;
}

abbrev pub decreases-carrying : goal.decreases-carrying
decreases-carrying g l = l.fn.lines.input.most - l.lines.input.handed
