use Rattle.std.proofs.Common.{◌≡◌, ◌≤◌, ◌-◌, List, ℕ}
use Rattle.pst_io.specs.Input.{Gives, Hands}
use Rattle.pst_io.specs.Lines.{IsOpen}
use Rattle.pst_io.specs.declared.room.TheConstants.{MOST_INPUT}
use Rattle.pst_cli_scripts.specs.Reading.{IsNear}
use Rattle.pst_cli_scripts.proofs.Cutting.{IsBefore}
use Rattle.pst_cli_scripts.proofs.program.read_text.Given as goal

-- these lines were handed out, none of them the separator line, and each ended by a line feed; they were kept
abbrev pub invariant-reading : goal.invariant-reading
invariant-reading g l = record {
  given : (given : List (List ℕ)) × Gives l.fn.lines.input (g.S.Source.left l.fn.source) l.lines.input (g.S.Source.left l.source) given × IsBefore given l.text.items;
  hands : Hands l.fn.lines.input (g.S.Source.left l.fn.source) l.lines.input (g.S.Source.left l.source) l.text.items;
  near : IsNear l.lines.input;
  limit : l.lines.input.most ≡ MOST_INPUT;
  opened : IsOpen l.lines (g.S.Source.left l.source);
  later : g.S.Source.faults l.fn.source ≤ g.S.Source.faults l.source;
}

abbrev pub decreases-reading : goal.decreases-reading
decreases-reading g l = MOST_INPUT - l.lines.input.handed
