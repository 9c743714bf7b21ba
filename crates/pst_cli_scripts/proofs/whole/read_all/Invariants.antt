use Rattle.std.proofs.Common.{◌≡◌, ◌≤◌, ◌-◌, List, ℕ}
use Rattle.pst_io.specs.Input.{Gives, Hands}
use Rattle.pst_io.specs.Lines.{IsOpen}
use Rattle.pst_io.specs.declared.room.TheConstants.{MOST_INPUT}
use Rattle.pst_cli_scripts.specs.Reading.{IsNear}
use Rattle.pst_cli_scripts.proofs.whole.read_all.Given as goal

-- these lines were handed out, and their bytes were kept
abbrev pub invariant-reading : goal.invariant-reading
invariant-reading g l = record {
  given : (given : List (List ℕ)) × Gives l.fn.lines.input (g.S.Source.left l.fn.source) l.lines.input (g.S.Source.left l.source) given;
  hands : Hands l.fn.lines.input (g.S.Source.left l.fn.source) l.lines.input (g.S.Source.left l.source) l.bytes.items;
  near : IsNear l.lines.input;
  limit : l.lines.input.most ≡ MOST_INPUT;
  opened : IsOpen l.lines (g.S.Source.left l.source);
  later : g.S.Source.faults l.fn.source ≤ g.S.Source.faults l.source;
}

abbrev pub decreases-reading : goal.decreases-reading
decreases-reading g l = MOST_INPUT - l.lines.input.handed
