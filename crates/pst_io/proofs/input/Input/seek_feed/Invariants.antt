use Rattle.std.proofs.Common.{◌≡◌, ◌≤◌, ◌+◌, ◌-◌, [], length, take, IsTrue, cond}
use Rattle.std.specs.Prelude.{max}
use Rattle.pst_io.specs.declared.room.TheConstants.{MOST_READ}
use Rattle.pst_io.specs.Text.{whole_lines}
use Rattle.pst_io.specs.Input.{Hands, EndsWhereSeen, NeedsNoRead}
use Rattle.pst_io.proofs.input.Input.seek_feed.Given as goal

-- what was searched has no line feed, and nothing was handed out
abbrev pub invariant-reading : goal.invariant-reading
invariant-reading g l = record {
  searched : l.searched ≤ length l.self.held;
  clear : whole_lines (take l.searched l.self.held) ≡ [];
  ahead : length l.self.held ≤ max (length l.fn.self.held) (l.searched + MOST_READ);
  hands : Hands l.fn.self (g.S.Source.left l.fn.source) l.self (g.S.Source.left l.source) [];
  still : IsTrue l.fn.self.ended → IsTrue l.self.ended;
  seen : EndsWhereSeen l.self (g.S.Source.left l.source);
  no_read : NeedsNoRead l.fn.self → l.source ≡ l.fn.source;
  later : g.S.Source.faults l.fn.source ≤ g.S.Source.faults l.source;
}

-- each turn reads a byte, or is the last but one
abbrev pub decreases-reading : goal.decreases-reading
decreases-reading g l = (l.fn.self.most - length l.self.held) + cond l.self.ended 0 1
