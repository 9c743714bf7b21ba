use Rattle.std.proofs.Common.{◌≡◌, ◌≤◌, ◌<◌, ◌+◌, ◌-◌, ◌⊎◌, length, cond}
use Rattle.pst_io.specs.declared.room.TheConstants.{MOST_READ}
use Rattle.pst_io.specs.Input.{HandsTo, EndsWhereSeen, bytes_read}
use Rattle.pst_io.proofs.input.Input.hand.Given as goal

-- so much was handed out, and so much is left to be
abbrev pub invariant-handing : goal.invariant-handing
invariant-handing g l = record {
  hands : HandsTo l.fn.self (g.S.Source.left l.fn.source) l.self (g.S.Source.left l.source) l.fn.text.items l.text.items;
  amount : length l.text.items + l.left ≡ length l.fn.text.items + l.fn.count;
  near : (length l.self.held ≤ length l.fn.self.held) ⊎ ((length l.self.held ≤ MOST_READ) × (0 < l.left));
  some : 0 < l.fn.count → 0 < l.left;
  due : ((l.self ≡ l.fn.self) × (l.left ≡ l.fn.count) × (l.source ≡ l.fn.source)) ⊎ (length l.fn.self.held < l.fn.count);
  seen : EndsWhereSeen l.self (g.S.Source.left l.source);
  later : g.S.Source.faults l.fn.source ≤ g.S.Source.faults l.source;
}

-- each turn reads a byte, or is the last but one
abbrev pub decreases-handing : goal.decreases-handing
decreases-handing g l = (l.fn.self.most - bytes_read l.self) + cond l.self.ended 0 1
