use Rattle.std.proofs.Common.{◌≡◌, ◌-◌}
use Rattle.pst_roots.specs.Roots.{held_of}
use Rattle.pst_roots.specs.Stretches.{IsStretch}
use Rattle.pst_roots.proofs.RootLemmas.{IsBetween}
use Rattle.pst_roots.proofs.roots.RootIndex.last_before.Given as goal

abbrev pub invariant-loop-stretch : goal.invariant-loop-stretch
invariant-loop-stretch g l = (g.P.Compare.list l.compare ≡ g.P.Compare.list l.initial.compare) × IsStretch l.self.pieces l.stretch
    × IsBetween (g.P.Compare.list l.initial.compare) l.nodes.list.items (held_of l.self) l.place.0 l.stretch.low l.stretch.high l.left
    (g.P.Compare.calls l.initial.compare) (g.P.Compare.calls l.compare)

abbrev pub decreases-loop-stretch : goal.decreases-loop-stretch
decreases-loop-stretch g l = l.stretch.high - l.stretch.low
