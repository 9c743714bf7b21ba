use Rattle.std.proofs.Common.{length, ap, arith}
use Rattle.pst_roots.specs.Pieces.{Held}
use Rattle.pst_roots.proofs.StretchLemmas.{whole_stretch}
use Rattle.pst_roots.proofs.pieces.Pieces.whole.Goals as goal

pub returns-clause-stretch : goal.returns-clause-stretch
returns-clause-stretch c =
    let nodes = ap (λ (h : Held). h.nodes) c.self.view_is in
    whole_stretch c.args.self.now c.self.inside.pieces.items c.self.inside.starts.items c.self.invariant.cut.starts_are c.self.invariant.cut.each
    nodes (ap (λ (h : Held). h.starts) c.self.view_is) c.self.inside.count c.len.result
    (omega (arith, c.self.invariant.counted, ap length nodes, c.requires))
    (omega (arith, c.self.invariant.counted, ap length nodes))
    (omega (arith, c.len.ensures, c.self.inside.pieces.ok.0))
