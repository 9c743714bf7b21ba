use Rattle.std.proofs.Common.{◌∙◌, ap, arith}
use Rattle.pst_roots.specs.Pieces.{Held}
use Rattle.pst_roots.proofs.StretchLemmas.{many_held, read_at, IsRead}
use Rattle.pst_roots.proofs.pieces.Pieces.first_of.Goals as goal

pub index-requires : goal.index-requires
index-requires c =
    let many = many_held c.args.self.now c.self.inside.pieces.items c.self.inside.starts.items c.self.invariant.cut.starts_are
    c.self.invariant.cut.each (ap (λ (h : Held). h.nodes) c.self.view_is) (ap (λ (h : Held). h.starts) c.self.view_is) in
    omega (arith, many, c.requires.falls.there, c.self.inside.pieces.ok.0)

-- the first node is read in its piece
read : (c : goal.After-get-node) → IsRead c.args.self.now.nodes c.args.stretch.low c.index-start.result.now c.index.result.now
read c =
    read_at c.args.self.now c.self.inside.pieces.items c.self.inside.starts.items c.self.invariant.cut.starts_are c.self.invariant.cut.each
    (ap (λ (h : Held). h.nodes) c.self.view_is) (ap (λ (h : Held). h.starts) c.self.view_is) c.args.stretch.low c.args.stretch.piece
    (omega (arith, c.requires.ordered, c.requires.within))
    c.requires.falls c.index-start.result.now c.index-start.ensures c.index.result.now c.index.ensures

pub get-node-requires : goal.get-node-requires
get-node-requires c =
    let here = read_at c.args.self.now c.self.inside.pieces.items c.self.inside.starts.items c.self.invariant.cut.starts_are c.self.invariant.cut.each
    (ap (λ (h : Held). h.nodes) c.self.view_is) (ap (λ (h : Held). h.starts) c.self.view_is) c.args.stretch.low c.args.stretch.piece
    (omega (arith, c.requires.ordered, c.requires.within))
    c.requires.falls c.index-start.result.now c.index-start.ensures c.index.result.now c.index.ensures in
    here.within

pub returns-clause-node : goal.returns-clause-node
returns-clause-node c = record {
  there = omega (arith, c.requires.ordered, c.requires.within);
  node = c.get-node.ensures ∙ (read c).element;
}
