use Rattle.std.proofs.Common.{arith}
use Rattle.pst_roots.proofs.PieceLemmas.{many_starts}
use Rattle.pst_roots.proofs.pieces.Pieces.find.Goals as goal

pub index-requires-2 : goal.index-requires-2
index-requires-2 c = omega (
  arith,
  many_starts c.self.inside.pieces.items c.self.inside.starts.items c.self.invariant.cut.starts_are,
  c.if-piece-len.false,
  c.len.ensures,
  c.self.inside.pieces.ok.0,
  c.self.inside.starts.ok.0,
)
