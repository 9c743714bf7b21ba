use Rattle.std.proofs.Common.{◌∙◌, ◌+◌, ◌-◌, ◌/◌, length, ap, arith}
use Rattle.pst_roots.specs.Pieces.{Held}
use Rattle.pst_roots.proofs.PieceLemmas.{starts_rise, start_before}
use Rattle.pst_roots.proofs.StretchLemmas.{start_cut, start_early}
use Rattle.pst_roots.proofs.pieces.Pieces.cut_of.Goals as goal

-- the middle piece is one before the end
pub overflow_sub-high : goal.overflow_sub-high
overflow_sub-high c =
    let before = start_early c.args.self.now c.self.inside.pieces.items c.self.inside.starts.items c.self.invariant.cut.starts_are
    c.self.invariant.cut.each (ap (λ (h : Held). h.nodes) c.self.view_is) (ap (λ (h : Held). h.starts) c.self.view_is) c.args.stretch
    c.requires.stretch c.index-start.result.now (c.args.stretch.piece + (c.args.stretch.end - c.args.stretch.piece) / 2)
    (omega (arith, c.requires.stretch.some))
    c.index-start.ensures in
    omega (arith, before)

pub returns-then-high-start : goal.returns-then-high-start
returns-then-high-start c =
    start_cut c.args.self.now c.self.inside.pieces.items c.self.inside.starts.items c.self.invariant.cut.starts_are c.self.invariant.cut.each
    (ap (λ (h : Held). h.nodes) c.self.view_is) (ap (λ (h : Held). h.starts) c.self.view_is) c.args.stretch c.requires.stretch c.args.most
    c.index-start.result.now (c.args.stretch.piece + (c.args.stretch.end - c.args.stretch.piece) / 2)
    (omega (arith, c.requires.stretch.some, c.if-end-piece-eq1.false))
    (omega (arith, c.requires.stretch.some))
    c.index-start.ensures (omega (arith, c.if-start-low.true)) (omega (arith, c.if-high-start.true))

pub piece_at-requires-clause-first : goal.piece_at-requires-clause-first
piece_at-requires-clause-first c =
    start_before c.self.inside.pieces.items c.deref.result.now (c.deref.ensures.value ∙ c.self.invariant.cut.starts_are)
    (c.args.stretch.low + (c.args.stretch.high - c.args.stretch.low) / 2)
    (omega (arith, c.requires.stretch.ordered, c.requires.stretch.within, ap (λ (h : Held). length h.nodes) c.self.view_is))

pub piece_at-requires-clause-rising : goal.piece_at-requires-clause-rising
piece_at-requires-clause-rising c = starts_rise c.self.inside.pieces.items c.deref.result.now (c.deref.ensures.value ∙ c.self.invariant.cut.starts_are)
