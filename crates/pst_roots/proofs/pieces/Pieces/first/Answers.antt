use Rattle.std.proofs.Common.{◌<◌, ℕ, List, [], length, get_or, ap, ◌∙◌, sym, arith}
use Rattle.std.proofs.lemmas.List.{get_or_read}
use Rattle.pst_roots.specs.Pieces.{Held}
use Rattle.pst_roots.proofs.PieceLemmas.{many_starts, start_read, first_within, first_element}
use Rattle.pst_roots.proofs.pieces.Pieces.first.Goals as goal

pub index-index-requires : goal.index-index-requires
index-index-requires c = omega (
  arith,
  many_starts c.self.inside.pieces.items c.self.inside.starts.items c.self.invariant.cut.starts_are,
  c.if-piece-len.false,
  c.len.ensures,
  c.self.inside.pieces.ok.0,
  c.self.inside.starts.ok.0,
)

pub returns : goal.returns
returns c =
    let ps = c.self.inside.pieces.items in
    let starts = c.self.inside.starts.items in
    let are = c.self.invariant.cut.starts_are in
    let each = c.self.invariant.cut.each in
    let there : c.args.piece < length ps = omega (arith, c.if-piece-len.false, c.len.ensures, c.self.inside.pieces.ok.0) in
    let part = get_or_read ps c.args.piece c.index.result.now there c.index.ensures [] in
    let start = start_read ps starts are c.args.piece c.index-index.result.now there c.index-index.ensures in
    let held = ap (λ (h : Held). h.nodes) c.self.view_is in
    record {
      there = omega (arith, start, first_within ps starts are each c.args.piece there, ap length held);
      node = c.get-node.ensures
          ∙ ap (λ (xs : List ℕ). get_or xs 0 0) part
          ∙ first_element ps starts are each c.args.piece there
          ∙ ap (λ (xs : List ℕ). get_or xs (get_or starts c.args.piece 0) 0) held
          ∙ ap (λ (i : ℕ). get_or c.args.self.now.nodes i 0) (sym start);
    }
