use Rattle.std.proofs.Common.{◌≡◌, ◌∙◌, ℕ, List, get_or, refl, ap, arith}
use Rattle.pst_roots.specs.Pieces.{Held}
use Rattle.pst_roots.specs.Stretches.{IsStretch}
use Rattle.pst_roots.proofs.PieceLemmas.{start_read}
use Rattle.pst_roots.proofs.StretchLemmas.{many_held, read_at, IsRead, ends_inside, ends_before, second_half}
use Rattle.pst_roots.proofs.pieces.Pieces.halves.Goals as goal
use Rattle.pst_roots.proofs.pieces.Pieces.halves.Goals.{then-start-index, else-start-index}

pub index-requires : goal.index-requires
index-requires c =
    let many = many_held c.args.self.now c.self.inside.pieces.items c.self.inside.starts.items c.self.invariant.cut.starts_are
    c.self.invariant.cut.each (ap (λ (h : Held). h.nodes) c.self.view_is) (ap (λ (h : Held). h.starts) c.self.view_is) in
    omega (arith, many, c.cut_of-index.ensures.falls.there, c.self.inside.pieces.ok.0)

-- the first node of the second half is read in its piece
read : (c : goal.After-get) → IsRead c.args.self.now.nodes c.cut_of-index.result.index c.index-start.result.now c.index.result.now
read c =
    read_at c.args.self.now c.self.inside.pieces.items c.self.inside.starts.items c.self.invariant.cut.starts_are c.self.invariant.cut.each
    (ap (λ (h : Held). h.nodes) c.self.view_is) (ap (λ (h : Held). h.starts) c.self.view_is) c.cut_of-index.result.index c.cut_of-index.result.piece
    (omega (arith, c.cut_of-index.ensures.before, c.requires.stretch.within))
    c.cut_of-index.ensures.falls c.index-start.result.now c.index-start.ensures c.index.result.now c.index.ensures

-- the first half is a stretch
first : (c : goal.After-get) → IsStretch c.args.self.now (record { low = c.args.stretch.low; high = c.cut_of-index.result.index; piece = c.args.stretch.piece; end = c.if-start-index.end })
first c =
    let ps : List (List ℕ) = c.self.inside.pieces.items in
    let starts : List ℕ = c.self.inside.starts.items in
    let are = c.self.invariant.cut.starts_are in
    let each = c.self.invariant.cut.each in
    let nodes = ap (λ (h : Held). h.nodes) c.self.view_is in
    let same = ap (λ (h : Held). h.starts) c.self.view_is in
    let cut = c.cut_of-index.ensures in
    let index : ℕ = c.cut_of-index.result.index in
    let piece : ℕ = c.cut_of-index.result.piece in
    let there = many_held c.args.self.now ps starts are each nodes same in
    let start : c.index-start.result.now ≡ get_or c.args.self.now.starts piece 0 =
    start_read ps starts are piece c.index-start.result.now (omega (arith, there, cut.falls.there)) c.index-start.ensures
    ∙ ap (λ (xs : List ℕ). get_or xs piece 0) same in
    elim c.if-start-index.branch [
      | then-start-index w ↦ ends_inside c.args.self.now ps starts are each nodes same c.args.stretch c.requires.stretch index piece cut.after
          cut.before cut.falls c.if-start-index.end (omega (arith, start, w.if-start-index.true)) w.end-is
      | else-start-index w ↦ ends_before c.args.self.now ps starts are each nodes same c.args.stretch c.requires.stretch index piece cut.after
          cut.before cut.falls c.if-start-index.end (omega (arith, start, w.if-start-index.false)) w.end-is
    ]

pub get-requires : goal.get-requires
get-requires c =
    let here = read_at c.args.self.now c.self.inside.pieces.items c.self.inside.starts.items c.self.invariant.cut.starts_are c.self.invariant.cut.each
    (ap (λ (h : Held). h.nodes) c.self.view_is) (ap (λ (h : Held). h.starts) c.self.view_is) c.cut_of-index.result.index c.cut_of-index.result.piece
    (omega (arith, c.cut_of-index.ensures.before, c.requires.stretch.within))
    c.cut_of-index.ensures.falls c.index-start.result.now c.index-start.ensures c.index.result.now c.index.ensures in
    here.within

pub returns : goal.returns
returns c =
    let cut = c.cut_of-index.ensures in
    record {
      first = first c;
      second = second_half c.args.self.now c.self.inside.pieces.items c.self.inside.starts.items c.self.invariant.cut.starts_are
          c.self.invariant.cut.each (ap (λ (h : Held). h.nodes) c.self.view_is) (ap (λ (h : Held). h.starts) c.self.view_is) c.args.stretch
          c.requires.stretch c.cut_of-index.result.index c.cut_of-index.result.piece cut.after cut.before cut.falls;
      low = refl;
      high = refl;
      meet = refl;
      first_most = cut.first;
      second_most = cut.second;
      node = c.get.ensures ∙ (read c).element;
    }
