use Rattle.std.proofs.Common.{◌≡◌, ◌-◌, ◌<◌, ℕ, List, [], length, get_or, ap, ◌∙◌, arith}
use Rattle.std.specs.List.{concat}
use Rattle.std.proofs.lemmas.List.{get_or_read}
use Rattle.pst_roots.specs.Pieces.{Held}
use Rattle.pst_roots.proofs.PieceLemmas.{starts_rise, start_before, falls_into, falls_element, start_read}
use Rattle.pst_roots.proofs.pieces.Pieces.get.Goals as goal

-- an index of what is held is one of what the pieces hold
within : (ps : List (List ℕ)) (held : List ℕ) → concat ps ≡ held → (index : ℕ) → index < length held → index < length (concat ps)
within ps held e index l = omega (arith, ap length e, l)

pub piece_at-piece-requires-clause-first : goal.piece_at-piece-requires-clause-first
piece_at-piece-requires-clause-first c =
    start_before c.self.inside.pieces.items c.deref.result.now (c.deref.ensures.value ∙ c.self.invariant.cut.starts_are) c.args.index
    (within c.self.inside.pieces.items c.args.self.now.nodes (ap (λ (h : Held). h.nodes) c.self.view_is) c.args.index c.requires)

pub piece_at-piece-requires-clause-rising : goal.piece_at-piece-requires-clause-rising
piece_at-piece-requires-clause-rising c =
    starts_rise c.self.inside.pieces.items c.deref.result.now (c.deref.ensures.value ∙ c.self.invariant.cut.starts_are)

pub index-requires : goal.index-requires
index-requires c =
    let falls = falls_into c.self.inside.pieces.items c.self.inside.starts.items c.self.invariant.cut.starts_are c.deref.result.now
    c.deref.ensures.value c.args.index c.piece_at-piece.result
    (within c.self.inside.pieces.items c.args.self.now.nodes (ap (λ (h : Held). h.nodes) c.self.view_is) c.args.index c.requires)
    c.piece_at-piece.ensures in
    omega (arith, falls.there, c.self.inside.pieces.ok.0)

pub get-requires : goal.get-requires
get-requires c =
    let falls = falls_into c.self.inside.pieces.items c.self.inside.starts.items c.self.invariant.cut.starts_are c.deref.result.now
    c.deref.ensures.value c.args.index c.piece_at-piece.result
    (within c.self.inside.pieces.items c.args.self.now.nodes (ap (λ (h : Held). h.nodes) c.self.view_is) c.args.index c.requires)
    c.piece_at-piece.ensures in
    let part = get_or_read c.self.inside.pieces.items c.piece_at-piece.result c.index.result.now falls.there c.index.ensures [] in
    let start = start_read c.self.inside.pieces.items c.self.inside.starts.items c.self.invariant.cut.starts_are c.piece_at-piece.result c.index-2.result.now falls.there c.index-2.ensures in
    omega (arith, ap length part, start, falls.early, falls.within)

pub returns : goal.returns
returns c =
    let falls = falls_into c.self.inside.pieces.items c.self.inside.starts.items c.self.invariant.cut.starts_are c.deref.result.now
    c.deref.ensures.value c.args.index c.piece_at-piece.result
    (within c.self.inside.pieces.items c.args.self.now.nodes (ap (λ (h : Held). h.nodes) c.self.view_is) c.args.index c.requires)
    c.piece_at-piece.ensures in
    let part = get_or_read c.self.inside.pieces.items c.piece_at-piece.result c.index.result.now falls.there c.index.ensures [] in
    let start = start_read c.self.inside.pieces.items c.self.inside.starts.items c.self.invariant.cut.starts_are c.piece_at-piece.result c.index-2.result.now falls.there c.index-2.ensures in
    c.get.ensures
    ∙ ap (λ (xs : List ℕ). get_or xs (c.args.index - c.index-2.result.now) 0) part
    ∙ ap (λ (s : ℕ). get_or (get_or c.self.inside.pieces.items c.piece_at-piece.result []) (c.args.index - s) 0) start
    ∙ falls_element c.self.inside.pieces.items c.self.inside.starts.items c.self.invariant.cut.starts_are c.args.index c.piece_at-piece.result falls
    ∙ ap (λ (h : Held). get_or h.nodes c.args.index 0) c.self.view_is
