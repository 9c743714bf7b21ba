use Rattle.std.proofs.Common.{◌≡◌, ◌+◌, ◌<◌, ◌^◌, ◌++◌, ℕ, suc, List, length, insert, map, take, drop, All, refl, sym, subst, ap, ◌∙◌, add-one, arith}
use Rattle.std.specs.List.{concat}
use Rattle.std.specs.Vec.{with_items, with_item}
use Rattle.std.proofs.lemmas.List.{with_items_is}
use Rattle.std.proofs.lemmas.List.Edits.{length-insert}
use Rattle.pst_roots.specs.Pieces.{Held}
use Rattle.pst_roots.proofs.PieceLemmas.{many_starts, start_read, starts_are_low, few_held, still_grown, put_behind}
use Rattle.pst_roots.proofs.pieces.Pieces.insert_behind.Goals as goal

pub piece_with_room-at-requires-clause-index : goal.piece_with_room-at-requires-clause-index
piece_with_room-at-requires-clause-index c =
    omega (arith, c.requires.index, ap (λ (h : Held). length h.nodes) c.self.view_is)

pub index-requires : goal.index-requires
index-requires c =
    let pieces = c.piece_with_room-at.new.pieces in
    let starts = c.piece_with_room-at.new.starts in
    let cut = c.piece_with_room-at.ensures.cut in
    omega (arith, many_starts pieces.items starts.items cut.starts_are, c.piece_with_room-at.ensures.falls.there, starts.ok.0)

pub overflow_sub-behind : goal.overflow_sub-behind
overflow_sub-behind c =
    let pieces = c.piece_with_room-at.new.pieces in
    let starts = c.piece_with_room-at.new.starts in
    let cut = c.piece_with_room-at.ensures.cut in
    omega (
      arith,
      start_read pieces.items starts.items cut.starts_are c.piece_with_room-at.result c.index.result.now
          c.piece_with_room-at.ensures.falls.there c.index.ensures,
      c.piece_with_room-at.ensures.falls.early,
    )

pub raise_from-requires-clause-from : goal.raise_from-requires-clause-from
raise_from-requires-clause-from c =
    let pieces = c.piece_with_room-at.new.pieces in
    let starts = c.piece_with_room-at.new.starts in
    let cut = c.piece_with_room-at.ensures.cut in
    omega (arith, c.deref_mut.ensures.len, starts.ok.0, many_starts pieces.items starts.items cut.starts_are, c.piece_with_room-at.ensures.falls.there)

pub raise_from-requires-clause-low : goal.raise_from-requires-clause-low
raise_from-requires-clause-low c =
    subst (λ (xs : List ℕ). All (λ start. start < 2 ^ 63) xs) (sym c.deref_mut.ensures.value)
    (starts_are_low c.piece_with_room-at.new.pieces c.piece_with_room-at.new.starts c.piece_with_room-at.new.pool c.piece_with_room-at.ensures.cut)

pub overflow_add-self : goal.overflow_add-self
overflow_add-self c =
    omega (arith, few_held c.self.inside.pieces.items c.self.invariant.cut.each, c.self.invariant.cut.few, c.self.invariant.counted)

pub invariant_of-self : goal.invariant_of-self
invariant_of-self c =
    let pieces = c.piece_with_room-at.new.pieces in
    let starts = c.piece_with_room-at.new.starts in
    let cut = c.piece_with_room-at.ensures.cut in
    let put = put_behind pieces.items starts.items cut.starts_are c.args.index c.piece_with_room-at.result c.args.id.0
    c.piece_with_room-at.ensures.falls c.index_mut-piece.result.now c.index_mut-piece.ensures.value c.index.result.now c.index.ensures
    c.insert.new.self c.insert.ensures in
    let pool = c.piece_with_room-at.new.pool in
    let at = c.piece_with_room-at.result in
    let raised = c.raise_from.new.starts in
    let starts_are : (with_items starts raised).items ≡ take (suc at) starts.items ++ map suc (drop (suc at) starts.items) =
    with_items_is starts raised (omega (arith, c.raise_from.auto.starts, c.deref_mut.ensures.len))
    ∙ c.raise_from.ensures
    ∙ ap (λ (xs : List ℕ). take (at + 1) xs ++ map suc (drop (at + 1) xs)) c.deref_mut.ensures.value
    ∙ ap (λ (n : ℕ). take n starts.items ++ map suc (drop n starts.items)) (add-one at) in
    let within : c.args.index < length (concat pieces.items) = omega (arith, c.requires.index, ap (λ (h : Held). length h.nodes) c.self.view_is, ap length c.piece_with_room-at.ensures.nodes) in
    record {
      cut = still_grown pieces (with_item pieces at c.insert.new.self) starts (with_items starts raised) pool pool cut at
          c.piece_with_room-at.ensures.falls.there c.insert.new.self c.piece_with_room-at.ensures.room put.longer refl starts_are refl (omega arith)
          (omega arith);
      counted = omega (
        arith,
        c.self.invariant.counted,
        ap length c.piece_with_room-at.ensures.nodes,
        ap length put.held,
        length-insert (concat pieces.items) (suc c.args.index) c.args.id.0 (omega (arith, within)),
      );
    }

pub returns-clause-nodes : goal.returns-clause-nodes
returns-clause-nodes c =
    let pieces = c.piece_with_room-at.new.pieces in
    let starts = c.piece_with_room-at.new.starts in
    let cut = c.piece_with_room-at.ensures.cut in
    let put = put_behind pieces.items starts.items cut.starts_are c.args.index c.piece_with_room-at.result c.args.id.0
    c.piece_with_room-at.ensures.falls c.index_mut-piece.result.now c.index_mut-piece.ensures.value c.index.result.now c.index.ensures
    c.insert.new.self c.insert.ensures in
    put.held ∙ ap (λ (xs : List ℕ). insert xs (suc c.args.index) c.args.id.0) (c.piece_with_room-at.ensures.nodes ∙ ap (λ (h : Held). h.nodes) c.self.view_is)
