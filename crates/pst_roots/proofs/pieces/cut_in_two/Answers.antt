use Rattle.std.proofs.Common.{◌≡◌, ◌+◌, ◌<◌, ℕ, List, [], ◌∷◌, ◌++◌, length, get_or, set, insert, take, drop, ap, ◌∙◌, add-one, arith}
use Rattle.std.specs.Option.{option_to_list}
use Rattle.std.specs.Result.{is_ok}
use Rattle.std.specs.Vec.{vec_capacity}
use Rattle.std.proofs.lemmas.List.{get_or_read, length-append}
use Rattle.std.proofs.lemmas.List.Elements.{All-pop}
use Rattle.pst_roots.specs.Pieces.{halved}
use Rattle.pst_roots.proofs.PieceLemmas.{when_true, many_starts, start_read, starts_are_low, still_cut}
use Rattle.pst_roots.proofs.pieces.cut_in_two.Goals as goal

pub index-requires : goal.index-requires
index-requires c = omega (arith, many_starts c.args.pieces.now.items c.args.starts.now.items c.requires.cut.starts_are, c.requires.at, c.args.starts.now.ok.0)

pub overflow_add-start : goal.overflow_add-start
overflow_add-start c =
    let low = starts_are_low c.args.pieces.now c.args.starts.now c.args.pool.now c.requires.cut c.args.at c.index.result.now
    (omega (arith, many_starts c.args.pieces.now.items c.args.starts.now.items c.requires.cut.starts_are, c.requires.at)) in
    omega (arith, c.index.ensures, low)

pub insert-starts_have_room-requires : goal.insert-starts_have_room-requires
insert-starts_have_room-requires c = omega (arith, many_starts c.args.pieces.now.items c.args.starts.now.items c.requires.cut.starts_are, c.requires.at, c.args.starts.now.ok.0)

pub returns-clause-cut : goal.returns-clause-cut
returns-clause-cut c =
    let pieces = c.args.pieces.now in
    let starts = c.args.starts.now in
    let at = c.args.at in
    let part : List ℕ = get_or pieces.items at [] in
    let start = start_read pieces.items starts.items c.requires.cut.starts_are at c.index.result.now c.requires.at c.index.ensures in
    let part_is : c.index_mut-piece.result.now ≡ part = get_or_read pieces.items at c.index_mut-piece.result.now c.requires.at c.index_mut-piece.ensures.value [] in
    let popped : c.args.pool.now.items ≡ c.pop.new.self.items ++ option_to_list c.pop.result = c.pop.ensures.items in
    let fewer : length c.args.pool.now.items ≡ length c.pop.new.self.items + 1 =
    ap length (popped ∙ ap (λ r. c.pop.new.self.items ++ option_to_list r) c.unwrap-second.ensures)
    ∙ length-append c.pop.new.self.items (c.unwrap-second.result ∷ []) in
    let pieces_fit : pieces.len < vec_capacity pieces = omega (arith, c.requires.cut.pieces_room, c.requires.spare, pieces.ok.0) in
    let starts_fit : starts.len < vec_capacity starts = omega (arith, c.requires.cut.starts_room, c.requires.spare, starts.ok.0) in
    let put = when_true (is_ok c.insert-pieces_have_room.result) _ _ _ (c.insert-pieces_have_room.ensures.succeeds pieces_fit) c.insert-pieces_have_room.ensures.items in
    let put_start = when_true (is_ok c.insert-starts_have_room.result) _ _ _ (c.insert-starts_have_room.ensures.succeeds starts_fit) c.insert-starts_have_room.ensures.items in
    let pieces_are : c.insert-pieces_have_room.new.self.items ≡ halved pieces.items at = put
    ∙ ap (λ (xs : List ℕ). insert (set pieces.items at xs) (at + 1) c.halve.new.second) (c.halve.ensures.first ∙ ap (take 512) part_is)
    ∙ ap (λ (xs : List ℕ). insert (set pieces.items at (take 512 part)) (at + 1) xs) (c.halve.ensures.second ∙ ap (drop 512) part_is)
    ∙ ap (λ (n : ℕ). insert (set pieces.items at (take 512 part)) n (drop 512 part)) (add-one at) in
    let starts_are = put_start
    ∙ ap (λ (n : ℕ). insert starts.items (at + 1) (n + 512)) start
    ∙ ap (λ (n : ℕ). insert starts.items n (get_or starts.items at 0 + 512)) (add-one at) in
    still_cut pieces c.insert-pieces_have_room.new.self starts c.insert-starts_have_room.new.self c.args.pool.now c.pop.new.self c.requires.cut at
    c.requires.at c.requires.full pieces_are starts_are fewer
    (All-pop (λ piece. piece ≡ []) c.args.pool.now.items c.pop.new.self.items c.pop.result popped c.requires.cut.empty).0
    c.insert-pieces_have_room.ensures.capacity c.insert-starts_have_room.ensures.capacity

pub returns-clause-pieces : goal.returns-clause-pieces
returns-clause-pieces c =
    let pieces = c.args.pieces.now in
    let at = c.args.at in
    let part : List ℕ = get_or pieces.items at [] in
    let part_is : c.index_mut-piece.result.now ≡ part = get_or_read pieces.items at c.index_mut-piece.result.now c.requires.at c.index_mut-piece.ensures.value [] in
    let pieces_fit : pieces.len < vec_capacity pieces = omega (arith, c.requires.cut.pieces_room, c.requires.spare, pieces.ok.0) in
    let put = when_true (is_ok c.insert-pieces_have_room.result) _ _ _ (c.insert-pieces_have_room.ensures.succeeds pieces_fit) c.insert-pieces_have_room.ensures.items in
    put
    ∙ ap (λ (xs : List ℕ). insert (set pieces.items at xs) (at + 1) c.halve.new.second) (c.halve.ensures.first ∙ ap (take 512) part_is)
    ∙ ap (λ (xs : List ℕ). insert (set pieces.items at (take 512 part)) (at + 1) xs) (c.halve.ensures.second ∙ ap (drop 512) part_is)
    ∙ ap (λ (n : ℕ). insert (set pieces.items at (take 512 part)) n (drop 512 part)) (add-one at)
