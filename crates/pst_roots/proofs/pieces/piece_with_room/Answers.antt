use Rattle.std.proofs.Common.{◌+◌, [], ◌∙◌, ap, length, arith}
use Rattle.std.proofs.lemmas.List.{get_or_read}
use Rattle.pst_roots.proofs.PieceLemmas.{starts_rise, start_before, falls_into, full_read, AreHalves, cut_halves}
use Rattle.pst_roots.proofs.pieces.piece_with_room.Goals as goal

pub piece_at-at-requires-clause-first : goal.piece_at-at-requires-clause-first
piece_at-at-requires-clause-first c =
    start_before c.args.pieces.now.items c.deref.result.now (c.deref.ensures.value ∙ c.requires.cut.starts_are) c.args.index c.requires.index

pub piece_at-at-requires-clause-rising : goal.piece_at-at-requires-clause-rising
piece_at-at-requires-clause-rising c =
    starts_rise c.args.pieces.now.items c.deref.result.now (c.deref.ensures.value ∙ c.requires.cut.starts_are)

pub index-requires : goal.index-requires
index-requires c =
    let falls = falls_into c.args.pieces.now.items c.args.starts.now.items c.requires.cut.starts_are c.deref.result.now c.deref.ensures.value
    c.args.index c.piece_at-at.result c.requires.index c.piece_at-at.ensures in
    omega (arith, falls.there, c.args.pieces.now.ok.0)

pub returns-then-len-lt-PIECE-clause-falls : goal.returns-then-len-lt-PIECE-clause-falls
returns-then-len-lt-PIECE-clause-falls c =
    falls_into c.args.pieces.now.items c.args.starts.now.items c.requires.cut.starts_are c.deref.result.now c.deref.ensures.value c.args.index
    c.piece_at-at.result c.requires.index c.piece_at-at.ensures

pub returns-then-len-lt-PIECE-clause-room : goal.returns-then-len-lt-PIECE-clause-room
returns-then-len-lt-PIECE-clause-room c =
    let falls = falls_into c.args.pieces.now.items c.args.starts.now.items c.requires.cut.starts_are c.deref.result.now c.deref.ensures.value
    c.args.index c.piece_at-at.result c.requires.index c.piece_at-at.ensures in
    omega (arith, ap length (get_or_read c.args.pieces.now.items c.piece_at-at.result c.index.result.now falls.there c.index.ensures []), c.len.ensures.count, c.if-len-lt-PIECE.true)

pub cut_in_two-requires-clause-at : goal.cut_in_two-requires-clause-at
cut_in_two-requires-clause-at c =
    let falls = falls_into c.args.pieces.now.items c.args.starts.now.items c.requires.cut.starts_are c.deref.result.now c.deref.ensures.value
    c.args.index c.piece_at-at.result c.requires.index c.piece_at-at.ensures in
    falls.there

pub cut_in_two-requires-clause-full : goal.cut_in_two-requires-clause-full
cut_in_two-requires-clause-full c =
    let falls = falls_into c.args.pieces.now.items c.args.starts.now.items c.requires.cut.starts_are c.deref.result.now c.deref.ensures.value
    c.args.index c.piece_at-at.result c.requires.index c.piece_at-at.ensures in
    full_read c.args.pieces.now.items c.requires.cut.each c.piece_at-at.result falls.there c.index.result.now c.index.ensures c.len.result c.len.ensures.count c.if-len-lt-PIECE.false

-- what a cut makes of the piece
halves : (c : goal.After-cut_in_two) → AreHalves c.args.pieces.now.items c.cut_in_two.new.pieces.items c.cut_in_two.new.starts.items c.args.index c.piece_at-at.result
halves c =
    cut_halves c.args.pieces.now.items c.cut_in_two.new.pieces.items c.args.starts.now.items c.cut_in_two.new.starts.items c.requires.cut.starts_are
    c.cut_in_two.ensures.cut.starts_are c.requires.cut.each c.deref.result.now c.deref.ensures.value c.args.index c.piece_at-at.result
    c.requires.index c.piece_at-at.ensures c.index.result.now c.index.ensures c.len.result c.len.ensures.count c.if-len-lt-PIECE.false
    c.cut_in_two.ensures.pieces

pub index-requires-2 : goal.index-requires-2
index-requires-2 c = omega (arith, (halves c).there, c.cut_in_two.new.starts.ok.0)

halves-then : (c : goal.Then-index) → AreHalves c.args.pieces.now.items c.cut_in_two.new.pieces.items c.cut_in_two.new.starts.items c.args.index c.piece_at-at.result
halves-then c =
    cut_halves c.args.pieces.now.items c.cut_in_two.new.pieces.items c.args.starts.now.items c.cut_in_two.new.starts.items c.requires.cut.starts_are
    c.cut_in_two.ensures.cut.starts_are c.requires.cut.each c.deref.result.now c.deref.ensures.value c.args.index c.piece_at-at.result
    c.requires.index c.piece_at-at.ensures c.index.result.now c.index.ensures c.len.result c.len.ensures.count c.if-len-lt-PIECE.false
    c.cut_in_two.ensures.pieces

pub returns-then-index-clause-nodes : goal.returns-then-index-clause-nodes
returns-then-index-clause-nodes c = (halves-then c).held

pub returns-then-index-clause-falls : goal.returns-then-index-clause-falls
returns-then-index-clause-falls c =
    let start = get_or_read c.cut_in_two.new.starts.items (c.piece_at-at.result + 1) c.index-2.result.now (halves-then c).there c.index-2.ensures 0 in
    (halves-then c).first (omega (arith, start, c.if-index.true))

pub returns-then-index-clause-room : goal.returns-then-index-clause-room
returns-then-index-clause-room c = (halves-then c).first_room

halves-else : (c : goal.Else-index) → AreHalves c.args.pieces.now.items c.cut_in_two.new.pieces.items c.cut_in_two.new.starts.items c.args.index c.piece_at-at.result
halves-else c =
    cut_halves c.args.pieces.now.items c.cut_in_two.new.pieces.items c.args.starts.now.items c.cut_in_two.new.starts.items c.requires.cut.starts_are
    c.cut_in_two.ensures.cut.starts_are c.requires.cut.each c.deref.result.now c.deref.ensures.value c.args.index c.piece_at-at.result
    c.requires.index c.piece_at-at.ensures c.index.result.now c.index.ensures c.len.result c.len.ensures.count c.if-len-lt-PIECE.false
    c.cut_in_two.ensures.pieces

pub returns-else-index-clause-nodes : goal.returns-else-index-clause-nodes
returns-else-index-clause-nodes c = (halves-else c).held

pub returns-else-index-clause-falls : goal.returns-else-index-clause-falls
returns-else-index-clause-falls c =
    let start = get_or_read c.cut_in_two.new.starts.items (c.piece_at-at.result + 1) c.index-2.result.now (halves-else c).there c.index-2.ensures 0 in
    (halves-else c).second (omega (arith, start, c.if-index.false))

pub returns-else-index-clause-room : goal.returns-else-index-clause-room
returns-else-index-clause-room c = (halves-else c).second_room
