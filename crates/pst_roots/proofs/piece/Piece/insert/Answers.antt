use Rattle.std.proofs.Common.{◌≡◌, ◌<◌, ℕ, List, ap, ◌∙◌, length, arith}
use Rattle.std.specs.List.{insert}
use Rattle.std.specs.Result.{is_ok}
use Rattle.std.specs.Vec.{vec_capacity}
use Rattle.std.proofs.lemmas.List.{length-map}
use Rattle.pst_base.specs.declared.names.NodeId.{NodeId}
use Rattle.pst_roots.specs.Numbers.{numbers}
use Rattle.pst_roots.proofs.PieceLemmas.{when_true, map_insert}
use Rattle.pst_roots.proofs.piece.Piece.insert.Goals as goal

pub returns : goal.returns
returns c =
    let old : List NodeId = c.self.inside.nodes.items in
    let count : length old ≡ length c.args.self.now = omega (arith, length-map old (λ (i : NodeId). i.0), ap length c.self.view_is) in
    let room : c.self.inside.nodes.len < vec_capacity c.self.inside.nodes = omega (arith, count, c.requires.room, c.self.invariant.1, c.self.inside.nodes.ok.0) in
    let items : c.insert-there_is_room.new.self.items ≡ insert old c.args.index c.args.id =
    when_true (is_ok c.insert-there_is_room.result) _ _ _ (c.insert-there_is_room.ensures.succeeds room) c.insert-there_is_room.ensures.items in
    ap numbers items
    ∙ map_insert (λ (i : NodeId). i.0) old c.args.index c.args.id
    ∙ ap (λ (xs : List ℕ). insert xs c.args.index c.args.id.0) c.self.view_is
