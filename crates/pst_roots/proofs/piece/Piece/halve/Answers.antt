use Rattle.std.proofs.Common.{◌≡◌, ◌+◌, ◌≤◌, ◌-◌, ◌++◌, ℕ, List, ap, sym, ◌∙◌, length, length-append, take, drop, arith}
use Rattle.std.proofs.lemmas.List.{length-map, length-drop, map-append, take-map, drop-map, take_rest}
use Rattle.std.specs.Result.{is_ok}
use Rattle.std.specs.Vec.{vec_capacity}
use Rattle.pst_base.specs.declared.names.NodeId.{NodeId}
use Rattle.pst_roots.specs.Numbers.{numbers}
use Rattle.pst_roots.proofs.PieceLemmas.{when_true}
use Rattle.pst_roots.proofs.piece.Piece.halve.Goals as goal

pub returns-clause-first : goal.returns-clause-first
returns-clause-first c =
    ap numbers c.truncate.ensures.items
    ∙ sym (take-map (λ (i : NodeId). i.0) 512 c.self.inside.nodes.items)
    ∙ ap (take 512) c.self.view_is

pub returns-clause-second : goal.returns-clause-second
returns-clause-second c =
    let from : List NodeId = c.deref.result.now in
    let into : List NodeId = c.second.inside.nodes.items in
    let none : length into ≡ 0 = omega (arith, length-map into (λ (i : NodeId). i.0), ap length (c.second.view_is ∙ c.requires.empty)) in
    let many : length from ≡ 1024 =
    omega (arith, c.deref.ensures.len, c.self.inside.nodes.ok.0, length-map c.self.inside.nodes.items (λ (i : NodeId). i.0), ap length c.self.view_is, c.requires.full) in
    let moved : length (take (length from - 512) (drop 512 from)) ≡ 512 = omega (arith, ap length (take_rest from 512), length-drop 512 from, many) in
    let fits : c.second.inside.nodes.len + length (take (length from - 512) (drop 512 from)) ≤ vec_capacity c.second.inside.nodes =
    omega (arith, moved, none, c.second.inside.nodes.ok.0, c.second.invariant.1) in
    let items : c.extend_from_slice-there_is_room.new.self.items ≡ into ++ take (length from - 512) (drop 512 from) =
    when_true (is_ok c.extend_from_slice-there_is_room.result) _ _ _ (c.extend_from_slice-there_is_room.ensures.succeeds fits) c.extend_from_slice-there_is_room.ensures.items in
    ap numbers items
    ∙ map-append (λ (i : NodeId). i.0) into (take (length from - 512) (drop 512 from))
    ∙ ap (λ (xs : List ℕ). xs ++ numbers (take (length from - 512) (drop 512 from))) (c.second.view_is ∙ c.requires.empty)
    ∙ ap numbers (take_rest from 512 ∙ ap (drop 512) c.deref.ensures.value)
    ∙ sym (drop-map (λ (i : NodeId). i.0) 512 c.self.inside.nodes.items)
    ∙ ap (drop 512) c.self.view_is

pub invariant_of-second : goal.invariant_of-second
invariant_of-second c =
    let from : List NodeId = c.deref.result.now in
    let into : List NodeId = c.second.inside.nodes.items in
    let none : length into ≡ 0 = omega (arith, length-map into (λ (i : NodeId). i.0), ap length (c.second.view_is ∙ c.requires.empty)) in
    let many : length from ≡ 1024 =
    omega (arith, c.deref.ensures.len, c.self.inside.nodes.ok.0, length-map c.self.inside.nodes.items (λ (i : NodeId). i.0), ap length c.self.view_is, c.requires.full) in
    let moved : length (take (length from - 512) (drop 512 from)) ≡ 512 = omega (arith, ap length (take_rest from 512), length-drop 512 from, many) in
    let fits : c.second.inside.nodes.len + length (take (length from - 512) (drop 512 from)) ≤ vec_capacity c.second.inside.nodes =
    omega (arith, moved, none, c.second.inside.nodes.ok.0, c.second.invariant.1) in
    let items : c.extend_from_slice-there_is_room.new.self.items ≡ into ++ take (length from - 512) (drop 512 from) =
    when_true (is_ok c.extend_from_slice-there_is_room.result) _ _ _ (c.extend_from_slice-there_is_room.ensures.succeeds fits) c.extend_from_slice-there_is_room.ensures.items in
    let count : length c.extend_from_slice-there_is_room.new.self.items ≡ 512 =
    omega (arith, ap length items, length-append into (take (length from - 512) (drop 512 from)), none, moved) in
    (omega (arith, count), omega (arith, c.second.invariant.1, c.extend_from_slice-there_is_room.ensures.capacity))
