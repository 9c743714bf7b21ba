use Rattle.std.proofs.Common.{◌<◌, List, length, true, refl, sym, subst, arith}
use Rattle.pst_line_nodes.specs.Seen.{Seen}
use Rattle.pst_line_nodes.specs.Nodes.{line_of, AreKept}
use Rattle.pst_line_nodes.specs.Carried.{IsFieldPointed}
use Rattle.pst_line_nodes.specs.Copying.{no_node, node_at}
use Rattle.pst_line_nodes.proofs.Lists.{get_or-any}
use Rattle.pst_line_nodes.proofs.Copying.{kept_same}
use Rattle.pst_line_nodes.proofs.Renames.{count_kept}
use Rattle.pst_line_nodes.proofs.Freeing.{held_in, pointed, entered_same, slots_same, set_slots, open_below}
use Rattle.pst_line_nodes.proofs.nodes.Nodes.set_target.Goals as goal

pub returns-in_err-set-clause-replaces : goal.returns-in_err-set-clause-replaces
returns-in_err-set-clause-replaces c = λ e. let no = c.in_err-set.ensures.replaces (λ i. true) e in absurd (cc)

pub free-requires : goal.free-requires
free-requires c =
    let r = c.requires.open in
    held_in _ c.args.stamp.0 c.args.self.now r.1 r.3 r.2 c.args.x.0 c.args.field.0 c.requires.newest c.read-held.result (c.read-held.ensures r.1) c.set.new.self _ c.in_ok-set.ensures.ok

pub enter-requires-clause-there : goal.enter-requires-clause-there
enter-requires-clause-there c = omega (arith, c.requires.target.there, (c.in_ok-set.ensures.ok c.requires.open.1).set.nodes.count, count_kept c.set.new.self c.free.new.self c.free.ensures.same)

pub enter-requires-clause-slot : goal.enter-requires-clause-slot
enter-requires-clause-slot c =
    let r = c.requires.open in
    let up : c.args.z.0 < length c.set.new.self = omega (arith, c.requires.target.there, (c.in_ok-set.ensures.ok r.1).set.nodes.count) in
    omega (
      arith,
      open_below r.0 c.args.stamp.0 c.args.self.now r.1 c.args.z.0 c.args.x.0 c.args.field.0 c.args.slot.0 r.2 c.requires.target.there c.requires.target.last r.4,
      slots_same c.set.new.self c.free.new.self c.args.z.0 c.free.ensures.same,
      set_slots r.0 c.args.stamp.0 c.args.self.now c.set.new.self c.args.z.0 r.2 (c.set.ensures.kept r.0 r.2) c.requires.target.there up c.requires.target.last
          ((c.in_ok-set.ensures.ok (λ i. true)).set.nodes.later c.args.z.0) ((c.in_ok-set.ensures.ok (λ i. true)).set.nodes.ty c.args.z.0),
    )

pub returns-clause-ok : goal.returns-clause-ok
returns-clause-ok c =
    let r = c.requires.open in
    let up : c.args.z.0 < length c.set.new.self = omega (arith, c.requires.target.there, (c.in_ok-set.ensures.ok r.1).set.nodes.count) in
    let there : c.args.z.0 < length c.free.new.self = omega (arith, up, count_kept c.set.new.self c.free.new.self c.free.ensures.same) in
    let below : c.args.slot.0 < length (node_at c.free.new.self c.args.z.0).inverse
    = omega (
      arith,
      open_below r.0 c.args.stamp.0 c.args.self.now r.1 c.args.z.0 c.args.x.0 c.args.field.0 c.args.slot.0 r.2 c.requires.target.there c.requires.target.last r.4,
      slots_same c.set.new.self c.free.new.self c.args.z.0 c.free.ensures.same,
      set_slots r.0 c.args.stamp.0 c.args.self.now c.set.new.self c.args.z.0 r.2 (c.set.ensures.kept r.0 r.2) c.requires.target.there up c.requires.target.last
          ((c.in_ok-set.ensures.ok (λ i. true)).set.nodes.later c.args.z.0) ((c.in_ok-set.ensures.ok (λ i. true)).set.nodes.ty c.args.z.0),
    ) in
    λ made. subst (λ (xs : List Seen). IsFieldPointed (line_of made c.args.self.now) (line_of made xs) c.args.x.0 c.args.field.0 c.args.stamp.0 c.args.z.0 c.args.slot.0) (sym c.enter.ensures)
    (pointed _ c.args.stamp.0 c.args.self.now r.1 r.3 r.2 c.args.x.0 c.args.field.0 c.requires.newest c.read-held.result (c.read-held.ensures r.1) c.set.new.self _ c.in_ok-set.ensures.ok c.free.new.self c.free.ensures
    c.free.new.self c.args.z.0 c.args.slot.0 (node_at c.free.new.self c.args.z.0) _ _ refl there (get_or-any c.free.new.self c.args.z.0 no_node (node_at c.free.new.self c.args.z.0) there) below refl refl refl refl r.4.free made)

pub returns-clause-kept : goal.returns-clause-kept
returns-clause-kept c =
    let r = c.requires.open in
    let up : c.args.z.0 < length c.set.new.self = omega (arith, c.requires.target.there, (c.in_ok-set.ensures.ok r.1).set.nodes.count) in
    let there : c.args.z.0 < length c.free.new.self = omega (arith, up, count_kept c.set.new.self c.free.new.self c.free.ensures.same) in
    let below : c.args.slot.0 < length (node_at c.free.new.self c.args.z.0).inverse
    = omega (
      arith,
      open_below r.0 c.args.stamp.0 c.args.self.now r.1 c.args.z.0 c.args.x.0 c.args.field.0 c.args.slot.0 r.2 c.requires.target.there c.requires.target.last r.4,
      slots_same c.set.new.self c.free.new.self c.args.z.0 c.free.ensures.same,
      set_slots r.0 c.args.stamp.0 c.args.self.now c.set.new.self c.args.z.0 r.2 (c.set.ensures.kept r.0 r.2) c.requires.target.there up c.requires.target.last
          ((c.in_ok-set.ensures.ok (λ i. true)).set.nodes.later c.args.z.0) ((c.in_ok-set.ensures.ok (λ i. true)).set.nodes.ty c.args.z.0),
    ) in
    λ shape kept. subst (λ (xs : List Seen). AreKept shape c.args.stamp.0 xs) (sym c.enter.ensures)
    (kept_same shape c.args.stamp.0 c.free.new.self _ (entered_same c.free.new.self c.args.z.0 c.args.slot.0 _ there)
    (kept_same shape c.args.stamp.0 c.set.new.self c.free.new.self c.free.ensures.same (c.set.ensures.kept shape kept)))
