use Rattle.pst_repair.proofs.RoomLemmas.{on_err_of}
use Rattle.pst_store_arena.proofs.HeldLemmas.{held_with, lo_in, not_root, root_held, roots_are}
use Rattle.pst_store_arena.proofs.JointLemmas.{there}
use Rattle.pst_store_arena.specs.Calls.{arena_at}
use Rattle.pst_store_arena.specs.Kept.{noted_of}
use Rattle.pst_base.specs.Name.{same_name, root_name}
use Rattle.pst_base.proofs.NameLemmas.{same_name-same, same_name-true}
use Rattle.pst_base.specs.declared.names.Name.{Name}
use Rattle.pst_repair.proofs.SeenLemmas.{seen_name}
use Rattle.pst_repair.specs.Seen.{seen}
use Rattle.pst_store_meaning.specs.Arena.{Arena}
use Rattle.pst_store_meaning.specs.Store.{Noted}
use Rattle.pst_nodes.specs.Arena.{lo_at}
use Rattle.pst_nodes.specs.declared.node.Node.{Node}
use Rattle.pst_roots.specs.Roots.{AreRoots, IsAddedRoot, held_of}
use Rattle.std.proofs.Common.{List, [], ap, arith, refl, subst, sym, ℕ, ◌∙◌, ◌≡◌}
use Rattle.std.proofs.lemmas.Bool.{false≢true}
use Rattle.pst_store_arena.proofs.repairing.hold.Goals as goal

pub returns-in_err-reserve-clause-err : goal.returns-in_err-reserve-clause-err
returns-in_err-reserve-clause-err g c =
    let qs : List ℕ = g.O.Order.places c.args.order.now in
    let ns : List Node = c.args.nodes.now.list.items in
    on_err_of c.from_residual.result (held_with (arena_at qs (seen ns)) (noted_of ns c.args.roots.now c.args.id.0)
    (noted_of ns c.reserve.new.self c.args.id.0) c.reserve.ensures.held refl c.requires.held)

pub add-requires-clause-roots : goal.add-requires-clause-roots
add-requires-clause-roots g c =
    let qs : List ℕ = g.O.Order.places c.args.order.now in
    let ns : List Node = c.args.nodes.now.list.items in
    let noted : Noted = noted_of ns c.args.roots.now c.args.id.0 in
    subst (λ (held : List ℕ). AreRoots qs ns held (lo_at ns c.args.id.0)) (sym c.reserve.ensures.held)
    (roots_are qs ns noted c.requires.rows c.requires.held c.requires.chained (lo_at ns c.args.id.0) (omega (arith, c.requires.first)))

pub add-requires-clause-place : goal.add-requires-clause-place
add-requires-clause-place g c =
    let qs : List ℕ = g.O.Order.places c.args.order.now in
    let ns : List Node = c.args.nodes.now.list.items in
    record { there = lo_in qs ns (noted_of ns c.args.roots.now c.args.id.0) c.requires.rows c.requires.held c.requires.chained c.args.id.0 c.requires.there }

pub returns-in_ok-reserve-clause-held : goal.returns-in_ok-reserve-clause-held
returns-in_ok-reserve-clause-held g c =
    let qs : List ℕ = g.O.Order.places c.args.order.now in
    let ns : List Node = c.args.nodes.now.list.items in
    let noted : Noted = noted_of ns c.args.roots.now c.args.id.0 in
    let w : Arena = arena_at qs (seen ns) in
    let root : w.name c.args.id.0 ≡ root_name = seen_name ns c.args.id.0 ∙ sym c.name.ensures ∙ same_name-true c.name.result root_name (sym c.eq.ensures ∙ c.if-eq.true) in
    let added : IsAddedRoot qs ns (held_of c.args.roots.now) (held_of c.add.new.self) c.args.id.0 =
    subst (λ (held : List ℕ). IsAddedRoot qs ns held (held_of c.add.new.self) c.args.id.0) c.reserve.ensures.held c.add.ensures.held in
    root_held qs ns noted c.requires.rows c.requires.held c.requires.chained root (there [] qs ns c.args.id.0 c.requires.there) (held_of c.add.new.self) added

pub returns-else-eq-clause-held : goal.returns-else-eq-clause-held
returns-else-eq-clause-held g c =
    let qs : List ℕ = g.O.Order.places c.args.order.now in
    let ns : List Node = c.args.nodes.now.list.items in
    let noted : Noted = noted_of ns c.args.roots.now c.args.id.0 in
    let w : Arena = arena_at qs (seen ns) in
    let ne : w.name c.args.id.0 ≡ root_name → ⊥ = λ e. false≢true
    (sym c.if-eq.false ∙ c.eq.ensures ∙ ap (λ (n : Name). same_name n root_name) (c.name.ensures ∙ sym (seen_name ns c.args.id.0) ∙ e)
    ∙ same_name-same root_name) in
    not_root qs ns noted c.requires.rows c.requires.held c.requires.chained ne (there [] qs ns c.args.id.0 c.requires.there)
