use Rattle.std.proofs.Common.{◌≡◌, ℕ, ◌<◌, ◌≤◌, List, sym, ap, ◌∙◌, subst, ⊎_elim}
use Rattle.std.specs.Option.{option_map}
use Rattle.std.proofs.lemmas.Bool.{cases_lt, false≢true}
use Rattle.pst_order.specs.Places.{rank}
use Rattle.pst_nodes.specs.declared.node.Node.{Node}
use Rattle.pst_nodes.specs.Arena.{hi_at}
use Rattle.pst_store_arena.proofs.NearLemmas.{read_hi, end_in, by_later, root_lives}
use Rattle.pst_store_arena.proofs.near.root_beside.Goals as goal

pub before-requires-clause-b_in : goal.before-requires-clause-b_in
before-requires-clause-b_in g c =
    let ns : List Node = c.args.nodes.now.list.items in
    let hi : c.hi.result.0 ≡ hi_at ns c.loop.node.0 = read_hi ns c.loop.node.0 c.row-row.result.now c.hi.result c.loop.invariant.there c.hi.ensures (c.row-row.ensures c.row-row.result.now) in
    end_in (g.O.Order.places c.args.order.now) ns c.loop.node.0 c.hi.result.0 c.loop.invariant.there c.requires.rows hi

pub returns-then-before : goal.returns-then-before
returns-then-before g c =
    let qs : List ℕ = g.O.Order.places c.args.order.now in
    let ns : List Node = c.args.nodes.now.list.items in
    let hi : c.hi.result.0 ≡ hi_at ns c.loop.node.0 = read_hi ns c.loop.node.0 c.row-row.result.now c.hi.result c.loop.invariant.there c.hi.ensures (c.row-row.ensures c.row-row.result.now) in
    root_lives qs ns c.loop.node.0 (rank qs c.args.at.0) c.loop.invariant (subst (λ (p : ℕ). rank qs c.args.at.0 < rank qs p) hi (c.before-in-loop.ensures.0 c.if-before.true))

pub loop-preserved : goal.loop-preserved
loop-preserved g c =
    let qs : List ℕ = g.O.Order.places c.args.order.now in
    let ns : List Node = c.args.nodes.now.list.items in
    let hi : c.hi.result.0 ≡ hi_at ns c.loop.node.0 = read_hi ns c.loop.node.0 c.row-row.result.now c.hi.result c.loop.invariant.there c.hi.ensures (c.row-row.ensures c.row-row.result.now) in
    let ended : rank qs (hi_at ns c.loop.node.0) ≤ rank qs c.args.at.0 = ⊎_elim
    (λ (l : rank qs c.args.at.0 < rank qs (hi_at ns c.loop.node.0)).
    absurd (false≢true (sym c.if-before.false ∙ c.before-in-loop.ensures.1 (subst (λ (p : ℕ). rank qs c.args.at.0 < rank qs p) (sym hi) l))))
    (λ (l : rank qs (hi_at ns c.loop.node.0) ≤ rank qs c.args.at.0). l)
    (cases_lt (rank qs c.args.at.0) (rank qs (hi_at ns c.loop.node.0))) in
    by_later qs ns c.loop.node.0 c.in-Some.next.0 (rank qs c.args.at.0) c.requires.chained c.loop.invariant ended (sym c.later.ensures ∙ ap (option_map (λ i. i.0)) c.in-Some.is)
