use Rattle.std.proofs.Common.{◌≡◌, ℕ, ◌<◌, ◌≤◌, List, sym, ◌∙◌, subst, ⊎_elim}
use Rattle.std.proofs.lemmas.Bool.{cases_lt, false≢true, not-true}
use Rattle.pst_base.specs.Name.{root_name}
use Rattle.pst_base.proofs.NameLemmas.{same_name-true}
use Rattle.pst_order.specs.Places.{rank}
use Rattle.pst_nodes.specs.declared.node.Node.{Node}
use Rattle.pst_nodes.specs.Arena.{lo_at}
use Rattle.pst_store_arena.proofs.NearLemmas.{read_lo, begin_in}
use Rattle.pst_store_arena.proofs.near.is_root_by.Goals as goal

pub before-requires-clause-b_in : goal.before-requires-clause-b_in
before-requires-clause-b_in g c =
    let ns : List Node = c.args.nodes.now.list.items in
    let lo : c.lo.result.0 ≡ lo_at ns c.args.id.0 = read_lo ns c.args.id.0 c.row-row.result.now c.lo.result c.requires.there c.lo.ensures (c.row-row.ensures c.row-row.result.now) in
    begin_in (g.O.Order.places c.args.order.now) ns c.args.id.0 c.lo.result.0 c.requires.there c.requires.rows lo

pub returns-then-eq : goal.returns-then-eq
returns-then-eq g c = λ not_before.
    let qs : List ℕ = g.O.Order.places c.args.order.now in
    let ns : List Node = c.args.nodes.now.list.items in
    let lo : c.lo.result.0 ≡ lo_at ns c.args.id.0 = read_lo ns c.args.id.0 c.row-row.result.now c.lo.result c.requires.there c.lo.ensures (c.row-row.ensures c.row-row.result.now) in
    record {
      there = c.requires.there;
      begun = ⊎_elim
          (λ (l : rank qs c.args.at.0 < rank qs (lo_at ns c.args.id.0)).
          absurd (false≢true (sym (not-true c.before-then-eq.result not_before) ∙ c.before-then-eq.ensures.1 (subst (λ (p : ℕ). rank qs c.args.at.0 < rank qs p) (sym lo) l))))
          (λ (l : rank qs (lo_at ns c.args.id.0) ≤ rank qs c.args.at.0). l)
          (cases_lt (rank qs c.args.at.0) (rank qs (lo_at ns c.args.id.0)));
      root = sym c.name.ensures ∙ same_name-true c.name.result root_name (sym c.eq.ensures ∙ c.if-eq.true);
    }
