use Rattle.std.proofs.Common.{ℕ, subst, sym}
use Rattle.pst_roots.specs.Roots.{held_of, IsLastBefore}
use Rattle.pst_roots.proofs.RootLemmas.{last_before}
use Rattle.pst_roots.proofs.roots.RootIndex.at_with.Goals as goal

pub returns-clause-found : goal.returns-clause-found
returns-clause-found g c =
    let list = g.P.Compare.list c.args.compare.now in
    let held = held_of c.args.self.now in
    let last = c.last_before-last in
    subst (λ (i : ℕ). IsLastBefore list c.args.nodes.now.list.items held c.args.place.0 i) (sym last.ensures.node.node)
    (last_before list c.args.nodes.now.list.items held c.args.place.0 last.result.index last.ensures.found)
