use Rattle.std.proofs.Common.{◌<◌, ◌≤◌, length, map, ap, sym, ◌∙◌, arith}
use Rattle.std.proofs.lemmas.List.{get_or_past}
use Rattle.pst_order.specs.declared.order.Pos.{Pos}
use Rattle.pst_rows.specs.declared.row.Row.{Row}
use Rattle.pst_nodes.specs.declared.node.Node.{Node}
use Rattle.pst_nodes.proofs.NodeLemmas.{lo_is}
use Rattle.pst_roots.proofs.RootLemmas.{length_of}
use Rattle.pst_roots.proofs.roots.begin_of.Goals as goal

pub returns-then-id-count : goal.returns-then-id-count
returns-then-id-count c =
    let there : c.args.id.0 < length c.args.nodes.now.list.items = omega (arith, c.if-id-count.true, c.count-count.ensures) in
    ap (λ (p : Pos). p.0) c.lo.ensures ∙ ap (λ (w : Row). w.lo.0) (c.row.ensures c.row.result.now) ∙ lo_is c.args.nodes.now.list.items c.args.id.0 c.row.result.now there

pub returns : goal.returns
returns c =
    let past : length (map (λ (n : Node). n.row.lo.0) c.args.nodes.now.list.items) ≤ c.args.id.0 =
    omega (arith, c.if-id-count.false, c.count-count.ensures, length_of (λ (n : Node). n.row.lo.0) c.args.nodes.now.list.items) in
    sym (get_or_past (map (λ (n : Node). n.row.lo.0) c.args.nodes.now.list.items) c.args.id.0 0 past)
