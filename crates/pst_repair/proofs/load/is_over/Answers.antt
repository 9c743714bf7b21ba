use Rattle.std.proofs.Common.{◌≡◌, ap, sym, ◌∙◌, arith}
use Rattle.pst_rows.specs.Rows.{stamped_count}
use Rattle.pst_repair.specs.Load.{stamped_at, half_at, half_in}
use Rattle.pst_repair.proofs.LoadLemmas.{stamped_is, over_test, over_none}
use Rattle.pst_repair.proofs.load.is_over.Goals as goal

pub returns-then-stamped-half : goal.returns-then-stamped-half
returns-then-stamped-half c =
    let stamped : c.stamped-stamped.result ≡ stamped_at c.args.nodes.now.list.items c.args.id.0 = c.stamped-stamped.ensures
    ∙ ap stamped_count (c.row.ensures c.row.result.now) ∙ sym (stamped_is c.args.nodes.now.list.items c.args.id.0 c.row.result.now c.requires.there) in
    let half : c.half-half.result ≡ half_at c.args.shape.now c.args.nodes.now.list.items c.args.id.0 = c.half-half.ensures ∙ ap (half_in c.args.shape.now) c.ty.ensures in
    let t = over_test c.stamped-stamped.result c.half-half.result c.if-stamped-half.true in
    (λ h. let k = t.0 h in omega (arith, k), λ h. t.1 (omega (arith, h)))

pub returns-else-stamped-half : goal.returns-else-stamped-half
returns-else-stamped-half c =
    let stamped : c.stamped-stamped.result ≡ stamped_at c.args.nodes.now.list.items c.args.id.0 = c.stamped-stamped.ensures
    ∙ ap stamped_count (c.row.ensures c.row.result.now) ∙ sym (stamped_is c.args.nodes.now.list.items c.args.id.0 c.row.result.now c.requires.there) in
    let half : c.half-half.result ≡ half_at c.args.shape.now c.args.nodes.now.list.items c.args.id.0 = c.half-half.ensures ∙ ap (half_in c.args.shape.now) c.ty.ensures in
    let t = over_none c.stamped-stamped.result c.half-half.result c.if-stamped-half.false in
    (λ h. let k = t.0 h in omega (arith, k), λ h. t.1 (omega (arith, h)))
