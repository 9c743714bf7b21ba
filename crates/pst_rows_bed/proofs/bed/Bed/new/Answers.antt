use Rattle.std.proofs.Common.{◌≡◌, [], ◌∷◌, length, ap, arith}
use Rattle.pst_rows.specs.Changes.{slot_count}
use Rattle.pst_rows_bed.proofs.BedLemmas.{new_ready}
use Rattle.pst_rows_bed.proofs.bed.Bed.new.Goals as goal

pub returns-clause-ready : goal.returns-clause-ready
returns-clause-ready g c =
    let five : slot_count c.in_ok-shape.field-0 ≡ 5 = omega (arith, c.in_ok-shape.ensures.0, c.in_ok-shape.ensures.1, c.in_ok-shape.ensures.2) in
    let bases : length c.in_ok-base.base.items ≡ 5 = ap length c.in_ok-base.ensures.items in
    let places : c.in_ok-places.places.items ≡ c.first-lo.result ∷ [] = c.in_ok-places.ensures.items in
    (new_ready (g.O.Order.places c.args.order.now) (g.O.Order.places c.insert_after.new.self) c.first-lo.result c.in_ok-hi.hi c.in_ok-shape.field-0
    (record { row = c.in_ok-row.row; places = c.in_ok-places.places; base = c.in_ok-base.base; stamps = c.new-2.result })
    c.requires c.first-lo.ensures.in_list c.first-lo.ensures.first c.in_ok-hi.ensures.ok c.in_ok-row.ensures five bases places c.new-2.ensures.items).0
