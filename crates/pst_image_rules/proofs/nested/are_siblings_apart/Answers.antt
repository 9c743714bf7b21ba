use Rattle.std.proofs.Common.{◌<◌, length, get_or, arith}
use Rattle.std.proofs.lemmas.Grind.{get_or_default_zero}
use Rattle.pst_image_rules.specs.Versions.{parent_of, end_of}
use Rattle.pst_image_rules.proofs.Bounds.{one_of_run}
use Rattle.pst_image_rules.proofs.nested.are_siblings_apart.Goals as goal

pub loop-number-preserved : goal.loop-number-preserved
loop-number-preserved c =
    let u = get_or c.args.table.now c.loop-number.number-index 0 in
    let low : 0 < get_or c.args.table.now c.loop-number.number-index 0 = omega arith in
    let known = c.requires.table.only c.loop-number.number-index low in
    let inside = c.requires.inside u (record { low = low; high = known.0 }) in
    let wide : parent_of c.args.versions.now u < length c.loop-number.bounds.items = omega (arith, inside.older, known.0, c.loop-number.invariant.same) in
    let room : end_of c.args.versions.now u < get_or c.loop-number.bounds.items (parent_of c.args.versions.now u) 0 =
    omega (arith, get_or_default_zero c.loop-number.bounds.items (parent_of c.args.versions.now u) c.index.result.now wide, c.index.ensures) in
    one_of_run _ _ _ _ _ _ c.requires.inside c.requires.table c.loop-number.invariant (record { low = low; high = known.0 }) known.1 room
