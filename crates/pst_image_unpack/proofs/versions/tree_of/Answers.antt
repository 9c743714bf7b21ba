use Rattle.std.proofs.Common.{◌≡◌, ◌∙◌, ap, length, refl, arith}
use Rattle.pst_base.proofs.Below.{length-listed}
use Rattle.pst_image_unpack.specs.Listing.{row_in}
use Rattle.pst_image_unpack.proofs.Lists.{listed-step}
use Rattle.pst_image_unpack.proofs.versions.tree_of.Goals as goal

pub publish-requires-clause-there : goal.publish-requires-clause-there
publish-requires-clause-there c =
    let many : length c.loop-number.tree ≡ c.loop-number.number = ap length c.loop-number.invariant ∙ length-listed c.loop-number.number (row_in c.args.versions.now c.args.places.now) in
    omega (arith, many, c.requires.parents.parents c.loop-number.number (omega arith) c.loop-number-test.true)

pub publish-requires-clause-few : goal.publish-requires-clause-few
publish-requires-clause-few c =
    let many : length c.loop-number.tree ≡ c.loop-number.number = ap length c.loop-number.invariant ∙ length-listed c.loop-number.number (row_in c.args.versions.now c.args.places.now) in
    omega (arith, many, c.requires.few, c.loop-number-test.true)

pub loop-number-preserved : goal.loop-number-preserved
loop-number-preserved c =
    listed-step c.loop-number.number (row_in c.args.versions.now c.args.places.now) c.loop-number.tree c.publish.new.self _ c.in_ok-publish.ensures.ok c.loop-number.invariant refl
