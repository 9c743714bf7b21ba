use Rattle.std.proofs.Common.{arith}
use Rattle.pst_store.specs.Whole.{state_in}
use Rattle.pst_image_form.specs.Bytes.{FitsVersion}
use Rattle.pst_image_meaning.specs.Parts.{version_part as part_of_version}
use Rattle.pst_image_pack.specs.Positions.{position_in}
use Rattle.pst_image_pack.proofs.Lists.{all_step, map_step}
use Rattle.pst_image_pack.proofs.versions.versions_of.Goals as goal

pub loop-version-preserved : goal.loop-version-preserved
loop-version-preserved g c = record {
  made = map_step (part_of_version (position_in c.args.positions.now)) (state_in c.args.store.now).versions c.loop-version.version
      c.loop-version.parts.items c.push.new.self.items c.version_part.result
      c.in_ok-push.ensures.items (omega arith) c.loop-version.invariant.made c.version_part.ensures.part;
  fits = all_step FitsVersion c.loop-version.parts.items c.push.new.self.items c.version_part.result c.in_ok-push.ensures.items c.loop-version.invariant.fits c.version_part.ensures.fits;
}
