use Rattle.std.proofs.Common.{◌≡◌, map, take}
use Rattle.std.specs.List.{AllByRecursion}
use Rattle.pst_store.specs.Whole.{state_in}
use Rattle.pst_image_form.specs.Bytes.{FitsVersion}
use Rattle.pst_image_meaning.specs.Parts.{version_part as part_of_version}
use Rattle.pst_image_pack.specs.Positions.{position_in}
use Rattle.pst_image_pack.proofs.versions.versions_of.Given as goal

abbrev pub invariant-loop-version : goal.invariant-loop-version
invariant-loop-version g l = record {
  made : l.parts.items ≡ map (part_of_version (position_in l.positions)) (take l.version (state_in l.store).versions);
  fits : AllByRecursion FitsVersion l.parts.items;
}
