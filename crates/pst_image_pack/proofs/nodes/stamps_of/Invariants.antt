use Rattle.std.proofs.Common.{◌≡◌, ℕ, ◌<◌, get_or, map, take}
use Rattle.std.specs.List.{AllByRecursion}
use Rattle.pst_rows.specs.Rows.{shown, no_stamp}
use Rattle.pst_image_form.specs.Bytes.{FitsStamp}
use Rattle.pst_image_meaning.specs.Parts.{stamp_part as part_of_stamp}
use Rattle.pst_image_meaning.specs.Denoted.{IsShortContent}
use Rattle.pst_image_pack.specs.Positions.{position_in}
use Rattle.pst_image_pack.proofs.nodes.stamps_of.Given as goal

abbrev pub invariant-loop-stamp : goal.invariant-loop-stamp
invariant-loop-stamp l = record {
  made : l.stamps.items ≡ map (part_of_stamp (position_in l.positions)) (take l.stamp-index l.row.cells.stamps);
  short : (k : ℕ) → k < l.stamp-index → IsShortContent (get_or (shown l.row).stamps k no_stamp).content;
  fits : AllByRecursion FitsStamp l.stamps.items;
}
