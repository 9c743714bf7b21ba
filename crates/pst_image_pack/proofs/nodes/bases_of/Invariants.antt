use Rattle.std.proofs.Common.{◌≡◌, ℕ, ◌<◌, map, take}
use Rattle.std.specs.List.{AllByRecursion}
use Rattle.pst_image_form.specs.Bytes.{Fits64}
use Rattle.pst_rows.specs.Rows.{shown}
use Rattle.pst_rows.specs.Values.{base_in}
use Rattle.pst_image_meaning.specs.Parts.{content_number as number_of}
use Rattle.pst_image_meaning.specs.Denoted.{IsShortContent}
use Rattle.pst_image_pack.proofs.nodes.bases_of.Given as goal

abbrev pub invariant-loop-slot : goal.invariant-loop-slot
invariant-loop-slot l = record {
  made : l.bases.items ≡ map (λ c. number_of c.content) (take l.slot l.row.cells.slots);
  short : (g : ℕ) → g < l.slot → IsShortContent (base_in (shown l.row) g);
  fits : AllByRecursion Fits64 l.bases.items;
}
