-- An image as the opening of a history.
use Rattle.std.specs.Prelude.{List, map, drop}
use Rattle.pst_base.specs.declared.shape.TypeShape.{TypeShape}
use Rattle.pst_history.specs.declared.history.Descent.{Descent}
use Rattle.pst_history.specs.History.{Opening}
use Rattle.pst_image_form.specs.declared.parts.VersionPart.{VersionPart}
use Rattle.pst_image_form.specs.declared.parts.ImageParts.{ImageParts}
use Rattle.pst_image_meaning.specs.Denoted.{heap_in}

-- a version, without its places
abbrev pub descent_of : VersionPart → Descent
descent_of v = record { run = v.run; parent = v.parent }

-- The versions of the image, of which the first is version 0; the heap that its nodes denote where each begins; the number of the next
-- run, the budget, and what was made and written.
abbrev pub opening_in : List TypeShape → ImageParts → Opening
opening_in shape p = record {
  versions = map descent_of (drop 1 p.versions);
  heaps = map (λ v. heap_in shape p v.begin) p.versions;
  next_run = p.next_run.0;
  budget = p.budget;
  counts = p.counts;
}
