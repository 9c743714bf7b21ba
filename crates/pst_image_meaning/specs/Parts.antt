-- What a store shows as the parts of an image: places as positions in the order list, contents as numbers.
use Rattle.std.specs.Prelude.{ℕ, suc, List, length, map, Option, Some, None}
use Rattle.std.specs.Int.{w64, cast_unsigned}
use Rattle.pst_base.specs.declared.names.NodeId.{NodeId}
use Rattle.pst_order.specs.Places.{rank}
use Rattle.pst_rows.specs.declared.content.Content.{Content}
use Rattle.pst_rows.specs.declared.content.Content.TheVariants.{Number, Null, Free, Target as TargetOf, From as FromOf}
use Rattle.pst_rows.specs.declared.content.Stamp.{Stamp}
use Rattle.pst_versions.specs.declared.rows.VersionRow.{VersionRow}
use Rattle.pst_store_meaning.specs.declared.place.Place.{Place}
use Rattle.pst_store_meaning.specs.Store.{Node, Stored}
use Rattle.pst_image_form.specs.declared.parts.VersionPart.{VersionPart}
use Rattle.pst_image_form.specs.declared.parts.StampPart.{StampPart}
use Rattle.pst_image_form.specs.declared.parts.NodePart.{NodePart}
use Rattle.pst_image_form.specs.declared.parts.ImageParts.{ImageParts}
use Rattle.pst_image_rules.specs.Nodes.{entry}

-- a content as a number: a number in two's complement, and else 0 where nothing is held
abbrev pub content_number : Content → ℕ
content_number (Number n) = cast_unsigned w64 n
content_number Null = 0
content_number (TargetOf y) = suc y.0
content_number Free = 0
content_number (FromOf x f) = entry x.0 f.0

-- the number of a next node plus 1, or 0 where there is none
abbrev pub link_number : Option NodeId → ℕ
link_number None = 0
link_number (Some i) = suc i.0

-- a version, where r gives the position of each place
abbrev pub version_part : (ℕ → ℕ) → VersionRow Place → VersionPart
version_part r row = record { parent = row.parent; run = row.run; begin = r row.place.begin.0; end = r row.place.end.0 }

-- a stamped value, where r gives the position of each place
abbrev pub stamp_part : (ℕ → ℕ) → Stamp → StampPart
stamp_part r e = record { slot = e.slot; place = r e.place.0; content = content_number e.content }

-- a node, where r gives the position of each place
abbrev pub node_part : (ℕ → ℕ) → Node → NodePart
node_part r n = record {
  name = n.head.name;
  ty = n.head.ty;
  lo = r n.row.lo.0;
  hi = r n.row.hi.0;
  later = link_number n.head.later;
  bases = map (λ c. content_number c.content) n.row.slots;
  stamps = map (stamp_part r) n.row.stamps;
}

abbrev pub version_parts : Stored → List VersionPart
version_parts s = map (version_part (rank s.places)) s.versions

abbrev pub node_parts : Stored → List NodePart
node_parts s = map (node_part (rank s.places)) s.nodes

-- a store as the parts of an image, with the text of its program, the number of the next run, and the budget
abbrev pub parts_of : Stored → List ℕ → ℕ → ℕ → ImageParts
parts_of s text next budget = record {
  text = text;
  budget = budget;
  next_run = record { 0 = next };
  counts = s.counts;
  places = length s.places;
  versions = version_parts s;
  nodes = node_parts s;
}
