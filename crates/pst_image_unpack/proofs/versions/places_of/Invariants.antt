use Rattle.std.proofs.Common.{◌≡◌, get_or}
use Rattle.pst_base.specs.Below.{listed}
use Rattle.pst_image_rules.specs.Versions.{version_at}
use Rattle.pst_image_unpack.specs.Listing.{place_in}
use Rattle.pst_image_unpack.proofs.versions.places_of.Given as goal

abbrev pub invariant-loop-version : goal.invariant-loop-version
invariant-loop-version l = l.places.items ≡ listed l.version (λ v. place_in (version_at l.versions v) (get_or l.numbers.items v 0))
