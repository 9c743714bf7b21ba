use Rattle.std.proofs.Common.{◌∙◌, ap, get_or, arith}
use Rattle.pst_image_rules.specs.Versions.{version_at}
use Rattle.pst_image_unpack.specs.Listing.{place_in}
use Rattle.std.proofs.lemmas.List.{get_or_default}
use Rattle.pst_image_unpack.proofs.Lists.{listed-step}
use Rattle.pst_image_unpack.proofs.versions.places_of.Goals as goal

pub loop-version-preserved : goal.loop-version-preserved
loop-version-preserved c =
    listed-step c.loop-version.version (λ v. place_in (version_at c.args.versions.now v) (get_or c.in_ok-numbers.numbers.items v 0)) c.loop-version.places.items c.push.new.self.items c.place_of.result
    c.in_ok-push.ensures.items c.loop-version.invariant
    (c.place_of.ensures ∙ ap (place_in (version_at c.args.versions.now c.loop-version.version))
    (c.index.ensures ∙ get_or_default c.in_ok-numbers.numbers.items c.loop-version.version c.index.result.now 0
    (omega (arith, c.in_ok-numbers.ensures.count_is, c.loop-version-test.true))))
