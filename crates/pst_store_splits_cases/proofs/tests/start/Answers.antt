use Rattle.std.proofs.Common.{rules, ◌≡◌, Some}
use Rattle.pst_base.specs.declared.names.Kind.TheVariants.{Int}
use Rattle.pst_base.specs.Shape.{field_kind, root_type, type_at}
use Rattle.pst_store_splits_cases.proofs.StartedRings.{one_place}
use Rattle.pst_store_splits_cases.proofs.Started.{place_ready}
use Rattle.pst_store_splits_cases.proofs.tests.start.Goals as goal

pub returns-in-Some : goal.returns-in-Some
returns-in-Some g c =
    let k : field_kind (type_at c.args.shape.now root_type) 0 ≡ Some Int = search rules in
    place_ready _ _ _ (one_place _ c.args.shape.now c.in-Some.at c.in_ok-start.ensures.ok c.in-Some.ensures) k
