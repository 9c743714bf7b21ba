use Rattle.std.proofs.Common.{◌∙◌, ◌<◌, ap, length}
use Rattle.pst_base.specs.Shape.{type_at}
use Rattle.pst_mirror.specs.Potential.{capacity}
use Rattle.pst_store_meaning.specs.Store.{Stored}
use Rattle.pst_store.proofs.Stores.{at_s}
use Rattle.pst_store.proofs.started.Started.capacity.Goals as goal

pub capacity_of-requires-clause-valid : goal.capacity_of-requires-clause-valid
capacity_of-requires-clause-valid g c = c.self.invariant.store.valid

pub capacity_of-requires-clause-known : goal.capacity_of-requires-clause-known
capacity_of-requires-clause-known g c = at_s _ _ (λ (s : Stored). c.args.ty.0 < length s.shape) c.self.view_is c.requires

pub returns : goal.returns
returns g c =
    c.capacity_of.ensures ∙ ap (λ (s : Stored). capacity (type_at s.shape c.args.ty)) c.self.view_is
