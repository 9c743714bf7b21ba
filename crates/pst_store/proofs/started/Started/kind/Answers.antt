use Rattle.std.proofs.Common.{◌∙◌, ap, sym}
use Rattle.pst_base.specs.Heap.{kind_from}
use Rattle.pst_base.specs.Shape.{type_at, field_kind}
use Rattle.pst_store_meaning.specs.Store.{Stored}
use Rattle.pst_store.proofs.started.Started.kind.Goals as goal

pub returns : goal.returns
returns g c =
    c.field_kind.ensures ∙ ap (λ (s : Stored). field_kind (type_at s.shape c.ty.result) c.args.field.0) c.self.view_is
    ∙ sym (ap (kind_from c.args.self.now.shape c.args.field.0) (c.ty.ensures c.args.at c.requires))
