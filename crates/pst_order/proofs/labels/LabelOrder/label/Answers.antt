use Rattle.std.proofs.Common.{◌∙◌, ◌<◌, length, get_or, ap, arith}
use Rattle.std.proofs.lemmas.List.{get_or_read}
use Rattle.pst_order.specs.Labels.{Labelled}
use Rattle.pst_order.proofs.RingLemmas.{label_low}
use Rattle.pst_order.proofs.StepLemmas.{in_range}
use Rattle.pst_order.proofs.labels.LabelOrder.label.Goals as goal

pub index-requires : goal.index-requires
index-requires c =
    let l : c.args.place.0 < length c.self.inside.next.items = in_range c.self.inside.next.items c.self.inside.labels.items c.args.self.now c.args.place.0 c.self.view_is c.self.invariant c.requires in
    omega (arith, l, c.self.invariant.same, c.self.inside.labels.ok)

pub returns-clause-label : goal.returns-clause-label
returns-clause-label c =
    let l : c.args.place.0 < length c.self.inside.next.items = in_range c.self.inside.next.items c.self.inside.labels.items c.args.self.now c.args.place.0 c.self.view_is c.self.invariant c.requires in
    get_or_read c.self.inside.labels.items c.args.place.0 c.index.result.now (omega (arith, l, c.self.invariant.same)) c.index.ensures 0
    ∙ ap (λ (s : Labelled). get_or s.labels c.args.place.0 0) c.self.view_is

pub returns-clause-low : goal.returns-clause-low
returns-clause-low c =
    let l : c.args.place.0 < length c.self.inside.next.items = in_range c.self.inside.next.items c.self.inside.labels.items c.args.self.now c.args.place.0 c.self.view_is c.self.invariant c.requires in
    omega (
      arith,
      get_or_read c.self.inside.labels.items c.args.place.0 c.index.result.now (omega (arith, l, c.self.invariant.same)) c.index.ensures
          0,
      label_low c.self.inside.labels.items c.args.place.0 c.self.invariant.low,
    )
