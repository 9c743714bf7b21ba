use Rattle.std.proofs.Common.{◌≡◌, ◌∙◌, suc, ◌<◌, ◌↔◌, length, get_or, arith, subst, sym, eq-eqb}
use Rattle.std.proofs.lemmas.Bool.{eqb-true}
use Rattle.std.proofs.lemmas.List.{get_or_read}
use Rattle.pst_order.specs.Places.{rank}
use Rattle.pst_order.specs.Labels.{Labelled}
use Rattle.pst_order.proofs.StepLemmas.{in_range, seen, follows_is}
use Rattle.pst_order.proofs.labels.LabelOrderOrder.follows.Goals as goal

pub index-requires : goal.index-requires
index-requires c =
    let l : c.args.a.0 < length c.self.inside.next.items = in_range c.self.inside.next.items c.self.inside.labels.items c.args.self.now c.args.a.0 c.self.view_is c.self.invariant c.requires.a_in in
    omega (arith, l, c.self.inside.next.ok)

pub returns-then-b-ne0 : goal.returns-then-b-ne0
returns-then-b-ne0 c =
    let next = c.self.inside.next.items in
    let labels = c.self.inside.labels.items in
    let l : c.args.a.0 < length next = in_range next labels c.args.self.now c.args.a.0 c.self.view_is c.self.invariant c.requires.a_in in
    let r : c.index.result.now ≡ get_or next c.args.a.0 0 = get_or_read next c.args.a.0 c.index.result.now l c.index.ensures 0 in
    let f : (get_or next c.args.a.0 0 ≡ c.args.b.0) ↔ (rank c.args.self.now.places c.args.b.0 ≡ suc (rank c.args.self.now.places c.args.a.0)) =
    subst (λ (s : Labelled). (get_or next c.args.a.0 0 ≡ c.args.b.0) ↔ (rank s.places c.args.b.0 ≡ suc (rank s.places c.args.a.0))) c.self.view_is
    (follows_is next labels c.args.a.0 c.args.b.0 c.self.invariant (seen next labels c.args.self.now c.args.a.0 c.self.view_is c.requires.a_in)
    (seen next labels c.args.self.now c.args.b.0 c.self.view_is c.requires.b_in) c.if-b-ne0.true) in
    (λ h. f.0 (sym r ∙ eqb-true c.index.result.now c.args.b.0 h), λ h. eq-eqb c.index.result.now c.args.b.0 (r ∙ f.1 h))
