use Rattle.std.proofs.Common.{◌≡◌, ◌∙◌, suc, ◌<◌, Some, None, length, get_or, slice_get, arith, subst, sym, ap, ⊎_elim}
use Rattle.std.proofs.lemmas.List.{get_or_read}
use Rattle.pst_order.specs.Places.{rank}
use Rattle.pst_order.specs.Labels.{Labelled, walk}
use Rattle.pst_order.proofs.StepLemmas.{in_range, seen, next_is}
use Rattle.pst_order.proofs.labels.LabelOrder.next.Goals as goal

pub index-behind-requires : goal.index-behind-requires
index-behind-requires c =
    let l : c.args.place.0 < length c.self.inside.next.items = in_range c.self.inside.next.items c.self.inside.labels.items c.args.self.now c.args.place.0 c.self.view_is c.self.invariant c.requires in
    omega (arith, l, c.self.inside.next.ok)

pub returns-then-behind-eq0 : goal.returns-then-behind-eq0
returns-then-behind-eq0 c =
    let next = c.self.inside.next.items in
    let labels = c.self.inside.labels.items in
    let p = c.args.place.0 in
    let l : p < length next = in_range next labels c.args.self.now p c.self.view_is c.self.invariant c.requires in
    let r : c.index-behind.result.now ≡ get_or next p 0 = get_or_read next p c.index-behind.result.now l c.index-behind.ensures 0 in
    let zero : get_or next p 0 ≡ 0 = sym r ∙ c.if-behind-eq0.true in
    let is : slice_get (walk next (length next) 0) (suc (rank (walk next (length next) 0) p)) ≡ None =
    ⊎_elim (λ x. x.1) (λ x. absurd (x.0 zero)) (next_is next labels p c.self.invariant (seen next labels c.args.self.now p c.self.view_is c.requires)) in
    sym (subst (λ (s : Labelled). slice_get s.places (suc (rank s.places p)) ≡ None) c.self.view_is is)

pub returns-else-behind-eq0 : goal.returns-else-behind-eq0
returns-else-behind-eq0 c =
    let next = c.self.inside.next.items in
    let labels = c.self.inside.labels.items in
    let p = c.args.place.0 in
    let l : p < length next = in_range next labels c.args.self.now p c.self.view_is c.self.invariant c.requires in
    let r : c.index-behind.result.now ≡ get_or next p 0 = get_or_read next p c.index-behind.result.now l c.index-behind.ensures 0 in
    let is : slice_get (walk next (length next) 0) (suc (rank (walk next (length next) 0) p)) ≡ Some (get_or next p 0) =
    ⊎_elim (λ x. absurd (c.if-behind-eq0.false (r ∙ x.0))) (λ x. x.1) (next_is next labels p c.self.invariant (seen next labels c.args.self.now p c.self.view_is c.requires)) in
    ap (λ n. Some n) r ∙ sym (subst (λ (s : Labelled). slice_get s.places (suc (rank s.places p)) ≡ Some (get_or next p 0)) c.self.view_is is)
