use Rattle.std.proofs.Common.{◌≡◌, ℕ, ◌*◌, ◌<◌, ◌↔◌, length, List, arith, ap, ◌∙◌, subst}
use Rattle.std.proofs.lemmas.Bool.{lt-ltb, ltb-true}
use Rattle.pst_order.specs.Places.{rank}
use Rattle.pst_order.specs.Labels.{Labelled, offset as offset_of}
use Rattle.pst_order.proofs.OffsetLemmas.{ordered_by_offsets}
use Rattle.pst_order.proofs.StepLemmas.{seen, in_range}
use Rattle.pst_order.proofs.labels.LabelOrderOrder.before.Goals as goal

pub returns : goal.returns
returns c =
    let next : List ℕ = c.self.inside.next.items in
    let labels : List ℕ = c.self.inside.labels.items in
    let x : c.fourfold_offset.result ≡ 4 * offset_of labels c.args.a.0 = c.fourfold_offset.ensures ∙ ap (λ (ls : List ℕ). 4 * offset_of ls c.args.a.0) c.deref.ensures.value in
    let y : c.fourfold_offset-2.result ≡ 4 * offset_of labels c.args.b.0 = c.fourfold_offset-2.ensures ∙ ap (λ (ls : List ℕ). 4 * offset_of ls c.args.b.0) c.deref-2.ensures.value in
    let f : (offset_of labels c.args.a.0 < offset_of labels c.args.b.0) ↔ (rank c.args.self.now.places c.args.a.0 < rank c.args.self.now.places c.args.b.0) =
    subst (λ (s : Labelled). (offset_of labels c.args.a.0 < offset_of labels c.args.b.0) ↔ (rank s.places c.args.a.0 < rank s.places c.args.b.0)) c.self.view_is
    (ordered_by_offsets next labels c.args.a.0 c.args.b.0 c.self.invariant
    (seen next labels c.args.self.now c.args.a.0 c.self.view_is c.requires.a_in)
    (seen next labels c.args.self.now c.args.b.0 c.self.view_is c.requires.b_in)) in (
      λ h. let e : c.fourfold_offset.result < c.fourfold_offset-2.result = ltb-true c.fourfold_offset.result c.fourfold_offset-2.result h in f.0 (omega (arith, x, y, e)),
      λ h. let e : offset_of labels c.args.a.0 < offset_of labels c.args.b.0 = f.1 h in
          let e' : c.fourfold_offset.result < c.fourfold_offset-2.result = omega (arith, x, y, e) in
          lt-ltb c.fourfold_offset.result c.fourfold_offset-2.result e',
    )

pub fourfold_offset-requires-clause-place : goal.fourfold_offset-requires-clause-place
fourfold_offset-requires-clause-place c =
    let l : c.args.a.0 < length c.self.inside.next.items = in_range c.self.inside.next.items c.self.inside.labels.items c.args.self.now c.args.a.0 c.self.view_is c.self.invariant c.requires.a_in in
    omega (arith, l, c.self.invariant.same, c.deref.ensures.len, c.self.inside.labels.ok)

pub fourfold_offset-requires-2-clause-place : goal.fourfold_offset-requires-2-clause-place
fourfold_offset-requires-2-clause-place c =
    let l : c.args.b.0 < length c.self.inside.next.items = in_range c.self.inside.next.items c.self.inside.labels.items c.args.self.now c.args.b.0 c.self.view_is c.self.invariant c.requires.b_in in
    omega (arith, l, c.self.invariant.same, c.deref-2.ensures.len, c.self.inside.labels.ok)
