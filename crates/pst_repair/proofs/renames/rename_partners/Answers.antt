use Rattle.std.proofs.Common.{◌≡◌, ◌+◌, false, leb, ltb, refl, sym, ◌∙◌, arith}
use Rattle.std.proofs.lemmas.Bool.{and_from, le-leb, lt-ltb}
use Rattle.pst_mirror.specs.SplitBody.{finished}
use Rattle.pst_mirror.proofs.PartnerLemmas.{all_done_law}
use Rattle.pst_mirror.proofs.SplitBodyLemmas.{start_law}
use Rattle.pst_nodes.specs.Arena.{chart}
use Rattle.pst_nodes.proofs.NodeLemmas.{some_row}
use Rattle.pst_repair.specs.Steps.{begin_of, slots_done, slot_done}
use Rattle.pst_repair.proofs.RenameLemmas.{half_on, half_ext, slots_none, slots_done_more, renamable_after, partner_lives, z_row, replaced_itself, replaced_on}
use Rattle.pst_repair.proofs.renames.rename_partners.Goals as goal

pub loop-index-init : goal.loop-index-init
loop-index-init g c = record {
  half = half_ext (chart (g.O.Order.places c.args.order.now) c.args.nodes.now.list.items)
      (finished (chart (g.O.Order.places c.args.order.now) c.args.nodes.now.list.items) c.args.x.0 c.args.z.0
      (begin_of (g.O.Order.places c.args.order.now) c.args.nodes.now.list.items c.args.z.0))
      (chart (g.O.Order.places c.args.order.now) c.args.nodes.now.list.items) c.args.z.0 (λ h m. false) (slots_done c.args.first c.args.first)
      (λ i k m h p. sym (slots_none c.args.first h)) (start_law (chart (g.O.Order.places c.args.order.now) c.args.nodes.now.list.items) c.args.x.0
      c.args.z.0 (begin_of (g.O.Order.places c.args.order.now) c.args.nodes.now.list.items c.args.z.0) c.requires.renamable.mirrored);
  edges = λ i k m. refl;
  rows = c.requires.rows;
  same = replaced_itself c.args.nodes.now.list.items;
}

pub overflow_cast-slot : goal.overflow_cast-slot
overflow_cast-slot g c =
    let row = z_row (g.O.Order.places c.args.order.now) c.args.nodes.now.list.items c.args.z.0 c.requires.there c.requires.rows in
    let w = c.requires.slots (some_row c.args.nodes.now.list.items c.args.z.0 c.requires.there) in
    omega (arith, row.narrow, w, c.loop-index-test.true)

pub rename_slot-requires-clause-renamable : goal.rename_slot-requires-clause-renamable
rename_slot-requires-clause-renamable g c =
    let t = renamable_after (g.O.Order.places c.args.order.now) c.args.nodes.now.list.items c.loop-index.nodes.list.items c.args.x.0 c.args.z.0
    (slots_done c.args.first c.loop-index.index) c.requires.renamable c.loop-index.invariant.half c.loop-index.invariant.edges
    c.loop-index.invariant.same in
    t.0

pub rename_slot-requires-clause-slot : goal.rename_slot-requires-clause-slot
rename_slot-requires-clause-slot g c d = omega (arith, c.loop-index.invariant.same.width c.args.z.0 d, c.requires.slots d, c.loop-index-test.true)

pub loop-index-preserved : goal.loop-index-preserved
loop-index-preserved g c =
    let t = renamable_after (g.O.Order.places c.args.order.now) c.args.nodes.now.list.items c.loop-index.nodes.list.items c.args.x.0 c.args.z.0
    (slots_done c.args.first c.loop-index.index) c.requires.renamable c.loop-index.invariant.half c.loop-index.invariant.edges
    c.loop-index.invariant.same in
    record {
      half = half_ext (chart (g.O.Order.places c.args.order.now) c.args.nodes.now.list.items)
          (finished (chart (g.O.Order.places c.args.order.now) c.args.nodes.now.list.items) c.args.x.0 c.args.z.0
          (begin_of (g.O.Order.places c.args.order.now) c.args.nodes.now.list.items c.args.z.0))
          (chart (g.O.Order.places c.args.order.now) c.rename_slot.new.nodes.list.items) c.args.z.0 _
          (slots_done c.args.first (c.loop-index.index + 1)) (λ i k m h p. slots_done_more c.args.first c.loop-index.index h m c.loop-index.auto.index)
          (half_on (chart (g.O.Order.places c.args.order.now) c.args.nodes.now.list.items)
          (chart (g.O.Order.places c.args.order.now) c.loop-index.nodes.list.items)
          (chart (g.O.Order.places c.args.order.now) c.rename_slot.new.nodes.list.items)
          (finished (chart (g.O.Order.places c.args.order.now) c.args.nodes.now.list.items) c.args.x.0 c.args.z.0
          (begin_of (g.O.Order.places c.args.order.now) c.args.nodes.now.list.items c.args.z.0))
          (finished (chart (g.O.Order.places c.args.order.now) c.loop-index.nodes.list.items) c.args.x.0 c.args.z.0
          (begin_of (g.O.Order.places c.args.order.now) c.loop-index.nodes.list.items c.args.z.0)) c.args.z.0
          (slots_done c.args.first c.loop-index.index) (slot_done c.loop-index.index) t.1 c.loop-index.invariant.half c.rename_slot.ensures.renamed);
      edges = λ i k m. c.rename_slot.ensures.edges i k m ∙ c.loop-index.invariant.edges i k m;
      rows = c.rename_slot.ensures.rows;
      same = replaced_on c.args.nodes.now.list.items c.loop-index.nodes.list.items c.rename_slot.new.nodes.list.items c.loop-index.invariant.same c.rename_slot.ensures.same;
    }

pub returns-clause-renamed : goal.returns-clause-renamed
returns-clause-renamed g c =
    let e : c.loop-index.index ≡ c.args.end = omega (arith, c.loop-index-test.false, c.loop-index.auto.index-end, c.requires.few) in
    record {
      holds = all_done_law (chart (g.O.Order.places c.args.order.now) c.args.nodes.now.list.items)
          (finished (chart (g.O.Order.places c.args.order.now) c.args.nodes.now.list.items) c.args.x.0 c.args.z.0
          (begin_of (g.O.Order.places c.args.order.now) c.args.nodes.now.list.items c.args.z.0))
          (chart (g.O.Order.places c.args.order.now) c.loop-index.nodes.list.items) c.args.z.0 (slots_done c.args.first c.loop-index.index)
          c.requires.renamable.mirrored c.loop-index.invariant.half
          (λ h m i k p.
          let t = partner_lives (g.O.Order.places c.args.order.now) c.args.nodes.now.list.items c.args.x.0 c.args.z.0
          (begin_of (g.O.Order.places c.args.order.now) c.args.nodes.now.list.items c.args.z.0) h i k m c.requires.rows c.requires.renamable.mirrored p in
          let b = c.requires.linked h m t.0 in
          and_from (leb c.args.first h) (ltb h c.loop-index.index) (le-leb c.args.first h b.0) (lt-ltb h c.loop-index.index (omega (arith, b.1))));
      edges = c.loop-index.invariant.edges;
    }
