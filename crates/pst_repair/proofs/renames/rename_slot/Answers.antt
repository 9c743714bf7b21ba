use Rattle.std.proofs.Common.{◌≡◌, ◌<◌, ◌≤◌, ◌-◌, ℕ, false, refl, sym, ap, ◌∙◌, subst, arith}
use Rattle.pst_rows.specs.declared.row.Row.{Row}
use Rattle.pst_order.specs.Places.{rank}
use Rattle.pst_mirror.specs.Partners.{IsHalfway, one_more}
use Rattle.pst_mirror.specs.SplitBody.{finished}
use Rattle.pst_nodes.specs.Arena.{chart, lo_at, hi_at}
use Rattle.pst_nodes.proofs.NodeLemmas.{lo_is, hi_is}
use Rattle.pst_repair.specs.Steps.{begin_of, slot_done_to}
use Rattle.pst_repair.proofs.CutLemmas.{before_ne}
use Rattle.pst_repair.proofs.RenameLemmas.{life, slot_in, half_none, half_whole, half_on, half_ext, done_to_more, renamable_after, segment_here, begin_edge}
use Rattle.pst_repair.proofs.RenameLemmas.{replaced_itself, replaced_on, now_slot, end_of_segment}
use Rattle.pst_repair.proofs.renames.rename_slot.Goals as goal

closer : (hi at next : ℕ) → at < next → next ≤ hi → hi - next < hi - at
closer hi at next l k = omega arith

pub loop-at-init : goal.loop-at-init
loop-at-init g c =
    let lo : c.lo-at.result.0 ≡ lo_at c.args.nodes.now.list.items c.args.z.0 = ap (λ p. p.0) c.lo-at.ensures
    ∙ ap (λ (w : Row). w.lo.0) (c.row.ensures c.row.result.now) ∙ lo_is c.args.nodes.now.list.items c.args.z.0 c.row.result.now c.requires.there in
    let t = life (g.O.Order.places c.args.order.now) c.args.nodes.now.list.items c.args.z.0 c.requires.there c.requires.rows in
    record {
      half = subst (λ (p : ℕ). IsHalfway (chart (g.O.Order.places c.args.order.now) c.args.nodes.now.list.items)
          (finished (chart (g.O.Order.places c.args.order.now) c.args.nodes.now.list.items) c.args.x.0 c.args.z.0
          (begin_of (g.O.Order.places c.args.order.now) c.args.nodes.now.list.items c.args.z.0))
          (chart (g.O.Order.places c.args.order.now) c.args.nodes.now.list.items) c.args.z.0
          (slot_done_to c.args.slot.0 ((rank (g.O.Order.places c.args.order.now)) p))) (sym lo)
          (half_none (g.O.Order.places c.args.order.now) c.args.nodes.now.list.items c.args.z.0 c.requires.there c.requires.rows c.args.x.0
          c.args.slot.0 c.requires.renamable);
      edges = λ i k m. refl;
      rows = c.requires.rows;
      same = replaced_itself c.args.nodes.now.list.items;
      low = let e : (rank (g.O.Order.places c.args.order.now)) c.lo-at.result.0 ≡ (rank (g.O.Order.places c.args.order.now))
          (lo_at c.args.nodes.now.list.items c.args.z.0) = ap (rank (g.O.Order.places c.args.order.now)) lo in omega arith;
      high = let e : (rank (g.O.Order.places c.args.order.now)) c.lo-at.result.0 ≡ (rank (g.O.Order.places c.args.order.now))
          (lo_at c.args.nodes.now.list.items c.args.z.0) = ap (rank (g.O.Order.places c.args.order.now)) lo in omega (arith, t.0);
      begins = ap (λ (p : ℕ). (chart (g.O.Order.places c.args.order.now) c.args.nodes.now.list.items).edge c.args.z.0 c.args.slot.0
          ((rank (g.O.Order.places c.args.order.now)) p)) lo ∙ begin_edge (g.O.Order.places c.args.order.now) c.args.nodes.now.list.items c.args.z.0
          c.requires.there c.requires.rows c.args.slot.0;
    }

pub covering-found-requires-clause-slot : goal.covering-found-requires-clause-slot
covering-found-requires-clause-slot g c =
    let hi : c.hi-end.result.0 ≡ hi_at c.args.nodes.now.list.items c.args.z.0 = ap (λ p. p.0) c.hi-end.ensures
    ∙ ap (λ (w : Row). w.hi.0) (c.row-2.ensures c.row-2.result.now) ∙ hi_is c.args.nodes.now.list.items c.args.z.0 c.row-2.result.now c.requires.there in
    let t = life (g.O.Order.places c.args.order.now) c.args.nodes.now.list.items c.args.z.0 c.requires.there c.requires.rows in
    let below : ((rank (g.O.Order.places c.args.order.now)) c.loop-at.at.0) <
    ((rank (g.O.Order.places c.args.order.now)) (hi_at c.args.nodes.now.list.items c.args.z.0)) =
    before_ne (g.O.Order.places c.args.order.now) c.loop-at.at.0 (hi_at c.args.nodes.now.list.items c.args.z.0) c.loop-at.invariant.high t.1
    (λ e. c.loop-at-test.true (e ∙ sym hi)) in
    now_slot (g.O.Order.places c.args.order.now) c.args.nodes.now.list.items c.loop-at.nodes.list.items c.args.z.0 c.args.slot.0
    ((rank (g.O.Order.places c.args.order.now)) c.loop-at.at.0) c.loop-at.invariant.same
    (slot_in (g.O.Order.places c.args.order.now) c.args.nodes.now.list.items c.args.z.0 c.requires.there c.requires.rows c.args.slot.0
    ((rank (g.O.Order.places c.args.order.now)) c.loop-at.at.0) c.requires.slot c.loop-at.invariant.low below)

pub rename_segment-requires-clause-slot : goal.rename_segment-requires-clause-slot
rename_segment-requires-clause-slot g c =
    let hi : c.hi-end.result.0 ≡ hi_at c.args.nodes.now.list.items c.args.z.0 = ap (λ p. p.0) c.hi-end.ensures
    ∙ ap (λ (w : Row). w.hi.0) (c.row-2.ensures c.row-2.result.now) ∙ hi_is c.args.nodes.now.list.items c.args.z.0 c.row-2.result.now c.requires.there in
    let t = life (g.O.Order.places c.args.order.now) c.args.nodes.now.list.items c.args.z.0 c.requires.there c.requires.rows in
    let below : ((rank (g.O.Order.places c.args.order.now)) c.loop-at.at.0) <
    ((rank (g.O.Order.places c.args.order.now)) (hi_at c.args.nodes.now.list.items c.args.z.0)) =
    before_ne (g.O.Order.places c.args.order.now) c.loop-at.at.0 (hi_at c.args.nodes.now.list.items c.args.z.0) c.loop-at.invariant.high t.1
    (λ e. c.loop-at-test.true (e ∙ sym hi)) in
    now_slot (g.O.Order.places c.args.order.now) c.args.nodes.now.list.items c.loop-at.nodes.list.items c.args.z.0 c.args.slot.0
    ((rank (g.O.Order.places c.args.order.now)) c.loop-at.at.0) c.loop-at.invariant.same
    (slot_in (g.O.Order.places c.args.order.now) c.args.nodes.now.list.items c.args.z.0 c.requires.there c.requires.rows c.args.slot.0
    ((rank (g.O.Order.places c.args.order.now)) c.loop-at.at.0) c.requires.slot c.loop-at.invariant.low below)

pub rename_segment-requires-clause-renamable : goal.rename_segment-requires-clause-renamable
rename_segment-requires-clause-renamable g c =
    let t = renamable_after (g.O.Order.places c.args.order.now) c.args.nodes.now.list.items c.loop-at.nodes.list.items c.args.x.0 c.args.z.0
    (slot_done_to c.args.slot.0 ((rank (g.O.Order.places c.args.order.now)) c.loop-at.at.0)) c.requires.renamable c.loop-at.invariant.half
    c.loop-at.invariant.edges c.loop-at.invariant.same in
    t.0

pub loop-at-smaller : goal.loop-at-smaller
loop-at-smaller g c =
    let seg = segment_here (g.O.Order.places c.args.order.now) c.loop-at.nodes.list.items c.args.z.0 c.args.slot.0 c.loop-at.at.0
    c.covering-found.result.begin.0 c.covering-found.result.end.0
    (c.loop-at.invariant.edges c.args.z.0 c.args.slot.0 ((rank (g.O.Order.places c.args.order.now)) c.loop-at.at.0) ∙ c.loop-at.invariant.begins)
    c.covering-found.ensures.segment in
    let top : (rank (g.O.Order.places c.args.order.now)) c.covering-found.result.end.0 ≤
    ((rank (g.O.Order.places c.args.order.now)) (hi_at c.args.nodes.now.list.items c.args.z.0)) =
    end_of_segment (g.O.Order.places c.args.order.now) c.args.nodes.now.list.items c.loop-at.nodes.list.items c.args.z.0 c.args.slot.0
    ((rank (g.O.Order.places c.args.order.now)) c.loop-at.at.0) c.covering-found.result.begin.0 c.covering-found.result.end.0 c.requires.there
    c.loop-at.invariant.same c.covering-found.ensures.segment in
    closer ((rank (g.O.Order.places c.args.order.now)) (hi_at c.args.nodes.now.list.items c.args.z.0))
    ((rank (g.O.Order.places c.args.order.now)) c.loop-at.at.0) ((rank (g.O.Order.places c.args.order.now)) c.covering-found.result.end.0) seg.some top

pub loop-at-preserved : goal.loop-at-preserved
loop-at-preserved g c =
    let seg = segment_here (g.O.Order.places c.args.order.now) c.loop-at.nodes.list.items c.args.z.0 c.args.slot.0 c.loop-at.at.0
    c.covering-found.result.begin.0 c.covering-found.result.end.0
    (c.loop-at.invariant.edges c.args.z.0 c.args.slot.0 ((rank (g.O.Order.places c.args.order.now)) c.loop-at.at.0) ∙ c.loop-at.invariant.begins)
    c.covering-found.ensures.segment in
    let e = (rank (g.O.Order.places c.args.order.now)) c.covering-found.result.end.0 in
    let t = renamable_after (g.O.Order.places c.args.order.now) c.args.nodes.now.list.items c.loop-at.nodes.list.items c.args.x.0 c.args.z.0
    (slot_done_to c.args.slot.0 ((rank (g.O.Order.places c.args.order.now)) c.loop-at.at.0)) c.requires.renamable c.loop-at.invariant.half
    c.loop-at.invariant.edges c.loop-at.invariant.same in
    let top : (rank (g.O.Order.places c.args.order.now)) c.covering-found.result.end.0 ≤
    ((rank (g.O.Order.places c.args.order.now)) (hi_at c.args.nodes.now.list.items c.args.z.0)) =
    end_of_segment (g.O.Order.places c.args.order.now) c.args.nodes.now.list.items c.loop-at.nodes.list.items c.args.z.0 c.args.slot.0
    ((rank (g.O.Order.places c.args.order.now)) c.loop-at.at.0) c.covering-found.result.begin.0 c.covering-found.result.end.0 c.requires.there
    c.loop-at.invariant.same c.covering-found.ensures.segment in
    record {
      half = half_ext (chart (g.O.Order.places c.args.order.now) c.args.nodes.now.list.items)
          (finished (chart (g.O.Order.places c.args.order.now) c.args.nodes.now.list.items) c.args.x.0 c.args.z.0
          (begin_of (g.O.Order.places c.args.order.now) c.args.nodes.now.list.items c.args.z.0))
          (chart (g.O.Order.places c.args.order.now) c.rename_segment.new.nodes.list.items) c.args.z.0 _
          (slot_done_to c.args.slot.0 ((rank (g.O.Order.places c.args.order.now)) c.covering-found.result.end.0))
          (λ i k m h p. done_to_more c.args.slot.0 ((rank (g.O.Order.places c.args.order.now)) c.loop-at.at.0)
          ((rank (g.O.Order.places c.args.order.now)) c.covering-found.result.end.0) h m seg.some)
          (half_on (chart (g.O.Order.places c.args.order.now) c.args.nodes.now.list.items)
          (chart (g.O.Order.places c.args.order.now) c.loop-at.nodes.list.items)
          (chart (g.O.Order.places c.args.order.now) c.rename_segment.new.nodes.list.items)
          (finished (chart (g.O.Order.places c.args.order.now) c.args.nodes.now.list.items) c.args.x.0 c.args.z.0
          (begin_of (g.O.Order.places c.args.order.now) c.args.nodes.now.list.items c.args.z.0))
          (finished (chart (g.O.Order.places c.args.order.now) c.loop-at.nodes.list.items) c.args.x.0 c.args.z.0
          (begin_of (g.O.Order.places c.args.order.now) c.loop-at.nodes.list.items c.args.z.0)) c.args.z.0
          (slot_done_to c.args.slot.0 ((rank (g.O.Order.places c.args.order.now)) c.loop-at.at.0))
          (one_more (λ _ _. false) c.args.slot.0 ((rank (g.O.Order.places c.args.order.now)) c.loop-at.at.0)
          ((rank (g.O.Order.places c.args.order.now)) c.covering-found.result.end.0)) t.1 c.loop-at.invariant.half
          (c.rename_segment.ensures.renamed ((rank (g.O.Order.places c.args.order.now)) c.covering-found.result.end.0) seg));
      edges = λ i k m. c.rename_segment.ensures.edges ((rank (g.O.Order.places c.args.order.now)) c.covering-found.result.end.0) seg i k m ∙ c.loop-at.invariant.edges i k m;
      rows = c.rename_segment.ensures.rows;
      same = replaced_on c.args.nodes.now.list.items c.loop-at.nodes.list.items c.rename_segment.new.nodes.list.items c.loop-at.invariant.same c.rename_segment.ensures.same;
      low = omega (arith, seg.some, c.loop-at.invariant.low);
      high = top;
      begins = sym (c.loop-at.invariant.edges c.args.z.0 c.args.slot.0 ((rank (g.O.Order.places c.args.order.now)) c.covering-found.result.end.0)) ∙ seg.ends;
    }

pub returns-clause-renamed : goal.returns-clause-renamed
returns-clause-renamed g c =
    let hi : c.hi-end.result.0 ≡ hi_at c.args.nodes.now.list.items c.args.z.0 = ap (λ p. p.0) c.hi-end.ensures
    ∙ ap (λ (w : Row). w.hi.0) (c.row-2.ensures c.row-2.result.now) ∙ hi_is c.args.nodes.now.list.items c.args.z.0 c.row-2.result.now c.requires.there in
    half_whole (g.O.Order.places c.args.order.now) c.args.nodes.now.list.items c.args.z.0 c.requires.there c.requires.rows c.args.x.0 c.args.slot.0
    (chart (g.O.Order.places c.args.order.now) c.loop-at.nodes.list.items) c.requires.renamable
    (subst (λ (p : ℕ). IsHalfway (chart (g.O.Order.places c.args.order.now) c.args.nodes.now.list.items)
    (finished (chart (g.O.Order.places c.args.order.now) c.args.nodes.now.list.items) c.args.x.0 c.args.z.0
    (begin_of (g.O.Order.places c.args.order.now) c.args.nodes.now.list.items c.args.z.0))
    (chart (g.O.Order.places c.args.order.now) c.loop-at.nodes.list.items) c.args.z.0
    (slot_done_to c.args.slot.0 ((rank (g.O.Order.places c.args.order.now)) p))) (c.loop-at-test.false ∙ hi) c.loop-at.invariant.half)
