use Rattle.std.proofs.Common.{◌≡◌, ℕ, ◌-◌, List, length, refl, sym, ap, ◌∙◌, arith, subst}
use Rattle.pst_order.specs.Places.{rank}
use Rattle.pst_order.specs.Search.{AreRising, IsPartition, IsFewMore}
use Rattle.pst_rows.specs.declared.content.Stamp.{Stamp}
use Rattle.pst_rows.specs.Values.{no_slot}
use Rattle.pst_rows.specs.Rows.{stamped_in}
use Rattle.pst_rows.specs.Steps.{places_of}
use Rattle.pst_rows.proofs.CountLemmas.{before_slot_step}
use Rattle.pst_rows.proofs.PartLemmas.{has_parts, part_ordered, part_rising, part_located, empty_partition}
use Rattle.pst_rows.proofs.BareLemmas.{read_bare}
use Rattle.pst_rows.proofs.ReadLemmas.{read_base, read_last}
use Rattle.pst_rows.proofs.row.Row.held_with.Goals as goal
use Rattle.pst_rows.proofs.row.Row.held_with.Goals.{then-start-stop+else-start-index, else-start-stop}

pub part-start-requires-clause-parts : goal.part-start-requires-clause-parts
part-start-requires-clause-parts g c = has_parts (rank (g.P.Compare.list c.args.compare.now)) (length (g.P.Compare.list c.args.compare.now)) c.args.self.now c.requires.row

pub partition-index-requires-clause-rising : goal.partition-index-requires-clause-rising
partition-index-requires-clause-rising g c =
    let list : List ℕ = g.P.Compare.list c.args.compare.now in
    subst (λ (xs : List Stamp). AreRising list (places_of xs) c.part-start.result.0 c.part-start.result.1) (sym c.stamps-stamps.ensures)
    (part_rising list (rank list c.args.self.now.lo.0) (rank list c.args.self.now.hi.0) (length c.args.self.now.cells.slots)
    c.args.self.now.cells.stamps c.requires.row.stamps c.requires.row.there c.args.slot.0 c.part-start.result.0 c.part-start.result.1
    c.part-start.ensures.start c.part-start.ensures.stop)

pub returns-then-is_bare-clause-content : goal.returns-then-is_bare-clause-content
returns-then-is_bare-clause-content g c = c.first.ensures ∙ read_bare (g.P.Compare.list c.args.compare.now) c.args.self.now c.args.slot.0 c.args.at.0
    c.requires.row c.requires.slot (c.is_bare.ensures c.if-is_bare.true)

pub returns-then-start-index-clause-content : goal.returns-then-start-index-clause-content
returns-then-start-index-clause-content g c =
    let list : List ℕ = g.P.Compare.list c.args.compare.now in
    let found : IsPartition list (places_of c.args.self.now.cells.stamps) c.part-start.result.0 c.part-start.result.1 c.args.at.0
    c.partition-index.result = subst (λ (xs : List Stamp). IsPartition list (places_of xs) c.part-start.result.0 c.part-start.result.1 c.args.at.0
    c.partition-index.result) c.stamps-stamps.ensures c.partition-index.ensures.found in
    ap (λ (e : Stamp). e.content) c.index-stamps-index.is ∙ read_last (rank list) (length list) c.args.self.now c.args.slot.0 (rank list c.args.at.0)
    c.part-start.result.0 c.partition-index.result c.part-start.result.1 c.requires.row
    (part_located list (rank list c.args.self.now.lo.0) (rank list c.args.self.now.hi.0) (length c.args.self.now.cells.slots)
    c.args.self.now.cells.stamps c.requires.row.stamps c.requires.row.there c.args.slot.0 c.part-start.result.0 c.part-start.result.1
    c.part-start.ensures.start c.part-start.ensures.stop c.args.at.0 c.partition-index.result found)
    c.stamps-stamps.result.now _ c.stamps-stamps.ensures c.if-start-index.true

pub returns-then-start-index-clause-calls : goal.returns-then-start-index-clause-calls
returns-then-start-index-clause-calls g c =
    let n : c.part-start.result.1 - c.part-start.result.0 ≡ stamped_in c.args.self.now c.args.slot.0 =
    omega (arith, c.part-start.ensures.start, c.part-start.ensures.stop, before_slot_step c.args.self.now.cells.stamps c.args.slot.0) in
    subst (λ (k : ℕ). IsFewMore k (g.P.Compare.calls c.args.compare.now) (g.P.Compare.calls c.partition-index.new.compare)) n c.partition-index.ensures.calls

pub returns-clause-content : goal.returns-clause-content
returns-clause-content g c =
    let list : List ℕ = g.P.Compare.list c.args.compare.now in
    elim c.if-start-stop.branch [
      | then-start-stop+else-start-index w ↦
          let found : IsPartition list (places_of c.args.self.now.cells.stamps) c.part-start.result.0 c.part-start.result.1 c.args.at.0
          w.partition-index.result = subst (λ (xs : List Stamp). IsPartition list (places_of xs) c.part-start.result.0 c.part-start.result.1
          c.args.at.0 w.partition-index.result) w.stamps-stamps.ensures w.partition-index.ensures.found in
          let same : w.partition-index.result ≡ c.part-start.result.0 = omega (arith, w.if-start-index.false, found.low) in
          c.first-2.ensures ∙ read_base (rank list) (length list) c.args.self.now c.args.slot.0 (rank list c.args.at.0) c.part-start.result.0
          w.partition-index.result c.part-start.result.1 c.requires.row
          (part_located list (rank list c.args.self.now.lo.0) (rank list c.args.self.now.hi.0) (length c.args.self.now.cells.slots)
          c.args.self.now.cells.stamps c.requires.row.stamps c.requires.row.there c.args.slot.0 c.part-start.result.0 c.part-start.result.1
          c.part-start.ensures.start c.part-start.ensures.stop c.args.at.0 w.partition-index.result found)
          c.args.self.now.cells.slots c.args.slot.0 no_slot refl refl c.requires.slot same
      | else-start-stop w ↦
          let found : IsPartition list (places_of c.args.self.now.cells.stamps) c.part-start.result.0 c.part-start.result.1 c.args.at.0
          c.part-start.result.0 = empty_partition list (places_of c.args.self.now.cells.stamps) c.part-start.result.0 c.part-start.result.1
          c.args.at.0 (part_ordered list (rank list c.args.self.now.lo.0) (rank list c.args.self.now.hi.0) (length c.args.self.now.cells.slots)
          c.args.self.now.cells.stamps c.requires.row.stamps c.requires.row.there c.args.slot.0 c.part-start.result.0 c.part-start.result.1
          c.part-start.ensures.start c.part-start.ensures.stop) w.if-start-stop.false in
          c.first-2.ensures ∙ read_base (rank list) (length list) c.args.self.now c.args.slot.0 (rank list c.args.at.0) c.part-start.result.0 c.part-start.result.0 c.part-start.result.1 c.requires.row
          (part_located list (rank list c.args.self.now.lo.0) (rank list c.args.self.now.hi.0) (length c.args.self.now.cells.slots)
          c.args.self.now.cells.stamps c.requires.row.stamps c.requires.row.there c.args.slot.0 c.part-start.result.0 c.part-start.result.1
          c.part-start.ensures.start c.part-start.ensures.stop c.args.at.0 c.part-start.result.0 found)
          c.args.self.now.cells.slots c.args.slot.0 no_slot refl refl c.requires.slot refl
    ]

pub returns-clause-calls : goal.returns-clause-calls
returns-clause-calls g c =
    let n : c.part-start.result.1 - c.part-start.result.0 ≡ stamped_in c.args.self.now c.args.slot.0 =
    omega (arith, c.part-start.ensures.start, c.part-start.ensures.stop, before_slot_step c.args.self.now.cells.stamps c.args.slot.0) in
    elim c.if-start-stop.branch [
      | then-start-stop+else-start-index w ↦
          rw w.compare-is (subst (λ (k : ℕ). IsFewMore k (g.P.Compare.calls c.args.compare.now) (g.P.Compare.calls w.partition-index.new.compare)) n w.partition-index.ensures.calls)
      | else-start-stop w ↦
          rw w.compare-is (record { more = 0; count = omega arith; few = omega arith })
    ]
