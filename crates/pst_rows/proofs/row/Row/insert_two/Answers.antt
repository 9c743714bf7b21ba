use Rattle.std.proofs.Common.{List, sym, subst, ◌+◌, ◌^◌, ◌<◌, arith}
use Rattle.std.specs.Prelude.{All}
use Rattle.pst_rows.specs.Slots.{SlotValue as Slot}
use Rattle.pst_rows.proofs.PartLemmas.{start_few}
use Rattle.pst_rows.proofs.row.Row.insert_two.Goals as goal

pub raise_starts-requires : goal.raise_starts-requires
raise_starts-requires c = record {
  few = subst (λ (ss : List Slot). All (λ (s : Slot). s.start + 2 < 2 ^ 32) ss) (sym c.insert_two.ensures.slots)
      (λ k d l. start_few c.args.self.now.cells.slots c.args.self.now.cells.stamps 2 k d c.requires.parts.starts l
      (omega (arith, c.requires.spare, c.insert_two.ensures.most, c.insert_two.ensures.capacity)));
}
