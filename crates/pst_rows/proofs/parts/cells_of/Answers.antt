use Rattle.std.proofs.Common.{List, sym, ◌∙◌, subst}
use Rattle.pst_rows.specs.declared.content.Stamp.{Stamp}
use Rattle.pst_rows.specs.Parts.{AreBare}
use Rattle.pst_rows.specs.Steps.{AreRecounted}
use Rattle.pst_rows.proofs.OfPartsLemmas.{bare, all_made}
use Rattle.pst_rows.proofs.parts.cells_of.Goals as goal

pub recount-requires : goal.recount-requires
recount-requires c = subst AreBare (sym (c.in_ok-put_stamps.ensures.slots ∙ c.in_ok-put_bare.ensures.slots)) (bare c.args.bases.now)

pub returns-clause-slots : goal.returns-clause-slots
returns-clause-slots c =
    all_made c.args.bases.now c.args.stamps.now c.put_stamps.new.cells.slots c.recount.new.cells.slots (c.in_ok-put_stamps.ensures.slots ∙ c.in_ok-put_bare.ensures.slots)
    (subst (λ (xs : List Stamp). AreRecounted c.put_stamps.new.cells.slots c.recount.new.cells.slots xs) c.in_ok-put_stamps.ensures.stamps c.recount.ensures.slots)
