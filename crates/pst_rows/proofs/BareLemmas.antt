use Rattle.std.proofs.Common.{◌≡◌, ℕ, ◌+◌, ◌<◌, ◌≤◌, List, length, get_or, refl, ◌∙◌, ⊎_elim, arith}
use Rattle.std.proofs.lemmas.Bool.{cases_lt}
use Rattle.pst_order.specs.Places.{rank}
use Rattle.pst_rows.specs.declared.row.Row.{Row}
use Rattle.pst_rows.specs.Cells.{IsPart, IsBare}
use Rattle.pst_rows.specs.Values.{no_slot, before_slot}
use Rattle.pst_rows.specs.Rows.{width_of, base_of, content_at, IsRowIn}
use Rattle.pst_rows.specs.Steps.{HasParts}
use Rattle.pst_rows.proofs.PartLemmas.{has_parts, part_located, last_stop, empty_partition}
use Rattle.pst_rows.proofs.ReadLemmas.{read_base}

-- where the part of a slot begins and ends
pub part_start : (row : Row) (slot start stop : ℕ) → HasParts row → slot < width_of row → IsPart row.cells slot start stop → start ≡ before_slot row.cells.stamps slot
part_start row slot start stop parts l part = part.begin ∙ parts.starts slot l

pub part_stop : (row : Row) (slot start stop : ℕ) → HasParts row → slot < width_of row → IsPart row.cells slot start stop → stop ≡ before_slot row.cells.stamps (slot + 1)
part_stop row slot start stop parts l part =
    ⊎_elim
    (λ (k : slot + 1 < width_of row). part.next k ∙ parts.starts (slot + 1) k)
    (λ (k : width_of row ≤ slot + 1). part.last (omega arith) ∙ last_stop row.cells.slots row.cells.stamps slot parts.slots_there l k)
    (cases_lt (slot + 1) (width_of row))

-- a slot with no stamps holds its base
pub read_bare : (list : List ℕ) (row : Row) (slot at : ℕ) → IsRowIn list row → slot < width_of row → IsBare row.cells slot → base_of row slot ≡ content_at (rank list) row slot (rank list at)
read_bare list row slot at is l bare =
    let parts : HasParts row = has_parts (rank list) (length list) row is in
    let start : ℕ = (get_or row.cells.slots slot no_slot).start in
    let begins : start ≡ before_slot row.cells.stamps slot = part_start row slot start start parts l bare in
    let ends : start ≡ before_slot row.cells.stamps (slot + 1) = part_stop row slot start start parts l bare in
    read_base (rank list) (length list) row slot (rank list at) start start start is
    (part_located list (rank list row.lo.0) (rank list row.hi.0) (length row.cells.slots) row.cells.stamps is.stamps is.there slot start start begins
    ends at start (empty_partition list _ start start at (omega arith) (omega arith)))
    row.cells.slots slot no_slot refl refl l refl
