-- What a contract sees of a stamped value.
use Rattle.pst_base.specs.declared.names.SlotNo.{SlotNo}
use Rattle.pst_order.specs.declared.order.Pos.{Pos}
use Rattle.pst_rows.specs.declared.content.Content.{Content}

-- whose content it is, from where on it is held, and what is held
pub record StampValue : Type 0 where
  pub slot : SlotNo
  pub place : Pos
  pub content : Content

-- the same content of the same slot, from another place on
abbrev pub at_place : StampValue → Pos → StampValue
at_place s place = record { slot = s.slot; place = place; content = s.content }
