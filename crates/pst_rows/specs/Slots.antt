-- What a contract sees of a slot.
use Rattle.std.specs.Prelude.{ℕ}
use Rattle.pst_rows.specs.declared.content.Content.{Content}

-- what a slot holds from the begin of the life on, and where its stamps begin
pub record SlotValue : Type 0 where
  pub content : Content
  pub start : ℕ
