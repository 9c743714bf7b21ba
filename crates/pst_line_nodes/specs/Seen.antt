-- What contracts see of a node.
use Rattle.std.specs.Prelude.{ℕ, List, Option}
use Rattle.pst_base.specs.declared.names.Name.{Name}
use Rattle.pst_base.specs.declared.names.TypeNo.{TypeNo}
use Rattle.pst_line_nodes.specs.declared.content.Content.{Content}
use Rattle.pst_line_nodes.specs.declared.content.StampedContent.{StampedContent}
use Rattle.pst_line_nodes.specs.declared.content.Entry.{Entry}

-- a node: its record's name and type, the first node of the record, the first stamp, the node after it, what its fields hold
-- from the first stamp on, the stamped values, and the inverse slots
pub record Seen : Type 0 where
  pub name : Name
  pub ty : TypeNo
  pub home : ℕ
  pub first : ℕ
  pub later : Option ℕ
  pub base : List Content
  pub stamped : List StampedContent
  pub inverse : List (Option Entry)
