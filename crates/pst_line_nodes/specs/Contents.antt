-- Contents and stamped contents, by the numbers of nodes, slots and stamps.
use Rattle.std.specs.Prelude.{ℕ}
use Rattle.pst_line_nodes.specs.declared.content.Content.{Content}
use Rattle.pst_line_nodes.specs.declared.content.Content.TheVariants.{Target as TargetOf}
use Rattle.pst_line_nodes.specs.declared.content.StampedContent.{StampedContent}

-- the content that leads to a node, by its number
abbrev pub Target : ℕ → Content
Target y = TargetOf (record { 0 = y })

-- a content that a slot holds from a stamp on
abbrev pub stamped_from : (slot stamp : ℕ) → Content → StampedContent
stamped_from slot t c = record { slot = record { 0 = slot }; from = record { 0 = t }; content = c }
