-- What the machine reads of a content.
use Rattle.std.specs.Prelude.{ℤ, pos, Option, None, Some}
use Rattle.pst_base.specs.declared.names.NodeId.{NodeId}
use Rattle.pst_rows.specs.declared.content.Content.{Content}
use Rattle.pst_rows.specs.declared.content.Content.TheVariants.{Number, Null, Target, Free, From}

-- the number that is held, or 0 where none is
abbrev pub number : Content → ℤ
number (Number n) = n
number Null = pos 0
number (Target y) = pos 0
number Free = pos 0
number (From y f) = pos 0

-- the node that is pointed to, if one is
abbrev pub target : Content → Option NodeId
target (Number n) = None
target Null = None
target (Target y) = Some y
target Free = None
target (From x f) = None
