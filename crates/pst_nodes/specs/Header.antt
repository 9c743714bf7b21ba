-- What a node has beside its row, and the two parts in which its optional nodes are kept.
use Rattle.std.specs.Prelude.{Bool, true, false, Option, Some, None}
use Rattle.pst_base.specs.declared.names.Name.{Name}
use Rattle.pst_base.specs.declared.names.NodeId.{NodeId}
use Rattle.pst_base.specs.declared.names.TypeNo.{TypeNo}
use Rattle.pst_nodes.specs.declared.links.Link.{Link}
use Rattle.pst_nodes.specs.declared.links.Link.TheVariants as link
use Rattle.pst_nodes.specs.declared.header.Wait.{Wait}
use Rattle.pst_nodes.specs.declared.header.Wait.TheVariants.{Out, Last, Before}

-- the record, its type, the next node of the record, and the link of the queue
pub record HeaderValue : Type 0 where
  pub name : Name
  pub ty : TypeNo
  pub later : Option NodeId
  pub link : Link

-- a node, or none
abbrev pub later_of : Bool → NodeId → Option NodeId
later_of true later = Some later
later_of false later = None

-- a link, with the node that comes next
abbrev pub link_of : Wait → NodeId → Link
link_of Out next = link.Out
link_of Last next = link.Last
link_of Before next = link.Before next
