-- What a store sees of a list of nodes: all but the links of the queue and the room in the rows.
use Rattle.std.specs.Prelude.{◌≡◌, ℕ, List, map}
use Rattle.pst_base.specs.declared.shape.TypeShape.{TypeShape}
use Rattle.pst_order.specs.Places.{rank}
use Rattle.pst_rows.specs.Rows.{shown}
use Rattle.pst_mirror.specs.Charts.{chart_of}
use Rattle.pst_nodes.specs.declared.node.Node.{Node}
use Rattle.pst_nodes.specs.declared.node.Nodes.{Nodes}
use Rattle.pst_nodes.specs.Arena.{chart}
use Rattle.pst_repair.specs.Load.{IsSound}
use Rattle.pst_repair.specs.Split.{IsSplit}
use Rattle.pst_store_meaning.specs.Store.{Node as Seen}
use Rattle.pst_store_meaning.specs.Steps.{IsSplitStep}

abbrev pub seen_node : Node → Seen
seen_node n = record { head = record { name = n.header.name; ty = n.header.ty; later = n.header.later }; row = shown n.row }

abbrev pub seen : List Node → List Seen
seen ns = map seen_node ns

-- the same of all nodes of an arena
abbrev pub seen_in : Nodes → List Seen
seen_in nodes = seen nodes.list.items

-- the chart of what is seen is the chart of the nodes
abbrev pub SeenChartLaw : Type 0
SeenChartLaw = (qs : List ℕ) (ns : List Node) → chart_of (rank qs) (map (λ (n : Seen). n.row) (seen ns)) ≡ chart qs ns

-- a split of the arena is a step of a store's repair
abbrev pub SplitsAreSteps : Type 0
SplitsAreSteps = (types : List TypeShape) (qs : List ℕ) (old new : List Node) (x z n : ℕ) → IsSplit types qs old new x z n → IsSound types qs new → IsSplitStep types qs (seen old) (seen new)
