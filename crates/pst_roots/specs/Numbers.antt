-- The numbers of nodes.
use Rattle.std.specs.Prelude.{ℕ, List, map}
use Rattle.pst_base.specs.declared.names.NodeId.{NodeId}

abbrev pub numbers : List NodeId → List ℕ
numbers ids = map (λ (i : NodeId). i.0) ids
