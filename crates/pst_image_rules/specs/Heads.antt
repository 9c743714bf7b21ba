-- How chains are found: each node is entered by at most one other, and those that none enters are the heads.
use Rattle.std.specs.Prelude.{◌≡◌, ℕ, suc, ◌+◌, ◌<◌, get_or, Bool, true, false, List, length, slice_index_or, Option, Some, None}
use Rattle.std.specs.List.{Contains}
use Rattle.pst_image_form.specs.declared.parts.NodePart.{NodePart}
use Rattle.pst_image_rules.specs.Nodes.{node_at}
use Rattle.pst_image_rules.specs.declared.heads.Head.{Head}
use Rattle.pst_image_rules.specs.declared.ends.Chain.{Chain}
use Rattle.pst_image_rules.specs.Chains.{IsSameName, IsNext, Leads, chain_at, IsChain}

-- the nodes below `seen` lead to nodes that are there and fit, each to one of its own
pub record AreLinked (ks : List NodePart) (seen : ℕ) : Type 0 where
  pub there : (i j : ℕ) → i < seen → (node_at ks i).later ≡ suc j → j < length ks
  pub next : (i j : ℕ) → i < seen → (node_at ks i).later ≡ suc j → IsNext (node_at ks i) (node_at ks j)
  pub once : (i k j : ℕ) → i < seen → k < seen → (node_at ks i).later ≡ suc j → (node_at ks k).later ≡ suc j → i ≡ k

abbrev pub is_marked : List Bool → ℕ → Bool
is_marked marks j = slice_index_or marks j false

-- which nodes those below `seen` lead to
pub record AreMarked (ks : List NodePart) (seen : ℕ) (marks : List Bool) : Type 0 where
  pub wide : length marks ≡ length ks
  pub each : (i j : ℕ) → i < seen → (node_at ks i).later ≡ suc j → is_marked marks j ≡ true
  pub only : (j : ℕ) → is_marked marks j ≡ true → (i : ℕ) × (i < seen) × ((node_at ks i).later ≡ suc j)

-- node i can lead to node j, which no other one leads to
pub record CanLead (ks : List NodePart) (marks : List Bool) (i j : ℕ) : Type 0 where
  pub there : j < length ks
  pub free : is_marked marks j ≡ false
  pub next : IsNext (node_at ks i) (node_at ks j)

-- what marking finds, or that it is not to be
abbrev pub IsMarking : List NodePart → Option (List Bool) → Type 0
IsMarking ks None = AreLinked ks (length ks) → ⊥
IsMarking ks (Some marks) = AreLinked ks (length ks) × AreMarked ks (length ks) marks

-- a head by the name of its record and its number
abbrev pub head_at : List NodePart → ℕ → Head
head_at ks i = record { name = (node_at ks i).name; node = i }

-- the heads among the nodes below `seen`
pub record AreHeads (ks : List NodePart) (marks : List Bool) (seen : ℕ) (heads : List Head) : Type 0 where
  pub each : (i : ℕ) → i < seen → is_marked marks i ≡ false → Contains heads (head_at ks i)
  pub only : (h : Head) → Contains heads h → (h.node < seen) × (is_marked marks h.node ≡ false) × (h ≡ head_at ks h.node)

-- two heads of one name are one
pub record IsApart (g h : Head) : Type 0 where
  pub same : IsSameName g.name h.name → g.node ≡ h.node

-- no two of them have one name
abbrev pub HaveOwnNames : List Head → Type 0
HaveOwnNames heads = (g h : Head) → Contains heads g → Contains heads h → IsSameName g.name h.name → g.node ≡ h.node

-- for a head that is not there
abbrev pub no_head : Head
no_head = record { name = record { run = record { 0 = 0 }; ordinal = 0 }; node = 0 }

-- no two neighbours have one name
abbrev pub AreNeighboursApart : List Head → Type 0
AreNeighboursApart heads = (k : ℕ) → k + 1 < length heads → IsApart (get_or heads k no_head) (get_or heads (k + 1) no_head)

-- ---- the ends of chains

-- the last node that following the chain from a node leads to
pub record IsLastOf (ks : List NodePart) (i last : ℕ) : Type 0 where
  pub there : last < length ks
  pub none : (node_at ks last).later ≡ 0
  pub leads : Leads ks i last

-- one of the chains has this head
pub record HasHeadAt (chains : List Chain) (i : ℕ) : Type 0 where
  pub index : ℕ
  pub there : index < length chains
  pub is : (chain_at chains index).head.0 ≡ i

-- the chains of the heads among the nodes below `seen`
pub record AreChainsTo (ks : List NodePart) (marks : List Bool) (seen : ℕ) (chains : List Chain) : Type 0 where
  pub each : (k : ℕ) → k < length chains → IsChain ks (chain_at chains k)
  pub below : (k : ℕ) → k < length chains → (chain_at chains k).head.0 < seen
  pub rising : (k : ℕ) → k + 1 < length chains → (chain_at chains k).head.0 < (chain_at chains (k + 1)).head.0
  pub all : (i : ℕ) → i < seen → is_marked marks i ≡ false → HasHeadAt chains i
