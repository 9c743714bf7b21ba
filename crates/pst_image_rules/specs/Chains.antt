-- The nodes of one record in a chain: each behind the other in the order of places (the node copies of Driscoll, Sarnak, Sleator and
-- Tarjan), so that a number of one of them stands for the record.
use Rattle.std.specs.Prelude.{◌≡◌, ◌≢◌, ℕ, zero, suc, ◌+◌, ◌-◌, ◌<◌, ◌≤◌, List, length, get_or, ◌⊎◌}
use Rattle.pst_base.specs.declared.names.Name.{Name}
use Rattle.pst_image_form.specs.declared.parts.NodePart.{NodePart}
use Rattle.pst_image_rules.specs.declared.ends.Chain.{Chain}
use Rattle.pst_image_rules.specs.Nodes.{node_at}

-- the name of the root record, and of one record
pub record IsRootName (n : Name) : Type 0 where
  pub run : n.run.0 ≡ 0
  pub ordinal : n.ordinal ≡ 0

pub record IsSameName (a b : Name) : Type 0 where
  pub run : a.run.0 ≡ b.run.0
  pub ordinal : a.ordinal ≡ b.ordinal

-- So many steps along a chain lead from one node to another one.
abbrev pub LeadsBy : List NodePart → ℕ → ℕ → ℕ → Type 0
LeadsBy ks zero i k = i ≡ k
LeadsBy ks (suc n) i k = (j : ℕ) × ((node_at ks i).later ≡ suc j) × LeadsBy ks n j k

-- following the chain from one node leads to another one, or it is that one
abbrev pub Leads : List NodePart → ℕ → ℕ → Type 0
Leads ks i k = (n : ℕ) × LeadsBy ks n i k

-- the first node is the root record's first one
pub record IsRootNode (k : NodePart) : Type 0 where
  pub name : IsRootName k.name
  pub ty : k.ty.0 ≡ 0
  pub lo : k.lo ≡ 0

-- the node behind another one of a record: it begins where that one ends
pub record IsNext (k next : NodePart) : Type 0 where
  pub name : IsSameName k.name next.name
  pub ty : next.ty.0 ≡ k.ty.0
  pub lo : next.lo ≡ k.hi

-- Run 0 and type 0 are for the root record alone, each other run is one that was, and the root record lives to the last place.
pub record IsNamed (places next_run : ℕ) (k : NodePart) : Type 0 where
  pub run : k.name.run.0 < next_run
  pub root_run : k.name.run.0 ≡ 0 → IsRootName k.name
  pub root_type : k.ty.0 ≡ 0 → IsRootName k.name
  pub last : IsRootName k.name → k.later ≡ 0 → k.hi ≡ places - 1

abbrev pub AreNamed : ℕ → ℕ → List NodePart → Type 0
AreNamed places next_run ks = (i : ℕ) → i < length ks → IsNamed places next_run (node_at ks i)

-- the nodes of each record stand in one chain
pub record AreChained (places next_run : ℕ) (ks : List NodePart) : Type 0 where
  pub root : IsRootNode (node_at ks 0)
  pub named : AreNamed places next_run ks
  pub there : (i j : ℕ) → i < length ks → (node_at ks i).later ≡ suc j → j < length ks
  pub next : (i j : ℕ) → i < length ks → (node_at ks i).later ≡ suc j → IsNext (node_at ks i) (node_at ks j)
  -- the nodes of one record stand in one chain
  pub one : (i j : ℕ) → i < length ks → j < length ks → IsSameName (node_at ks i).name (node_at ks j).name → Leads ks i j ⊎ Leads ks j i

-- each node lives
abbrev pub HaveLives : List NodePart → Type 0
HaveLives ks = (i : ℕ) → i < length ks → (node_at ks i).lo < (node_at ks i).hi

-- each node ends at a place below a number
abbrev pub EndBelow : ℕ → List NodePart → Type 0
EndBelow places ks = (i : ℕ) → i < length ks → (node_at ks i).hi < places

-- ---- what chains give

-- a head: no node leads to it
abbrev pub IsHead : List NodePart → ℕ → Type 0
IsHead ks i = (m : ℕ) → m < length ks → (node_at ks m).later ≡ suc i → ⊥

-- the chain in which a node stands has a head and a last node
pub record HasEnds (ks : List NodePart) (i : ℕ) : Type 0 where
  pub head : ℕ
  pub last : ℕ
  pub head_there : head < length ks
  pub last_there : last < length ks
  pub is_head : IsHead ks head
  pub is_last : (node_at ks last).later ≡ 0
  pub from_head : Leads ks head i
  pub to_last : Leads ks i last

-- two nodes that are there are of one record
pub record AreOfOneRecord (ks : List NodePart) (i j : ℕ) : Type 0 where
  pub first : i < length ks
  pub second : j < length ks
  pub name : IsSameName (node_at ks i).name (node_at ks j).name

-- the life of one node ends no later than that of another one begins
abbrev pub EndsBefore : List NodePart → ℕ → ℕ → Type 0
EndsBefore ks i j = (node_at ks i).hi ≤ (node_at ks j).lo

-- Nodes of one record live apart; the last one of a chain ends after all others of its record; and each chain has its ends.
pub record AreInOrder (ks : List NodePart) : Type 0 where
  pub apart : (i j : ℕ) → AreOfOneRecord ks i j → i ≢ j → EndsBefore ks i j ⊎ EndsBefore ks j i
  pub last : (i j : ℕ) → AreOfOneRecord ks i j → (node_at ks i).later ≡ 0 → (node_at ks j).hi ≤ (node_at ks i).hi
  pub ends : (i : ℕ) → i < length ks → HasEnds ks i

-- so it is in chains of nodes that live, and that end before some place
abbrev pub ChainsAreInOrder : Type 0
ChainsAreInOrder = (places next_run : ℕ) (ks : List NodePart) → HaveLives ks → EndBelow places ks → AreChained places next_run ks → AreInOrder ks

-- ---- the list of chains

-- nodes in chains, for some number of places and of runs
abbrev pub AreInChains : List NodePart → Type 0
AreInChains ks = (places : ℕ) × ((next_run : ℕ) × AreChained places next_run ks)

-- for a chain that is not there
abbrev pub no_chain : Chain
no_chain = record { head = record { 0 = 0 }; last = record { 0 = 0 } }

-- the chain with a number
abbrev pub chain_at : List Chain → ℕ → Chain
chain_at chains k = get_or chains k no_chain

-- a chain by its ends: following it from its head leads to its last node
pub record IsChain (ks : List NodePart) (c : Chain) : Type 0 where
  pub head_there : c.head.0 < length ks
  pub last_there : c.last.0 < length ks
  pub is_head : IsHead ks c.head.0
  pub is_last : (node_at ks c.last.0).later ≡ 0
  pub leads : Leads ks c.head.0 c.last.0

-- a node stands in one of the chains
pub record IsInChain (ks : List NodePart) (chains : List Chain) (i : ℕ) : Type 0 where
  pub index : ℕ
  pub there : index < length chains
  pub from_head : Leads ks (chain_at chains index).head.0 i
  pub to_last : Leads ks i (chain_at chains index).last.0

-- the chains of the nodes, each once, in the order of their heads
pub record AreChains (ks : List NodePart) (chains : List Chain) : Type 0 where
  pub each : (k : ℕ) → k < length chains → IsChain ks (chain_at chains k)
  pub rising : (k : ℕ) → k + 1 < length chains → (chain_at chains k).head.0 < (chain_at chains (k + 1)).head.0
  pub all : (i : ℕ) → i < length ks → IsInChain ks chains i
