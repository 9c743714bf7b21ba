-- How a node is copied, part by part.
use Rattle.std.specs.Prelude.{◌≡◌, ℕ, ◌<◌, ◌⊎◌, true, List, [], ◌∷◌, ◌++◌, length, get_or, map, slice_set, Option, Some, None}
use Rattle.pst_base.specs.Name.{root_name}
use Rattle.pst_base.specs.Shape.{root_type}
use Rattle.pst_line_nodes.specs.declared.content.Content.{Content}
use Rattle.pst_line_nodes.specs.declared.content.Content.TheVariants.{Null}
use Rattle.pst_line_nodes.specs.Contents.{Target}
use Rattle.pst_line_nodes.specs.declared.content.Entry.{Entry}
use Rattle.pst_line_nodes.specs.Seen.{Seen}
use Rattle.pst_line_nodes.specs.Rows.{base_of}
use Rattle.pst_line_nodes.specs.Changes.{redirected, moved}
use Rattle.pst_line_nodes.specs.Nodes.{line_of, entry_of}

abbrev pub no_node : Seen
no_node = record { name = root_name; ty = root_type; home = 0; first = 0; later = None; base = []; stamped = []; inverse = [] }

-- the node with a number, or one without fields where there is none
abbrev pub node_at : List Seen → ℕ → Seen
node_at nodes i = get_or nodes i no_node

-- what the copy z of x is to hold in each field
pub record AreContents (nodes : List Seen) (x z t : ℕ) (contents : List Content) : Type 0 where
  pub width : length contents ≡ length (node_at nodes x).base
  pub each : (g : ℕ) → g < length contents → get_or contents g Null ≡ redirected (line_of (λ i. true) nodes) x z ((line_of (λ i. true) nodes).holds x g t)

-- a copy with these contents comes behind all nodes, comes after x, and has its inverse slots
abbrev pub copy_of : Seen → ℕ → List Content → Seen
copy_of n t contents = record n { first = t; later = None; base = contents; stamped = [] }

pub record IsHandedOver (old new : List Seen) (x z t : ℕ) (contents : List Content) : Type 0 where
  pub nodes : new ≡ slice_set old x (record (node_at old x) { later = Some z; inverse = [] }) ++ copy_of (node_at old x) t contents ∷ []

abbrev pub no_entry : Option Entry → Option Entry
no_entry e = None

-- a node but for what its entries are
abbrev pub bare : Seen → Seen
bare n = record n { inverse = map no_entry n.inverse }

-- the entries of x in some nodes are entries of z, and all else stays
pub record AreRenamed (old new : List Seen) (x z : ℕ) (Touched : ℕ → Type 0) : Type 0 where
  pub same : map bare new ≡ map bare old
  pub touched : (i s : ℕ) → Touched i → entry_of (node_at new i) s ≡ moved x z (entry_of (node_at old i) s)
  pub others : (i s : ℕ) → (entry_of (node_at new i) s ≡ moved x z (entry_of (node_at old i) s)) ⊎ (entry_of (node_at new i) s ≡ entry_of (node_at old i) s)

-- one of the first k fields of the node holds i from its first stamp on
pub record IsTargetBelow (n : Seen) (k i : ℕ) : Type 0 where
  pub field : ℕ
  pub below : field < k
  pub holds : base_of n field ≡ Target i
