-- What a store that is started holds, and what it keeps.
use Rattle.std.specs.Prelude.{◌≡◌, ⊤, ℕ, suc, ◌<◌, ◌≤◌, ◌^◌, Bool, true, false, List, [], ◌∷◌, length, Option, Some, None}
use Rattle.pst_base.specs.declared.names.Counts.{Counts}
use Rattle.pst_base.specs.declared.names.NodeId.{NodeId}
use Rattle.pst_base.specs.declared.shape.TypeShape.{TypeShape}
use Rattle.pst_line_nodes.specs.declared.content.Content.{Content}
use Rattle.pst_line_nodes.specs.declared.content.Content.TheVariants.{Number, Null, Target as TargetOf}
use Rattle.pst_line_nodes.specs.Line.{Line}
use Rattle.pst_line_nodes.specs.Seen.{Seen}
use Rattle.pst_line_nodes.specs.Nodes.{line_of, AreKept}
use Rattle.pst_line.specs.declared.place.Stretch.{Stretch}
use Rattle.pst_line.specs.declared.place.Undo.{Undo}
use Rattle.pst_line.specs.declared.place.LinePlace.{LinePlace}
use Rattle.pst_line.specs.Store.{Stored, is_made, in_stretch, state_of, IsStored, IsRested, IsClosed}
use Rattle.pst_versions.specs.State.{State}
use Rattle.pst_line.specs.Undoing.{CanUndo, plan}
use Rattle.pst_line.specs.Noted.{IsOnce}

-- the record types; the nodes; what the fields had that the open run has written, the one that it wrote first standing last; the stretches of the versions; how many
-- nodes there were when the open run began; whether a store of it answered Memory; what was made and written; and a node of the
-- root record
pub record Held : Type 0 where
  pub shape : List TypeShape
  pub nodes : List Seen
  pub undo : List Undo
  pub versions : List Stretch
  pub opened : Option ℕ
  pub failed : Bool
  pub counts : Counts
  pub root : NodeId

-- the nodes as laws see them
abbrev pub line_in : Held → Line
line_in h = line_of (is_made h.versions h.opened) h.nodes

abbrev pub stored_of : Held → Stored
stored_of h = record { shape = h.shape; line = line_in h; versions = h.versions; opened = h.opened; failed = h.failed; counts = h.counts }

-- each count is at most 2^60, so that their sum fits 64 bits
pub record AreCounted (counts : Counts) : Type 0 where
  pub records : counts.records ≤ 2 ^ 60
  pub pointer_writes : counts.pointer_writes ≤ 2 ^ 60
  pub value_writes : counts.value_writes ≤ 2 ^ 60

-- A node of the root record, whose first node has number 0, that is live at a stamp.
pub record IsRootAt (nodes : List Seen) (n : ℕ) (i : NodeId) : Type 0 where
  pub there : i.0 < length nodes
  pub home : (line_of (λ x. true) nodes).home i.0 ≡ 0
  pub begun : (line_of (λ x. true) nodes).first i.0 ≤ n

-- each version, of which the first one here has number v, has such a node
abbrev pub HaveRoots : List Seen → ℕ → List Stretch → Type 0
HaveRoots nodes v [] = ⊤
HaveRoots nodes v (r ∷ rs) = IsRootAt nodes v r.root × HaveRoots nodes (suc v) rs

-- What is so of a store between two calls, also after want of memory. Unless that came, it is at rest, and the open run can be
-- undone.
pub record IsHeld (h : Held) : Type 0 where
  pub stored : IsStored (stored_of h)
  pub some : 0 < length h.versions
  pub few : length h.versions ≤ 4294967295
  pub rooted : in_stretch h.versions 0 ≡ true
  pub kept : AreKept h.shape (length h.versions) h.nodes
  pub rested : h.failed ≡ false → IsRested (stored_of h)
  pub closed : h.opened ≡ None → IsClosed (stored_of h)
  pub whole : h.opened ≡ None → h.failed ≡ false
  pub empty : h.opened ≡ None → h.undo ≡ []
  pub undone : (b : ℕ) → h.opened ≡ Some b → h.failed ≡ false → CanUndo (stored_of h) b (plan h.undo)
  pub once : IsOnce h.undo
  pub counted : AreCounted h.counts
  pub roots : HaveRoots h.nodes 0 h.versions
  pub root : IsRootAt h.nodes (length h.versions) h.root

-- the node that a content holds
abbrev pub target : Content → Option NodeId
target (Number n) = None
target Null = None
target (TargetOf y) = Some y

-- ---- a store that may not be started yet

-- an empty store has no version and no node
abbrev pub empty_held : Held
empty_held = record {
  shape = [];
  nodes = [];
  undo = [];
  versions = [];
  opened = None;
  failed = false;
  counts = record { records = 0; pointer_writes = 0; value_writes = 0 };
  root = record { 0 = 0 };
}

abbrev pub stored_in : Option Held → Stored
stored_in None = stored_of empty_held
stored_in (Some h) = stored_of h

abbrev pub undo_in : Option Held → List Undo
undo_in None = []
undo_in (Some h) = h.undo

abbrev pub state_in : Option Held → State LinePlace NodeId
state_in None = state_of (stored_of empty_held)
state_in (Some h) = state_of (stored_of h)
