-- What undoing a run's writes needs of the nodes, and what it does to what a store holds.
use Rattle.std.specs.Prelude.{◌≡◌, ℕ, ◌++◌, Bool, List, Some, length}
use Rattle.pst_base.specs.declared.shape.TypeShape.{TypeShape}
use Rattle.pst_line_nodes.specs.Contents.{Target}
use Rattle.pst_line_nodes.specs.Line.{IsNewest, IsLive, IsLine}
use Rattle.pst_line_nodes.specs.Changes.{HasSameNodes, VersionsStay}
use Rattle.pst_line_nodes.specs.Seen.{Seen}
use Rattle.pst_line_nodes.specs.Nodes.{line_of, AreKept, HasSlot}
use Rattle.pst_line_nodes.specs.Carried.{AreAllOthers}
use Rattle.pst_line.specs.declared.place.Undo.{Undo}
use Rattle.pst_line.specs.declared.undo_run.Step.{Step}
use Rattle.pst_line.specs.declared.undo_run.Step.TheVariants.{Clear, Restore}
use Rattle.pst_line.specs.Store.{IsStored, IsRested}
use Rattle.pst_line.specs.Undoing.{IsNewestOf, IsPut, CanUndo, blanked}
use Rattle.pst_line.specs.Held.{Held, line_in, stored_of}
use Rattle.pst_line.specs.Entered.{line_with}

-- A record lives at the newest stamp, and its newest node has room for a pointer from the field (x, f).
pub record CanBeHeld (shape : List TypeShape) (made : ℕ → Bool) (t : ℕ) (nodes : List Seen) (x f y : ℕ) : Type 0 where
  pub live : IsLive (line_of made nodes) y t
  pub room : (z : ℕ) → IsNewestOf (line_of made nodes) t y z → AreAllOthers shape (line_of made nodes) z x f → ⊥

-- An entry can be put back into the newest node x: what is in the field now is in force from the newest stamp on, so that
-- nothing is stamped.
pub record MayPutBack (shape : List TypeShape) (made : ℕ → Bool) (t : ℕ) (nodes : List Seen) (x : ℕ) (u : Undo) : Type 0 where
  pub kept : AreKept shape t nodes
  pub line : IsLine shape t (line_of made nodes)
  pub newest : IsNewest (line_of made nodes) x
  pub slot : HasSlot nodes x u.slot.0
  pub since : (line_of made nodes).since x u.slot.0 ≡ t
  pub target : (y : ℕ) → u.content ≡ Target y → CanBeHeld shape made t nodes x u.slot.0 y

-- and is put back
pub record HasPutBack (shape : List TypeShape) (made : ℕ → Bool) (t : ℕ) (old new : List Seen) (x : ℕ) (u : Undo) : Type 0 where
  pub put : IsPut shape (line_of made old) (line_of made new) x u.slot.0 t u.content
  pub kept : AreKept shape t new

-- Whatever the record types, and whichever records are made: an entry that can be put back into x is put back.
abbrev pub IsEntryPutBack : (t : ℕ) → (old new : List Seen) → (x : ℕ) → Undo → Type 0
IsEntryPutBack t old new x u = (shape : List TypeShape) (made : ℕ → Bool) → MayPutBack shape made t old x u → HasPutBack shape made t old new x u

-- what a step of the undo gives a field
abbrev pub step_of : Step → Undo → Undo
step_of Clear u = blanked u
step_of Restore u = u

-- In the midst of an undo: with these nodes the store h, of which t is the newest stamp, is as the run had left it, but that fields
-- were given other contents; and putting back these entries completes the undo. No version, and nothing that is live at one, changes.
pub record IsGoing (h : Held) (nodes : List Seen) (t : ℕ) (es : List Undo) : Type 0 where
  pub stamp : t ≡ length h.versions
  pub begun : ℕ
  pub opened : h.opened ≡ Some begun
  pub stored : IsStored (stored_of (record h { nodes = nodes }))
  pub rested : IsRested (stored_of (record h { nodes = nodes }))
  pub can : CanUndo (stored_of (record h { nodes = nodes })) begun es
  pub kept : AreKept h.shape (length h.versions) nodes
  pub stay : VersionsStay h.shape (length h.versions) (line_in h) (line_with h nodes)
  pub same : HasSameNodes (line_in h) (line_with h nodes)

-- These entries can be put back, whatever is to be put back behind them,
abbrev pub MayTake : List Seen → ℕ → List Undo → Type 0
MayTake nodes t es = (h : Held) × (rest : List Undo) × IsGoing h nodes t (es ++ rest)

-- and are put back.
abbrev pub HasTaken : List Seen → List Seen → ℕ → List Undo → Type 0
HasTaken old new t es = (h : Held) (rest : List Undo) → IsGoing h old t (es ++ rest) → IsGoing h new t rest
