-- What copies and redirections do: the record of each node stays, and no heap changes.
-- Letters: w is a line, c, i, x, y and z nodes, f and g fields, s and u inverse slots, t the newest stamp.
use Rattle.std.specs.Prelude.{◌≡◌, ◌≢◌, ℕ, ◌+◌, ◌<◌, ◌≤◌, ◌⊎◌, List, Bool, true, false, Some, None, length}
use Rattle.pst_base.specs.declared.names.Name.{Name}
use Rattle.pst_base.specs.declared.names.TypeNo.{TypeNo}
use Rattle.pst_base.specs.declared.shape.TypeShape.{TypeShape}
use Rattle.pst_base.specs.Shape.{type_at}
use Rattle.pst_line_nodes.specs.declared.content.Content.{Content}
use Rattle.pst_line_nodes.specs.Contents.{Target}
use Rattle.pst_line_nodes.specs.Line.{Line, IsNewest, IsLine, heap_at, most, load}
use Rattle.pst_line_nodes.specs.Changes.{VersionsStay, IsNulled, IsPointed, IsCopied, IsMade}
use Rattle.pst_line_nodes.specs.Seen.{Seen}
use Rattle.pst_line_nodes.specs.Nodes.{line_of, AreKept, IsFieldSet}
use Rattle.pst_line_nodes.specs.Full.{is_other_entry}

-- what is in a field of a record's newest node is in force from the newest stamp on
abbrev pub IsSince : Line → ℕ → ℕ → ℕ → Type 0
IsSince w h g t = (j : ℕ) → IsNewest w j → w.home j ≡ h → w.since j g ≡ t

-- a node that comes in is the copy of one that began before the newest stamp
pub record IsOlder (old new : Line) (t i : ℕ) : Type 0 where
  pub from : ℕ
  pub there : from < old.count
  pub home : new.home i ≡ old.home from
  pub before : old.first from < t

-- Nodes stay what they are, and what was written at the newest stamp stays so.
pub record NodesStay (old new : Line) (t : ℕ) : Type 0 where
  pub count : old.count ≤ new.count
  pub home : (i : ℕ) → i < old.count → new.home i ≡ old.home i
  pub name : (i : ℕ) → i < old.count → new.name i ≡ old.name i
  pub ty : (i : ℕ) → i < old.count → new.ty i ≡ old.ty i
  pub first : (i : ℕ) → i < old.count → new.first i ≡ old.first i
  pub since : (h g : ℕ) → IsSince old h g t → IsSince new h g t

-- and none but copies come in
pub record Went (old new : Line) (t : ℕ) : Type 0 where
  pub nodes : NodesStay old new t
  pub copied : (i : ℕ) → old.count ≤ i → i < new.count → IsOlder old new t i

-- no node has more stamped values than it may have
abbrev pub AreSmall : List TypeShape → Line → Type 0
AreSmall shape w = (i : ℕ) → i < w.count → w.stamped i ≤ most (type_at shape (w.ty i))

-- some nodes were copied, and some pointers redirected: no heap changes
pub record IsCarried (shape : List TypeShape) (t : ℕ) (old new : Line) : Type 0 where
  pub line : IsLine shape t new
  pub stay : VersionsStay shape t old new
  pub heap : heap_at shape new t ≡ heap_at shape old t
  pub within : load shape new t ≤ load shape old t
  pub went : Went old new t
  pub small : AreSmall shape old → AreSmall shape new

-- the node has as many stamped values as it may have, and none of this field and stamp: a write is to copy it
pub record IsFullFor (shape : List TypeShape) (w : Line) (x f t : ℕ) : Type 0 where
  pub most_are : most (type_at shape (w.ty x)) ≤ w.stamped x
  pub before : w.since x f ≢ t

-- a newest node of the record, in which the field can be written: a content is replaced, or one more may be stamped
pub record HasRoomFor (shape : List TypeShape) (w : Line) (x f t z : ℕ) : Type 0 where
  pub newest : IsNewest w z
  pub home : w.home z ≡ w.home x
  pub room : (w.since z f ≡ t) ⊎ (w.stamped z < most (type_at shape (w.ty z)))

-- null is written; nothing is stamped where the newest segment begins at t
pub record IsFieldNulled (old new : Line) (x f t : ℕ) : Type 0 where
  pub more : ℕ
  pub nulled : IsNulled old new x f t more
  pub replaced : old.since x f ≡ t → more ≡ 0

-- a pointer is written; nothing is stamped where the newest segment begins at t
pub record IsFieldPointed (old new : Line) (x f t z u : ℕ) : Type 0 where
  pub more : ℕ
  pub pointed : IsPointed old new x f t z u more
  pub replaced : old.since x f ≡ t → more ≡ 0

-- an inverse slot of a node that does not have the entry of another field
pub record IsOpenSlot (shape : List TypeShape) (w : Line) (z x f u : ℕ) : Type 0 where
  pub below : u < (type_at shape (w.ty z)).limit
  pub free : is_other_entry x f (w.entry z u) ≡ false

-- each inverse slot has the entry of another field
pub record AreAllOthers (shape : List TypeShape) (w : Line) (z x f : ℕ) : Type 0 where
  pub others : (u : ℕ) → u < (type_at shape (w.ty z)).limit → is_other_entry x f (w.entry z u) ≡ true

-- among nodes that are kept, an inverse slot of z is free for the pointer field (x, f), or has its entry
abbrev pub HasOpenSlot : List Seen → (z x f u : ℕ) → Type 0
HasOpenSlot nodes z x f u = (shape : List TypeShape) (t : ℕ) (made : ℕ → Bool) → AreKept shape t nodes → IsOpenSlot shape (line_of made nodes) z x f u

-- among nodes that are kept, each inverse slot of z has the entry of another field than (x, f)
abbrev pub HasNoOpenSlot : List Seen → (z x f : ℕ) → Type 0
HasNoOpenSlot nodes z x f = (shape : List TypeShape) (t : ℕ) (made : ℕ → Bool) → AreKept shape t nodes → AreAllOthers shape (line_of made nodes) z x f

-- ---- what a call does to nodes, however it is told which records are made

-- a field of x is written, and no entry changes
abbrev pub HasFieldSet : (old new : List Seen) → (x f t : ℕ) → Content → Type 0
HasFieldSet old new x f t content = (made : ℕ → Bool) → IsFieldSet (line_of made old) (line_of made new) x f t content

-- null is written into a field of x
abbrev pub HasFieldNulled : (old new : List Seen) → (x f t : ℕ) → Type 0
HasFieldNulled old new x f t = (made : ℕ → Bool) → IsFieldNulled (line_of made old) (line_of made new) x f t

-- a pointer to z is written into a field of x, and its entry into the inverse slot u of z
abbrev pub HasFieldPointed : (old new : List Seen) → (x f t z u : ℕ) → Type 0
HasFieldPointed old new x f t z u = (made : ℕ → Bool) → IsFieldPointed (line_of made old) (line_of made new) x f t z u

-- x is copied
abbrev pub HasNodeCopied : (old new : List Seen) → (x t : ℕ) → Type 0
HasNodeCopied old new x t = (made : ℕ → Bool) → IsCopied (line_of made old) (line_of made new) x t

-- a node comes in of a new record with default fields, which is told to be made
abbrev pub HasNewRecord : List TypeShape → (old new : List Seen) → Name → TypeNo → (t : ℕ) → Type 0
HasNewRecord shape old new name ty t = (made : ℕ → Bool) → made (length old) ≡ true → IsMade shape (line_of made old) (line_of made new) name ty t

-- some nodes were copied, and some pointers redirected, where the nodes were a line: no heap changes
abbrev pub AreCarried : List TypeShape → (t : ℕ) → (old new : List Seen) → Type 0
AreCarried shape t old new = (made : ℕ → Bool) → IsLine shape t (line_of made old) → IsCarried shape t (line_of made old) (line_of made new)

-- The nodes from z on are copies that were made at t, and each pointer that is still to be redirected is to hold one of them.
-- Those that the first s inverse slots of z stand for are done.
pub record IsRedirecting (w : Line) (t z s : ℕ) : Type 0 where
  pub copies : (i : ℕ) → z ≤ i → i < w.count → (w.later i ≡ None) × (w.first i ≡ t)
  pub still : (i g y c : ℕ) → IsNewest w i → w.holds i g t ≡ Target y → w.later y ≡ Some c → z ≤ c
  pub done : (u i g y : ℕ) → u < s → w.entry z u ≡ Some (i, g) → w.holds i g t ≡ Target y → w.later y ≡ None

-- redirecting has come to an inverse slot of z that stands for the pointer field (x, f)
abbrev pub HasComeTo : Line → (t z x f : ℕ) → Type 0
HasComeTo w t z x f = (s : ℕ) × IsRedirecting w t z s × (w.entry z s ≡ Some (x, f))

-- the pointer that an inverse slot of z stands for is done, with the slots before it
abbrev pub Settles : Line → Line → ℕ → ℕ → ℕ → ℕ → Type 0
Settles old new t z x f = (s : ℕ) → IsRedirecting old t z s → old.entry z s ≡ Some (x, f) → IsRedirecting new t z (s + 1)

-- the nodes are kept, and a line, of some record types and in some way to tell which records are made
abbrev pub AreSomeLine : (t : ℕ) → List Seen → Type 0
AreSomeLine t nodes = (shape : List TypeShape) × (made : ℕ → Bool) × AreKept shape t nodes × IsLine shape t (line_of made nodes)

-- so they are, and an inverse slot of z is open for the field (x, f)
abbrev pub MayPoint : (t : ℕ) → List Seen → (z x f u : ℕ) → Type 0
MayPoint t nodes z x f u = (shape : List TypeShape) × (made : ℕ → Bool) × AreKept shape t nodes × IsLine shape t (line_of made nodes) × IsOpenSlot shape (line_of made nodes) z x f u
