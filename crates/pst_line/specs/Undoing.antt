-- What is known of the open run's undo entries, and the end of an undo.
use Rattle.std.specs.Prelude.{◌≡◌, ◌≢◌, ℕ, ◌-◌, ◌<◌, ◌≤◌, ◌++◌, List, [], ◌∷◌, map, All, Some, None}
use Rattle.std.specs.FinMap.{get}
use Rattle.pst_base.specs.declared.names.Name.{Name}
use Rattle.pst_base.specs.declared.names.Kind.TheVariants.{Int, Pointer}
use Rattle.pst_base.specs.declared.shape.TypeShape.{TypeShape}
use Rattle.pst_base.specs.Shape.{type_at, field_kind}
use Rattle.pst_base.specs.Heap.{Heap, IsPointer, IsFull, new_record}
use Rattle.pst_line_nodes.specs.declared.content.Content.{Content}
use Rattle.pst_line_nodes.specs.declared.content.Content.TheVariants.{Number, Null, Target as TargetOf}
use Rattle.pst_line_nodes.specs.Contents.{Target}
use Rattle.pst_line_nodes.specs.Line.{Line, IsIn, IsNewest, IsLive, heap_at}
use Rattle.pst_line_nodes.specs.Changes.{HasSameNodes, IsNumberSet, IsNulled, IsPointed, VersionsStay}
use Rattle.pst_line_nodes.specs.Carried.{IsSince}
use Rattle.pst_line.specs.declared.place.Undo.{Undo}
use Rattle.pst_line.specs.Store.{Stored, state_of, stamp, is_made, IsStored, IsRested, IsClosed, Undone}
use Rattle.pst_line.specs.StoreLaws.{after}
use Rattle.pst_line.specs.Undo.{Mark, LeadsBack, blank}

-- an undo entry, with its record's name
abbrev pub mark_of : (ℕ → Name) → Undo → Mark
mark_of name u = record { name = name u.node.0; slot = u.slot.0; content = u.content }

-- the entry with which the undo lets a pointer go
abbrev pub blanked : Undo → Undo
blanked u = record u { content = blank u.content }

-- The undo, from the entries: pointers are let go first, and then each field gets what it had.
abbrev pub plan : List Undo → List Undo
plan es = map blanked es ++ es

-- A content fits a field of a node: it is of the field's kind, and a target lives at the open run.
abbrev pub Fits : Stored → ℕ → ℕ → Content → Type 0
Fits s x g (Number v) = field_kind (type_at s.shape (s.line.ty x)) g ≡ Some Int
Fits s x g Null = IsPointer (field_kind (type_at s.shape (s.line.ty x)) g)
Fits s x g (TargetOf y) = IsLive s.line y.0 (stamp s) × (field_kind (type_at s.shape (s.line.ty x)) g ≡ Some (Pointer (s.line.ty y.0)))

-- An undo entry: it has the first node of a record that lives at the open run, what was in the field fits it, and what is in it now is in force from the
-- run's stamp on, so that putting something back replaces it.
pub record IsEntered (s : Stored) (u : Undo) : Type 0 where
  pub live : IsLive s.line u.node.0 (stamp s)
  pub home : s.line.home u.node.0 ≡ u.node.0
  pub fits : Fits s u.node.0 u.slot.0 u.content
  pub since : IsSince s.line (s.line.home u.node.0) u.slot.0 (stamp s)

-- The heap to which an undo leads: that of the newest version, with the records that the run has made, each with default
-- fields.
pub record IsBase (s : Stored) (b : ℕ) (base : Heap) : Type 0 where
  pub mine : (i : ℕ) → i < s.line.count → b ≤ s.line.home i → get base (s.line.name i) ≡ Some (new_record s.shape (s.line.ty i))
  pub others : (q : Name) → ((i : ℕ) → i < s.line.count → b ≤ s.line.home i → s.line.name i ≢ q) → get base q ≡ get (heap_at s.shape s.line (stamp s - 1)) q

-- The run that began when there were b nodes can be undone by putting back these entries, one after another.
pub record CanUndo (s : Stored) (b : ℕ) (entries : List Undo) : Type 0 where
  pub some : 0 < stamp s
  pub young : (i : ℕ) → i < s.line.count → b ≤ s.line.home i → s.line.first i ≡ stamp s
  pub base : Heap
  pub base_is : IsBase s b base
  pub leads : LeadsBack s.shape s.line.name base (map (mark_of s.line.name) entries) (heap_at s.shape s.line (stamp s))
  pub entered : All (IsEntered s) entries

-- the line without the records of the open run
abbrev pub dropped : Stored → Line
dropped s = record s.line { made = λ i. is_made s.versions None (s.line.home i) }

-- the store once its open run is given up, after its writes were undone
abbrev pub ended : Stored → Stored
ended s = record s { line = dropped s; opened = None }

-- Once each write is undone, dropping the run's records is all that is left to do.
abbrev pub EndLaw : Type 0
EndLaw = (s : Stored) (b : ℕ) → IsStored s → IsRested s → s.opened ≡ Some b → CanUndo s b [] → IsStored (ended s) × IsClosed (ended s) × Undone (state_of s) (state_of (ended s))

-- ---- a write is undone

-- the node is the newest one of another one's record
pub record IsNewestOf (w : Line) (t i x : ℕ) : Type 0 where
  pub there : IsIn w x t
  pub last : IsNewest w x
  pub home : w.home x ≡ w.home i

-- a pointer is put back to the newest node of the record that it held
pub record IsPointedBack (shape : List TypeShape) (old new : Line) (x f t y : ℕ) : Type 0 where
  pub node : ℕ
  pub newest : IsNewestOf old t y node
  pub slot : ℕ
  pub below : slot < (type_at shape (old.ty node)).limit
  pub pointed : IsPointed old new x f t node slot 0

-- A content is put back into a field of a newest node, over one that is in force from the newest stamp on: so nothing is
-- stamped.
abbrev pub IsPut : List TypeShape → Line → Line → ℕ → ℕ → ℕ → Content → Type 0
IsPut shape old new x f t (Number n) = IsNumberSet old new x f t n 0
IsPut shape old new x f t Null = IsNulled old new x f t 0
IsPut shape old new x f t (TargetOf y) = IsPointedBack shape old new x f t y.0

-- what is so once the last write is undone
pub record IsUndone (s : Stored) (w : Line) (b : ℕ) (entries : List Undo) : Type 0 where
  pub stored : IsStored (after s w s.counts)
  pub rested : IsRested (after s w s.counts)
  pub can : CanUndo (after s w s.counts) b entries
  pub stay : VersionsStay s.shape (stamp s) s.line w
  pub nodes : HasSameNodes s.line w

abbrev pub PutBackLaw : Type 0
PutBackLaw = (s : Stored) (w : Line) (b x : ℕ) (v : Undo) (es : List Undo) → IsStored s → IsRested s → s.opened ≡ Some b → CanUndo s b (v ∷ es) → IsNewestOf s.line (stamp s) v.node.0 x → IsPut s.shape s.line w x v.slot.0 (stamp s) v.content
    → IsUndone s w b es

-- no write that is undone meets a full record, since the heap that it leads to was there before
abbrev pub RoomLaw : Type 0
RoomLaw = (s : Stored) (b x y z : ℕ) (v : Undo) (es : List Undo) → IsStored s → CanUndo s b (v ∷ es) → v.content ≡ Target y → IsNewestOf s.line (stamp s) v.node.0 x → IsNewestOf s.line (stamp s) y z
    → ¬ (IsFull s.shape (heap_at s.shape s.line (stamp s)) (s.line.name x) v.slot.0 (Some (s.line.name z)))
