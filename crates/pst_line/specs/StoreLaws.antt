-- What each change of a line store does to what it means, and that it keeps what it keeps.
-- Letters: s is the store before and t after, w its nodes after, x and z nodes, f a field, v a number.
use Rattle.std.specs.Prelude.{◌≡◌, ℕ, suc, ◌+◌, ◌<◌, ◌≤◌, true, false, ◌++◌, [], ◌∷◌, Some, None, ℤ}
use Rattle.pst_base.specs.declared.names.NodeId.{NodeId}
use Rattle.pst_base.specs.declared.names.RunNo.{RunNo}
use Rattle.pst_base.specs.declared.names.TypeNo.{TypeNo}
use Rattle.pst_base.specs.declared.names.Counts.{Counts}
use Rattle.pst_base.specs.declared.names.Name.{Name}
use Rattle.pst_base.specs.declared.names.Kind.TheVariants.{Pointer}
use Rattle.pst_base.specs.Shape.{type_at, field_kind}
use Rattle.pst_base.specs.Heap.{IsFull}
use Rattle.pst_versions.specs.State.{IsSound, Unchanged, WritesStay, ValueStored, PointerStored, Allocated, IsFresh, IsNewType}
use Rattle.pst_line_nodes.specs.Line.{Line, IsIn, IsNewest, heap_at, most}
use Rattle.pst_line_nodes.specs.Changes.{IsNumberSet, IsNulled, IsPointed, IsRedirected, IsCopied, IsMade}
use Rattle.pst_line_nodes.specs.Runs.{IsDropped}
use Rattle.pst_line.specs.declared.place.LinePlace.{LinePlace}
use Rattle.pst_line.specs.Store.{Stored, state_of, stamp, place_at, IsWritable, IsStored, IsRested, IsClosed, Began, LinePublished, Undone}

abbrev pub after : Stored → Line → Counts → Stored
after s w c = record s { line = w; counts = c }

abbrev pub one_record : Counts → Counts
one_record c = record c { records = c.records + 1 }

abbrev pub one_pointer : Counts → Counts
one_pointer c = record c { pointer_writes = c.pointer_writes + 1 }

abbrev pub one_value : Counts → Counts
one_value c = record c { value_writes = c.value_writes + 1 }

abbrev pub SoundLaw : Type 0
SoundLaw = (s : Stored) → IsStored s → IsSound (state_of s)

abbrev pub ValueLaw : Type 0
ValueLaw = (s : Stored) (w : Line) (at : LinePlace) (x f k : ℕ) (v : ℤ) → IsStored s → IsWritable s at → IsIn s.line x (stamp s) → IsNewest s.line x → f < (type_at s.shape (s.line.ty x)).values → IsNumberSet s.line w x f (stamp s) v k
    → let t : Stored = after s w (one_value s.counts) in
    IsStored t × ValueStored (state_of s) at (s.line.name x) f v (state_of t) × WritesStay (state_of s) (state_of t)

abbrev pub NullLaw : Type 0
NullLaw = (s : Stored) (w : Line) (at : LinePlace) (x f k : ℕ) (ty : TypeNo) → IsStored s → IsWritable s at → IsIn s.line x (stamp s) → IsNewest s.line x → field_kind (type_at s.shape (s.line.ty x)) f ≡ Some (Pointer ty) → IsNulled s.line w x f (stamp s) k
    → let t : Stored = after s w (one_pointer s.counts) in
    IsStored t × PointerStored (state_of s) at (s.line.name x) f None (state_of t) × WritesStay (state_of s) (state_of t)

abbrev pub PointLaw : Type 0
PointLaw = (s : Stored) (w : Line) (at : LinePlace) (x f z u k : ℕ) → IsStored s → IsWritable s at → IsIn s.line x (stamp s) → IsNewest s.line x → IsIn s.line z (stamp s) → IsNewest s.line z → u < (type_at s.shape (s.line.ty z)).limit
    → field_kind (type_at s.shape (s.line.ty x)) f ≡ Some (Pointer (s.line.ty z)) → IsPointed s.line w x f (stamp s) z u k
    → ¬ (IsFull s.shape (heap_at s.shape s.line (stamp s)) (s.line.name x) f (Some (s.line.name z)))
    → let t : Stored = after s w (one_pointer s.counts) in
    IsStored t × PointerStored (state_of s) at (s.line.name x) f (Some (s.line.name z)) (state_of t) × WritesStay (state_of s) (state_of t)

abbrev pub AllocateLaw : Type 0
AllocateLaw = (s : Stored) (w : Line) (at : LinePlace) (q : Name) (ty : TypeNo) → IsStored s → IsWritable s at → IsNewType (state_of s) ty → IsFresh (state_of s) q → IsMade s.shape s.line w q ty (stamp s)
    → let t : Stored = after s w (one_record s.counts) in
    IsStored t × Allocated (state_of s) at ty q (record { 0 = s.line.count }) (state_of t)

-- a step of the cascade changes nothing that is seen, and needs no count
abbrev pub CopyLaw : Type 0
CopyLaw = (s : Stored) (w : Line) (x : ℕ) → IsStored s → IsCopied s.line w x (stamp s) → most (type_at s.shape (s.line.ty x)) ≤ s.line.stamped x
    → let t : Stored = after s w s.counts in
    IsStored t × Unchanged (state_of s) (state_of t) × WritesStay (state_of s) (state_of t)

abbrev pub RedirectLaw : Type 0
RedirectLaw = (s : Stored) (w : Line) (x f y z k : ℕ) → IsStored s → IsNewest s.line x → IsRedirected s.line w x f (stamp s) y z k
    → let t : Stored = after s w s.counts in
    IsStored t × Unchanged (state_of s) (state_of t) × WritesStay (state_of s) (state_of t)

-- a store answers Memory, wherever its cascade is: the place can't be written any more, and nothing else changes
abbrev pub FailLaw : Type 0
FailLaw = (s : Stored) → IsStored s
    → let t : Stored = record s { failed = true } in
    IsStored t × Unchanged (state_of s) (state_of t) × ((p : LinePlace) → (state_of t).writable p → ⊥)

abbrev pub BeginLaw : Type 0
BeginLaw = (s : Stored) → IsStored s → IsClosed s → s.failed ≡ false → 0 < stamp s
    → let t : Stored = record s { opened = Some s.line.count } in
    IsStored t × IsRested t × Began (state_of s) (state_of t) (place_at (stamp s))

abbrev pub PublishLaw : Type 0
PublishLaw = (s : Stored) (b : ℕ) (run : RunNo) (root : NodeId) → IsStored s → IsRested s → s.opened ≡ Some b
    → let t : Stored = record s { versions = s.versions ++ record { run = run; from = b; to = s.line.count; root = root } ∷ []; opened = None } in
    IsStored t × IsClosed t × LinePublished (state_of s) (state_of t) run (record { 0 = stamp s })

-- the run's end, once its writes are undone
abbrev pub UndoneLaw : Type 0
UndoneLaw = (s : Stored) (w : Line) (b : ℕ) → IsStored s → IsRested s → s.opened ≡ Some b → IsDropped s.line w (stamp s)
    → ((i : ℕ) → i < w.count → w.made i ≡ true → s.line.home i < b) → ((i : ℕ) → i < w.count → s.line.home i < b → w.made i ≡ s.line.made i)
    → ((v : ℕ) → suc v ≡ stamp s → heap_at s.shape w (stamp s) ≡ heap_at s.shape w v)
    → let t : Stored = record s { line = w; opened = None } in
    IsStored t × IsClosed t × Undone (state_of s) (state_of t)
