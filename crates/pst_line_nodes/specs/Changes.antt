-- What each change does to the nodes, and what it does to the heap at each stamp.
use Rattle.std.specs.Prelude.{◌≡◌, ◌≢◌, ℕ, suc, ◌+◌, ◌<◌, ◌≤◌, Bool, true, false, ◌&&◌, ◌==◌, nat_lt, List, Some, None, Option, ℤ, pos, length, if◌then◌else◌}
use Rattle.pst_base.specs.declared.names.TypeNo.{TypeNo}
use Rattle.pst_base.specs.declared.names.Name.{Name}
use Rattle.pst_base.specs.declared.names.Kind.TheVariants.{Pointer}
use Rattle.pst_base.specs.declared.shape.TypeShape.{TypeShape}
use Rattle.pst_base.specs.Shape.{type_at, field_kind}
use Rattle.pst_base.specs.Heap.{with_record, with_value, with_pointer, new_record}
use Rattle.pst_line_nodes.specs.declared.content.Content.{Content}
use Rattle.pst_line_nodes.specs.declared.content.Content.TheVariants.{Number, Null, Target as TargetOf}
use Rattle.pst_line_nodes.specs.Contents.{Target}
use Rattle.pst_line_nodes.specs.Line.{Line, IsIn, IsLive, IsNewest, IsLine, IsQuiet, AreSegmentsInside, heap_at, newest, most, potential, stale, load}

-- ---- the changes

-- what is held, stamped and entered changes alone
pub record HasSameNodes (old new : Line) : Type 0 where
  pub count : new.count ≡ old.count
  pub home : (i : ℕ) → new.home i ≡ old.home i
  pub name : (i : ℕ) → new.name i ≡ old.name i
  pub ty : (i : ℕ) → new.ty i ≡ old.ty i
  pub made : (i : ℕ) → new.made i ≡ old.made i
  pub first : (i : ℕ) → new.first i ≡ old.first i
  pub later : (i : ℕ) → new.later i ≡ old.later i

-- A content is written into a field of a newest node at the newest stamp t. Where the newest segment begins at t it
-- is replaced; else the node has room, and a value is stamped. Then k is 0 or 1.
pub record IsSet (old new : Line) (x f t : ℕ) (c : Content) (k : ℕ) : Type 0 where
  pub nodes : HasSameNodes old new
  pub here : new.holds x f t ≡ c
  pub early : (n : ℕ) → old.first x ≤ n → n < t → new.holds x f n ≡ old.holds x f n
  pub others : (i g n : ℕ) → (i ≡ x → g ≡ f → ⊥) → new.holds i g n ≡ old.holds i g n
  pub late : (n : ℕ) → t ≤ n → new.holds x f n ≡ c
  pub since : new.since x f ≡ t
  pub other_since : (i g : ℕ) → (i ≡ x → g ≡ f → ⊥) → new.since i g ≡ old.since i g
  pub most : k ≤ 1
  pub stamped : new.stamped x ≡ old.stamped x + k
  pub other_stamped : (i : ℕ) → i ≢ x → new.stamped i ≡ old.stamped i

-- a number is written
pub record IsNumberSet (old new : Line) (x f t : ℕ) (v : ℤ) (k : ℕ) : Type 0 where
  pub set : IsSet old new x f t (Number v) k
  pub entry : (y s : ℕ) → new.entry y s ≡ old.entry y s

-- a pointer to a node that was copied is redirected to the copy z
pub record IsRedirected (old new : Line) (x f t y z : ℕ) (k : ℕ) : Type 0 where
  pub set : IsSet old new x f t (Target z) k
  pub held : old.holds x f t ≡ Target y
  pub copied : old.later y ≡ Some z
  pub entry : (y s : ℕ) → new.entry y s ≡ old.entry y s

-- the entry of the field (x, f)
abbrev pub is_entry : ℕ → ℕ → Option (ℕ × ℕ) → Bool
is_entry x f None = false
is_entry x f (Some e) = (e.0 == x) && (e.1 == f)

-- the entries once the field (x, f) is null
abbrev pub without : ℕ → ℕ → Option (ℕ × ℕ) → Option (ℕ × ℕ)
without x f e = if is_entry x f e then None else e

-- null is written: the entry of the pointer that was there is free
pub record IsNulled (old new : Line) (x f t : ℕ) (k : ℕ) : Type 0 where
  pub set : IsSet old new x f t Null k
  pub entry : (y s : ℕ) → new.entry y s ≡ without x f (old.entry y s)

-- a pointer to the newest node z is written: its entry is put into an inverse slot u of z that is free, or has the entry
-- of this very field, and no other slot has it
pub record IsPointed (old new : Line) (x f t z u : ℕ) (k : ℕ) : Type 0 where
  pub set : IsSet old new x f t (Target z) k
  pub free : without x f (old.entry z u) ≡ None
  pub put : new.entry z u ≡ Some (x, f)
  pub entry : (y s : ℕ) → (y ≡ z → s ≡ u → ⊥) → new.entry y s ≡ without x f (old.entry y s)

-- a content as a copy has it: pointers to nodes that were copied hold the copies. So a pointer of x to itself holds the
-- copy of x
abbrev pub redirected : Line → ℕ → ℕ → Content → Content
redirected w x z (Number n) = Number n
redirected w x z Null = Null
redirected w x z (TargetOf y) = if y.0 == x then Target z else Target (newest w y.0)

-- the entries of a copied node's fields are those of the copy's fields
abbrev pub moved : ℕ → ℕ → Option (ℕ × ℕ) → Option (ℕ × ℕ)
moved x z None = None
moved x z (Some e) = if e.0 == x then Some (z, e.1) else Some e

-- The full node x is copied at the newest stamp t: the copy z is the next node, has first stamp t and the contents in
-- force, with nothing stamped, and has the inverse slots of x.
pub record IsCopied (old new : Line) (x t : ℕ) : Type 0 where
  pub newest : IsNewest old x
  pub before : old.first x < t
  pub count : new.count ≡ suc old.count
  pub home : (i : ℕ) → i < old.count → new.home i ≡ old.home i
  pub name : (i : ℕ) → i < old.count → new.name i ≡ old.name i
  pub ty : (i : ℕ) → i < old.count → new.ty i ≡ old.ty i
  pub made : (i : ℕ) → i < old.count → new.made i ≡ old.made i
  pub first : (i : ℕ) → i < old.count → new.first i ≡ old.first i
  pub later : (i : ℕ) → i < old.count → i ≢ x → new.later i ≡ old.later i
  pub later_x : new.later x ≡ Some old.count
  pub stamped : (i : ℕ) → i < old.count → new.stamped i ≡ old.stamped i
  pub holds : (i g n : ℕ) → i < old.count → new.holds i g n ≡ old.holds i g n
  pub since : (i g : ℕ) → i < old.count → new.since i g ≡ old.since i g
  pub entry : (y s : ℕ) → y < old.count → y ≢ x → new.entry y s ≡ moved x old.count (old.entry y s)
  pub home_z : new.home old.count ≡ old.home x
  pub name_z : new.name old.count ≡ old.name x
  pub ty_z : new.ty old.count ≡ old.ty x
  pub made_z : new.made old.count ≡ old.made x
  pub first_z : new.first old.count ≡ t
  pub later_z : new.later old.count ≡ None
  pub stamped_z : new.stamped old.count ≡ 0
  pub holds_z : (g n : ℕ) → new.holds old.count g n ≡ redirected old x old.count (old.holds x g t)
  pub since_z : (g : ℕ) → new.since old.count g ≡ t
  pub entry_z : (s : ℕ) → new.entry old.count s ≡ moved x old.count (old.entry x s)

-- what the fields of a new record hold
abbrev pub default_content : TypeShape → ℕ → Content
default_content t g = if nat_lt g t.values then Number (pos 0) else Null

-- a node comes in of a new record with default fields
pub record IsMade (shape : List TypeShape) (old new : Line) (q : Name) (u : TypeNo) (t : ℕ) : Type 0 where
  pub count : new.count ≡ suc old.count
  pub home : (i : ℕ) → i < old.count → new.home i ≡ old.home i
  pub name : (i : ℕ) → i < old.count → new.name i ≡ old.name i
  pub ty : (i : ℕ) → i < old.count → new.ty i ≡ old.ty i
  pub made : (i : ℕ) → i < old.count → new.made i ≡ old.made i
  pub first : (i : ℕ) → i < old.count → new.first i ≡ old.first i
  pub later : (i : ℕ) → i < old.count → new.later i ≡ old.later i
  pub stamped : (i : ℕ) → i < old.count → new.stamped i ≡ old.stamped i
  pub holds : (i g n : ℕ) → i < old.count → new.holds i g n ≡ old.holds i g n
  pub since : (i g : ℕ) → i < old.count → new.since i g ≡ old.since i g
  pub entry : (y s : ℕ) → y < old.count → new.entry y s ≡ old.entry y s
  pub home_z : new.home old.count ≡ old.count
  pub name_z : new.name old.count ≡ q
  pub ty_z : new.ty old.count ≡ u
  pub made_z : new.made old.count ≡ true
  pub first_z : new.first old.count ≡ t
  pub later_z : new.later old.count ≡ None
  pub stamped_z : new.stamped old.count ≡ 0
  pub holds_z : (g n : ℕ) → new.holds old.count g n ≡ default_content (type_at shape u) g
  pub since_z : (g : ℕ) → new.since old.count g ≡ t
  pub entry_z : (s : ℕ) → new.entry old.count s ≡ None

-- ---- the laws

-- what a change of this run leaves as it was: the heaps of the versions, and what is live at them and at t
pub record VersionsStay (shape : List TypeShape) (t : ℕ) (old new : Line) : Type 0 where
  pub heaps : (n : ℕ) → n < t → heap_at shape new n ≡ heap_at shape old n
  pub live : (i n : ℕ) → n ≤ t → IsLive old i n → IsLive new i n × (new.name i ≡ old.name i)

abbrev pub NumberLaw : Type 0
NumberLaw = (shape : List TypeShape) (old new : Line) (x f t : ℕ) (v : ℤ) (k : ℕ) → IsLine shape t old → IsIn old x t → IsNewest old x → f < (type_at shape (old.ty x)).values → IsNumberSet old new x f t v k
    → IsLine shape t new × VersionsStay shape t old new × (heap_at shape new t ≡ with_value (heap_at shape old t) (old.name x) f v) × (load shape new t ≤ load shape old t + k)

abbrev pub NullLaw : Type 0
NullLaw = (shape : List TypeShape) (old new : Line) (x f t k : ℕ) (ty : TypeNo) → IsLine shape t old → IsIn old x t → IsNewest old x → field_kind (type_at shape (old.ty x)) f ≡ Some (Pointer ty) → IsNulled old new x f t k
    → IsLine shape t new × VersionsStay shape t old new × (heap_at shape new t ≡ with_pointer (heap_at shape old t) (old.name x) f None) × (load shape new t ≤ load shape old t + k)

abbrev pub PointLaw : Type 0
PointLaw = (shape : List TypeShape) (old new : Line) (x f t z u k : ℕ) → IsLine shape t old → IsIn old x t → IsNewest old x → IsIn old z t → IsNewest old z → u < (type_at shape (old.ty z)).limit
    → field_kind (type_at shape (old.ty x)) f ≡ Some (Pointer (old.ty z)) → IsPointed old new x f t z u k
    → IsLine shape t new × VersionsStay shape t old new × (heap_at shape new t ≡ with_pointer (heap_at shape old t) (old.name x) f (Some (old.name z))) × (load shape new t ≤ load shape old t + k)

-- a redirected pointer changes no heap, and pays for its stamped value itself
abbrev pub RedirectLaw : Type 0
RedirectLaw = (shape : List TypeShape) (old new : Line) (x f t y z k : ℕ) → IsLine shape t old → IsNewest old x → IsRedirected old new x f t y z k
    → IsLine shape t new × VersionsStay shape t old new × (heap_at shape new t ≡ heap_at shape old t) × (load shape new t ≤ load shape old t)
    × (potential new ≤ potential old + k) × (suc (stale shape new t) ≤ stale shape old t)

-- A copy changes no heap. It takes the stamped values of the node from the potential, which pay for the node and for the
-- pointers that are then to be redirected.
abbrev pub CopyLaw : Type 0
CopyLaw = (shape : List TypeShape) (old new : Line) (x t : ℕ) → IsLine shape t old → IsCopied old new x t → most (type_at shape (old.ty x)) ≤ old.stamped x
    → IsLine shape t new × VersionsStay shape t old new × (heap_at shape new t ≡ heap_at shape old t) × (load shape new t ≤ load shape old t)
    × (potential new + most (type_at shape (old.ty x)) ≤ potential old) × (stale shape new t ≤ stale shape old t + (type_at shape (old.ty x)).limit)

abbrev pub MadeLaw : Type 0
MadeLaw = (shape : List TypeShape) (old new : Line) (q : Name) (ty : TypeNo) (t : ℕ) → IsLine shape t old → 0 < ty.0 → ty.0 < length shape → ((i : ℕ) → i < old.count → old.made i ≡ true → old.name i ≢ q) → ((i : ℕ) → i < old.count → old.home i < old.count) → IsMade shape old new q ty t
    → IsLine shape t new × VersionsStay shape t old new × (heap_at shape new t ≡ with_record (heap_at shape old t) q (new_record shape ty)) × (load shape new t ≡ suc (load shape old t))

-- the cascade is done where no pointer is stale, and then the rule on pointer segments holds in full
abbrev pub QuietLaw : Type 0
QuietLaw = (shape : List TypeShape) (t : ℕ) (w : Line) → IsLine shape t w → (stale shape w t ≡ 0) → IsQuiet w t × AreSegmentsInside w t

-- the walk along `later`: the node covers the stamp, or the later one is live there and begins later
abbrev pub WalkLaw : Type 0
WalkLaw = (shape : List TypeShape) (t : ℕ) (w : Line) (i j n : ℕ) → IsLine shape t w → IsLive w i n → w.later i ≡ Some j → w.first j ≤ n → IsLive w j n × (w.home j ≡ w.home i) × (w.first i < w.first j)
