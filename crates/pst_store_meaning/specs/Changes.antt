-- What each change of a store does to its nodes, and what it does to the heap at each position.
-- Letters: i, j, x and y are nodes, f and g slots, s an inverse slot, or where a node is split, b, k and n positions, t a
-- type.
use Rattle.std.specs.Prelude.{◌≡◌, ◌≢◌, ℕ, suc, ◌+◌, ◌<◌, ◌⊎◌, nat_lt, List, Some, None, ℤ, pos, length, if◌then◌else◌}
use Rattle.pst_base.specs.declared.names.TypeNo.{TypeNo}
use Rattle.pst_base.specs.declared.names.Name.{Name}
use Rattle.pst_base.specs.declared.shape.TypeShape.{TypeShape}
use Rattle.pst_base.specs.Shape.{type_at, element_count, field_kind}
use Rattle.pst_base.specs.declared.names.Kind.TheVariants.{Pointer}
use Rattle.pst_base.specs.Heap.{Heap, with_record, with_value, with_pointer, new_record}
use Rattle.pst_rows.specs.declared.content.Content.{Content}
use Rattle.pst_rows.specs.declared.content.Content.TheVariants.{Number, Null, Free}
use Rattle.pst_mirror.specs.Mirror.{IsSplitWhole, IsLinked, IsUnlinked}
use Rattle.pst_mirror.specs.Charts.{IsSlotSet}
use Rattle.pst_mirror.specs.Fork.{shift, back, IsReindexed}
use Rattle.pst_mirror.specs.Lives.{IsSplitLife}
use Rattle.pst_store_meaning.specs.Arena.{Arena, lives_of, IsIn, IsLive, IsArena, IsDrawn, heap_at}

-- ---- the changes

-- a place comes in directly behind position k
pub record IsInserted (old new : Arena) (k : ℕ) : Type 0 where
  pub count : new.count ≡ old.count
  pub name : (i : ℕ) → new.name i ≡ old.name i
  pub ty : (i : ℕ) → new.ty i ≡ old.ty i
  pub lo : (i : ℕ) → i < old.count → new.lo i ≡ shift k (old.lo i)
  pub hi : (i : ℕ) → i < old.count → new.hi i ≡ shift k (old.hi i)
  pub later : (i : ℕ) → new.later i ≡ old.later i
  pub chart : IsReindexed old.chart new.chart k

-- what the slots of a new record hold
abbrev pub default_content : TypeShape → ℕ → Content
default_content t g = if nat_lt g t.values then Number (pos 0) else (if nat_lt g (element_count t) then Null else (if nat_lt g (element_count t + t.limit) then Free else Null))

-- a node comes in that lives at position b alone, of a new record with default fields
pub record IsMade (shape : List TypeShape) (old new : Arena) (q : Name) (t : TypeNo) (b : ℕ) : Type 0 where
  pub count : new.count ≡ suc old.count
  pub name : (i : ℕ) → i < old.count → new.name i ≡ old.name i
  pub ty : (i : ℕ) → i < old.count → new.ty i ≡ old.ty i
  pub lo : (i : ℕ) → i < old.count → new.lo i ≡ old.lo i
  pub hi : (i : ℕ) → i < old.count → new.hi i ≡ old.hi i
  pub later : (i : ℕ) → i < old.count → new.later i ≡ old.later i
  pub holds : (i g n : ℕ) → i ≢ old.count → new.chart.holds i g n ≡ old.chart.holds i g n
  pub edges : (i g n : ℕ) → i ≢ old.count → new.chart.edge i g n ≡ old.chart.edge i g n
  pub new_name : new.name old.count ≡ q
  pub new_ty : new.ty old.count ≡ t
  pub new_lo : new.lo old.count ≡ b
  pub new_hi : new.hi old.count ≡ suc b
  pub new_later : new.later old.count ≡ None
  pub new_holds : (g : ℕ) → new.chart.holds old.count g b ≡ default_content (type_at shape t) g

-- what is held changes alone
pub record HasSameNodes (old new : Arena) : Type 0 where
  pub count : new.count ≡ old.count
  pub name : (i : ℕ) → new.name i ≡ old.name i
  pub ty : (i : ℕ) → new.ty i ≡ old.ty i
  pub lo : (i : ℕ) → new.lo i ≡ old.lo i
  pub hi : (i : ℕ) → new.hi i ≡ old.hi i
  pub later : (i : ℕ) → new.later i ≡ old.later i

-- a number is written over position b
pub record IsNumberSet (old new : Arena) (x f b : ℕ) (v : ℤ) : Type 0 where
  pub nodes : HasSameNodes old new
  pub set : IsSlotSet old.chart new.chart x f b (Number v)

-- a pointer and its entry are taken away over position b
pub record IsPointerTaken (old new : Arena) (x f y s b : ℕ) : Type 0 where
  pub nodes : HasSameNodes old new
  pub unlinked : IsUnlinked old.chart new.chart x f y s b

-- a pointer and its entry are put in over position b
pub record IsPointerPut (old new : Arena) (x f y s b : ℕ) : Type 0 where
  pub nodes : HasSameNodes old new
  pub linked : IsLinked old.chart new.chart x f y s b

-- node x ends at position s, and the new node has the rest
pub record IsSplit (old new : Arena) (x s : ℕ) : Type 0 where
  pub life : IsSplitLife (lives_of old) (lives_of new) x s
  pub ty : (i : ℕ) → i < old.count → new.ty i ≡ old.ty i
  pub ty_z : new.ty old.count ≡ old.ty x
  pub whole : IsSplitWhole old.chart new.chart x old.count s

-- ---- what they keep

-- the new position has the heap of the one that it stands behind, and all others keep theirs
pub record InsertedKeeps (shape : List TypeShape) (end : ℕ) (old new : Arena) (k : ℕ) : Type 0 where
  pub arena : IsArena shape (suc end) new
  pub heaps : (n : ℕ) → heap_at shape new n ≡ heap_at shape old (back k n)
  pub live : (i n : ℕ) → IsLive old i (back k n) → IsLive new i n

abbrev pub InsertedLaw : Type 0
InsertedLaw = (shape : List TypeShape) (end : ℕ) (old new : Arena) (k : ℕ) → IsArena shape end old → IsDrawn old → IsDrawn new → k < end → IsInserted old new k → InsertedKeeps shape end old new k

-- a node comes in, under a name that no node has
pub record MadeKeeps (shape : List TypeShape) (end : ℕ) (old new : Arena) (q : Name) (t : TypeNo) (b : ℕ) : Type 0 where
  pub arena : IsArena shape end new
  pub here : heap_at shape new b ≡ with_record (heap_at shape old b) q (new_record shape t)
  pub elsewhere : (n : ℕ) → n ≢ b → heap_at shape new n ≡ heap_at shape old n
  pub live : (i n : ℕ) → IsLive old i n → IsLive new i n
  pub new_live : IsLive new old.count b

abbrev pub MadeLaw : Type 0
MadeLaw = (shape : List TypeShape) (end : ℕ) (old new : Arena) (q : Name) (t : TypeNo) (b : ℕ) → IsArena shape end old → IsDrawn old → IsDrawn new → IsMade shape old new q t b
    → ((i : ℕ) → i < old.count → old.name i ≢ q) → 0 < t.0 → t.0 < length shape → MadeKeeps shape end old new q t b

-- a field of a record changes at position b: with_value or with_pointer says how
pub record WriteKeeps (shape : List TypeShape) (end : ℕ) (old new : Arena) (b : ℕ) (h : Heap) : Type 0 where
  pub arena : IsArena shape end new
  pub here : heap_at shape new b ≡ h
  pub elsewhere : (n : ℕ) → n ≢ b → heap_at shape new n ≡ heap_at shape old n
  pub live : (i n : ℕ) → IsLive old i n → IsLive new i n

abbrev pub NumberLaw : Type 0
NumberLaw = (shape : List TypeShape) (end : ℕ) (old new : Arena) (x f b : ℕ) (v : ℤ) → IsArena shape end old → IsDrawn old → IsDrawn new → IsNumberSet old new x f b v
    → IsIn old x b → f < (type_at shape (old.ty x)).values → WriteKeeps shape end old new b (with_value (heap_at shape old b) (old.name x) f v)

abbrev pub TakenLaw : Type 0
TakenLaw = (shape : List TypeShape) (end : ℕ) (old new : Arena) (x f y s b : ℕ) → IsArena shape end old → IsDrawn old → IsDrawn new → IsPointerTaken old new x f y s b
    → WriteKeeps shape end old new b (with_pointer (heap_at shape old b) (old.name x) f None)

abbrev pub PutLaw : Type 0
PutLaw = (shape : List TypeShape) (end : ℕ) (old new : Arena) (x f y s b : ℕ) → IsArena shape end old → IsDrawn old → IsDrawn new → IsPointerPut old new x f y s b
    → IsIn old x b → field_kind (type_at shape (old.ty x)) f ≡ Some (Pointer (old.ty y))
    → WriteKeeps shape end old new b (with_pointer (heap_at shape old b) (old.name x) f (Some (old.name y)))

-- the field is null at position b afterwards: it was, and nothing changed, or its pointer was taken away
abbrev pub IsCleared : Arena → Arena → ℕ → ℕ → ℕ → Type 0
IsCleared old mid x f b = ((mid ≡ old) × (old.chart.holds x f b ≡ Null)) ⊎ ((y : ℕ) × (s : ℕ) × IsPointerTaken old mid x f y s b)

abbrev pub ClearedLaw : Type 0
ClearedLaw = (shape : List TypeShape) (end : ℕ) (old mid : Arena) (x f b : ℕ) (t : TypeNo) → IsArena shape end old → IsDrawn old → IsDrawn mid → IsIn old x b → field_kind (type_at shape (old.ty x)) f ≡ Some (Pointer t) → IsCleared old mid x f b
    → WriteKeeps shape end old mid b (with_pointer (heap_at shape old b) (old.name x) f None) × HasSameNodes old mid × (mid.chart.holds x f b ≡ Null)

-- a whole pointer write: the old pointer is taken away, and then the new one is put in
abbrev pub PointerLaw : Type 0
PointerLaw = (shape : List TypeShape) (end : ℕ) (old mid new : Arena) (x f y s b : ℕ) → IsArena shape end old → IsDrawn old → IsDrawn mid → IsDrawn new → IsIn old x b → field_kind (type_at shape (old.ty x)) f ≡ Some (Pointer (old.ty y))
    → IsCleared old mid x f b → IsPointerPut mid new x f y s b
    → WriteKeeps shape end old new b (with_pointer (heap_at shape old b) (old.name x) f (Some (old.name y))) × HasSameNodes old new

-- a split changes no heap
pub record SplitKeeps (shape : List TypeShape) (end : ℕ) (old new : Arena) : Type 0 where
  pub arena : IsArena shape end new
  pub heaps : (n : ℕ) → heap_at shape new n ≡ heap_at shape old n
  pub live : (i n : ℕ) → IsLive old i n → IsLive new i n

abbrev pub SplitLaw : Type 0
SplitLaw = (shape : List TypeShape) (end : ℕ) (old new : Arena) (x s : ℕ) → IsArena shape end old → IsDrawn old → IsDrawn new → IsSplit old new x s → SplitKeeps shape end old new
