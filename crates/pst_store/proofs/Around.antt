-- What repairs before and after a write leave of it.
use Rattle.std.proofs.Common.{◌≡◌, ℕ, ◌<◌, ◌^◌, ℤ, List, Option, Some, Result, Ok, Err, OnErr, IfOk, sym, ap, ◌∙◌, subst}
use Rattle.pst_base.specs.declared.names.Counts.{Counts}
use Rattle.pst_base.specs.declared.names.NodeId.{NodeId}
use Rattle.pst_base.specs.declared.names.TypeNo.{TypeNo}
use Rattle.pst_base.specs.declared.names.Name.{Name}
use Rattle.pst_base.specs.declared.shape.TypeShape.{TypeShape}
use Rattle.pst_base.specs.Heap.{Heap, kind_in, FitsField, IsFull}
use Rattle.pst_versions.specs.State.{Allocated, HasRoom, PointerStored, ValueStored}
use Rattle.pst_versions.specs.Store.{MayStorePointer}
use Rattle.pst_versions.proofs.StateLemmas.{WritesStay_trans}
use Rattle.pst_store_meaning.specs.declared.place.Place.{Place}
use Rattle.pst_store_meaning.specs.Store.{Stored, state_of}
use Rattle.pst_store_meaning.proofs.Around.{allocated_after, pointer_around, unchanged_after, value_around}
use Rattle.pst_store_meaning.proofs.Places.{open_place}
use Rattle.pst_store.specs.Calls.{HasNoRoom, IsLinked, IsNumberStored, IsPointerStored, IsRefused, Same, Stays, kind_at}

pub kind_kept : (a b : Stored) (at : Place) (r : NodeId) (f : ℕ) → Same a b → (state_of a).live at r → kind_at b at r f ≡ kind_at a at r f
kind_kept a b at r f u l =
    ap (λ (shape : List TypeShape). kind_in shape ((state_of b).heap at) ((state_of b).name r) f) u.keeps.grows.shape
    ∙ ap (λ (heap : Heap). kind_in a.shape heap ((state_of b).name r) f) (u.heaps at l.0)
    ∙ ap (λ (n : Name). kind_in a.shape ((state_of a).heap at) n f) (u.keeps.grows.name at r l)

pub room_kept : (a b : Stored) → Same a b → HasRoom (state_of a) → HasRoom (state_of b)
room_kept a b u h = record {
  records = subst (λ (c : Counts). c.records < 2 ^ 60) (sym u.counts) h.records;
  pointer_writes = subst (λ (c : Counts). c.pointer_writes < 2 ^ 60) (sym u.counts) h.pointer_writes;
  value_writes = subst (λ (c : Counts). c.value_writes < 2 ^ 60) (sym u.counts) h.value_writes;
}

pub writes_around : (a b c d : Stored) → Stays a b → Stays b c → Stays c d → Stays a d
writes_around a b c d x y z = WritesStay_trans (state_of a) (state_of b) (state_of d) x (WritesStay_trans (state_of b) (state_of c) (state_of d) y z)

pub refused_after : {A E : Type 0} (a b c : Stored) (r : Result A E) → Same a b → OnErr r (Same b c) → OnErr r (Same a c)
refused_after a b c (Ok x) u h = tt
refused_after a b c (Err e) u h = unchanged_after (state_of a) (state_of b) (state_of c) u h

-- ---- a record

pub made_after : {E : Type 0} (a b c : Stored) (at : Place) (ty : TypeNo) (n : Name) (r : Result NodeId E) → (state_of a).writable at → Same a b → Stays a b
    → IfOk r (λ r. Allocated (state_of b) at ty n r (state_of c)) → IfOk r (λ r. Allocated (state_of a) at ty n r (state_of c))
made_after a b c at ty n (Ok r) o u w h = allocated_after (state_of a) (state_of b) (state_of c) at ty n r (open_place a at o) u w h
made_after a b c at ty n (Err e) o u w h = tt

-- ---- a number

pub number_around : (a b c d : Stored) (at : Place) (r : NodeId) (f : ℕ) (v : ℤ) → (state_of a).live at r → Same a b → IsNumberStored b at r f v c → Same c d → IsNumberStored a at r f v d
number_around a b c d at r f v l x y z = value_around (state_of a) (state_of b) (state_of c) (state_of d) at ((state_of a).name r) f v l.0 x
    (subst (λ (n : Name). ValueStored (state_of b) at n f v (state_of c)) (x.keeps.grows.name at r l) y) z

-- ---- a pointer

pub target_around : (a b c d : Stored) (at : Place) (r : NodeId) (f : ℕ) (p : Option Name) → (state_of a).live at r → Same a b → IsPointerStored b at r f p c → Same c d → IsPointerStored a at r f p d
target_around a b c d at r f p l x y z = pointer_around (state_of a) (state_of b) (state_of c) (state_of d) at ((state_of a).name r) f p l.0 x
    (subst (λ (n : Name). PointerStored (state_of b) at n f p (state_of c)) (x.keeps.grows.name at r l) y) z

module _ (a b : Stored) (at : Place) (r q : NodeId) (f : ℕ) (u : Same a b) (w : Stays a b) (m : MayStorePointer (state_of a) at r f (Some q)) where
  fits_is : FitsField ((state_of b).heap at) (kind_at b at r f) (Some ((state_of b).name q)) ≡ FitsField ((state_of a).heap at) (kind_at a at r f) (Some ((state_of a).name q))
  fits_is = λ i. FitsField (u.heaps at m.live.0 i) (kind_kept a b at r f u m.live i) (Some (u.keeps.grows.name at q m.target_live i))

  pub may_still : MayStorePointer (state_of b) at r f (Some q)
  may_still = record {
    writable = w.kept at m.writable;
    live = u.keeps.grows.live at r m.live;
    target_live = u.keeps.grows.live at q m.target_live;
    fits = subst (λ (T : Type 0). T) (sym fits_is) m.fits;
    room = room_kept a b u m.room;
  }

  room_is : HasNoRoom b at r f q ≡ HasNoRoom a at r f q
  room_is = λ i. IsFull (u.keeps.grows.shape i) (u.heaps at m.live.0 i) (u.keeps.grows.name at r m.live i) f (Some (u.keeps.grows.name at q m.target_live i))

  pub link_around : (c d : Stored) → IsPointerStored b at r f (Some ((state_of b).name q)) c → Same c d → IsPointerStored a at r f (Some ((state_of a).name q)) d
  link_around c d x y = target_around a b c d at r f (Some ((state_of a).name q)) m.live u
      (subst (λ (n : Name). IsPointerStored b at r f (Some n) c) (u.keeps.grows.name at q m.target_live) x) y

  pub linked_around : (c d : Stored) → IsLinked b at r f q c → Same c d → Stays c d → IsLinked a at r f q d
  linked_around c d x y z = (link_around c d x.0 y, writes_around a b c d w x.1 z, λ full. x.2 (subst (λ (T : Type 0). T) (sym room_is) full))

  pub refused_around : (c : Stored) → HasNoRoom b at r f q → c ≡ b → IsRefused a at r f q c
  refused_around c x e = (subst (λ (T : Type 0). T) room_is x, subst (Same a) (sym e) u, subst (Stays a) (sym e) w)
