-- What a store answers.
use Rattle.std.proofs.Common.{◌≡◌, ℕ, ◌<◌, length, Option, Some, refl, sym, ap, ◌∙◌, subst}
use Rattle.std.specs.Prelude.{IfSome}
use Rattle.std.specs.Option.{option_map}
use Rattle.pst_base.specs.declared.names.TypeNo.{TypeNo}
use Rattle.pst_base.specs.declared.names.NodeId.{NodeId}
use Rattle.pst_base.specs.declared.names.Name.{Name}
use Rattle.pst_base.specs.declared.names.Kind.TheVariants.{Pointer}
use Rattle.pst_base.specs.Shape.{type_at, field_kind, element_count}
use Rattle.pst_base.specs.Name.{root_name}
use Rattle.pst_base.specs.Heap.{kind_in, type_in, pointer_in, IsPointer}
use Rattle.pst_rows.specs.declared.content.Content.{Content}
use Rattle.pst_rows.specs.declared.content.Content.TheVariants.{Number, Null, Free, Target as TargetOf, From as FromOf}
use Rattle.pst_mirror.specs.Contents.{Target}
use Rattle.pst_store_meaning.specs.declared.place.Place.{Place}
use Rattle.pst_store_meaning.specs.Arena.{IsIn, IsLive, denoted}
use Rattle.pst_store_meaning.specs.Store.{Stored, arena, begin_of, state_of}
use Rattle.pst_store_meaning.proofs.Reading.{kind_law, pointer_read_law, root_law}
use Rattle.pst_store_meaning.proofs.Written.{pointer_field}
use Rattle.pst_rows.specs.Contents.{target}
use Rattle.pst_store.specs.Calls.{IsKept, kind_at}
use Rattle.pst_store.proofs.Links.{pointer_kind}

-- the root record's node that lives at a place
pub root_first : (s g : Stored) (p : Place) → s ≡ g → IsKept s → (state_of g).has p → IsLive (arena s) 0 (begin_of s p)
root_first s g p e k i = (root_law s p k.store (subst (λ (g : Stored). (state_of g).has p) (sym e) i)).0

pub root_named : (s g : Stored) (r : NodeId) → s ≡ g → (arena s).name r.0 ≡ root_name → (state_of g).name r ≡ root_name
root_named s g r e n = subst (λ (g : Stored). (state_of g).name r ≡ root_name) e n

pub root_live : (s g : Stored) (p : Place) (r : NodeId) → s ≡ g → (state_of g).has p → IsIn (arena s) r.0 (begin_of s p) → (state_of g).live p r
root_live s g p r e i n = subst (λ (g : Stored). (state_of g).live p r) e (subst (λ (g : Stored). (state_of g).has p) (sym e) i, record { there = n.there; begun = n.low; covering = (r.0, n, refl) })

-- a live reference numbers a node
pub live_there : (s g : Stored) (r : NodeId) → s ≡ g → (p : Place) × (state_of g).live p r → r.0 < length s.nodes
live_there s g r e l = subst (λ (g : Stored). r.0 < length g.nodes) (sym e) l.1.1.there

-- the type that a node's number tells
pub type_read : (s g : Stored) (r : NodeId) (t : TypeNo) → s ≡ g → IsKept s → t ≡ (arena s).ty r.0 → (p : Place) → (state_of g).live p r → type_in ((state_of g).heap p) ((state_of g).name r) ≡ Some t
type_read s g r t e k is p l =
    let here : (state_of s).live p r = subst (λ (g : Stored). (state_of g).live p r) (sym e) l in
    let j = here.1.covering in
    let ty : (arena s).ty j.0 ≡ (arena s).ty r.0 = k.store.arena.one_type j.0 r.0 j.1.there here.1.there j.2 in
    subst (λ (g : Stored). type_in ((state_of g).heap p) ((state_of g).name r) ≡ Some t) e
    (ap (type_in ((state_of s).heap p)) (sym j.2) ∙ (kind_law s p j.0 0 k.store here.0 j.1).0 ∙ ap Some (ty ∙ sym is))

denoted-target : (name : ℕ → Name) (c : Content) → option_map (λ (i : NodeId). name i.0) (target c) ≡ denoted name c
denoted-target name (Number n) = refl
denoted-target name Null = refl
denoted-target name (TargetOf ynode) = let y : ℕ = ynode.0 in refl
denoted-target name Free = refl
denoted-target name (FromOf xnode fslot) = let x : ℕ = xnode.0 in let f : ℕ = fslot.0 in refl

target-live : (c : Content) (P : NodeId → Type 0) → ((y : ℕ) → c ≡ Target y → P (record { 0 = y })) → IfSome (target c) P
target-live (Number n) P h = tt
target-live Null P h = tt
target-live (TargetOf ynode) P h = let y : ℕ = ynode.0 in h y refl
target-live Free P h = tt
target-live (FromOf xnode fslot) P h = let x : ℕ = xnode.0 in let f : ℕ = fslot.0 in tt

module _ (s g : Stored) (at : Place) (r : NodeId) (f x : ℕ) (e : s ≡ g) (k : IsKept s) (l : (state_of g).live at r) (kind : IsPointer (kind_at g at r f))
    (i : IsIn (arena s) x (begin_of s at)) (same : (arena s).name x ≡ (arena s).name r.0) where
  here : (state_of s).live at r
  here = subst (λ (g : Stored). (state_of g).live at r) (sym e) l

  field : (t : TypeNo) × (field_kind (type_at s.shape ((arena s).ty x)) f ≡ Some (Pointer t))
  field = pointer_kind (field_kind (type_at s.shape ((arena s).ty x)) f)
      (subst IsPointer (ap (λ (n : Name). kind_in s.shape ((state_of s).heap at) n f) (sym same) ∙ (kind_law s at x f k.store here.0 i).1)
      (subst (λ (g : Stored). IsPointer (kind_at g at r f)) (sym e) kind))

  pub pointer_slot : f < element_count (type_at s.shape ((arena s).ty x))
  pointer_slot = (pointer_field (type_at s.shape ((arena s).ty x)) f field.0 field.1).1

  pub pointer_target : (o : Option NodeId) → o ≡ target ((arena s).chart.holds x f (begin_of s at)) → option_map (state_of g).name o ≡ pointer_in ((state_of g).heap at) ((state_of g).name r) f
  pointer_target o is = subst (λ (g : Stored). option_map (state_of g).name o ≡ pointer_in ((state_of g).heap at) ((state_of g).name r) f) e
      (ap (option_map (state_of s).name) is ∙ denoted-target (arena s).name ((arena s).chart.holds x f (begin_of s at))
      ∙ sym (pointer_read_law s at x f field.0 k.store here.0 i field.1).0 ∙ ap (λ (n : Name). pointer_in ((state_of s).heap at) n f) same)

  pub pointer_live : (o : Option NodeId) → o ≡ target ((arena s).chart.holds x f (begin_of s at)) → IfSome o ((state_of g).live at)
  pointer_live o is = subst (λ (g : Stored). IfSome o ((state_of g).live at)) e
      (subst (λ (o : Option NodeId). IfSome o ((state_of s).live at)) (sym is)
      (target-live ((arena s).chart.holds x f (begin_of s at)) ((state_of s).live at) (λ y q. (here.0, (pointer_read_law s at x f field.0 k.store here.0 i field.1).1 y q))))
