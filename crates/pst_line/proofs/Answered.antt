-- What a store's reading calls need and answer, and how its runs begin and are published.
use Rattle.std.proofs.Common.{◌≡◌, ℕ, ◌<◌, Bool, true, List, length, Option, Some, refl, sym, ap, ◌∙◌, subst, arith}
use Rattle.std.specs.Prelude.{IfSome}
use Rattle.std.specs.Option.{option_map}
use Rattle.pst_base.specs.declared.names.NodeId.{NodeId}
use Rattle.pst_base.specs.declared.names.TypeNo.{TypeNo}
use Rattle.pst_base.specs.declared.names.Kind.{Kind}
use Rattle.pst_base.specs.declared.names.Kind.TheVariants.{Int}
use Rattle.pst_base.specs.declared.shape.TypeShape.{TypeShape}
use Rattle.pst_base.specs.Shape.{type_at, element_count}
use Rattle.pst_base.specs.Heap.{IsPointer, type_in, kind_in, value_in, pointer_in}
use Rattle.pst_line_nodes.specs.declared.content.Content.{Content}
use Rattle.pst_line_nodes.specs.declared.content.Content.TheVariants.{Number, Null, Target as TargetOf}
use Rattle.pst_line_nodes.specs.Line.{Covers, IsLine, number, denoted}
use Rattle.pst_line_nodes.specs.Seen.{Seen}
use Rattle.pst_line_nodes.specs.Nodes.{line_of, AreKept, AreLinked, HasSlot}
use Rattle.pst_line_nodes.proofs.NodeLemmas.{of_node-at}
use Rattle.pst_line.specs.declared.place.LinePlace.{LinePlace}
use Rattle.pst_line.specs.Store.{state_of, is_made}
use Rattle.pst_line.specs.Held.{Held, IsHeld, line_in, stored_of, target}
use Rattle.pst_line.proofs.Stores.{cover}
use Rattle.pst_line.proofs.Reading.{number_there, pointer_there, field_there, target_there, type_there, pointer_at_field}

-- which nodes cover a stamp does not depend on which records are made
pub covers_all : (made more : ℕ → Bool) (nodes : List Seen) (x n : ℕ) → Covers (line_of made nodes) x n → Covers (line_of more nodes) x n
covers_all made more nodes x n c = record { there = c.there; begun = c.begun; still = c.still }

pub linked : (shape : List TypeShape) (t : ℕ) (made : ℕ → Bool) (nodes : List Seen) → IsLine shape t (line_of made nodes) → AreLinked (line_of (λ i. true) nodes)
linked shape t made nodes l = record { next = l.chained.next }

pub slot_there : (shape : List TypeShape) (t : ℕ) (made : ℕ → Bool) (nodes : List Seen) (x f : ℕ) → AreKept shape t nodes → f < element_count (type_at shape ((line_of made nodes).ty x)) → HasSlot nodes x f
slot_there shape t made nodes x f k l n e =
    let w = (k.each x n e).width in
    let same : element_count (type_at shape ((line_of made nodes).ty x)) ≡ element_count (type_at shape n.ty) = ap (λ (u : TypeNo). element_count (type_at shape u)) (of_node-at (λ (n : Seen). n.ty) (record { 0 = 0 }) nodes x n e) in
    omega (arith, l, w, same)

-- a store, as it is seen and as it is
module _ (s g : Held) (e : s ≡ g) (h : IsHeld s) where
  module _ (at : LinePlace) (r : NodeId) (f x : ℕ) (l : (state_of (stored_of g)).live at r) (c : Covers (line_of (λ i. true) s.nodes) x at.stamp.0) (home : (line_of (λ i. true) s.nodes).home x ≡ (line_of (λ i. true) s.nodes).home r.0) where
    live_s : (state_of (stored_of s)).live at r
    live_s = subst (λ (g : Held). (state_of (stored_of g)).live at r) (sym e) l

    cover_s : Covers (line_in s) x at.stamp.0
    cover_s = covers_all (λ i. true) (is_made s.versions s.opened) s.nodes x at.stamp.0 c

    pub slot_of : (k : Kind) → kind_in g.shape ((state_of (stored_of g)).heap at) ((state_of (stored_of g)).name r) f ≡ Some k → HasSlot s.nodes x f
    slot_of k q =
        let kind = subst (λ (g : Held). kind_in g.shape ((state_of (stored_of g)).heap at) ((state_of (stored_of g)).name r) f ≡ Some k) (sym e) q in
        slot_there s.shape (length s.versions) (is_made s.versions s.opened) s.nodes x f h.kept (field_there (stored_of s) h.stored at r.0 x live_s cover_s home f k kind)

    pub pointer_slot_of : IsPointer (kind_in g.shape ((state_of (stored_of g)).heap at) ((state_of (stored_of g)).name r) f) → HasSlot s.nodes x f
    pointer_slot_of q =
        let kind = subst (λ (g : Held). IsPointer (kind_in g.shape ((state_of (stored_of g)).heap at) ((state_of (stored_of g)).name r) f)) (sym e) q in
        slot_there s.shape (length s.versions) (is_made s.versions s.opened) s.nodes x f h.kept (pointer_at_field (stored_of s) h.stored at r.0 x live_s cover_s home f kind).1

    pub number_of_field : kind_in g.shape ((state_of (stored_of g)).heap at) ((state_of (stored_of g)).name r) f ≡ Some Int
        → number ((line_of (λ i. true) s.nodes).holds x f at.stamp.0) ≡ value_in ((state_of (stored_of g)).heap at) ((state_of (stored_of g)).name r) f
    number_of_field q =
        let kind = subst (λ (g : Held). kind_in g.shape ((state_of (stored_of g)).heap at) ((state_of (stored_of g)).name r) f ≡ Some Int) (sym e) q in
        subst (λ (g : Held). number ((line_of (λ i. true) s.nodes).holds x f at.stamp.0) ≡ value_in ((state_of (stored_of g)).heap at) ((state_of (stored_of g)).name r) f) e
        (sym (number_there (stored_of s) h.stored at r.0 x live_s cover_s home f kind))

    pub target_of_field : (o : Option NodeId) → IsPointer (kind_in g.shape ((state_of (stored_of g)).heap at) ((state_of (stored_of g)).name r) f) → o ≡ target ((line_of (λ i. true) s.nodes).holds x f at.stamp.0)
        → option_map (state_of (stored_of g)).name o ≡ pointer_in ((state_of (stored_of g)).heap at) ((state_of (stored_of g)).name r) f
    target_of_field o q is =
        let kind = subst (λ (g : Held). IsPointer (kind_in g.shape ((state_of (stored_of g)).heap at) ((state_of (stored_of g)).name r) f)) (sym e) q in
        subst (λ (g : Held). option_map (state_of (stored_of g)).name o ≡ pointer_in ((state_of (stored_of g)).heap at) ((state_of (stored_of g)).name r) f) e
        (ap (option_map (state_of (stored_of s)).name) is ∙ name_of_target ((line_in s).holds x f at.stamp.0) ∙ sym (pointer_there (stored_of s) h.stored at r.0 x live_s cover_s home f kind))
      where
        name_of_target : (c : Content) → option_map (state_of (stored_of s)).name (target c) ≡ denoted (line_in s).name c
        name_of_target (Number n) = refl
        name_of_target Null = refl
        name_of_target (TargetOf y) = refl

    pub live_target : (o : Option NodeId) → o ≡ target ((line_of (λ i. true) s.nodes).holds x f at.stamp.0) → IfSome o ((state_of (stored_of g)).live at)
    live_target o is =
        subst (λ (g : Held). IfSome o ((state_of (stored_of g)).live at)) e (subst (λ (o : Option NodeId). IfSome o ((state_of (stored_of s)).live at)) (sym is) (lives ((line_in s).holds x f at.stamp.0) refl))
      where
        lives : (c : Content) → (line_in s).holds x f at.stamp.0 ≡ c → IfSome (target c) ((state_of (stored_of s)).live at)
        lives (Number n) q = tt
        lives Null q = tt
        lives (TargetOf y) q = (live_s.0, target_there (stored_of s) h.stored at r.0 x live_s cover_s home f y.0 q)

  -- the type of a record is that of each of its nodes
  pub type_of_ref : (r : NodeId) (p : LinePlace) → (state_of (stored_of g)).live p r → type_in ((state_of (stored_of g)).heap p) ((state_of (stored_of g)).name r) ≡ Some ((line_of (λ i. true) s.nodes).ty r.0)
  type_of_ref r p l =
      let live = subst (λ (g : Held). (state_of (stored_of g)).live p r) (sym e) l in
      let c = cover s.shape (length s.versions) (line_in s) p.stamp.0 r.0 h.stored.line live.1 in
      subst (λ (g : Held). type_in ((state_of (stored_of g)).heap p) ((state_of (stored_of g)).name r) ≡ Some ((line_of (λ i. true) s.nodes).ty r.0)) e
      (type_there (stored_of s) h.stored p r.0 c.node live c.alive.covers c.home ∙ ap Some c.ty)
