-- How a write ends that was entered.
use Rattle.std.proofs.Common.{◌≡◌, ℕ, ◌<◌, Bool, true, false, List, length, Some, None, ℤ, sym, ap, ◌∙◌, subst, arith}
use Rattle.pst_base.specs.declared.names.NodeId.{NodeId}
use Rattle.pst_base.specs.declared.names.Kind.{Kind}
use Rattle.pst_base.specs.declared.names.Kind.TheVariants.{Int, Pointer}
use Rattle.pst_base.specs.declared.shape.TypeShape.{TypeShape}
use Rattle.pst_base.specs.Shape.{type_at, field_kind, element_count}
use Rattle.pst_base.specs.Heap.{IsPointer, kind_in}
use Rattle.pst_versions.specs.State.{HasRoom, Unchanged, WritesStay, ValueStored, PointerStored}
use Rattle.pst_line_nodes.specs.declared.content.Content.TheVariants.{Number}
use Rattle.pst_line_nodes.specs.Line.{IsNewest, IsLine, heap_at}
use Rattle.pst_line_nodes.specs.Seen.{Seen}
use Rattle.pst_line_nodes.specs.Nodes.{line_of, AreKept, HasSlot, IsFieldSet}
use Rattle.pst_line_nodes.specs.Carried.{IsFieldNulled}
use Rattle.pst_line_nodes.proofs.Same.{pointer_field}
use Rattle.pst_line.specs.declared.place.LinePlace.{LinePlace}
use Rattle.pst_line.specs.Store.{state_of, is_made, IsWritable}
use Rattle.pst_line.specs.StoreLaws.{one_value, one_pointer}
use Rattle.pst_line.specs.Noted.{with_entry}
use Rattle.pst_line.specs.Held.{Held, IsHeld, line_in, stored_of}
use Rattle.pst_line.specs.Entered.{line_with, entry_at, HasEntered}
use Rattle.pst_line.proofs.Entries.{value_below}
use Rattle.pst_line.proofs.PutBack.{pointer_kind}
use Rattle.pst_line.proofs.Answered.{slot_there}
use Rattle.pst_line.proofs.Writing.{failed_unchanged}
use Rattle.pst_line.proofs.Entering.{newest_all}
use Rattle.pst_line.proofs.Roots.{stay_same, root_anew}
use Rattle.pst_line.proofs.Fields.{field_of, number_held, number_done, null_held, null_done}

pub kind_below : (t : TypeShape) (f : ℕ) (k : Kind) → field_kind t f ≡ Some k → f < element_count t
kind_below t f Int e = let v = value_below t f e in omega (arith, v)
kind_below t f (Pointer ty) e = (pointer_field t f ty e).1

-- the open run's place is that of the newest stamp
pub at_stamp : (g : Held) (at : LinePlace) → IsWritable (stored_of g) at → (r : NodeId) (f : ℕ) (k : Kind) → kind_in g.shape ((state_of (stored_of g)).heap at) ((line_in g).name r.0) f ≡ Some k
    → kind_in g.shape ((state_of (stored_of g)).heap (record { stamp = record { 0 = length g.versions } })) ((line_in g).name r.0) f ≡ Some k
at_stamp g at wr r f k e = subst (λ (n : ℕ). kind_in g.shape (heap_at g.shape (line_in g) n) ((line_in g).name r.0) f ≡ Some k) wr.run.newest e

pub at_stamp_pointer : (g : Held) (at : LinePlace) → IsWritable (stored_of g) at → (r : NodeId) (f : ℕ) → IsPointer (kind_in g.shape ((state_of (stored_of g)).heap at) ((line_in g).name r.0) f)
    → (k : Kind) × (kind_in g.shape ((state_of (stored_of g)).heap (record { stamp = record { 0 = length g.versions } })) ((line_in g).name r.0) f ≡ Some k)
at_stamp_pointer g at wr r f e = let p = pointer_kind (kind_in g.shape ((state_of (stored_of g)).heap at) ((line_in g).name r.0) f) e in (Pointer p.0, at_stamp g at wr r f (Pointer p.0) p.1)

-- g is the store before, and k that after the write was entered
module _ (k n g : Held) (e : k ≡ n) (h : IsHeld g) (at : LinePlace) (wr : IsWritable (stored_of g) at) (r : NodeId) (f : ℕ) (live : (state_of (stored_of g)).live at r) (room : HasRoom (state_of (stored_of g))) (x : ℕ) (en : HasEntered g n r.0 f x) (t : ℕ) (t_is : t ≡ length g.versions) where
  path : k ≡ record g { nodes = en.nodes; undo = with_entry (entry_at g en.nodes x f) g.undo; failed = true; root = en.root }
  path = e ∙ en.is

  nodes_are : k.nodes ≡ en.nodes
  nodes_are = ap (λ (k : Held). k.nodes) path

  slot_end : (q : Kind) → kind_in g.shape ((state_of (stored_of g)).heap at) ((line_in g).name r.0) f ≡ Some q → HasSlot k.nodes x f
  slot_end q kind = subst (λ (ns : List Seen). HasSlot ns x f) (sym nodes_are)
      (slot_there g.shape (length g.versions) (is_made g.versions g.opened) en.nodes x f en.room.kept
      (kind_below (type_at g.shape ((line_with g en.nodes).ty x)) f q (sym (field_of g h at wr r f live room en.nodes x en.room) ∙ kind)))

  pub number_slot : kind_in g.shape ((state_of (stored_of g)).heap at) ((line_in g).name r.0) f ≡ Some Int → HasSlot k.nodes x f
  number_slot kind = slot_end Int kind

  pub pointer_slot : IsPointer (kind_in g.shape ((state_of (stored_of g)).heap at) ((line_in g).name r.0) f) → HasSlot k.nodes x f
  pointer_slot kind = let p = pointer_kind (kind_in g.shape ((state_of (stored_of g)).heap at) ((line_in g).name r.0) f) kind in slot_end (Pointer p.0) p.1

  -- memory was wanting for the content
  pub unchanged_end : (ms : List Seen) → ms ≡ k.nodes → Unchanged (state_of (stored_of g)) (state_of (stored_of (record k { nodes = ms })))
  unchanged_end ms same = subst (λ (ms : List Seen). Unchanged (state_of (stored_of g)) (state_of (stored_of (record k { nodes = ms })))) (sym same)
      (subst (λ (k : Held). Unchanged (state_of (stored_of g)) (state_of (stored_of k))) (sym path) (failed_unchanged g h en.nodes en.room.carried (with_entry (entry_at g en.nodes x f) g.undo)))

  pub line_end : (shape : List TypeShape) × (made : ℕ → Bool) × AreKept shape t k.nodes × IsLine shape t (line_of made k.nodes)
  line_end = (
    g.shape,
    is_made g.versions g.opened,
    subst (λ (ns : List Seen). AreKept g.shape t ns) (sym nodes_are) (subst (λ (t : ℕ). AreKept g.shape t en.nodes) (sym t_is) en.room.kept),
    subst (λ (ns : List Seen). IsLine g.shape t (line_with g ns)) (sym nodes_are) (subst (λ (t : ℕ). IsLine g.shape t (line_with g en.nodes)) (sym t_is) en.room.carried.line),
  )

  pub newest_end : IsNewest (line_of (λ i. true) k.nodes) x
  newest_end = subst (λ (ns : List Seen). IsNewest (line_of (λ i. true) ns) x) (sym nodes_are) (newest_all (is_made g.versions g.opened) (λ i. true) en.nodes x en.room.newest.last)

  module _ (ms : List Seen) (kept : (shape : List TypeShape) → AreKept shape t k.nodes → AreKept shape t ms) where
    kept_end : AreKept g.shape (length g.versions) ms
    kept_end = subst (λ (t : ℕ). AreKept g.shape t ms) t_is (kept g.shape (subst (λ (ns : List Seen). AreKept g.shape t ns) (sym nodes_are) (subst (λ (t : ℕ). AreKept g.shape t en.nodes) (sym t_is) en.room.kept)))

    -- ---- a number

    module _ (v : ℤ) (kind : kind_in g.shape ((state_of (stored_of g)).heap at) ((line_in g).name r.0) f ≡ Some Int) (d : (made : ℕ → Bool) → IsFieldSet (line_of made k.nodes) (line_of made ms) x f t (Number v)) where
      set_end : IsFieldSet (line_with g en.nodes) (line_with g ms) x f (length g.versions) (Number v)
      set_end = subst (λ (t : ℕ). IsFieldSet (line_with g en.nodes) (line_with g ms) x f t (Number v)) t_is (subst (λ (ns : List Seen). IsFieldSet (line_with g ns) (line_with g ms) x f t (Number v)) nodes_are (d (is_made g.versions g.opened)))

      pub number_end : IsHeld (record k { nodes = ms; failed = false; counts = one_value k.counts })
      number_end = subst (λ (k : Held). IsHeld (record k { nodes = ms; failed = false; counts = one_value k.counts })) (sym path)
          (root_anew _ (number_held g h at wr r f live room en.nodes x en.room v ms kind set_end kept_end) en.root (stay_same (is_made g.versions g.opened) en.nodes ms set_end.set.nodes (length g.versions) en.root en.rooted))

      pub number_ends : ValueStored (state_of (stored_of g)) at ((line_in g).name r.0) f v (state_of (stored_of (record k { nodes = ms; failed = false; counts = one_value k.counts })))
          × WritesStay (state_of (stored_of g)) (state_of (stored_of (record k { nodes = ms; failed = false; counts = one_value k.counts })))
      number_ends = subst (λ (k : Held). ValueStored (state_of (stored_of g)) at ((line_in g).name r.0) f v (state_of (stored_of (record k { nodes = ms; failed = false; counts = one_value k.counts }))) × WritesStay (state_of (stored_of g)) (state_of (stored_of (record k { nodes = ms; failed = false; counts = one_value k.counts })))) (sym path)
          (number_done g h at wr r f live room en.nodes x en.room v ms kind set_end kept_end)

    -- ---- null

    module _ (kind : IsPointer (kind_in g.shape ((state_of (stored_of g)).heap at) ((line_in g).name r.0) f)) (d : (made : ℕ → Bool) → IsFieldNulled (line_of made k.nodes) (line_of made ms) x f t) where
      nulled_end : IsFieldNulled (line_with g en.nodes) (line_with g ms) x f (length g.versions)
      nulled_end = subst (λ (t : ℕ). IsFieldNulled (line_with g en.nodes) (line_with g ms) x f t) t_is (subst (λ (ns : List Seen). IsFieldNulled (line_with g ns) (line_with g ms) x f t) nodes_are (d (is_made g.versions g.opened)))

      pub null_end : IsHeld (record k { nodes = ms; failed = false; counts = one_pointer k.counts })
      null_end = subst (λ (k : Held). IsHeld (record k { nodes = ms; failed = false; counts = one_pointer k.counts })) (sym path)
          (root_anew _ (null_held g h at wr r f live room en.nodes x en.room ms kind nulled_end kept_end) en.root (stay_same (is_made g.versions g.opened) en.nodes ms nulled_end.nulled.set.nodes (length g.versions) en.root en.rooted))

      pub null_ends : PointerStored (state_of (stored_of g)) at ((line_in g).name r.0) f None (state_of (stored_of (record k { nodes = ms; failed = false; counts = one_pointer k.counts })))
          × WritesStay (state_of (stored_of g)) (state_of (stored_of (record k { nodes = ms; failed = false; counts = one_pointer k.counts })))
      null_ends = subst (λ (k : Held). PointerStored (state_of (stored_of g)) at ((line_in g).name r.0) f None (state_of (stored_of (record k { nodes = ms; failed = false; counts = one_pointer k.counts }))) × WritesStay (state_of (stored_of g)) (state_of (stored_of (record k { nodes = ms; failed = false; counts = one_pointer k.counts })))) (sym path)
          (null_done g h at wr r f live room en.nodes x en.room ms kind nulled_end kept_end)
