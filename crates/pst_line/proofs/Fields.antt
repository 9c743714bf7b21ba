-- What the writes of a number, of null and of a pointer do, once there is room.
use Rattle.std.proofs.Common.{◌≡◌, ℕ, ◌<◌, Bool, false, List, length, Some, None, ℤ, refl, sym, ap, ◌∙◌, subst, inr, arith}
use Rattle.pst_base.specs.declared.names.Name.{Name}
use Rattle.pst_base.specs.declared.names.NodeId.{NodeId}
use Rattle.pst_base.specs.declared.names.TypeNo.{TypeNo}
use Rattle.pst_base.specs.declared.names.Kind.TheVariants.{Int, Pointer}
use Rattle.pst_base.specs.Shape.{type_at, field_kind}
use Rattle.pst_base.specs.Heap.{Heap, IsPointer, IsFull, kind_in, kind_from, with_value, with_pointer}
use Rattle.pst_versions.specs.State.{HasRoom, WritesStay, ValueStored, PointerStored}
use Rattle.pst_versions.proofs.StateLemmas.{WritesStay_trans}
use Rattle.pst_line_nodes.specs.declared.content.Content.{Content}
use Rattle.pst_line_nodes.specs.declared.content.Content.TheVariants.{Number, Null}
use Rattle.pst_line_nodes.specs.Contents.{Target}
use Rattle.pst_line_nodes.specs.Line.{IsLive, IsLine, heap_at, denoted}
use Rattle.pst_line_nodes.specs.Changes.{IsNumberSet, VersionsStay}
use Rattle.pst_line_nodes.specs.Seen.{Seen}
use Rattle.pst_line_nodes.specs.Nodes.{AreKept, IsFieldSet}
use Rattle.pst_line_nodes.specs.Carried.{IsFieldNulled, IsFieldPointed}
use Rattle.pst_line_nodes.proofs.Contents.{one_target}
use Rattle.pst_line_nodes.proofs.RecordLaws.{denoted-names}
use Rattle.pst_line_nodes.proofs.Writes.{number_law, null_law, point_law}
use Rattle.pst_line.specs.declared.place.LinePlace.{LinePlace}
use Rattle.pst_line.specs.Store.{Stored, state_of, IsWritable, IsStored}
use Rattle.pst_line.specs.StoreLaws.{after, one_value, one_pointer}
use Rattle.pst_line.specs.Undo.{put_back}
use Rattle.pst_line.specs.Undoing.{IsNewestOf}
use Rattle.pst_line.specs.Noted.{with_entry}
use Rattle.pst_line.specs.Held.{Held, IsHeld, AreCounted, line_in, stored_of}
use Rattle.pst_line.specs.Entered.{line_with, entry_at, HasMadeRoom}
use Rattle.pst_line.proofs.Stores.{value_law, null_law', point_law'}
use Rattle.pst_line.proofs.Entries.{value_below, number_back, pointer_back}
use Rattle.pst_line.proofs.PutBack.{pointer_kind}
use Rattle.pst_line.proofs.Answered.{type_of_ref}
use Rattle.pst_line.proofs.Writing.{value_after, pointer_after, carried_stored, carried_unchanged, carried_writes, written_held}

module _ (g : Held) (h : IsHeld g) (at : LinePlace) (wr : IsWritable (stored_of g) at) (r : NodeId) (f : ℕ) (live : (state_of (stored_of g)).live at r) (room : HasRoom (state_of (stored_of g))) (ns : List Seen) (x : ℕ) (m : HasMadeRoom g ns r.0 f x) where
  there : IsLive (line_with g ns) r.0 at.stamp.0
  there = (m.carried.stay.live r.0 at.stamp.0 (omega (arith, wr.run.newest)) live.1).0

  pub same_name : (line_with g ns).name x ≡ (line_in g).name r.0
  same_name = (m.carried.line.chained.same x r.0 m.newest.there.covers.there there.there m.newest.home).0 ∙ m.carried.went.nodes.name r.0 live.1.there

  same_type : (line_with g ns).ty x ≡ (line_in g).ty r.0
  same_type = (m.carried.line.chained.same x r.0 m.newest.there.covers.there there.there m.newest.home).1 ∙ m.carried.went.nodes.ty r.0 live.1.there

  pub field_of : kind_in g.shape (heap_at g.shape (line_in g) at.stamp.0) ((line_in g).name r.0) f ≡ field_kind (type_at g.shape ((line_with g ns).ty x)) f
  field_of = ap (kind_from g.shape f) (type_of_ref g g refl h r at live) ∙ ap (λ (u : TypeNo). field_kind (type_at g.shape u) f) (sym same_type)

  abbrev mid : Stored
  mid = after (stored_of g) (line_with g ns) g.counts

  mid_stored : IsStored mid
  mid_stored = carried_stored g h ns m.carried

  mid_write : IsWritable mid at
  mid_write = record { run = record { begun = wr.run.begun; opened = wr.run.opened; newest = wr.run.newest }; whole = wr.whole }

  has : (state_of (stored_of g)).has at
  has = inr wr.run

  -- ---- a number

  module _ (v : ℤ) (ms : List Seen) (kind : kind_in g.shape (heap_at g.shape (line_in g) at.stamp.0) ((line_in g).name r.0) f ≡ Some Int) (d : IsFieldSet (line_with g ns) (line_with g ms) x f (length g.versions) (Number v)) (kept : AreKept g.shape (length g.versions) ms) where
    field : field_kind (type_at g.shape ((line_with g ns).ty x)) f ≡ Some Int
    field = sym field_of ∙ kind

    set : IsNumberSet (line_with g ns) (line_with g ms) x f (length g.versions) v d.more
    set = record { set = d.set; entry = d.entry }

    low : f < (type_at g.shape ((line_with g ns).ty x)).values
    low = value_below (type_at g.shape ((line_with g ns).ty x)) f field

    nodes : IsLine g.shape (length g.versions) (line_with g ms) × VersionsStay g.shape (length g.versions) (line_with g ns) (line_with g ms)
        × (heap_at g.shape (line_with g ms) (length g.versions) ≡ with_value (heap_at g.shape (line_with g ns) (length g.versions)) ((line_with g ns).name x) f v)
    nodes = let n = number_law g.shape (line_with g ns) (line_with g ms) x f (length g.versions) v d.more m.carried.line m.newest.there m.newest.last low set in (n.0, n.1, n.2)

    law : IsStored (after mid (line_with g ms) (one_value g.counts)) × ValueStored (state_of mid) at ((line_with g ns).name x) f v (state_of (after mid (line_with g ms) (one_value g.counts))) × WritesStay (state_of mid) (state_of (after mid (line_with g ms) (one_value g.counts)))
    law = value_law mid (line_with g ms) at x f d.more v mid_stored mid_write m.newest.there m.newest.last low set

    back : put_back (line_with g ms).name (heap_at g.shape (line_with g ms) (length g.versions)) ((line_with g ms).name x) f ((line_with g ns).holds x f (length g.versions)) ≡ heap_at g.shape (line_with g ns) (length g.versions)
    back =
        ap (λ (y : Heap). put_back (line_with g ms).name y ((line_with g ms).name x) f ((line_with g ns).holds x f (length g.versions))) nodes.2
        ∙ ap (λ (n : Name). put_back (line_with g ms).name (with_value (heap_at g.shape (line_with g ns) (length g.versions)) ((line_with g ns).name x) f v) n f ((line_with g ns).holds x f (length g.versions))) (d.set.nodes.name x)
        ∙ number_back mid x f mid_stored m.newest.there (line_with g ms).name v field ((line_with g ns).holds x f (length g.versions)) refl

    pub number_held : IsHeld (record g { nodes = ms; undo = with_entry (entry_at g ns x f) g.undo; failed = false; counts = one_value g.counts })
    number_held = written_held g h wr.run.begun wr.run.opened wr.whole ns r.0 f x m ms (Number v) d.more Int (one_value g.counts) field d.set d.replaced nodes.0 nodes.1 kept (λ y q. absurd (cc)) back law.0
        (record { records = h.counted.records; pointer_writes = h.counted.pointer_writes; value_writes = omega (arith, room.value_writes) })

    pub number_done : ValueStored (state_of (stored_of g)) at ((line_in g).name r.0) f v (state_of (stored_of (record g { nodes = ms; undo = with_entry (entry_at g ns x f) g.undo; failed = false; counts = one_value g.counts })))
        × WritesStay (state_of (stored_of g)) (state_of (stored_of (record g { nodes = ms; undo = with_entry (entry_at g ns x f) g.undo; failed = false; counts = one_value g.counts })))
    number_done = subst (λ (b : Bool). ValueStored (state_of (stored_of g)) at ((line_in g).name r.0) f v (state_of (record (after mid (line_with g ms) (one_value g.counts)) { failed = b })) × WritesStay (state_of (stored_of g)) (state_of (record (after mid (line_with g ms) (one_value g.counts)) { failed = b }))) wr.whole (
      value_after (state_of (stored_of g)) (state_of mid) (state_of (after mid (line_with g ms) (one_value g.counts))) at (carried_unchanged g h ns m.carried) has ((line_in g).name r.0) f v
          (subst (λ (n : Name). ValueStored (state_of mid) at n f v (state_of (after mid (line_with g ms) (one_value g.counts)))) same_name law.1),
      WritesStay_trans (state_of (stored_of g)) (state_of mid) (state_of (after mid (line_with g ms) (one_value g.counts))) (carried_writes g h ns m.carried) law.2,
    )

  -- ---- a pointer field

  -- what was in it denotes the same
  denotes : (ms : List Seen) (k : Content) → ((i : ℕ) → (line_with g ms).name i ≡ (line_with g ns).name i) → denoted (line_with g ms).name k ≡ denoted (line_with g ns).name k
  denotes ms k e = denoted-names (line_with g ns).name (line_with g ms).name k (λ y q. e y)

  one_more : AreCounted (one_pointer g.counts)
  one_more = record { records = h.counted.records; pointer_writes = omega (arith, room.pointer_writes); value_writes = h.counted.value_writes }

  -- ---- null

  module _ (ms : List Seen) (kind : IsPointer (kind_in g.shape (heap_at g.shape (line_in g) at.stamp.0) ((line_in g).name r.0) f)) (d : IsFieldNulled (line_with g ns) (line_with g ms) x f (length g.versions)) (kept : AreKept g.shape (length g.versions) ms) where
    null_field : (ty : TypeNo) × (field_kind (type_at g.shape ((line_with g ns).ty x)) f ≡ Some (Pointer ty))
    null_field = pointer_kind (field_kind (type_at g.shape ((line_with g ns).ty x)) f) (subst IsPointer field_of kind)

    null_nodes : IsLine g.shape (length g.versions) (line_with g ms) × VersionsStay g.shape (length g.versions) (line_with g ns) (line_with g ms)
        × (heap_at g.shape (line_with g ms) (length g.versions) ≡ with_pointer (heap_at g.shape (line_with g ns) (length g.versions)) ((line_with g ns).name x) f None)
    null_nodes = let n = null_law g.shape (line_with g ns) (line_with g ms) x f (length g.versions) d.more null_field.0 m.carried.line m.newest.there m.newest.last null_field.1 d.nulled in (n.0, n.1, n.2)

    null_stored : IsStored (after mid (line_with g ms) (one_pointer g.counts)) × PointerStored (state_of mid) at ((line_with g ns).name x) f None (state_of (after mid (line_with g ms) (one_pointer g.counts))) × WritesStay (state_of mid) (state_of (after mid (line_with g ms) (one_pointer g.counts)))
    null_stored = null_law' mid (line_with g ms) at x f d.more null_field.0 mid_stored mid_write m.newest.there m.newest.last null_field.1 d.nulled

    null_back : put_back (line_with g ms).name (heap_at g.shape (line_with g ms) (length g.versions)) ((line_with g ms).name x) f ((line_with g ns).holds x f (length g.versions)) ≡ heap_at g.shape (line_with g ns) (length g.versions)
    null_back =
        ap (λ (y : Heap). put_back (line_with g ms).name y ((line_with g ms).name x) f ((line_with g ns).holds x f (length g.versions))) null_nodes.2
        ∙ ap (λ (n : Name). put_back (line_with g ms).name (with_pointer (heap_at g.shape (line_with g ns) (length g.versions)) ((line_with g ns).name x) f None) n f ((line_with g ns).holds x f (length g.versions))) (d.nulled.set.nodes.name x)
        ∙ pointer_back mid x f mid_stored m.newest.there (line_with g ms).name None null_field.0 null_field.1 ((line_with g ns).holds x f (length g.versions)) refl (denotes ms ((line_with g ns).holds x f (length g.versions)) d.nulled.set.nodes.name)

    pub null_held : IsHeld (record g { nodes = ms; undo = with_entry (entry_at g ns x f) g.undo; failed = false; counts = one_pointer g.counts })
    null_held = written_held g h wr.run.begun wr.run.opened wr.whole ns r.0 f x m ms Null d.more (Pointer null_field.0) (one_pointer g.counts) null_field.1 d.nulled.set d.replaced null_nodes.0 null_nodes.1 kept (λ y q. absurd (cc)) null_back null_stored.0 one_more

    pub null_done : PointerStored (state_of (stored_of g)) at ((line_in g).name r.0) f None (state_of (stored_of (record g { nodes = ms; undo = with_entry (entry_at g ns x f) g.undo; failed = false; counts = one_pointer g.counts })))
        × WritesStay (state_of (stored_of g)) (state_of (stored_of (record g { nodes = ms; undo = with_entry (entry_at g ns x f) g.undo; failed = false; counts = one_pointer g.counts })))
    null_done = subst (λ (b : Bool). PointerStored (state_of (stored_of g)) at ((line_in g).name r.0) f None (state_of (record (after mid (line_with g ms) (one_pointer g.counts)) { failed = b })) × WritesStay (state_of (stored_of g)) (state_of (record (after mid (line_with g ms) (one_pointer g.counts)) { failed = b }))) wr.whole (
      pointer_after (state_of (stored_of g)) (state_of mid) (state_of (after mid (line_with g ms) (one_pointer g.counts))) at (carried_unchanged g h ns m.carried) has ((line_in g).name r.0) f None
          (subst (λ (n : Name). PointerStored (state_of mid) at n f None (state_of (after mid (line_with g ms) (one_pointer g.counts)))) same_name null_stored.1),
      WritesStay_trans (state_of (stored_of g)) (state_of mid) (state_of (after mid (line_with g ms) (one_pointer g.counts))) (carried_writes g h ns m.carried) null_stored.2,
    )

  -- ---- a pointer

  module _ (q : NodeId) (q_live : (state_of (stored_of g)).live at q) (kind : kind_in g.shape (heap_at g.shape (line_in g) at.stamp.0) ((line_in g).name r.0) f ≡ Some (Pointer ((line_in g).ty q.0)))
      (roomy : ¬ (IsFull g.shape (heap_at g.shape (line_in g) at.stamp.0) ((line_in g).name r.0) f (Some ((line_in g).name q.0)))) (z u : ℕ) (n : IsNewestOf (line_with g ns) (length g.versions) q.0 z) where
    q_there : IsLive (line_with g ns) q.0 at.stamp.0
    q_there = (m.carried.stay.live q.0 at.stamp.0 (omega (arith, wr.run.newest)) q_live.1).0

    q_name : (line_with g ns).name z ≡ (line_in g).name q.0
    q_name = (m.carried.line.chained.same z q.0 n.there.covers.there q_there.there n.home).0 ∙ m.carried.went.nodes.name q.0 q_live.1.there

    q_type : (line_with g ns).ty z ≡ (line_in g).ty q.0
    q_type = (m.carried.line.chained.same z q.0 n.there.covers.there q_there.there n.home).1 ∙ m.carried.went.nodes.ty q.0 q_live.1.there

    pub target_field : field_kind (type_at g.shape ((line_with g ns).ty x)) f ≡ Some (Pointer ((line_with g ns).ty z))
    target_field = sym field_of ∙ kind ∙ ap (λ (u : TypeNo). Some (Pointer u)) (sym q_type)

    pub still_roomy : ¬ (IsFull g.shape (heap_at g.shape (line_with g ns) (length g.versions)) ((line_with g ns).name x) f (Some ((line_with g ns).name z)))
    still_roomy full = roomy
        (subst (λ (y : Heap). IsFull g.shape y ((line_in g).name r.0) f (Some ((line_in g).name q.0))) (m.carried.heap ∙ ap (heap_at g.shape (line_in g)) (sym wr.run.newest))
        (subst (λ (k : Name). IsFull g.shape (heap_at g.shape (line_with g ns) (length g.versions)) ((line_in g).name r.0) f (Some k)) q_name
        (subst (λ (k : Name). IsFull g.shape (heap_at g.shape (line_with g ns) (length g.versions)) k f (Some ((line_with g ns).name z))) same_name full)))

    module _ (ms : List Seen) (below : u < (type_at g.shape ((line_with g ns).ty z)).limit) (d : IsFieldPointed (line_with g ns) (line_with g ms) x f (length g.versions) z u) (kept : AreKept g.shape (length g.versions) ms) where
      target_nodes : IsLine g.shape (length g.versions) (line_with g ms) × VersionsStay g.shape (length g.versions) (line_with g ns) (line_with g ms)
          × (heap_at g.shape (line_with g ms) (length g.versions) ≡ with_pointer (heap_at g.shape (line_with g ns) (length g.versions)) ((line_with g ns).name x) f (Some ((line_with g ns).name z)))
      target_nodes = let l = point_law g.shape (line_with g ns) (line_with g ms) x f (length g.versions) z u d.more m.carried.line m.newest.there m.newest.last n.there n.last below target_field d.pointed in (l.0, l.1, l.2)

      target_stored : IsStored (after mid (line_with g ms) (one_pointer g.counts)) × PointerStored (state_of mid) at ((line_with g ns).name x) f (Some ((line_with g ns).name z)) (state_of (after mid (line_with g ms) (one_pointer g.counts))) × WritesStay (state_of mid) (state_of (after mid (line_with g ms) (one_pointer g.counts)))
      target_stored = point_law' mid (line_with g ms) at x f z u d.more mid_stored mid_write m.newest.there m.newest.last n.there n.last below target_field d.pointed still_roomy

      target_back : put_back (line_with g ms).name (heap_at g.shape (line_with g ms) (length g.versions)) ((line_with g ms).name x) f ((line_with g ns).holds x f (length g.versions)) ≡ heap_at g.shape (line_with g ns) (length g.versions)
      target_back =
          ap (λ (y : Heap). put_back (line_with g ms).name y ((line_with g ms).name x) f ((line_with g ns).holds x f (length g.versions))) target_nodes.2
          ∙ ap (λ (k : Name). put_back (line_with g ms).name (with_pointer (heap_at g.shape (line_with g ns) (length g.versions)) ((line_with g ns).name x) f (Some ((line_with g ns).name z))) k f ((line_with g ns).holds x f (length g.versions))) (d.pointed.set.nodes.name x)
          ∙ pointer_back mid x f mid_stored m.newest.there (line_with g ms).name (Some ((line_with g ns).name z)) ((line_with g ns).ty z) target_field ((line_with g ns).holds x f (length g.versions)) refl (denotes ms ((line_with g ns).holds x f (length g.versions)) d.pointed.set.nodes.name)

      pub target_held : IsHeld (record g { nodes = ms; undo = with_entry (entry_at g ns x f) g.undo; failed = false; counts = one_pointer g.counts })
      target_held = written_held g h wr.run.begun wr.run.opened wr.whole ns r.0 f x m ms (Target z) d.more (Pointer ((line_with g ns).ty z)) (one_pointer g.counts) target_field d.pointed.set d.replaced target_nodes.0 target_nodes.1 kept
          (λ y e. let same : z ≡ y = one_target z y e in ap (line_with g ns).later (sym same) ∙ n.last.last) target_back target_stored.0 one_more

      pub target_done : PointerStored (state_of (stored_of g)) at ((line_in g).name r.0) f (Some ((line_in g).name q.0)) (state_of (stored_of (record g { nodes = ms; undo = with_entry (entry_at g ns x f) g.undo; failed = false; counts = one_pointer g.counts })))
          × WritesStay (state_of (stored_of g)) (state_of (stored_of (record g { nodes = ms; undo = with_entry (entry_at g ns x f) g.undo; failed = false; counts = one_pointer g.counts })))
      target_done = subst (λ (b : Bool). PointerStored (state_of (stored_of g)) at ((line_in g).name r.0) f (Some ((line_in g).name q.0)) (state_of (record (after mid (line_with g ms) (one_pointer g.counts)) { failed = b })) × WritesStay (state_of (stored_of g)) (state_of (record (after mid (line_with g ms) (one_pointer g.counts)) { failed = b }))) wr.whole (
        pointer_after (state_of (stored_of g)) (state_of mid) (state_of (after mid (line_with g ms) (one_pointer g.counts))) at (carried_unchanged g h ns m.carried) has ((line_in g).name r.0) f (Some ((line_in g).name q.0))
            (subst (λ (k : Name). PointerStored (state_of mid) at ((line_in g).name r.0) f (Some k) (state_of (after mid (line_with g ms) (one_pointer g.counts)))) q_name
            (subst (λ (k : Name). PointerStored (state_of mid) at k f (Some ((line_with g ns).name z)) (state_of (after mid (line_with g ms) (one_pointer g.counts)))) same_name target_stored.1)),
        WritesStay_trans (state_of (stored_of g)) (state_of mid) (state_of (after mid (line_with g ms) (one_pointer g.counts))) (carried_writes g h ns m.carried) target_stored.2,
      )
