-- What the runs of the tests leave.
use Rattle.std.proofs.Common.{◌≡◌, ℕ, suc, ◌+◌, ◌*◌, ◌-◌, ◌<◌, ◌≤◌, ◌^◌, List, length, Some, None, ℤ, sym, ap, ◌∙◌, subst, inl, inr, ⊎_elim, arith, length-append}
use Rattle.std.proofs.lemmas.Bool.{cases_lt, lt-ltb, ltb-true, false_from_ne_true}
use Rattle.std.specs.Prelude.{nat_lt, if◌then◌else◌}
use Rattle.std.specs.FinMap.{empty}
use Rattle.pst_base.specs.declared.names.Counts.{Counts}
use Rattle.pst_base.specs.declared.names.Name.{Name}
use Rattle.pst_base.specs.declared.names.NodeId.{NodeId}
use Rattle.pst_base.specs.declared.names.RunNo.{RunNo}
use Rattle.pst_base.specs.declared.names.VersionNo.{VersionNo}
use Rattle.pst_base.specs.declared.names.Kind.TheVariants.{Int}
use Rattle.pst_base.specs.declared.shape.TypeShape.{TypeShape}
use Rattle.pst_base.specs.Name.{root_name}
use Rattle.pst_base.specs.Shape.{field_kind, root_type, type_at}
use Rattle.pst_base.specs.Heap.{Heap, kind_in, kind_from, initial_heap, new_record}
use Rattle.pst_base.proofs.WellFormed.{type_in-with_value, type_in-with_new}
use Rattle.pst_versions.specs.declared.rows.VersionRow.{VersionRow}
use Rattle.pst_versions.specs.State.{State, HasRoom, ValueStored, WritesStay}
use Rattle.pst_versions.specs.Client.{HasRoomFor}
use Rattle.pst_versions.proofs.StateLemmas.{HasRoom_for, room_value}
use Rattle.pst_line.specs.declared.place.LinePlace.{LinePlace}
use Rattle.pst_line_nodes.specs.Line.{heap_at}
use Rattle.pst_line.specs.Store.{Stored, IsPlace, Means, Began, LinePublished, Undone, IsStarted}
use Rattle.pst_line_cases.specs.Trials.{IsReady, HasWritten}
use Rattle.pst_line.proofs.Stores.{rows_count}

-- a place by its stamp
same_place : (p q : LinePlace) → p.stamp.0 ≡ q.stamp.0 → p ≡ q
same_place p q e = ap (λ (n : ℕ). record { stamp = record { 0 = n } }) e

module _ (old mid : State LinePlace NodeId) (s : Stored) (at : LinePlace) (slot k : ℕ) (h : IsReady old s slot (k + 1)) (b : Began old mid at) where
  abbrev newest : LinePlace
  newest = record { stamp = record { 0 = length old.versions - 1 } }

  pub begun_field : kind_in mid.shape (mid.heap at) root_name slot ≡ Some Int
  begun_field = ap (λ (shape : List TypeShape). kind_in shape (mid.heap at) root_name slot) b.shape
      ∙ ap (λ (heap : Heap). kind_in old.shape heap root_name slot) (b.newest newest (let e : suc (length old.versions - 1) ≡ length old.versions = omega (arith, h.some) in e)) ∙ h.field newest (h.all newest (let l : length old.versions - 1 < length old.versions = omega (arith, h.some) in l))

  pub begun_root : (r : NodeId) → mid.name r ≡ root_name → kind_in mid.shape (mid.heap at) (mid.name r) slot ≡ Some Int
  begun_root r e = ap (λ (n : Name). kind_in mid.shape (mid.heap at) n slot) e ∙ begun_field

  begun_room : HasRoomFor mid (k + 1)
  begun_room = subst (λ (c : Counts). (c.records + (k + 1) ≤ 2 ^ 60) × (c.pointer_writes + (k + 1) ≤ 2 ^ 60) × (c.value_writes + (k + 1) ≤ 2 ^ 60) → HasRoomFor mid (k + 1)) b.counts
      (λ r. record { records = r.0; pointer_writes = r.1; value_writes = r.2 })
      (h.room.records, h.room.pointer_writes, h.room.value_writes)

  pub begun_once : HasRoom mid
  begun_once = HasRoom_for mid (k + 1) (omega arith) begun_room

  pub written : (there : mid.has at) (new : State LinePlace NodeId) (r : NodeId) (v : ℤ) → mid.name r ≡ root_name → ValueStored mid at (mid.name r) slot v new → WritesStay mid new → HasWritten old new slot k at
  written there new r v root stored w =
      let d = subst (λ (n : Name). ValueStored mid at n slot v new) root stored in
      record {
        shape = d.keeps.grows.shape ∙ b.shape;
        place = b.place;
        writable = w.kept at b.writable;
        there = d.keeps.grows.has at there;
        versions = d.keeps.versions ∙ b.versions;
        has = λ p i. d.keeps.grows.has p (b.has p i);
        back = λ p i. b.only p (d.keeps.back p i);
        heaps = λ p i. elim (d.others.stay p (b.has p i)) [
          | inl e ↦ absurd (b.fresh (subst old.has e i))
          | inr e ↦ e ∙ b.heaps p i
        ];
        field = ap (λ (shape : List TypeShape). kind_in shape (new.heap at) root_name slot) d.keeps.grows.shape ∙ ap (λ (heap : Heap). kind_in mid.shape heap root_name slot) d.heap
            ∙ ap (kind_from mid.shape slot) (type_in-with_value (mid.heap at) root_name slot v root_name) ∙ begun_field;
        room = room_value mid new at root_name slot v k d begun_room;
      }

module _ (old mid new : State LinePlace NodeId) (s t : Stored) (at : LinePlace) (slot k : ℕ) (h : IsReady old s slot (k + 1)) (w : HasWritten old mid slot k at) (closed : t.opened ≡ None) where
  room_after : new.counts ≡ mid.counts → HasRoomFor new k
  room_after e = subst (λ (c : Counts). (c.records + k ≤ 2 ^ 60) × (c.pointer_writes + k ≤ 2 ^ 60) × (c.value_writes + k ≤ 2 ^ 60) → HasRoomFor new k) e
      (λ r. record { records = r.0; pointer_writes = r.1; value_writes = r.2 })
      (w.room.records, w.room.pointer_writes, w.room.value_writes)

  length_mid : length mid.versions ≡ length old.versions
  length_mid = ap (λ (rows : List (VersionRow LinePlace)). length rows) w.versions

  -- what a place had before the run is there still
  field_mid : (p : LinePlace) → old.has p → kind_in mid.shape (mid.heap p) root_name slot ≡ Some Int
  field_mid p i = ap (λ (shape : List TypeShape). kind_in shape (mid.heap p) root_name slot) w.shape ∙ ap (λ (heap : Heap). kind_in old.shape heap root_name slot) (w.heaps p i) ∙ h.field p i

  pub published_ready : (run : RunNo) (version : VersionNo) → LinePublished mid new run version → IsReady new t slot k
  published_ready run version d =
      let more : length new.versions ≡ length mid.versions + 1 = ap (λ (rows : List (VersionRow LinePlace)). length rows) d.versions ∙ length-append mid.versions _ in
      record {
        closed = closed;
        some = omega (arith, more);
        few = omega (arith, more, length_mid, h.few);
        all = λ p l. ⊎_elim
            (λ (m : p.stamp.0 < length old.versions). d.has p (w.has p (h.all p m)))
            (λ (m : length old.versions ≤ p.stamp.0). d.has p (subst mid.has (sym (same_place p at (let e : p.stamp.0 ≡ at.stamp.0 = omega (arith, l, m, more, length_mid, w.place) in e))) w.there))
            (cases_lt p.stamp.0 (length old.versions));
        field = λ p i. ap (λ (shape : List TypeShape). kind_in shape (new.heap p) root_name slot) d.shape ∙ ap (λ (heap : Heap). kind_in mid.shape heap root_name slot) (d.heaps p (d.back p i))
            ∙ elim (w.back p (d.back p i)) [
              | inl e ↦ subst (λ (p : LinePlace). kind_in mid.shape (mid.heap p) root_name slot ≡ Some Int) (sym e) w.field
              | inr o ↦ field_mid p o
            ];
        room = room_after d.counts;
      }

  pub undone_ready : Undone mid new → IsReady new t slot k
  undone_ready d =
      let same : length new.versions ≡ length mid.versions = ap (λ (rows : List (VersionRow LinePlace)). length rows) d.versions in
      record {
        closed = closed;
        some = omega (arith, same, length_mid, h.some);
        few = omega (arith, same, length_mid, h.few);
        all = λ p l. d.has p (omega (arith, same, l));
        field = λ p i. ap (λ (shape : List TypeShape). kind_in shape (new.heap p) root_name slot) d.shape ∙ ap (λ (heap : Heap). kind_in mid.shape heap root_name slot) (d.heaps p i)
            ∙ field_mid p (h.all p (let m = d.back p i in omega (arith, m, length_mid)));
        room = room_after d.counts;
      }

  pub few_written : length mid.versions < 4294967295
  few_written = omega (arith, length_mid, h.few)

-- ---- two runs in turn

-- two runs are taken from those that are left
pub two_left : (h : State LinePlace NodeId) (s : Stored) (slot n times : ℕ) → n < times → IsReady h s slot (2 * (times - n)) → IsReady h s slot ((2 * (times - (n + 1)) + 1) + 1)
two_left h s slot n times l r = subst (IsReady h s slot) (let e : 2 * (times - n) ≡ (2 * (times - (n + 1)) + 1) + 1 = omega (arith, l) in e) r

-- ---- a store as started

module _ (h : State LinePlace NodeId) (s : Stored) (shape : List TypeShape) (m : Means h s) (st : IsStarted shape s) where
  one_version : length h.versions ≡ 1
  one_version = ap (λ (rows : List (VersionRow LinePlace)). length rows) (m.versions ∙ st.rows)

  one_stretch : length s.versions ≡ 1
  one_stretch = sym (rows_count s.versions 0) ∙ ap (λ (rows : List (VersionRow LinePlace)). length rows) st.rows

  first_stamp : (p : LinePlace) → IsPlace s p → p.stamp.0 ≡ 0
  first_stamp p i = elim i [ inl l ↦ omega (arith, l, one_stretch) | inr r ↦ absurd (let no : None ≡ Some r.begun = sym st.opened ∙ r.opened in cc) ]

  first_heap : (p : LinePlace) → h.has p → h.heap p ≡ initial_heap shape
  first_heap p i = m.heap p ∙ ap (heap_at s.shape s.line) (first_stamp p ((m.has p).0 i)) ∙ ap (λ (shape : List TypeShape). heap_at shape s.line 0) st.shape_is ∙ st.heap

  pub started_ready : field_kind (type_at shape root_type) 0 ≡ Some Int → IsReady h s 0 10
  started_ready k = record {
    closed = st.opened;
    some = omega (arith, one_version);
    few = omega (arith, one_version);
    all = λ p l. (m.has p).1 (inl (omega (arith, l, one_version, one_stretch)));
    field = λ p i. ap (λ (shape : List TypeShape). kind_in shape (h.heap p) root_name 0) (m.shape ∙ st.shape_is) ∙ ap (λ (heap : Heap). kind_in shape heap root_name 0) (first_heap p i)
        ∙ ap (kind_from shape 0) (type_in-with_new empty root_name (new_record shape root_type)) ∙ k;
    room = subst (λ (c : Counts). HasRoomFor (record h { counts = c }) 10) (sym (m.counts ∙ st.counts)) (record { records = omega arith; pointer_writes = omega arith; value_writes = omega arith });
  }
