-- What a whole write of a field does, for a store that sees the nodes.
use Rattle.std.proofs.Common.{◌≡◌, ◌≢◌, ℕ, ◌+◌, ◌<◌, ℤ, cond, eqb, false, List, length, map, Option, Some, None, refl, sym, ◌∙◌, subst, ⊎_elim, ◌⊎◌, inl, inr, arith}
use Rattle.std.specs.Option.{is_some}
use Rattle.std.proofs.lemmas.Bool.{cases_eq, false≢true}
use Rattle.pst_base.specs.declared.names.Kind.TheVariants.{Pointer}
use Rattle.pst_base.specs.declared.names.NodeId.{NodeId}
use Rattle.pst_base.specs.declared.shape.TypeShape.{TypeShape}
use Rattle.pst_base.specs.Shape.{field_kind}
use Rattle.pst_order.specs.Places.{rank}
use Rattle.pst_rows.specs.declared.content.Content.TheVariants.{Number, Null, Free}
use Rattle.pst_rows.specs.declared.row.Row.{Row}
use Rattle.pst_rows.specs.Rows.{stamped_count}
use Rattle.pst_mirror.specs.Charts.{AllRows, IsSlotSet}
use Rattle.pst_mirror.specs.Contents.{From}
use Rattle.pst_mirror.specs.Lives.{IsIn}
use Rattle.pst_mirror.specs.Mirror.{Chart, IsMirrored, IsLinked}
use Rattle.pst_nodes.specs.declared.node.Node.{Node}
use Rattle.pst_nodes.specs.Arena.{HasRoom, rows_of, frames_of, row_at, link_at, chart, lives, type_no, type_of, IsOpenSlot, IsSlot, IsTyped, AreRows}
use Rattle.pst_nodes.specs.Changes.{AreSameNodes, IsTouched, AreTouched, added}
use Rattle.pst_nodes.specs.declared.queue.Queue.{Queue}
use Rattle.pst_repair.specs.Load.{IsSound, stamped_at}
use Rattle.pst_repair.specs.Steps.{AreGrown, Queues, KeepsQueue}
use Rattle.pst_repair.proofs.LoadLemmas.{grown_on, grown_more, rows_kept, queue_on}
use Rattle.pst_repair.proofs.CutLemmas.{all_typed, queues_links, slot_grown}
use Rattle.pst_repair.proofs.RoomLemmas.{same_chart, same_holds, same_slot}
use Rattle.pst_repair.specs.Repair.{IsQueued}
use Rattle.pst_repair.proofs.RepairLemmas.{sound_same}
use Rattle.pst_store_meaning.specs.declared.place.Place.{Place}
use Rattle.pst_store_meaning.specs.Changes.{IsCleared, IsPointerPut}
use Rattle.pst_store_meaning.specs.Steps.{HasGrownBy}
use Rattle.pst_store_meaning.specs.Store.{Node as Seen, arena_of, AreWide}
use Rattle.pst_repair.specs.Seen.{seen}
use Rattle.pst_repair.specs.Written.{IsNumberSeen}
use Rattle.pst_repair.proofs.SeenLemmas.{seen_all, seen_wide}
use Rattle.pst_repair.proofs.SameLemmas.{seen_same}
use Rattle.pst_repair.proofs.PairedLemmas.{links_are_seen}
use Rattle.pst_repair.proofs.WrittenLemmas.{numbers_are_set}
use Rattle.pst_store_arena.specs.Calls.{IsNullWritten, IsPointerWritten}
use Rattle.pst_store_arena.specs.Writes.{LeadsTo, IsNode, IsOneOf, HasRoomFor, HaveRoom, IsFieldCleared}
use Rattle.pst_store_arena.proofs.WriteLemmas.{number_grown, pair_grown, pair_others, added_few, stamped_other, grown_seen, field_room, pair_room, one_there}
use Rattle.pst_store_arena.proofs.WriteLemmas.{cleared_none, field_slot, inverse_slot, inverse_holds}
use Rattle.pst_store_arena.proofs.WriteSound.{cleared_sound, linked_sound, kind_kept}
use Rattle.pst_store_arena.proofs.WriteQueue.{typed_rows, over_rows, queue_written}

abbrev pub AreTyped : List TypeShape → List Node → Type 0
AreTyped types ns = (i : ℕ) → i < length ns → IsTyped types ns i

one_or : (x : ℕ) (led : Option NodeId) (i : ℕ) {P : Type 0} → (i ≢ x → (IsNode led i → ⊥) → P) → IsOneOf x led i ⊎ P
one_or x None i h = ⊎_elim (λ (e : i ≡ x). inl (inl e)) (λ (ne : i ≡ x → ⊥). inr (h ne (λ v. v))) (cases_eq i x)
one_or x (Some y) i h = ⊎_elim
    (λ (e : i ≡ x). inl (inl e))
    (λ (ne : i ≡ x → ⊥). ⊎_elim (λ (e : i ≡ y.0). inl (inr e)) (λ (nz : i ≡ y.0 → ⊥). inr (h ne nz)) (cases_eq i y.0))
    (cases_eq i x)

-- the links of the queue are the same where those of each node are
pub held_on : (old new : List Node) (queue : Queue) → length new ≡ length old → ((i : ℕ) → link_at new i ≡ link_at old i) → (xs : List ℕ) × Queues old queue xs → (xs : List ℕ) × Queues new queue xs
held_on old new queue count links h = (h.0, queues_links old new queue h.0 count links h.1)

-- ---- after the memory is taken

-- the field leads to the same node, and the nodes of the write are there
module _ (types : List TypeShape) (qs : List ℕ) (old r : List Node) (x f b : ℕ) (led : Option NodeId) (sound : IsSound types qs old)
    (same : AreSameNodes old r) (there : x < length old) (h : LeadsTo (chart qs old) x f b led) where
  pub sound_taken : IsSound types qs r
  sound_taken = sound_same types qs old r same sound

  pub led_taken : LeadsTo (chart qs r) x f b led
  led_taken = subst (λ (w : Chart). LeadsTo w x f b led) (sym (same_chart old r same qs)) h

  pub there_taken : (i : ℕ) → i < length old → i < length r
  there_taken i l = omega (arith, same.count)

  pub one_taken : (i : ℕ) → IsOneOf x led i → i < length r
  one_taken i o = there_taken i (one_there qs old x f b sound.rows sound.mirrored led h there i o)

  pub seen_taken : seen r ≡ seen old
  seen_taken = seen_same old r same

-- ---- what is seen in the end

-- rows over the places, as wide as their types
pub rows_seen : (qs : List ℕ) (mid new : List Node) → rows_of new ≡ rows_of mid → AreRows qs mid → AllRows (rank qs) (length qs) (map (λ (n : Seen). n.row) (seen new))
rows_seen qs mid new rows all = seen_all qs new (rows_kept qs mid new rows all)

pub wide_seen : (types : List TypeShape) (mid new : List Node) → rows_of new ≡ rows_of mid → frames_of new ≡ frames_of mid → AreTyped types mid → AreWide types (seen new)
wide_seen types mid new rows frames typed = seen_wide types new (typed_rows types mid new rows frames typed)

-- ---- a number

module _ (types : List TypeShape) (qs : List ℕ) (r mid : List Node) (x f b : ℕ) (v : ℤ) (typed : AreTyped types r) (l : x < length r)
    (set : IsSlotSet (chart qs r) (chart qs mid) x f b (Number v)) (all : AreRows qs mid)
    (t : IsTouched 2 r mid x) (stamped : (d : Row) → stamped_count (row_at mid x d) ≡ stamped_count (row_at r x d) + added (chart qs r) x f b) where
  pub number_seen : (old new : List Node) → seen r ≡ seen old → seen new ≡ seen mid → IsNumberSeen types qs (seen old) (seen new) x f b v
  number_seen old new first last =
      let p : IsNumberSeen types qs (seen r) (seen mid) x f b v = numbers_are_set types qs r mid x f b v (record { there = l; set = set; rows = all; touched = t; stamped = stamped }) typed in
      subst (λ (ns : List Seen). IsNumberSeen types qs ns (seen new) x f b v) first (subst (λ (ns : List Seen). IsNumberSeen types qs (seen r) ns x f b v) (sym last) p)

  pub number_queued : (new : List Node) (q0 q1 : Queue) → (xs : List ℕ) × IsQueued types r q0 xs → rows_of new ≡ rows_of mid
      → frames_of new ≡ frames_of mid → KeepsQueue (λ i. i ≡ x) types mid new q0 q1 → (xs : List ℕ) × IsQueued types new q1 xs
  number_queued new q0 q1 h rows frames keeps =
      queue_written (λ i. i ≡ x) (added (chart qs r) x f b) types r mid new q0 q1 h (number_grown types qs r mid x f b l t stamped) t.links
      (λ i. ⊎_elim (λ (e : i ≡ x). inl e) (λ (ne : i ≡ x → ⊥). inr (stamped_other r mid i t.count (λ d. t.others i d ne))) (cases_eq i x))
      rows frames keeps

-- ---- null

pub null_at : (w : Chart) (x f b : ℕ) (led : Option NodeId) → is_some led ≡ false → LeadsTo w x f b led → w.holds x f b ≡ Null
null_at w x f b None e h = h
null_at w x f b (Some y) e h = absurd (false≢true (sym e))

module _ (types : List TypeShape) (qs : List ℕ) (r mid : List Node) (x f b : ℕ) (led : Option NodeId) (cl : IsFieldCleared qs r mid x f b led) where
  pub cleared_typed : AreTyped types r → AreTyped types mid
  cleared_typed typed = all_typed cl.stamped types r mid (cl.grown types) typed

  pub cleared_seen : (old new : List Node) → seen r ≡ seen old → seen new ≡ seen mid → IsCleared (arena_of (rank qs) (seen old)) (arena_of (rank qs) (seen new)) x f b
  cleared_seen old new first last =
      subst (λ (ns : List Seen). IsCleared (arena_of (rank qs) ns) (arena_of (rank qs) (seen new)) x f b) first
      (subst (λ (ns : List Seen). IsCleared (arena_of (rank qs) (seen r)) (arena_of (rank qs) ns) x f b) (sym last) cl.cleared)

  pub null_written : (at : Place) (old new : List Node) → rank qs at.begin.0 ≡ b → seen r ≡ seen old → seen new ≡ seen mid → IsNullWritten types qs (seen old) (seen new) x f at
  null_written at old new begun first last = record {
    cleared = subst (λ (n : ℕ). IsCleared (arena_of (rank qs) (seen old)) (arena_of (rank qs) (seen new)) x f n) (sym begun) (cleared_seen old new first last);
    grown = subst (λ (ns : List Seen). HasGrownBy types ns (seen new) 6) first
        (subst (λ (ns : List Seen). HasGrownBy types (seen r) ns 6) (sym last)
        (grown_seen 6 types r mid (grown_more cl.stamped 6 types r mid (omega (arith, cl.few)) (cl.grown types))));
  }

  pub null_queued : (new : List Node) (q0 q1 : Queue) → (xs : List ℕ) × IsQueued types r q0 xs → rows_of new ≡ rows_of mid
      → frames_of new ≡ frames_of mid → KeepsQueue (IsOneOf x led) types mid new q0 q1 → (xs : List ℕ) × IsQueued types new q1 xs
  null_queued new q0 q1 h rows frames keeps = queue_written (IsOneOf x led) cl.stamped types r mid new q0 q1 h (cl.grown types) cl.links (λ i. one_or x led i (cl.others i)) rows frames keeps

  -- the room that is left for the new pointer
  pub room_left : (y : NodeId) → HaveRoom r x led (Some y) → (d : Row) → HasRoom (row_at mid x d) 2
  room_left y h d = cl.room x d 2 (omega (arith, h x (inl refl) d, field_room x y))

  pub room_pair : (y : NodeId) → HasRoomFor r x led (Some y) y.0 → (d : Row) → HasRoom (row_at mid y.0 d) (cond (eqb y.0 x) 4 2)
  room_pair y h d = cl.room y.0 d (cond (eqb y.0 x) 4 2) (omega (arith, h d, pair_room x y))

  -- ---- a pointer

  module _ (y s : ℕ) (new : List Node) (typed : AreTyped types r) (l : x < length r) (m : y < length r)
      (link : IsLinked (chart qs mid) (chart qs new) x f y s b) (t : AreTouched qs mid new x f y s b) where
    in_mid : (i : ℕ) → i < length r → i < length mid
    in_mid i p = let same = cl.grown types in omega (arith, same.count)

    pub put_grown : AreGrown 6 types r new
    put_grown =
        let more : ℕ = added (chart qs mid) x f b + added (chart qs mid) y s b in
        grown_more (cl.stamped + more) 6 types r new (omega (arith, cl.few, added_few (chart qs mid) y s b))
        (grown_on cl.stamped more types r mid new (cl.grown types) (pair_grown types qs mid new x f y s b (in_mid x l) (in_mid y m) t))

    pub put_links : (i : ℕ) → link_at new i ≡ link_at r i
    put_links i = t.second.links i ∙ t.first.links i ∙ cl.links i

    pub put_typed : AreTyped types new
    put_typed = all_typed 6 types r new put_grown typed

    pub put_sound : IsSound types qs r → AreRows qs new → IsMirrored (chart qs new) → field_kind (type_of types r x) f ≡ Some (Pointer (type_no r y)) → IsSound types qs new
    put_sound sound rows mir kind =
        let more : ℕ = added (chart qs mid) x f b + added (chart qs mid) y s b in
        linked_sound types qs mid (cleared_sound types qs r sound mid x f b led cl) more new x f y s b
        (pair_grown types qs mid new x f y s b (in_mid x l) (in_mid y m) t) link rows mir (kind_kept types r mid x f y (cl.grown types).frames kind)

    put_others : (i : ℕ) → ((i ≡ y) ⊎ IsOneOf x led i) ⊎ (stamped_at new i ≡ stamped_at r i)
    put_others i = ⊎_elim
        (λ (e : i ≡ y). inl (inl e))
        (λ (nz : i ≡ y → ⊥). ⊎_elim
        (λ (o : IsOneOf x led i). inl (inr o))
        (λ (e : stamped_at new i ≡ stamped_at r i). inr e)
        (one_or x led i (λ ne away. pair_others qs mid new x f y s b t i ne nz ∙ cl.others i ne away)))
        (cases_eq i y)

    pub put_queued : (n1 last : List Node) (q0 q1 q2 : Queue) → (xs : List ℕ) × IsQueued types r q0 xs → rows_of n1 ≡ rows_of new
        → frames_of n1 ≡ frames_of new → KeepsQueue (λ i. i ≡ y) types new n1 q0 q1 →
        rows_of last ≡ rows_of n1 → frames_of last ≡ frames_of n1 → KeepsQueue (IsOneOf x led) types n1 last q1 q2 → (xs : List ℕ) × IsQueued types last q2 xs
    put_queued n1 last q0 q1 q2 h rows frames keeps rows' frames' keeps' =
        queue_written (λ i. (i ≡ y) ⊎ IsOneOf x led i) 6 types r new last q0 q2 h put_grown put_links put_others (rows' ∙ rows) (frames' ∙ frames)
        (queue_on (λ i. i ≡ y) (IsOneOf x led) types new n1 last q0 q1 q2 (over_rows types n1 last rows' frames') keeps keeps')

    pub pointer_written : (at : Place) (old last : List Node) → rank qs at.begin.0 ≡ b → seen r ≡ seen old → seen last ≡ seen new → IsPointerWritten types qs (seen old) (seen last) x f at y s
    pointer_written at old last begun first end =
        let typed' : AreTyped types mid = cleared_typed typed in
        let p = links_are_seen types qs mid new x f y s b (in_mid x l) (in_mid y m) link t typed' in
        record {
          mid = seen mid;
          mid_rows = seen_all qs mid cl.rows;
          mid_wide = seen_wide types mid typed';
          cleared = subst (λ (n : ℕ). IsCleared (arena_of (rank qs) (seen old)) (arena_of (rank qs) (seen mid)) x f n) (sym begun) (cleared_seen old mid first refl);
          put = subst (λ (n : ℕ). IsPointerPut (arena_of (rank qs) (seen mid)) (arena_of (rank qs) (seen last)) x f y s n) (sym begun)
              (subst (λ (ns : List Seen). IsPointerPut (arena_of (rank qs) (seen mid)) (arena_of (rank qs) ns) x f y s b) (sym end) p.0);
          grown = subst (λ (ns : List Seen). HasGrownBy types ns (seen last) 6) first
              (subst (λ (ns : List Seen). HasGrownBy types (seen r) ns 6) (sym end) (grown_seen 6 types r new put_grown));
        }

-- a field that is null stays so
pub null_kept : (types : List TypeShape) (qs : List ℕ) (ns : List Node) (x f : ℕ) (at : Place) → AreRows qs ns → IsMirrored (chart qs ns)
    → (chart qs ns).holds x f (rank qs at.begin.0) ≡ Null → IsNullWritten types qs (seen ns) (seen ns) x f at
null_kept types qs ns x f at all mir h = null_written types qs ns ns x f (rank qs at.begin.0) None (cleared_none qs x f (rank qs at.begin.0) ns all mir h) at ns ns refl refl refl

-- ---- what a pair needs, once the field is cleared

module _ (types : List TypeShape) (qs : List ℕ) (old r mid : List Node) (x f y s b : ℕ) (led : Option NodeId) (sound : IsSound types qs old)
    (same : AreSameNodes old r) (inside : IsIn (lives qs old) x b) (target : IsIn (lives qs old) y b)
    (field : field_kind (type_of types old x) f ≡ Some (Pointer (type_no old y))) (open_slot : IsOpenSlot types qs old y b x f s) (cl : IsFieldCleared qs r mid x f b led) where
  pub put_field : IsSlot qs mid x f b
  put_field = slot_grown cl.stamped types r mid (cl.grown types) qs x f b (same_slot old r same qs x f b (field_slot types qs old sound x b inside f (type_no old y) field))

  pub put_slot : IsSlot qs mid y s b
  put_slot = slot_grown cl.stamped types r mid (cl.grown types) qs y s b (same_slot old r same qs y s b (inverse_slot types qs old sound y b target s open_slot.inverse))

  pub put_free : (chart qs mid).holds y s b ≡ Free
  put_free = cl.free y s (⊎_elim
      (λ (e : (chart qs old).holds y s b ≡ Free). inl (same_holds old r same qs y s b ∙ e))
      (λ (e : (chart qs old).holds y s b ≡ From x f). inr (same_holds old r same qs y s b ∙ e))
      (inverse_holds types qs old sound y b target s x f open_slot.inverse open_slot.available))
