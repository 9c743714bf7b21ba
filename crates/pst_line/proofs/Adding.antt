-- A record is made in the open run.
use Rattle.std.proofs.Common.{◌≡◌, ◌≢◌, ℕ, ◌<◌, ◌≤◌, ◌||◌, Bool, true, List, length, Some, None, sym, ap, ◌∙◌, subst, ◌⊎◌, inl, inr, ⊎_elim, arith}
use Rattle.std.proofs.lemmas.Bool.{cases_lt, le-leb}
use Rattle.std.specs.FinMap.{get}
use Rattle.pst_base.specs.declared.names.Name.{Name}
use Rattle.pst_base.specs.declared.names.TypeNo.{TypeNo}
use Rattle.pst_base.specs.Shape.{type_at}
use Rattle.pst_base.specs.Heap.{with_record, new_record}
use Rattle.pst_versions.specs.State.{HasRoom, IsFresh, IsNewType, Allocated}
use Rattle.pst_line_nodes.specs.Line.{IsLine, heap_at, record_at, most}
use Rattle.pst_line_nodes.specs.Changes.{IsMade, VersionsStay}
use Rattle.pst_line_nodes.specs.Seen.{Seen}
use Rattle.pst_line_nodes.specs.Nodes.{line_of, AreKept}
use Rattle.pst_line_nodes.proofs.HeapLaws.{heap_has}
use Rattle.pst_line_nodes.proofs.Made.{made_law, default_plain}
use Rattle.pst_line.specs.declared.place.LinePlace.{LinePlace}
use Rattle.pst_line.specs.Store.{state_of, is_made, in_stretch, IsWritable, IsStored, IsRested}
use Rattle.pst_line.specs.StoreLaws.{after, one_record}
use Rattle.pst_line.specs.Undoing.{plan}
use Rattle.pst_line.specs.Held.{Held, IsHeld, line_in, stored_of}
use Rattle.pst_line.specs.Entered.{line_with}
use Rattle.pst_line.proofs.Stores.{cover, allocate_law}
use Rattle.pst_line.proofs.Entries.{can_undo_made, or_true}
use Rattle.pst_line.proofs.Roots.{RootsStay, stay_made, have_roots}

-- g as it is seen
module _ (s : Held) (h : IsHeld s) (at : LinePlace) (wr : IsWritable (stored_of s) at) (ty : TypeNo) (q : Name) (new : IsNewType (state_of (stored_of s)) ty) (fresh : IsFresh (state_of (stored_of s)) q) (room : HasRoom (state_of (stored_of s)))
    (ms : List Seen) (d : (made : ℕ → Bool) → made (length s.nodes) ≡ true → IsMade s.shape (line_of made s.nodes) (line_of made ms) q ty (length s.versions)) (kept : AreKept s.shape (length s.versions) s.nodes → AreKept s.shape (length s.versions) ms) where
  run_made : is_made s.versions s.opened (length s.nodes) ≡ true
  run_made = ap (λ o. is_made s.versions o (length s.nodes)) wr.run.opened
      ∙ ap (λ b. in_stretch s.versions (length s.nodes) || b) (le-leb wr.run.begun (length s.nodes) (h.stored.begun wr.run.begun wr.run.opened)) ∙ or_true (in_stretch s.versions (length s.nodes))

  made : IsMade s.shape (line_in s) (line_with s ms) q ty (length s.versions)
  made = d (is_made s.versions s.opened) run_made

  law : IsStored (after (stored_of s) (line_with s ms) (one_record s.counts)) × Allocated (state_of (stored_of s)) at ty q (record { 0 = length s.nodes }) (state_of (after (stored_of s) (line_with s ms) (one_record s.counts)))
  law = allocate_law (stored_of s) (line_with s ms) at q ty h.stored wr new fresh made

  lacks : get (heap_at s.shape (line_in s) (length s.versions)) q ≡ None
  lacks = ap (λ n. get (heap_at s.shape (line_in s) n) q) (sym wr.run.newest) ∙ fresh.fresh at (inr wr.run)

  free : (i : ℕ) → i < length s.nodes → (line_in s).made i ≡ true → (line_in s).name i ≢ q
  free i m a named =
      let c = cover s.shape (length s.versions) (line_in s) (length s.versions) i h.stored.line (record { there = m; made = a; begun = h.stored.line.first i m }) in
      let there : get (heap_at s.shape (line_in s) (length s.versions)) q ≡ Some (record_at s.shape (line_in s) c.node (length s.versions)) = ap (get (heap_at s.shape (line_in s) (length s.versions))) (sym (c.name ∙ named)) ∙ heap_has s.shape (line_in s) (length s.versions) h.stored.line.chained c.node c.alive in
      let none : get (heap_at s.shape (line_in s) (length s.versions)) q ≡ None = ap (λ n. get (heap_at s.shape (line_in s) n) q) (sym wr.run.newest) ∙ fresh.fresh at (inr wr.run) in
      cc

  nodes : IsLine s.shape (length s.versions) (line_with s ms) × VersionsStay s.shape (length s.versions) (line_in s) (line_with s ms)
      × (heap_at s.shape (line_with s ms) (length s.versions) ≡ with_record (heap_at s.shape (line_in s) (length s.versions)) q (new_record s.shape ty))
  nodes = let n = made_law s.shape (line_in s) (line_with s ms) q ty (length s.versions) h.stored.line new.above new.below free h.stored.homes made in (n.0, n.1, n.2)

  sides : (i : ℕ) → i < length ms → (i ≡ length s.nodes) ⊎ (i < length s.nodes)
  sides i m = ⊎_elim (λ (p : i < length s.nodes). inr p) (λ (p : length s.nodes ≤ i). inl (omega (arith, made.count))) (cases_lt i (length s.nodes))

  rests : IsRested (stored_of s) → IsRested (after (stored_of s) (line_with s ms) (one_record s.counts))
  rests r = record {
    quiet = record {
      none = λ i g y n e. elim (sides i n.there) [
        | inl p ↦ absurd (default_plain (type_at s.shape ty) g y (sym (made.holds_z g (length s.versions)) ∙ ap (λ i. (line_with s ms).holds i g (length s.versions)) (sym p) ∙ e))
        | inr p ↦
            let was = r.quiet.none i g y (record { there = p; last = sym (made.later i p) ∙ n.last }) (sym (made.holds i g (length s.versions) p) ∙ e) in
            let there = (h.stored.line.newest i g y (record { there = p; last = sym (made.later i p) ∙ n.last }) (sym (made.holds i g (length s.versions) p) ∙ e)).0 in
            made.later y there ∙ was
      ];
    };
    small = λ i m. elim (sides i m) [
      | inl p ↦ let e : (line_with s ms).stamped i ≡ 0 = ap (line_with s ms).stamped p ∙ made.stamped_z in omega (arith, e)
      | inr p ↦ let e : most (type_at s.shape ((line_with s ms).ty i)) ≡ most (type_at s.shape ((line_in s).ty i)) = ap (λ (v : TypeNo). most (type_at s.shape v)) (made.ty i p) in omega (arith, r.small i p, made.stamped i p, e)
    ];
  }

  pub made_held : IsHeld (record s { nodes = ms; counts = one_record s.counts })
  made_held = record {
    stored = law.0;
    some = h.some;
    few = h.few;
    rooted = h.rooted;
    kept = kept h.kept;
    rested = λ f. rests (h.rested f);
    closed = λ o. absurd (no o);
    whole = λ o. absurd (no o);
    empty = λ o. absurd (no o);
    once = h.once;
    undone = λ b o f. can_undo_made (stored_of s) (line_with s ms) b q ty (plan s.undo) h.stored o new.above new.below free made nodes.1 lacks nodes.2 (h.undone b o f);
    counted = record { records = omega (arith, room.records); pointer_writes = h.counted.pointer_writes; value_writes = h.counted.value_writes };
    roots = have_roots s.nodes ms stay 0 s.versions h.roots;
    root = stay (length s.versions) s.root h.root;
  }
    where
      stay : RootsStay s.nodes ms
      stay = stay_made s.shape (is_made s.versions s.opened) s.nodes ms q ty (length s.versions) made

      no : s.opened ≡ None → ⊥
      no o = let q : None ≡ Some wr.run.begun = sym o ∙ wr.run.opened in cc

  pub made_done : Allocated (state_of (stored_of s)) at ty q (record { 0 = length s.nodes }) (state_of (stored_of (record s { nodes = ms; counts = one_record s.counts })))
  made_done = law.1

-- as it is seen
module _ (s g : Held) (e : s ≡ g) (h : IsHeld s) (at : LinePlace) (wr : IsWritable (stored_of g) at) (ty : TypeNo) (q : Name) (new : IsNewType (state_of (stored_of g)) ty) (fresh : IsFresh (state_of (stored_of g)) q) (room : HasRoom (state_of (stored_of g)))
    (t : ℕ) (t_is : t ≡ length g.versions) (ms : List Seen) where
  pub refused_held : ms ≡ s.nodes → IsHeld (record s { nodes = ms })
  refused_held same = subst (λ (ms : List Seen). IsHeld (record s { nodes = ms })) (sym same) h

  pub refused_same : ms ≡ s.nodes → record s { nodes = ms } ≡ g
  refused_same same = ap (λ (ms : List Seen). record s { nodes = ms }) same ∙ e

  t_s : t ≡ length s.versions
  t_s = t_is ∙ ap (λ (g : Held). length g.versions) (sym e)

  module _ (d : (made : ℕ → Bool) → made (length s.nodes) ≡ true → IsMade s.shape (line_of made s.nodes) (line_of made ms) q ty t) (kept : AreKept s.shape t s.nodes → AreKept s.shape t ms) where
    d_s : (made : ℕ → Bool) → made (length s.nodes) ≡ true → IsMade s.shape (line_of made s.nodes) (line_of made ms) q ty (length s.versions)
    d_s = subst (λ (t : ℕ). (made : ℕ → Bool) → made (length s.nodes) ≡ true → IsMade s.shape (line_of made s.nodes) (line_of made ms) q ty t) t_s d

    kept_s : AreKept s.shape (length s.versions) s.nodes → AreKept s.shape (length s.versions) ms
    kept_s = subst (λ (t : ℕ). AreKept s.shape t s.nodes → AreKept s.shape t ms) t_s kept

    wr_s : IsWritable (stored_of s) at
    wr_s = subst (λ (g : Held). IsWritable (stored_of g) at) (sym e) wr

    new_s : IsNewType (state_of (stored_of s)) ty
    new_s = subst (λ (g : Held). IsNewType (state_of (stored_of g)) ty) (sym e) new

    fresh_s : IsFresh (state_of (stored_of s)) q
    fresh_s = subst (λ (g : Held). IsFresh (state_of (stored_of g)) q) (sym e) fresh

    room_s : HasRoom (state_of (stored_of s))
    room_s = subst (λ (g : Held). HasRoom (state_of (stored_of g))) (sym e) room

    pub added_held : IsHeld (record s { nodes = ms; counts = one_record s.counts })
    added_held = made_held s h at wr_s ty q new_s fresh_s room_s ms d_s kept_s

    pub added_done : (id : ℕ) → id ≡ length s.nodes → Allocated (state_of (stored_of g)) at ty q (record { 0 = id }) (state_of (stored_of (record s { nodes = ms; counts = one_record s.counts })))
    added_done id is =
        subst (λ (id : ℕ). Allocated (state_of (stored_of g)) at ty q (record { 0 = id }) (state_of (stored_of (record s { nodes = ms; counts = one_record s.counts })))) (sym is)
        (subst (λ (g : Held). Allocated (state_of (stored_of g)) at ty q (record { 0 = length s.nodes }) (state_of (stored_of (record s { nodes = ms; counts = one_record s.counts })))) e (made_done s h at wr_s ty q new_s fresh_s room_s ms d_s kept_s))
