-- What a record leaves that is made, and a pointer that is written.
use Rattle.std.proofs.Common.{◌≡◌, ℕ, ◌+◌, ◌-◌, List, [], ◌∷◌, ◌++◌, length, Option, Some, None, inl, refl, sym, ap, ◌∙◌, subst, arith}
use Rattle.std.specs.Prelude.{◌↔◌}
use Rattle.std.specs.Option.{option_map}
use Rattle.std.specs.FinMap.{get}
use Rattle.std.proofs.lemmas.Bool.{false≢true}
use Rattle.pst_base.specs.declared.names.TypeNo.{TypeNo}
use Rattle.pst_base.specs.declared.names.NodeId.{NodeId}
use Rattle.pst_base.specs.declared.names.Name.{Name}
use Rattle.pst_base.specs.declared.names.Kind.{Kind}
use Rattle.pst_base.specs.declared.names.Kind.TheVariants.{Int, Pointer}
use Rattle.pst_base.specs.Name.{root_name}
use Rattle.pst_base.specs.Shape.{type_at, root_type, field_kind, element_count}
use Rattle.pst_base.specs.Heap.{kind_in, type_in, IsPointer, FitsField, IsFull}
use Rattle.pst_base.proofs.WellFormed.{type-from_none}
use Rattle.pst_versions.specs.State.{HasRoom, PointerStored, Allocated, WritesStay, IsNewType, IsFresh}
use Rattle.pst_order.specs.Places.{rank}
use Rattle.pst_store_meaning.specs.declared.place.Place.{Place}
use Rattle.pst_mirror.specs.Degree.{is_other_entry}
use Rattle.pst_store_meaning.specs.Arena.{IsIn}
use Rattle.pst_store_meaning.specs.Store.{Node, Noted, Stored, arena, begin_of, end_of, AreAllHeld, AreHeld, state_of, IsStore}
use Rattle.pst_store_meaning.specs.Steps.{with_nodes, one_record, one_pointer}
use Rattle.pst_store_meaning.proofs.Concrete.{drawn}
use Rattle.pst_store_meaning.proofs.Places.{store_is_sound}
use Rattle.pst_store_meaning.proofs.Reading.{kind_law}
use Rattle.pst_store_meaning.proofs.Sound.{full_law}
use Rattle.pst_store_meaning.proofs.Stepping.{allocate_law, null_law, link_law}
use Rattle.pst_store_arena.specs.Calls.{AreOthers, AreWaiting, IsNodeAdded, IsNullWritten, IsOpenTo, IsPointerWritten, IsWritten, arena_at}
use Rattle.pst_store.specs.Calls.{HasNoRoom, HoldsRoots, IsKept, kind_at}
use Rattle.pst_store.proofs.Held.{all_held_pushed, held_kept, held_pushed, order_after, order_cleared, order_same, waiting_pushed}
use Rattle.pst_store.proofs.Stores.{at_s, counted_pointer, counted_record}

-- ---- a record is made

module _ (s g : Stored) (nodes : List Node) (noted : Noted) (at : Place) (id : ℕ) (ty : TypeNo) (q : Name) (e : s ≡ g) (k : IsKept s) (o : (state_of g).writable at) (known : IsNewType (state_of g) ty)
    (fresh : IsFresh (state_of g) q) (a : IsNodeAdded s.shape s.nodes nodes id q ty at) (same : noted ≡ s.noted) (room : HasRoom (state_of g)) where
  abbrev holding : List Node → Stored
  holding ns = with_nodes s ns noted (one_record s.counts)

  made : IsStore (holding (s.nodes ++ a.node ∷ [])) × Allocated (state_of s) at ty q (record { 0 = length s.nodes }) (state_of (holding (s.nodes ++ a.node ∷ [])))
  made = allocate_law s noted at ty q a.node k.store (at_s s g (λ (s : Stored). (state_of s).writable at) e o)
      (at_s s g (λ (s : Stored). IsNewType (state_of s) ty) e known) (at_s s g (λ (s : Stored). IsFresh (state_of s) q) e fresh) a.made

  pub make_kept : IsKept (holding nodes)
  make_kept = subst (λ (ns : List Node). IsKept (holding ns)) (sym a.list)
      (record {
        store = made.0;
        waiting = subst (λ (q : Noted). AreWaiting s.shape (s.nodes ++ a.node ∷ []) q.queue) (sym same) (waiting_pushed s.shape s.nodes s.noted.queue a.node k.waiting a.made.stamped);
        held = subst (λ (q : Noted). AreHeld (arena_at s.places (s.nodes ++ a.node ∷ [])) q) (sym same) (held_pushed s.places s.nodes a.node s.noted k.held);
        counted = counted_record s.counts k.counted (at_s s g (λ (s : Stored). HasRoom (state_of s)) e room).records;
      })

  pub make_allocated : Allocated (state_of g) at ty q (record { 0 = id }) (state_of (holding nodes))
  make_allocated =
      subst (λ (g : Stored). Allocated (state_of g) at ty q (record { 0 = id }) (state_of (holding nodes))) e
      (subst (λ (ns : List Node). Allocated (state_of s) at ty q (record { 0 = id }) (state_of (holding ns))) (sym a.list)
      (subst (λ (n : ℕ). Allocated (state_of s) at ty q (record { 0 = n }) (state_of (holding (s.nodes ++ a.node ∷ [])))) (sym a.number) made.1))

  -- the new record is not the root record, which is in each heap
  not_root : a.node.head.name ≡ root_name → ⊥
  not_root is =
      let none : get ((state_of s).heap s.start) root_name ≡ None =
      subst (λ (n : Name). get ((state_of s).heap s.start) n ≡ None) (sym a.made.name ∙ is)
      ((at_s s g (λ (s : Stored). IsFresh (state_of s) q) e fresh).fresh s.start (inl refl)) in
      let there : type_in ((state_of s).heap s.start) root_name ≡ Some root_type = ((store_is_sound s k.store).well_formed s.start (inl refl)).root in
      let no_type : None ≡ Some root_type = sym (type-from_none ((state_of s).heap s.start) root_name none) ∙ there in
      absurd (cc)

  pub make_held : HoldsRoots g → HoldsRoots (holding nodes)
  make_held all = subst (λ (ns : List Node). HoldsRoots (holding ns)) (sym a.list)
      (subst (λ (q : Noted). AreAllHeld (arena_at s.places (s.nodes ++ a.node ∷ [])) q) (sym same)
      (all_held_pushed s.places s.nodes a.node s.noted not_root (at_s s g HoldsRoots e all)))

-- ---- a node that was found

pub record IsFound (s g : Stored) (at : Place) (r : NodeId) (x : ℕ) : Type 0 where
  pub view_is : s ≡ g
  pub kept : IsKept s
  pub live : (state_of g).live at r
  pub inside : IsIn (arena s) x (begin_of s at)
  pub same : (arena s).name x ≡ (arena s).name r.0

pub found : (s g : Stored) (at : Place) (r : NodeId) (x : ℕ) → s ≡ g → IsKept s → (state_of g).live at r → IsIn (arena s) x (begin_of s at) → (arena s).name x ≡ (arena s).name r.0 → IsFound s g at r x
found s g at r x e k l i same = record { view_is = e; kept = k; live = l; inside = i; same = same }

pub pointer_kind : (k : Option Kind) → IsPointer k → (t : TypeNo) × (k ≡ Some (Pointer t))
pointer_kind None p = absurd p
pointer_kind (Some Int) p = absurd p
pointer_kind (Some (Pointer t)) p = (t, refl)

module _ (s g : Stored) (at : Place) (r : NodeId) (x : ℕ) (w : IsFound s g at r x) where
  here : (state_of s).live at r
  here = at_s s g (λ (s : Stored). (state_of s).live at r) w.view_is w.live

  -- the field's kind as the store has it, and as the node has it
  pub found_kind : (f : ℕ) → kind_at s at r f ≡ field_kind (type_at s.shape ((arena s).ty x)) f
  found_kind f = ap (λ (n : Name). kind_in s.shape ((state_of s).heap at) n f) (sym w.same) ∙ (kind_law s at x f w.kept.store here.0 w.inside).1

  pub found_type : type_in ((state_of s).heap at) ((state_of s).name r) ≡ Some ((arena s).ty x)
  found_type = ap (type_in ((state_of s).heap at)) (sym w.same) ∙ (kind_law s at x 0 w.kept.store here.0 w.inside).0

  pub found_pointer : (f : ℕ) → IsPointer (kind_at g at r f) → IsPointer (field_kind (type_at s.shape ((arena s).ty x)) f)
  found_pointer f p = subst IsPointer (found_kind f) (at_s s g (λ (s : Stored). IsPointer (kind_at s at r f)) w.view_is p)

-- ---- null is written

module _ (s g : Stored) (nodes : List Node) (noted : Noted) (at : Place) (r : NodeId) (x f : ℕ) (w : IsFound s g at r x) (o : (state_of g).writable at)
    (p : IsPointer (kind_at g at r f)) (z : IsNullWritten s.shape s.places s.nodes nodes x f at) (d : IsWritten s.shape s.places nodes s.noted noted) (room : HasRoom (state_of g)) where
  abbrev without : Stored
  without = with_nodes s nodes noted (one_pointer s.counts)

  null_step : IsStore without × PointerStored (state_of s) at ((arena s).name x) f None (state_of without) × WritesStay (state_of s) (state_of without)
  null_step =
      let t = pointer_kind (field_kind (type_at s.shape ((arena s).ty x)) f) (found_pointer s g at r x w f p) in
      null_law s nodes noted at x f t.0 w.kept.store (at_s s g (λ (s : Stored). (state_of s).writable at) w.view_is o) (d.rows, d.wide) z.grown w.inside t.1 z.cleared

  pub null_kept : IsKept without
  null_kept = record {
    store = null_step.0;
    waiting = d.waiting;
    held = held_kept (arena s) (arena_at s.places nodes) s.noted noted d.roots (order_cleared (arena s) (arena_at s.places nodes) x f (begin_of s at) z.cleared) w.kept.held;
    counted = counted_pointer s.counts w.kept.counted (at_s s g (λ (s : Stored). HasRoom (state_of s)) w.view_is room).pointer_writes;
  }

  pub null_stored : PointerStored (state_of g) at ((state_of g).name r) f None (state_of without)
  null_stored = subst (λ (g : Stored). PointerStored (state_of g) at ((state_of g).name r) f None (state_of without)) w.view_is
      (subst (λ (n : Name). PointerStored (state_of s) at n f None (state_of without)) w.same null_step.1)

  pub null_writes : WritesStay (state_of g) (state_of without)
  null_writes = subst (λ (g : Stored). WritesStay (state_of g) (state_of without)) w.view_is null_step.2

-- ---- a pointer is written

module _ (s g : Stored) (at : Place) (r q : NodeId) (x y f : ℕ) (w : IsFound s g at r x) (v : IsFound s g at q y)
    (fits : FitsField ((state_of g).heap at) (kind_at g at r f) (Some ((state_of g).name q))) where
  -- the field's type is that of the node
  pub link_kind : field_kind (type_at s.shape ((arena s).ty x)) f ≡ Some (Pointer ((arena s).ty y))
  link_kind =
      let here_fits : FitsField ((state_of s).heap at) (kind_at s at r f) (Some ((state_of s).name q)) =
      at_s s g (λ (s : Stored). FitsField ((state_of s).heap at) (kind_at s at r f) (Some ((state_of s).name q))) w.view_is fits in
      sym (found_kind s g at r x w f) ∙ here_fits.1 ∙ ap (option_map Pointer) (found_type s g at q y v)

  -- whether there is room, by the slots
  full_is : IsFull s.shape ((state_of s).heap at) ((arena s).name x) f (Some ((arena s).name y)) ≡ HasNoRoom s at r f q
  full_is = λ i. IsFull s.shape ((state_of s).heap at) (w.same i) f (Some (v.same i))

  both : IsFull s.shape ((state_of s).heap at) ((arena s).name x) f (Some ((arena s).name y)) ↔ AreOthers s.shape (arena s) y (begin_of s at) x f
  both = full_law s.shape (end_of s s.start) (arena s) (begin_of s at) x f y w.kept.store.arena (drawn (rank s.places) (length s.places) s.nodes w.kept.store.rows) w.inside v.inside link_kind

  pub link_full : AreOthers g.shape (arena g) y (begin_of g at) x f → HasNoRoom g at r f q
  link_full h = subst (λ (g : Stored). HasNoRoom g at r f q) w.view_is
      (subst (λ (T : Type 0). T) full_is (both.1 (at_s s g (λ (s : Stored). AreOthers s.shape (arena s) y (begin_of s at) x f) w.view_is h)))

  pub link_slot : (i : ℕ) → IsOpenTo g.shape (arena g) y (begin_of g at) x f i → IsOpenTo s.shape (arena s) y (begin_of s at) x f i
  link_slot i o = at_s s g (λ (s : Stored). IsOpenTo s.shape (arena s) y (begin_of s at) x f i) w.view_is o

  pub link_room : (i : ℕ) → IsOpenTo g.shape (arena g) y (begin_of g at) x f i → ¬ (HasNoRoom g at r f q)
  link_room i free full =
      let o = link_slot i free in
      let each = both.0 (subst (λ (T : Type 0). T) (sym full_is) (at_s s g (λ (s : Stored). HasNoRoom s at r f q) w.view_is full))
      (i - element_count (type_at s.shape ((arena s).ty y))) (omega (arith, o.inverse.from, o.inverse.below)) in
      let at_i : element_count (type_at s.shape ((arena s).ty y)) + (i - element_count (type_at s.shape ((arena s).ty y))) ≡ i = omega (arith, o.inverse.from) in
      false≢true (sym o.available ∙ ap (λ (g : ℕ). is_other_entry x f ((arena s).chart.holds y g (begin_of s at))) (sym at_i) ∙ each)

  module _ (nodes : List Node) (noted : Noted) (i : ℕ) (o : (state_of g).writable at) (z : IsPointerWritten s.shape s.places s.nodes nodes x f at y i)
      (d : IsWritten s.shape s.places nodes s.noted noted) (room : HasRoom (state_of g)) where
    abbrev linked : Stored
    linked = with_nodes s nodes noted (one_pointer s.counts)

    link_step : IsStore linked × PointerStored (state_of s) at ((arena s).name x) f (Some ((arena s).name y)) (state_of linked) × WritesStay (state_of s) (state_of linked)
    link_step = link_law s z.mid nodes noted at x f y i w.kept.store (at_s s g (λ (s : Stored). (state_of s).writable at) w.view_is o)
        (z.mid_rows, z.mid_wide) (d.rows, d.wide) z.grown w.inside link_kind z.cleared z.put

    pub link_kept : IsKept linked
    link_kept = record {
      store = link_step.0;
      waiting = d.waiting;
      held = held_kept (arena s) (arena_at s.places nodes) s.noted noted d.roots
          (order_after (arena s) (arena_at s.places z.mid) (arena_at s.places nodes) (order_cleared (arena s) (arena_at s.places z.mid) x f (begin_of s at) z.cleared)
          (order_same (arena_at s.places z.mid) (arena_at s.places nodes) z.put.nodes)) w.kept.held;
      counted = counted_pointer s.counts w.kept.counted (at_s s g (λ (s : Stored). HasRoom (state_of s)) w.view_is room).pointer_writes;
    }

    pub link_stored : PointerStored (state_of g) at ((state_of g).name r) f (Some ((state_of g).name q)) (state_of linked)
    link_stored = subst (λ (g : Stored). PointerStored (state_of g) at ((state_of g).name r) f (Some ((state_of g).name q)) (state_of linked)) w.view_is
        (subst (λ (n : Name). PointerStored (state_of s) at ((arena s).name r.0) f (Some n) (state_of linked)) v.same
        (subst (λ (n : Name). PointerStored (state_of s) at n f (Some ((arena s).name y)) (state_of linked)) w.same link_step.1))

    pub link_writes : WritesStay (state_of g) (state_of linked)
    link_writes = subst (λ (g : Stored). WritesStay (state_of g) (state_of linked)) w.view_is link_step.2
