-- What a change of nodes does to what a store means, and that it keeps what a store keeps.
use Rattle.std.proofs.Common.{◌≡◌, ◌≢◌, ℕ, zero, suc, ◌+◌, ◌<◌, ◌≤◌, true, cond, List, [], ◌∷◌, ◌++◌, length, Option, Some, None, refl, sym, ap, ◌∙◌, subst, inl, inr, ⊎_elim, arith}
use Rattle.std.specs.Prelude.{map, unwrap_or}
use Rattle.std.specs.Option.{option_map}
use Rattle.std.specs.FinMap.{get}
use Rattle.std.proofs.lemmas.Bool.{cases_eq, cases_lt, lt-ltb, le-leb}
use Rattle.std.proofs.lemmas.List.{map_push}
use Rattle.std.proofs.lemmas.List.Sums.{sum_by_push}
use Rattle.pst_base.specs.declared.names.TypeNo.{TypeNo}
use Rattle.pst_base.specs.declared.names.NodeId.{NodeId}
use Rattle.pst_base.specs.declared.names.Name.{Name}
use Rattle.pst_base.specs.declared.names.Counts.{Counts}
use Rattle.pst_base.specs.declared.shape.TypeShape.{TypeShape}
use Rattle.pst_base.specs.Shape.{type_at, root_type}
use Rattle.pst_base.specs.Name.{root_name}
use Rattle.pst_base.specs.Heap.{Heap}
use Rattle.pst_versions.specs.State.{IsNewType, IsFresh, Allocated, Unchanged, WritesStay, Keeps, OthersStay}
use Rattle.pst_rows.specs.declared.content.Content.TheVariants.{Null}
use Rattle.pst_rows.specs.declared.content.Stamp.{Stamp}
use Rattle.pst_rows.specs.Timeline.{in_force}
use Rattle.pst_order.specs.Places.{rank}
use Rattle.pst_rows.specs.Values.{IsValue, base_in, stamp_at, stamps_in, content_in}
use Rattle.pst_mirror.specs.Charts.{AllRows, rows_hold, rows_edge, is_alive}
use Rattle.pst_mirror.specs.Potential.{Load, potential, excess}
use Rattle.pst_mirror.proofs.PotentialLemmas.{growth}
use Rattle.pst_store_meaning.specs.declared.place.Place.{Place}
use Rattle.pst_store_meaning.specs.Arena.{heap_at}
use Rattle.pst_store_meaning.specs.Changes.{MadeKeeps, SplitKeeps, IsMade, HasSameNodes, WriteKeeps, default_content, IsSplit}
use Rattle.pst_store_meaning.specs.Store.{Stored, Noted, Node, of_node, arena, begin_of, end_of, IsOpen, state_of, AreBorn, LivesOver, width, load_of, loads, bound, IsStore}
use Rattle.pst_store_meaning.specs.Steps.{with_nodes, arena_with, HasRows, HasGrownBy, IsNewNode, one_record, one_number, one_pointer, AllocateLaw, ValueLaw, NullLaw, LinkLaw, SplitStepLaw}
use Rattle.pst_store_meaning.proofs.HeapLaws.{heap_has, new_or_old}
use Rattle.pst_store_meaning.proofs.Born.{lives_first, lives_made, lives_new, lives_renamed, lives_same, lives_split}
use Rattle.pst_store_meaning.proofs.Concrete.{rows, drawn}
use Rattle.pst_store_meaning.proofs.Places.{begins, same_place, open_place, open_ends, length-push, slice_get-push}
use Rattle.pst_store_meaning.proofs.Made.{made_law}
use Rattle.pst_store_meaning.proofs.Writes.{number_law}
use Rattle.pst_store_meaning.proofs.Pointers.{cleared_law, pointer_law}
use Rattle.pst_store_meaning.proofs.Split.{split_law}

-- ---- one node more

module _ {A : Type 0} (f : Node → A) (other : A) where
  pub of_node-old : (ns : List Node) (n : Node) (i : ℕ) → i < length ns → of_node f other (ns ++ n ∷ []) i ≡ of_node f other ns i
  of_node-old [] n i l = absurd (omega arith)
  of_node-old (m ∷ ms) n zero l = refl
  of_node-old (m ∷ ms) n (suc i) l = of_node-old ms n i (omega arith)

  pub of_node-new : (ns : List Node) (n : Node) → of_node f other (ns ++ n ∷ []) (length ns) ≡ f n
  of_node-new [] n = refl
  of_node-new (m ∷ ms) n = of_node-new ms n

holds-old : (r : ℕ → ℕ) (ns : List Node) (n : Node) (i g m : ℕ) → i ≢ length ns → rows_hold r (rows (ns ++ n ∷ [])) i g m ≡ rows_hold r (rows ns) i g m
holds-old r [] n zero g m ne = absurd (ne refl)
holds-old r [] n (suc i) g m ne = refl
holds-old r (x ∷ xs) n zero g m ne = refl
holds-old r (x ∷ xs) n (suc i) g m ne = holds-old r xs n i g m (λ e. ne (ap suc e))

edges-old : (r : ℕ → ℕ) (ns : List Node) (n : Node) (i g m : ℕ) → i ≢ length ns → rows_edge r (rows (ns ++ n ∷ [])) i g m ≡ rows_edge r (rows ns) i g m
edges-old r [] n zero g m ne = absurd (ne refl)
edges-old r [] n (suc i) g m ne = refl
edges-old r (x ∷ xs) n zero g m ne = refl
edges-old r (x ∷ xs) n (suc i) g m ne = edges-old r xs n i g m (λ e. ne (ap suc e))

holds-new : (r : ℕ → ℕ) (ns : List Node) (n : Node) (g m : ℕ) → rows_hold r (rows (ns ++ n ∷ [])) (length ns) g m ≡ cond (is_alive r n.row m) (content_in r n.row g m) Null
holds-new r [] n g m = refl
holds-new r (x ∷ xs) n g m = holds-new r xs n g m

pub in_force-none : {C : Type 0} (stamps : ℕ → Option C) (base : C) (n : ℕ) → ((m : ℕ) → stamps m ≡ None) → in_force stamps base n ≡ base
in_force-none stamps base zero h = ap (λ o. unwrap_or o base) (h 0)
in_force-none stamps base (suc n) h = ap (λ o. unwrap_or o (in_force stamps base n)) (h (suc n)) ∙ in_force-none stamps base n h

rows-push : (r : ℕ → ℕ) (places : ℕ) (ns : List Node) (n : Node) → AllRows r places (rows ns) → IsValue r places n.row → AllRows r places (rows (ns ++ n ∷ []))
rows-push r places [] n h i = (i, tt)
rows-push r places (m ∷ ms) n h i = (h.0, rows-push r places ms n h.1 i)

-- ---- the potential

potential-push : (ls : List Load) (l : Load) → l.stamped ≡ 0 → potential (ls ++ l ∷ []) ≡ potential ls
potential-push ls l e = sum_by_push excess ls l ∙ (let none : excess l ≡ 0 = omega (arith, e) in omega arith)

grown : (shape : List TypeShape) (old new : List Node) (k : ℕ) → HasGrownBy shape old new k → potential (map (load_of shape) new) ≤ potential (map (load_of shape) old) + k
grown shape old new k h = omega (arith, growth (map (load_of shape) old) (map (load_of shape) new) h.each, h.few)

-- ---- a new record

module _ (s : Stored) (noted : Noted) (at : Place) (ty : TypeNo) (q : Name) (n : Node) (h : IsStore s) (o : IsOpen s.forks at)
    (known : IsNewType (state_of s) ty) (fresh : IsFresh (state_of s) q) (new : IsNewNode s.shape n q ty at) where
  abbrev t : Stored
  t = with_nodes s (s.nodes ++ n ∷ []) noted (one_record s.counts)

  abbrev r : ℕ → ℕ
  r = rank s.places

  abbrev b : ℕ
  b = begin_of s at

  lo_is : r n.row.lo.0 ≡ b
  lo_is = ap r new.lo

  ends : r at.end.0 ≡ suc b
  ends = open_ends s h.nested at o

  hi_is : r n.row.hi.0 ≡ suc b
  hi_is = ap r new.hi ∙ open_ends s h.nested at o

  no_stamps : (g m : ℕ) → stamps_in r n.row g m ≡ None
  no_stamps g m = ap (λ (es : List Stamp). stamp_at r es g m) new.stamped

  base_is : (g : ℕ) → rows_hold r (rows (s.nodes ++ n ∷ [])) (length s.nodes) g b ≡ default_content (type_at s.shape ty) g
  base_is g =
      let alive : is_alive r n.row b ≡ true = (let low : r n.row.lo.0 ≤ b = omega (arith, lo_is) in let high : b < r n.row.hi.0 =
      omega (arith, hi_is) in rw (le-leb (r n.row.lo.0) b low, lt-ltb b (r n.row.hi.0) high) refl) in
      holds-new r s.nodes n g b ∙ ap (λ v. cond v (content_in r n.row g b) Null) alive ∙ in_force-none (stamps_in r n.row g) (base_in n.row g) b (no_stamps g) ∙ new.base g

  made : IsMade s.shape (arena s) (arena t) q ty b
  made = record {
    count = length-push s.nodes n ∙ omega arith;
    name = λ i l. of_node-old (λ n. n.head.name) root_name s.nodes n i l;
    ty = λ i l. of_node-old (λ n. n.head.ty) root_type s.nodes n i l;
    lo = λ i l. of_node-old (λ n. r n.row.lo.0) 0 s.nodes n i l;
    hi = λ i l. of_node-old (λ n. r n.row.hi.0) 0 s.nodes n i l;
    later = λ i l. of_node-old (λ n. option_map (λ (i : NodeId). i.0) n.head.later) None s.nodes n i l;
    holds = λ i g m ne. holds-old r s.nodes n i g m ne;
    edges = λ i g m ne. edges-old r s.nodes n i g m ne;
    new_name = of_node-new (λ n. n.head.name) root_name s.nodes n ∙ new.name;
    new_ty = of_node-new (λ n. n.head.ty) root_type s.nodes n ∙ new.typed;
    new_lo = of_node-new (λ n. r n.row.lo.0) 0 s.nodes n ∙ lo_is;
    new_hi = of_node-new (λ n. r n.row.hi.0) 0 s.nodes n ∙ hi_is;
    new_later = of_node-new (λ n. option_map (λ (i : NodeId). i.0) n.head.later) None s.nodes n ∙ ap (option_map (λ (i : NodeId). i.0)) new.later;
    new_holds = base_is;
  }

  rows_t : AllRows r (length s.places) (rows (s.nodes ++ n ∷ []))
  rows_t = rows-push r (length s.places) s.nodes n h.rows (new.row_is r (length s.places) (omega (arith, ends)) (omega (arith, ends, begins s h.nested at (open_place s at o), h.nested.last)))

  -- no node has the name
  apart : (i : ℕ) → i < length s.nodes → (arena s).name i ≢ q
  apart i l e =
      let p = h.born i l in
      let there : get (heap_at s.shape (arena s) (begin_of s p.0)) q ≡ Some _ =
      ap (get (heap_at s.shape (arena s) (begin_of s p.0))) (sym e ∙ sym p.2.starts.name)
      ∙ heap_has s.shape (arena s) (begin_of s p.0) h.arena.chained p.2.first
      (lives_first (arena s) i (begin_of s p.0) (end_of s p.0) h.arena.chained p.2) in
      let none : get (heap_at s.shape (arena s) (begin_of s p.0)) q ≡ None = fresh.fresh p.0 p.1 in
      cc

  keeps : MadeKeeps s.shape (end_of s s.start) (arena s) (arena t) q ty b
  keeps = made_law s.shape (end_of s s.start) (arena s) (arena t) q ty b h.arena (drawn r (length s.places) s.nodes h.rows)
      (drawn r (length s.places) (s.nodes ++ n ∷ []) rows_t) made apart known.above known.below

  loads_t : potential (loads t) ≡ potential (loads s)
  loads_t = ap potential (map_push (load_of s.shape) s.nodes n) ∙ potential-push (loads s) (load_of s.shape n) (ap (λ (es : List Stamp). length es) new.stamped)

  born_t : AreBorn t
  born_t i l = ⊎_elim
      (λ (v : i < length s.nodes). let p = h.born i v in (p.0, p.1, lives_made s.shape (arena s) (arena t) q ty b made apart i (begin_of s p.0) (end_of s p.0) v p.2))
      (λ (v : length s.nodes ≤ i).
      let same : i ≡ length s.nodes = omega (arith, made.count) in (
        at,
        open_place s at o,
        subst (λ (e : ℕ). LivesOver (arena t) i b e) (sym ends)
            (subst (λ (i : ℕ). LivesOver (arena t) i b (suc b)) (sym same) (lives_new s.shape (arena s) (arena t) q ty b made apart)),
      ))
      (cases_lt i (length s.nodes))

  store_t : IsStore t
  store_t = record {
    valid = h.valid;
    nested = record {
      first = h.nested.first;
      some = h.nested.some;
      last = h.nested.last;
      numbered = h.nested.numbered;
      from = h.nested.from;
      inside =
          h.nested.inside;
      before = h.nested.before;
      closed = h.nested.closed;
      apart = h.nested.apart;
      relics = h.nested.relics;
      written = h.nested.written;
    };
    rows = rows_t;
    wide = λ i m e. elim (slice_get-push s.nodes n i m e) [
      | inl v ↦ h.wide i m v
      | inr v ↦ subst (λ (m : Node). length m.row.slots ≡ width (type_at s.shape m.head.ty)) v.1 (new.wide ∙ ap (λ (t : TypeNo). width (type_at s.shape t)) (sym new.typed))
    ];
    arena = keeps.arena;
    born = born_t;
    versions = record {
      tree = h.versions.tree;
      root = h.versions.root;
      forked = h.versions.forked;
      apart = h.versions.apart;
      placed =
          h.versions.placed;
      published = h.versions.published;
      counted = h.versions.counted;
      made = h.versions.made;
      calls = h.versions.calls;
    };
    rooted = record { some = omega (arith, length-push s.nodes n); name = made.name 0 h.rooted.some ∙ h.rooted.name; begins = made.lo 0 h.rooted.some ∙ h.rooted.begins };
    bounded = omega (arith, h.bounded, loads_t, length-push s.nodes n);
    few = h.few;
    spent = h.spent;
  }

  allocated : Allocated (state_of s) at ty q (record { 0 = length s.nodes }) (state_of t)
  allocated = record {
    keeps = record {
      grows = record { shape = refl; spent = refl; has = λ p i. i; live = λ p i l. (l.0, keeps.live i.0 (begin_of s p) l.1); name = λ p i l. made.name i.0 l.1.there };
      back = λ p i. i;
      versions = refl;
      forks = refl;
      fork_calls = refl;
    };
    writes = record { kept = λ p i. i; back = λ p i. i };
    others = record {
      stay = λ p i. ⊎_elim
          (λ (e : begin_of s p ≡ begin_of s at). inl (same_place s h.nested p at i o e))
          (λ (e : begin_of s p ≡ begin_of s at → ⊥). inr (keeps.elsewhere (begin_of s p) e))
          (cases_eq (begin_of s p) (begin_of s at));
    };
    heap = keeps.here;
    name = made.new_name;
    live = (open_place s at o, keeps.new_live);
    counts = refl;
  }

pub allocate_law : AllocateLaw
allocate_law s noted at ty q n h o known fresh new = (store_t s noted at ty q n h o known fresh new, allocated s noted at ty q n h o known fresh new)

-- ---- a write

module _ (s : Stored) (nodes : List Node) (noted : Noted) (counts : Counts) (at : Place) (h : IsStore s) (o : IsOpen s.forks at) (rs : HasRows s nodes) (g : Heap)
    (keeps : WriteKeeps s.shape (end_of s s.start) (arena s) (arena_with s nodes) (begin_of s at) g) (same : HasSameNodes (arena s) (arena_with s nodes)) where
  abbrev w : Stored
  w = with_nodes s nodes noted counts

  wrote_store : length nodes + potential (map (load_of s.shape) nodes) ≤ bound counts → IsStore w
  wrote_store bounded = record {
    valid = h.valid;
    nested = record {
      first = h.nested.first;
      some = h.nested.some;
      last = h.nested.last;
      numbered = h.nested.numbered;
      from = h.nested.from;
      inside =
          h.nested.inside;
      before = h.nested.before;
      closed = h.nested.closed;
      apart = h.nested.apart;
      relics = h.nested.relics;
      written = h.nested.written;
    };
    rows = rs.0;
    wide = rs.1;
    arena = keeps.arena;
    born = λ i l. let p = h.born i (omega (arith, same.count)) in (p.0, p.1, lives_same (arena s) (arena w) i (begin_of s p.0) (end_of s p.0) same p.2);
    versions = record {
      tree = h.versions.tree;
      root = h.versions.root;
      forked = h.versions.forked;
      apart = h.versions.apart;
      placed =
          h.versions.placed;
      published = h.versions.published;
      counted = h.versions.counted;
      made = h.versions.made;
      calls = h.versions.calls;
    };
    rooted = record { some = omega (arith, same.count, h.rooted.some); name = same.name 0 ∙ h.rooted.name; begins = same.lo 0 ∙ h.rooted.begins };
    bounded = bounded;
    few = h.few;
    spent = h.spent;
  }

  wrote_keeps : Keeps (state_of s) (state_of w)
  wrote_keeps = record {
    grows = record { shape = refl; spent = refl; has = λ p i. i; live = λ p i l. (l.0, keeps.live i.0 (begin_of s p) l.1); name = λ p i l. same.name i.0 };
    back = λ p i. i;
    versions = refl;
    forks = refl;
    fork_calls = refl;
  }

  wrote_others : OthersStay at (state_of s) (state_of w)
  wrote_others = record {
    stay = λ p i. ⊎_elim
        (λ (e : begin_of s p ≡ begin_of s at). inl (same_place s h.nested p at i o e))
        (λ (e : begin_of s p ≡ begin_of s at → ⊥). inr (keeps.elsewhere (begin_of s p) e))
        (cases_eq (begin_of s p) (begin_of s at));
  }

  wrote_writes : WritesStay (state_of s) (state_of w)
  wrote_writes = record { kept = λ p i. i; back = λ p i. i }

pub value_law : ValueLaw
value_law s nodes noted at x f v h o rs more set alive below =
    let keeps = number_law s.shape (end_of s s.start) (arena s) (arena_with s nodes) x f (begin_of s at) v h.arena
    (drawn (rank s.places) (length s.places) s.nodes h.rows) (drawn (rank s.places) (length s.places) nodes rs.0) set alive below in (
      wrote_store s nodes noted (one_number s.counts) at h o rs _ keeps set.nodes (omega (arith, h.bounded, set.nodes.count, grown s.shape s.nodes nodes 2 more)),
      record {
        keeps = wrote_keeps s nodes noted (one_number s.counts) at h o rs _ keeps set.nodes;
        others = wrote_others s nodes noted (one_number s.counts) at h o rs _ keeps set.nodes;
        heap = keeps.here;
        counts = refl;
      },
      wrote_writes s nodes noted (one_number s.counts) at h o rs _ keeps set.nodes,
    )

pub null_law : NullLaw
null_law s nodes noted at x f u h o rs more alive k c =
    let m = cleared_law s.shape (end_of s s.start) (arena s) (arena_with s nodes) x f (begin_of s at) u h.arena
    (drawn (rank s.places) (length s.places) s.nodes h.rows) (drawn (rank s.places) (length s.places) nodes rs.0) alive k c in (
      wrote_store s nodes noted (one_pointer s.counts) at h o rs _ m.0 m.1 (omega (arith, h.bounded, m.1.count, grown s.shape s.nodes nodes 6 more)),
      record {
        keeps = wrote_keeps s nodes noted (one_pointer s.counts) at h o rs _ m.0 m.1;
        others = wrote_others s nodes noted (one_pointer s.counts) at h o rs _ m.0 m.1;
        heap = m.0.here;
        counts = refl;
      },
      wrote_writes s nodes noted (one_pointer s.counts) at h o rs _ m.0 m.1,
    )

pub link_law : LinkLaw
link_law s mid nodes noted at x f y i h o rm rs more alive k c p =
    let d = drawn (rank s.places) (length s.places) s.nodes h.rows in
    let m = pointer_law s.shape (end_of s s.start) (arena s) (arena_with s mid) (arena_with s nodes) x f y i (begin_of s at) h.arena d
    (drawn (rank s.places) (length s.places) mid rm.0) (drawn (rank s.places) (length s.places) nodes rs.0) alive k c p in (
      wrote_store s nodes noted (one_pointer s.counts) at h o rs _ m.0 m.1 (omega (arith, h.bounded, m.1.count, grown s.shape s.nodes nodes 6 more)),
      record {
        keeps = wrote_keeps s nodes noted (one_pointer s.counts) at h o rs _ m.0 m.1;
        others = wrote_others s nodes noted (one_pointer s.counts) at h o rs _ m.0 m.1;
        heap = m.0.here;
        counts = refl;
      },
      wrote_writes s nodes noted (one_pointer s.counts) at h o rs _ m.0 m.1,
    )

-- ---- a split

module _ (s : Stored) (nodes : List Node) (noted : Noted) (x position : ℕ) (h : IsStore s) (rs : HasRows s nodes)
    (o : IsSplit (arena s) (arena_with s nodes) x position) (falls : potential (map (load_of s.shape) nodes) + 1 ≤ potential (loads s)) where
  abbrev v : Stored
  v = with_nodes s nodes noted s.counts

  split_keeps : SplitKeeps s.shape (end_of s s.start) (arena s) (arena v)
  split_keeps = split_law s.shape (end_of s s.start) (arena s) (arena v) x position h.arena (drawn (rank s.places) (length s.places) s.nodes h.rows)
      (drawn (rank s.places) (length s.places) nodes rs.0) o

  -- a record still lives where it was made
  born_v : AreBorn v
  born_v i l = ⊎_elim
      (λ (e : i ≡ length s.nodes).
      let p = h.born x o.life.there in
      let same : (arena v).name x ≡ (arena v).name i = o.life.name x o.life.there ∙ sym o.life.name_z ∙ sym (ap (arena v).name e) in
      (p.0, p.1, lives_renamed (arena v) x i (begin_of s p.0) (end_of s p.0) same (lives_split (arena s) (arena v) x position o x (begin_of s p.0) (end_of s p.0) o.life.there p.2)))
      (λ (e : i < length s.nodes). let p = h.born i e in (p.0, p.1, lives_split (arena s) (arena v) x position o i (begin_of s p.0) (end_of s p.0) e p.2))
      (new_or_old (arena s).count (arena v).count i o.life.count l)

  store_v : IsStore v
  store_v = record {
    valid = h.valid;
    nested = record {
      first = h.nested.first;
      some = h.nested.some;
      last = h.nested.last;
      numbered = h.nested.numbered;
      from = h.nested.from;
      inside =
          h.nested.inside;
      before = h.nested.before;
      closed = h.nested.closed;
      apart = h.nested.apart;
      relics = h.nested.relics;
      written = h.nested.written;
    };
    rows = rs.0;
    wide = rs.1;
    arena = split_keeps.arena;
    born = born_v;
    versions = record {
      tree = h.versions.tree;
      root = h.versions.root;
      forked = h.versions.forked;
      apart = h.versions.apart;
      placed =
          h.versions.placed;
      published = h.versions.published;
      counted = h.versions.counted;
      made = h.versions.made;
      calls = h.versions.calls;
    };
    rooted = record { some = omega (arith, o.life.count); name = o.life.name 0 h.rooted.some ∙ h.rooted.name; begins = o.life.lo 0 h.rooted.some ∙ h.rooted.begins };
    bounded = omega (arith, h.bounded, falls, o.life.count);
    few = h.few;
    spent = h.spent;
  }

  unchanged_v : Unchanged (state_of s) (state_of v)
  unchanged_v = record {
    keeps = record {
      grows = record { shape = refl; spent = refl; has = λ p i. i; live = λ p i l. (l.0, split_keeps.live i.0 (begin_of s p) l.1); name = λ p i l. o.life.name i.0 l.1.there };
      back = λ p i. i;
      versions = refl;
      forks = refl;
      fork_calls = refl;
    };
    heaps = λ p i. split_keeps.heaps (begin_of s p);
    counts = refl;
  }

pub split_step_law : SplitStepLaw
split_step_law s nodes noted x p h rs o falls = (store_v s nodes noted x p h rs o falls, unchanged_v s nodes noted x p h rs o falls, record { kept = λ p i. i; back = λ p i. i })
