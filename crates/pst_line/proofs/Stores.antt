-- What the changes of nodes do to a line store.
use Rattle.std.proofs.Common.{◌≡◌, ◌≢◌, ℕ, zero, suc, ◌+◌, ◌-◌, ◌<◌, ◌≤◌, ◌++◌, Bool, true, false, ◌&&◌, ◌||◌, List, [], ◌∷◌, length, Option, Some, None, IsSome, refl, sym, ap, ◌∙◌, subst, ◌⊎◌, inl, inr, ⊎_elim, arith, ltb, leb, unwrap_or}
use Rattle.std.proofs.lemmas.Bool.{cases_Bool, cases_lt, lt-ltb, ltb-true, le-leb, leb-true, false≢true, false_from_ne_true}
use Rattle.std.specs.Option.{option_map}
use Rattle.std.specs.Prelude.{slice_get}
use Rattle.pst_versions.specs.declared.rows.VersionRow.{VersionRow}
use Rattle.std.specs.FinMap.{get}
use Rattle.pst_base.specs.declared.names.NodeId.{NodeId}
use Rattle.pst_base.specs.declared.names.RunNo.{RunNo}
use Rattle.pst_base.specs.declared.names.TypeNo.{TypeNo}
use Rattle.pst_base.specs.declared.names.Counts.{Counts}
use Rattle.pst_base.specs.declared.names.Kind.TheVariants.{Pointer}
use Rattle.pst_base.specs.declared.shape.TypeShape.{TypeShape}
use Rattle.pst_base.specs.Shape.{type_at}
use Rattle.pst_base.specs.Heap.{Rec, IsWellFormed, FitsField, kind_in, kind_from, type_in, with_value, with_pointer, with_record, new_record}
use Rattle.pst_base.proofs.WellFormed.{IsWellFormed-with_value, IsWellFormed-with_new}
use Rattle.pst_base.proofs.Fields.{IsWellFormed-store_pointer}
use Rattle.pst_versions.specs.State.{Keeps, OthersStay, Unchanged, WritesStay}
use Rattle.pst_line_nodes.specs.Line.{Line, IsIn, IsLive, IsLine, IsQuiet, is_over, ends_by, heap_at, record_at, load, most}
use Rattle.pst_line_nodes.specs.Changes.{HasSameNodes, VersionsStay}
use Rattle.pst_line_nodes.proofs.HeapLaws.{heap_has}
use Rattle.pst_line_nodes.proofs.Writes.{number_law, null_law, point_law, redirect_law}
use Rattle.pst_line_nodes.proofs.Copy as nodes
use Rattle.pst_line_nodes.proofs.Made as made
use Rattle.pst_line_nodes.proofs.Runs.{next_law, drop_law}
use Rattle.pst_line.specs.declared.place.LinePlace.{LinePlace}
use Rattle.pst_line.specs.declared.place.Stretch.{Stretch}
use Rattle.pst_line.specs.Store.{Stored, state_of, stamp, IsPlace, IsRun, IsStored, is_made, in_stretch, in_run, rows_from, bound}
use Rattle.pst_line.specs.StoreLaws.{after, one_record, one_pointer, one_value, SoundLaw, ValueLaw, NullLaw, PointLaw, AllocateLaw, CopyLaw, RedirectLaw, FailLaw, BeginLaw, PublishLaw, UndoneLaw}

-- ---- the node that covers a stamp, by the walk along `later`

pub record Covering (w : Line) (i n : ℕ) : Type 0 where
  pub node : ℕ
  pub alive : IsIn w node n
  pub home : w.home node ≡ w.home i
  pub name : w.name node ≡ w.name i
  pub ty : w.ty node ≡ w.ty i

covering_self : (w : Line) (i n : ℕ) → IsLive w i n → is_over w i n ≡ false → Covering w i n
covering_self w i n h e = record { node = i; alive = record { covers = record { there = h.there; begun = h.begun; still = e }; made = h.made }; home = refl; name = refl; ty = refl }

pub covering : (shape : List TypeShape) (t : ℕ) (w : Line) (n k i : ℕ) → IsLine shape t w → IsLive w i n → n ≤ w.first i + k → Covering w i n
covering shape t w n zero i l h b = covering_self w i n h (elim (w.later i) as (λ (o : Option ℕ). w.later i ≡ o → is_over w i n ≡ false) [
  | None ↦ λ e. ap (λ (o : Option ℕ). ends_by w.first o n) e
  | Some j ↦ λ e. let v = l.chained.next i j h.there e in ap (λ (o : Option ℕ). ends_by w.first o n) e ∙ false_from_ne_true (leb (w.first j) n) (λ c. let m = leb-true (w.first j) n c in absurd (omega (arith, v.2, b)))
] refl)
covering shape t w n (suc k) i l h b = elim (w.later i) as (λ (o : Option ℕ). w.later i ≡ o → Covering w i n) [
  | None ↦ λ e. covering_self w i n h (ap (λ (o : Option ℕ). ends_by w.first o n) e)
  | Some j ↦ λ e. ⊎_elim
      (λ (c : leb (w.first j) n ≡ true).
      let v = l.chained.next i j h.there e in
      let m = leb-true (w.first j) n c in
      let s = l.chained.same j i v.0 h.there v.1 in
      let g : IsLive w j n = record { there = v.0; made = s.2 ∙ h.made; begun = m } in
      let d = covering shape t w n k j l g (omega (arith, v.2, b)) in
      record { node = d.node; alive = d.alive; home = d.home ∙ v.1; name = d.name ∙ s.0; ty = d.ty ∙ s.1 })
      (λ (c : leb (w.first j) n ≡ false). covering_self w i n h (ap (λ (o : Option ℕ). ends_by w.first o n) e ∙ c))
      (cases_Bool (leb (w.first j) n))
] refl

pub cover : (shape : List TypeShape) (t : ℕ) (w : Line) (n i : ℕ) → IsLine shape t w → IsLive w i n → Covering w i n
cover shape t w n i l h = covering shape t w n n i l h (omega arith)

-- ---- places

pub at_most : (s : Stored) (p : LinePlace) → IsPlace s p → p.stamp.0 ≤ stamp s
at_most s p h = elim h [ inl a ↦ omega arith | inr r ↦ omega (arith, r.newest) ]

-- the parent of a version is the one before it
rows_parent : (vs : List Stretch) (k v : ℕ) (row : VersionRow LinePlace) → slice_get (rows_from k vs) v ≡ Some row → row.parent.0 ≡ (k + v) - 1
rows_parent [] k v row e = absurd (cc)
rows_parent (x ∷ xs) k zero row e =
    let same : record { parent = record { 0 = k - 1 }; run = x.run; place = record { stamp = record { 0 = k } } } ≡ row = cc in
    let is : k - 1 ≡ row.parent.0 = ap (λ (r : VersionRow LinePlace). r.parent.0) same in
    omega (arith, is)
rows_parent (x ∷ xs) k (suc v) row e = let is = rows_parent xs (suc k) v row e in omega (arith, is)

pub sound_law : SoundLaw
sound_law s h = record {
  valid = h.valid;
  well_formed = h.well_formed;
  placed = λ p r l. l.0;
  found = λ p r l.
      let c = cover s.shape (stamp s) s.line p.stamp.0 r.0 h.line l.1 in
      let there : get (heap_at s.shape s.line p.stamp.0) (s.line.name r.0) ≡ Some (record_at s.shape s.line c.node p.stamp.0) = ap (get (heap_at s.shape s.line p.stamp.0)) (sym c.name) ∙ heap_has s.shape s.line p.stamp.0 h.line.chained c.node c.alive in
      subst IsSome (sym there) refl;
  written = λ p k. inr k.run;
  parents = λ v row e. let is = rows_parent s.versions 0 (v + 1) row e in omega (arith, is);
}

-- ---- a change of nodes

module _ (s : Stored) (w : Line) (c : Counts) (h : IsStored s) (stay : VersionsStay s.shape (stamp s) s.line w) where
  place : (p : LinePlace) → IsPlace s p → IsPlace (after s w c) p
  place p k = elim k [ inl a ↦ inl a | inr r ↦ inr (record { begun = r.begun; opened = r.opened; newest = r.newest }) ]

  back : (p : LinePlace) → IsPlace (after s w c) p → IsPlace s p
  back p k = elim k [ inl a ↦ inl a | inr r ↦ inr (record { begun = r.begun; opened = r.opened; newest = r.newest }) ]

  pub keeps : Keeps (state_of s) (state_of (after s w c))
  keeps = record {
    grows = record {
      shape = refl;
      spent = refl;
      has = place;
      live = λ p r l. (place p l.0, (stay.live r.0 p.stamp.0 (at_most s p l.0) l.1).0);
      name = λ p r l. (stay.live r.0 p.stamp.0 (at_most s p l.0) l.1).1;
    };
    back = back;
    versions = refl;
    forks = refl;
    fork_calls = refl;
  }

  pub writes : WritesStay (state_of s) (state_of (after s w c))
  writes = record {
    kept = λ p k. record { run = record { begun = k.run.begun; opened = k.run.opened; newest = k.run.newest }; whole = k.whole };
    back = λ p k. record { run = record { begun = k.run.begun; opened = k.run.opened; newest = k.run.newest }; whole = k.whole };
  }

  pub others : (at : LinePlace) → at.stamp.0 ≡ stamp s → OthersStay at (state_of s) (state_of (after s w c))
  others at e = record { stay = λ p k. elim k [ inl a ↦ inr (stay.heaps p.stamp.0 a) | inr r ↦ inl (λ i. record { stamp = record { 0 = (r.newest ∙ sym e) i } }) ] }

  pub unchanged : heap_at s.shape w (stamp s) ≡ heap_at s.shape s.line (stamp s) → c ≡ s.counts → Unchanged (state_of s) (state_of (after s w c))
  unchanged same e = record {
    keeps = keeps;
    heaps = λ p k. elim k [ inl a ↦ stay.heaps p.stamp.0 a | inr r ↦ ap (heap_at s.shape w) r.newest ∙ same ∙ ap (heap_at s.shape s.line) (sym r.newest) ];
    counts = e;
  }

  pub stored_after : IsLine s.shape (stamp s) w → ((i : ℕ) → i < w.count → w.home i < w.count) → ((i : ℕ) → i < w.count → w.home (w.home i) ≡ w.home i) → ((i : ℕ) → i < w.count → w.made i ≡ is_made s.versions s.opened (w.home i)) → s.line.count ≤ w.count
      → ((p : LinePlace) → IsRun s p → IsWellFormed s.shape (heap_at s.shape w (stamp s))) → load s.shape w (stamp s) ≤ bound c → IsStored (after s w c)
  stored_after line homes own made grows formed bounded = record {
    valid = λ p k. h.valid p (back p k);
    line = line;
    homes = homes;
    own = own;
    made = made;
    begun = λ b e. omega (arith, h.begun b e, grows);
    ended = λ i l. h.ended i (elim s.opened as (λ (o : Option ℕ). unwrap_or o w.count ≤ i → unwrap_or o s.line.count ≤ i) [ None ↦ λ m. omega (arith, m, grows) | Some b ↦ λ m. m ] l);
    well_formed = λ p k. elim k [
      | inl a ↦ subst (IsWellFormed s.shape) (sym (stay.heaps p.stamp.0 a)) (h.well_formed p (inl a))
      | inr r ↦ subst (λ (n : ℕ). IsWellFormed s.shape (heap_at s.shape w n)) (sym r.newest) (formed p (record { begun = r.begun; opened = r.opened; newest = r.newest }))
    ];
    bounded = bounded;
  }

  pub same_after : HasSameNodes s.line w → IsLine s.shape (stamp s) w → ((p : LinePlace) → IsRun s p → IsWellFormed s.shape (heap_at s.shape w (stamp s))) → load s.shape w (stamp s) ≤ bound c → IsStored (after s w c)
  same_after o line formed bounded = stored_after line
      (λ i m. omega (arith, h.homes i (omega (arith, m, o.count)), o.home i, o.count))
      (λ i m. o.home (w.home i) ∙ ap s.line.home (o.home i) ∙ h.own i (omega (arith, m, o.count)) ∙ sym (o.home i))
      (λ i m. o.made i ∙ h.made i (omega (arith, m, o.count)) ∙ ap (is_made s.versions s.opened) (sym (o.home i)))
      (omega (arith, o.count)) formed bounded

-- the heap at the newest stamp, at the open run's place
pub formed_at : (s : Stored) (p : LinePlace) → IsStored s → IsRun s p → IsWellFormed s.shape (heap_at s.shape s.line (stamp s))
formed_at s p h r = subst (λ (n : ℕ). IsWellFormed s.shape (heap_at s.shape s.line n)) r.newest (h.well_formed p (inr r))

shown : (s : Stored) (x : ℕ) → IsStored s → IsIn s.line x (stamp s) → get (heap_at s.shape s.line (stamp s)) (s.line.name x) ≡ Some (record_at s.shape s.line x (stamp s))
shown s x h a = heap_has s.shape s.line (stamp s) h.line.chained x a

pub value_law : ValueLaw
value_law s w at x f k v h open' there last low d =
    let n = number_law s.shape s.line w x f (stamp s) v k h.line there last low d in
    let e = open'.run.newest in (
      same_after s w (one_value s.counts) h n.1 d.set.nodes n.0
          (λ p r. subst (IsWellFormed s.shape) (sym n.2) (IsWellFormed-with_value s.shape (heap_at s.shape s.line (stamp s)) (s.line.name x) f v (record_at s.shape s.line x (stamp s)) (formed_at s p h r) (shown s x h there)))
          (omega (arith, n.3, d.set.most, h.bounded)),
      record {
        keeps = keeps s w (one_value s.counts) h n.1;
        others = others s w (one_value s.counts) h n.1 at e;
        heap = ap (heap_at s.shape w) e ∙ n.2 ∙ ap (λ m. with_value (heap_at s.shape s.line m) (s.line.name x) f v) (sym e);
        counts = refl;
      },
      writes s w (one_value s.counts) h n.1,
    )

pub null_law' : NullLaw
null_law' s w at x f k ty h open' there last field d =
    let n = null_law s.shape s.line w x f (stamp s) k ty h.line there last field d in
    let e = open'.run.newest in
    let kind : kind_in s.shape (heap_at s.shape s.line (stamp s)) (s.line.name x) f ≡ Some (Pointer ty) = ap (λ (o : Option Rec). kind_from s.shape f (option_map (λ (r : Rec). r.ty) o)) (shown s x h there) ∙ field in (
      same_after s w (one_pointer s.counts) h n.1 d.set.nodes n.0
          (λ p r. subst (IsWellFormed s.shape) (sym n.2) (IsWellFormed-store_pointer s.shape (heap_at s.shape s.line (stamp s)) (s.line.name x) f None (formed_at s p h r) (rw kind tt) (λ z. z)))
          (omega (arith, n.3, d.set.most, h.bounded)),
      record {
        keeps = keeps s w (one_pointer s.counts) h n.1;
        others = others s w (one_pointer s.counts) h n.1 at e;
        heap = ap (heap_at s.shape w) e ∙ n.2 ∙ ap (λ m. with_pointer (heap_at s.shape s.line m) (s.line.name x) f None) (sym e);
        counts = refl;
      },
      writes s w (one_pointer s.counts) h n.1,
    )

pub point_law' : PointLaw
point_law' s w at x f z u k h open' there last zthere zlast below field d room =
    let n = point_law s.shape s.line w x f (stamp s) z u k h.line there last zthere zlast below field d in
    let e = open'.run.newest in
    let kind : kind_in s.shape (heap_at s.shape s.line (stamp s)) (s.line.name x) f ≡ Some (Pointer (s.line.ty z)) = ap (λ (o : Option Rec). kind_from s.shape f (option_map (λ (r : Rec). r.ty) o)) (shown s x h there) ∙ field in
    let typed : type_in (heap_at s.shape s.line (stamp s)) (s.line.name z) ≡ Some (s.line.ty z) = ap (option_map (λ (r : Rec). r.ty)) (shown s z h zthere) in
    let fits : FitsField (heap_at s.shape s.line (stamp s)) (kind_in s.shape (heap_at s.shape s.line (stamp s)) (s.line.name x) f) (Some (s.line.name z)) = rw kind (tt, ap (option_map Pointer) (sym typed)) in (
      same_after s w (one_pointer s.counts) h n.1 d.set.nodes n.0
          (λ p r. subst (IsWellFormed s.shape) (sym n.2) (IsWellFormed-store_pointer s.shape (heap_at s.shape s.line (stamp s)) (s.line.name x) f (Some (s.line.name z)) (formed_at s p h r) fits room))
          (omega (arith, n.3, d.set.most, h.bounded)),
      record {
        keeps = keeps s w (one_pointer s.counts) h n.1;
        others = others s w (one_pointer s.counts) h n.1 at e;
        heap = ap (heap_at s.shape w) e ∙ n.2 ∙ ap (λ m. with_pointer (heap_at s.shape s.line m) (s.line.name x) f (Some (s.line.name z))) (sym e);
        counts = refl;
      },
      writes s w (one_pointer s.counts) h n.1,
    )

pub copy_law' : CopyLaw
copy_law' s w x h d full =
    let n = nodes.copy_law s.shape s.line w x (stamp s) h.line d full in (
      stored_after s w s.counts h n.1 n.0
          (λ i m. elim (sides i m) [
            | inl p ↦ let a : w.home i ≡ s.line.home x = ap w.home p ∙ d.home_z in omega (arith, a, h.homes x d.newest.there, d.count)
            | inr p ↦ omega (arith, h.homes i p, d.home i p, d.count)
          ])
          (λ i m. elim (sides i m) [
            | inl p ↦ let a : w.home i ≡ s.line.home x = ap w.home p ∙ d.home_z in
                ap w.home a ∙ d.home (s.line.home x) (h.homes x d.newest.there) ∙ h.own x d.newest.there ∙ sym a
            | inr p ↦ ap w.home (d.home i p) ∙ d.home (s.line.home i) (h.homes i p) ∙ h.own i p ∙ sym (d.home i p)
          ])
          (λ i m. elim (sides i m) [
            | inl p ↦ ap w.made p ∙ d.made_z ∙ h.made x d.newest.there ∙ ap (is_made s.versions s.opened) (sym (ap w.home p ∙ d.home_z))
            | inr p ↦ d.made i p ∙ h.made i p ∙ ap (is_made s.versions s.opened) (sym (d.home i p))
          ])
          (omega (arith, d.count))
          (λ p r. subst (IsWellFormed s.shape) (sym n.2) (formed_at s p h r))
          (omega (arith, n.3, h.bounded)),
      unchanged s w s.counts h n.1 n.2 refl,
      writes s w s.counts h n.1,
    )
  where
    sides : (i : ℕ) → i < w.count → (i ≡ s.line.count) ⊎ (i < s.line.count)
    sides i m = ⊎_elim (λ (p : i < s.line.count). inr p) (λ (p : s.line.count ≤ i). inl (omega (arith, d.count))) (cases_lt i s.line.count)

pub redirect_law' : RedirectLaw
redirect_law' s w x f y z k h last d =
    let n = redirect_law s.shape s.line w x f (stamp s) y z k h.line last d in (
      same_after s w s.counts h n.1 d.set.nodes n.0
          (λ p r. subst (IsWellFormed s.shape) (sym n.2) (formed_at s p h r))
          (omega (arith, n.3, h.bounded)),
      unchanged s w s.counts h n.1 n.2 refl,
      writes s w s.counts h n.1,
    )

pub allocate_law : AllocateLaw
allocate_law s w at q ty h open' new fresh d =
    let e = open'.run.newest in
    let free : (i : ℕ) → i < s.line.count → s.line.made i ≡ true → s.line.name i ≢ q = λ i m a named.
    let c = cover s.shape (stamp s) s.line (stamp s) i h.line (record { there = m; made = a; begun = h.line.first i m }) in
    let there : get (heap_at s.shape s.line at.stamp.0) q ≡ Some (record_at s.shape s.line c.node (stamp s)) = ap (λ n. get (heap_at s.shape s.line n) q) e ∙ ap (get (heap_at s.shape s.line (stamp s))) (sym (c.name ∙ named)) ∙ heap_has s.shape s.line (stamp s) h.line.chained c.node c.alive in
    let none : get (heap_at s.shape s.line at.stamp.0) q ≡ None = fresh.fresh at (inr open'.run) in cc in
    let n = made.made_law s.shape s.line w q ty (stamp s) h.line new.above new.below free h.homes d in
    let lacks : get (heap_at s.shape s.line (stamp s)) q ≡ None = ap (λ n. get (heap_at s.shape s.line n) q) (sym e) ∙ fresh.fresh at (inr open'.run) in (
      stored_after s w (one_record s.counts) h n.1 n.0
          (λ i m. elim (sides i m) [
            | inl p ↦ let a : w.home i ≡ s.line.count = ap w.home p ∙ d.home_z in omega (arith, a, d.count)
            | inr p ↦ omega (arith, h.homes i p, d.home i p, d.count)
          ])
          (λ i m. elim (sides i m) [
            | inl p ↦ let a : w.home i ≡ s.line.count = ap w.home p ∙ d.home_z in ap w.home a ∙ d.home_z ∙ sym a
            | inr p ↦ ap w.home (d.home i p) ∙ d.home (s.line.home i) (h.homes i p) ∙ h.own i p ∙ sym (d.home i p)
          ])
          (λ i m. elim (sides i m) [
            | inl p ↦ ap w.made p ∙ d.made_z ∙ sym (ap (is_made s.versions s.opened) (ap w.home p ∙ d.home_z) ∙ run_made s.line.count open'.run.begun open'.run.opened (h.begun open'.run.begun open'.run.opened))
            | inr p ↦ d.made i p ∙ h.made i p ∙ ap (is_made s.versions s.opened) (sym (d.home i p))
          ])
          (omega (arith, d.count))
          (λ p r. subst (IsWellFormed s.shape) (sym n.2) (IsWellFormed-with_new s.shape (heap_at s.shape s.line (stamp s)) q ty (formed_at s p h r) lacks new.above new.below))
          (omega (arith, n.3, h.bounded)),
      record {
        keeps = keeps s w (one_record s.counts) h n.1;
        writes = writes s w (one_record s.counts) h n.1;
        others = others s w (one_record s.counts) h n.1 at e;
        heap = ap (heap_at s.shape w) e ∙ n.2 ∙ ap (λ m. with_record (heap_at s.shape s.line m) q (new_record s.shape ty)) (sym e);
        name = d.name_z;
        live = (place s w (one_record s.counts) h n.1 at (inr open'.run), record { there = omega (arith, d.count); made = d.made_z; begun = omega (arith, d.first_z, e) });
        counts = refl;
      },
    )
  where
    sides : (i : ℕ) → i < w.count → (i ≡ s.line.count) ⊎ (i < s.line.count)
    sides i m = ⊎_elim (λ (p : i < s.line.count). inr p) (λ (p : s.line.count ≤ i). inl (omega (arith, d.count))) (cases_lt i s.line.count)

    or_true : (a : Bool) → (a || true) ≡ true
    or_true true = refl
    or_true false = refl

    run_made : (i b : ℕ) → s.opened ≡ Some b → b ≤ i → is_made s.versions s.opened i ≡ true
    run_made i b o l = ap (is_made' i) o ∙ ap (λ k. in_stretch s.versions i || k) (le-leb b i l) ∙ or_true (in_stretch s.versions i)
      where
        is_made' : ℕ → Option ℕ → Bool
        is_made' i o = is_made s.versions o i

pub fail_law : FailLaw
fail_law s h =
    let t : Stored = record s { failed = true } in
    let to : (p : LinePlace) → IsPlace s p → IsPlace t p = λ p k. elim k [ inl a ↦ inl a | inr r ↦ inr (record { begun = r.begun; opened = r.opened; newest = r.newest }) ] in
    let of : (p : LinePlace) → IsPlace t p → IsPlace s p = λ p k. elim k [ inl a ↦ inl a | inr r ↦ inr (record { begun = r.begun; opened = r.opened; newest = r.newest }) ] in (
      record { valid = λ p k. h.valid p (of p k); line = h.line; homes = h.homes; own = h.own; made = h.made; begun = h.begun; ended = h.ended; well_formed = λ p k. h.well_formed p (of p k); bounded = h.bounded },
      record {
        keeps = record { grows = record { shape = refl; spent = refl; has = to; live = λ p r l. (to p l.0, l.1); name = λ p r l. refl }; back = of; versions = refl; forks = refl; fork_calls = refl };
        heaps = λ p k. refl;
        counts = refl;
      },
      λ p k. false≢true (sym k.whole),
    )

-- ---- how runs begin and end

-- the record of an old node is of no new run
pub run_none : (b i : ℕ) → i < b → in_run (Some b) i ≡ false
run_none b i l = false_from_ne_true (leb b i) (λ e. let m = leb-true b i e in absurd (omega arith))

pub or_false : (a : Bool) → (a || false) ≡ a
or_false true = refl
or_false false = refl

pub begin_law : BeginLaw
begin_law s h c ok some =
    let t : Stored = record s { opened = Some s.line.count } in
    let none : (p : LinePlace) → IsRun s p → ⊥ = λ p r. let e : None ≡ Some r.begun = sym c.none ∙ r.opened in cc in
    let to : (p : LinePlace) → IsPlace s p → IsPlace t p = λ p k. elim k [ inl a ↦ inl a | inr r ↦ absurd (none p r) ] in
    let last : suc (stamp s - 1) ≡ stamp s = omega (arith, some) in
    let same : heap_at s.shape s.line (stamp s) ≡ heap_at s.shape s.line (stamp s - 1) = c.same (stamp s - 1) last in
    let newest : LinePlace = record { stamp = record { 0 = stamp s - 1 } } in
    let place : IsPlace s newest = inl (omega (arith, some)) in (
      record {
        valid = λ p k. h.valid newest place;
        line = h.line;
        homes = h.homes;
        own = h.own;
        made = λ i m. h.made i m ∙ ap (λ o. is_made s.versions o (s.line.home i)) c.none ∙ ap (λ b. in_stretch s.versions (s.line.home i) || b) (sym (run_none s.line.count (s.line.home i) (h.homes i m)));
        begun = λ b e. let same : s.line.count ≡ b = cc in omega (arith, same);
        ended = λ i m. h.ended i (rw c.none m);
        well_formed = λ p k. elim k [
          | inl a ↦ h.well_formed p (inl a)
          | inr r ↦ subst (λ (n : ℕ). IsWellFormed s.shape (heap_at s.shape s.line n)) (sym r.newest) (subst (IsWellFormed s.shape) (sym same) (h.well_formed newest place))
        ];
        bounded = h.bounded;
      },
      record { quiet = c.rested.quiet; small = c.rested.small },
      record {
        shape = refl;
        fresh = λ k. elim k [ inl a ↦ absurd (omega arith) | inr r ↦ none (record { stamp = record { 0 = stamp s } }) r ];
        has = to;
        only = λ p k. elim k [ inl a ↦ inr (inl a) | inr r ↦ inl (λ i. record { stamp = record { 0 = r.newest i } }) ];
        writable = record { run = record { begun = s.line.count; opened = refl; newest = refl }; whole = ok };
        place = sym (rows_length s.versions 0);
        newest = λ v e. c.same v.stamp.0 (e ∙ rows_length s.versions 0);
        heaps = λ p k. refl;
        live = λ p r l. (to p l.0, l.1);
        name = λ r. refl;
        versions = refl;
        counts = refl;
      },
    )
  where
    rows_length : (vs : List Stretch) (k : ℕ) → length (rows_from k vs) ≡ length vs
    rows_length [] k = refl
    rows_length (v ∷ vs) k = ap suc (rows_length vs (suc k))

length-one : (vs : List Stretch) (v : Stretch) → length (vs ++ v ∷ []) ≡ suc (length vs)
length-one [] v = refl
length-one (x ∷ xs) v = ap suc (length-one xs v)

rows-one : (vs : List Stretch) (v : Stretch) (k : ℕ) → rows_from k (vs ++ v ∷ []) ≡ rows_from k vs ++ record { parent = record { 0 = (k + length vs) - 1 }; run = v.run; place = record { stamp = record { 0 = k + length vs } } } ∷ []
rows-one [] v k = let e : k ≡ k + 0 = omega arith in λ i. record { parent = record { 0 = e i - 1 }; run = v.run; place = record { stamp = record { 0 = e i } } } ∷ []
rows-one (x ∷ xs) v k =
    let e : suc k + length xs ≡ k + suc (length xs) = omega arith in
    ap (λ rs. record { parent = record { 0 = k - 1 }; run = x.run; place = record { stamp = record { 0 = k } } } ∷ rs) (rows-one xs v (suc k)
    ∙ ap (λ n. rows_from (suc k) xs ++ record { parent = record { 0 = n - 1 }; run = v.run; place = record { stamp = record { 0 = n } } } ∷ []) e)

pub rows_count : (vs : List Stretch) (k : ℕ) → length (rows_from k vs) ≡ length vs
rows_count [] k = refl
rows_count (v ∷ vs) k = ap suc (rows_count vs (suc k))

-- the stretch of the run that is published has the records that the run had
pub stretch-one : (vs : List Stretch) (run : RunNo) (root : NodeId) (b n i : ℕ) → i < n → in_stretch (vs ++ record { run = run; from = b; to = n; root = root } ∷ []) i ≡ is_made vs (Some b) i
stretch-one [] run root b n i l = ap (λ k. (leb b i && k) || false) (lt-ltb i n l) ∙ plain (leb b i)
  where
    plain : (a : Bool) → ((a && true) || false) ≡ (false || a)
    plain true = refl
    plain false = refl
stretch-one (x ∷ xs) run root b n i l = ap (λ k. (leb x.from i && ltb i x.to) || k) (stretch-one xs run root b n i l) ∙ shift (leb x.from i && ltb i x.to) (in_stretch xs i) (leb b i)
  where
    shift : (a c d : Bool) → (a || (c || d)) ≡ ((a || c) || d)
    shift true c d = refl
    shift false c d = refl

stretch-none : (vs : List Stretch) (run : RunNo) (root : NodeId) (b n i : ℕ) → n ≤ i → in_stretch vs i ≡ false → in_stretch (vs ++ record { run = run; from = b; to = n; root = root } ∷ []) i ≡ false
stretch-none [] run root b n i l e = ap (λ k. (leb b i && k) || false) (false_from_ne_true (ltb i n) (λ t. let m = ltb-true i n t in absurd (omega arith))) ∙ plain (leb b i)
  where
    plain : (a : Bool) → ((a && false) || false) ≡ false
    plain true = refl
    plain false = refl
stretch-none (x ∷ xs) run root b n i l e = elim (leb x.from i && ltb i x.to) as (λ k. (k || in_stretch xs i) ≡ false → (k || in_stretch (xs ++ record { run = run; from = b; to = n; root = root } ∷ []) i) ≡ false) [
  | true ↦ λ h. h
  | false ↦ λ h. stretch-none xs run root b n i l h
] e

pub publish_law : PublishLaw
publish_law s b run root h r e =
    let v : Stretch = record { run = run; from = b; to = s.line.count; root = root } in
    let t : Stored = record s { versions = s.versions ++ record { run = run; from = b; to = s.line.count; root = root } ∷ []; opened = None } in
    let n = next_law s.shape (stamp s) s.line h.line r.quiet in
    let len : stamp t ≡ suc (stamp s) = length-one s.versions v in
    let place : IsPlace s (record { stamp = record { 0 = stamp s } }) = inr (record { begun = b; opened = e; newest = refl }) in
    let to : (p : LinePlace) → IsPlace s p → IsPlace t p = λ p k. let m = at_most s p k in inl (omega (arith, m, len)) in
    let of : (p : LinePlace) → IsPlace t p → IsPlace s p = λ p k. elim k [
      | inl a ↦ ⊎_elim (λ (q : p.stamp.0 < stamp s). inl q) (λ (q : stamp s ≤ p.stamp.0). inr (record { begun = b; opened = e; newest = omega (arith, a, len) })) (cases_lt p.stamp.0 (stamp s))
      | inr q ↦ absurd (let none : None ≡ Some q.begun = q.opened in cc)
    ] in
    let count : length (rows_from 0 s.versions) ≡ stamp s = rows_count s.versions 0 in
    let rows : rows_from 0 t.versions ≡ rows_from 0 s.versions ++ record { parent = record { 0 = length (rows_from 0 s.versions) - 1 }; run = run; place = record { stamp = record { 0 = length (rows_from 0 s.versions) } } } ∷ []
    = rows-one s.versions v 0 ∙ ap (λ m. rows_from 0 s.versions ++ record { parent = record { 0 = m - 1 }; run = run; place = record { stamp = record { 0 = m } } } ∷ []) (let z : 0 + length s.versions ≡ length (rows_from 0 s.versions) = omega (arith, count) in z) in (
      record {
        valid = λ p k. h.valid p (of p k);
        line = subst (λ (m : ℕ). IsLine s.shape m s.line) (sym len) n.0;
        homes = h.homes;
        own = h.own;
        made = λ i m. h.made i m ∙ ap (λ o. is_made s.versions o (s.line.home i)) e ∙ sym (stretch-one s.versions run root b s.line.count (s.line.home i) (h.homes i m)) ∙ sym (or_false (in_stretch t.versions (s.line.home i)));
        begun = λ b e. absurd (cc);
        ended = λ i m. stretch-none s.versions run root b s.line.count i m (h.ended i (rw e (let k = h.begun b e in omega (arith, k, m))));
        well_formed = λ p k. h.well_formed p (of p k);
        bounded = let same : load s.shape s.line (stamp t) ≡ load s.shape s.line (stamp s) = ap (load s.shape s.line) len ∙ n.2 in omega (arith, same, h.bounded);
      },
      record {
        none = refl;
        rested = record { quiet = subst (IsQuiet s.line) (sym len) (record { none = λ i g y m q. r.quiet.none i g y m (sym (h.line.flat i g (suc (stamp s)) m.there (omega arith)) ∙ q) }); small = r.small };
        same = λ v q. ap (heap_at s.shape s.line) len ∙ n.1 ∙ ap (heap_at s.shape s.line) (let w : stamp s ≡ v = omega (arith, q, len) in w);
      },
      record {
        shape = refl;
        number = sym count;
        versions = rows;
        has = to;
        back = of;
        heaps = λ p k. refl;
        live = λ p r l. (to p l.0, l.1);
        name = λ r. refl;
        closed = λ p k. let none : None ≡ Some k.run.begun = k.run.opened in cc;
        counts = refl;
      },
    )

pub undone_law : UndoneLaw
undone_law s w b h r e d young old same =
    let t : Stored = record s { line = w; opened = None } in
    let n = drop_law s.shape (stamp s) s.line w h.line d in
    let of : (p : LinePlace) → IsPlace t p → p.stamp.0 < stamp s = λ p k. elim k [ inl a ↦ a | inr q ↦ absurd (let none : None ≡ Some q.begun = q.opened in cc) ] in
    let count : length (rows_from 0 s.versions) ≡ stamp s = rows_count s.versions 0 in
    let was : (i : ℕ) → i < w.count → i < s.line.count = λ i m. omega (arith, d.count) in
    let made : (i : ℕ) → i < w.count → w.made i ≡ is_made s.versions None (w.home i) = λ i m.
    ⊎_elim
    (λ (q : s.line.home i < b). old i m q ∙ h.made i (was i m) ∙ ap (λ o. is_made s.versions o (s.line.home i)) e ∙ ap (λ k. in_stretch s.versions (s.line.home i) || k) (run_none b (s.line.home i) q) ∙ ap (is_made s.versions None) (sym (d.home i)))
    (λ (q : b ≤ s.line.home i).
    let none : in_stretch s.versions (s.line.home i) ≡ false = h.ended (s.line.home i) (rw e q) in
    let off : w.made i ≡ false = false_from_ne_true (w.made i) (λ a. let k = young i m a in absurd (omega arith)) in
    off ∙ sym (ap (is_made s.versions None) (d.home i) ∙ or_false (in_stretch s.versions (s.line.home i)) ∙ none))
    (cases_lt (s.line.home i) b) in (
      record {
        valid = λ p k. h.valid p (inl (of p k));
        line = n.0;
        homes = λ i m. omega (arith, h.homes i (was i m), d.home i, d.count);
        own = λ i m. d.home (w.home i) ∙ ap s.line.home (d.home i) ∙ h.own i (was i m) ∙ sym (d.home i);
        made = made;
        begun = λ b e. absurd (cc);
        ended = λ i m. h.ended i (rw e (let k = h.begun b e in omega (arith, k, m, d.count)));
        well_formed = λ p k. let a = of p k in subst (IsWellFormed s.shape) (sym (n.1 p.stamp.0 a)) (h.well_formed p (inl a));
        bounded = omega (arith, n.3, h.bounded);
      },
      record {
        none = refl;
        rested = record {
          quiet = record { none = λ i g y m q. d.later y ∙ r.quiet.none i g y (record { there = omega (arith, m.there, d.count); last = sym (d.later i) ∙ m.last }) (sym (d.holds i g (stamp s)) ∙ q) };
          small = λ i m. let a : most (type_at s.shape (w.ty i)) ≡ most (type_at s.shape (s.line.ty i)) = ap (λ (v : TypeNo). most (type_at s.shape v)) (d.ty i) in omega (arith, r.small i (was i m), d.stamped i, a);
        };
        same = same;
      },
      record {
        shape = refl;
        has = λ p a. inl (omega (arith, a, count));
        back = λ p k. let a = of p k in omega (arith, a, count);
        heaps = λ p k. n.1 p.stamp.0 (of p k);
        live = λ p r k l. (k, n.2 r.0 p.stamp.0 (of p k) l.1);
        name = λ r. d.name r.0;
        versions = refl;
        closed = λ p k. let none : None ≡ Some k.run.begun = k.run.opened in cc;
        counts = refl;
      },
    )
