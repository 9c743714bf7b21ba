-- A write of the open run.
use Rattle.std.proofs.Common.{◌≡◌, ℕ, ◌+◌, ◌<◌, ◌≤◌, Bool, true, false, List, length, Option, Some, None, IsSome, ℤ, refl, sym, ap, ◌∙◌, subst, ⊎_elim, arith}
use Rattle.std.proofs.lemmas.Bool.{cases_eq, cases_lt, false≢true}
use Rattle.pst_base.specs.declared.names.Counts.{Counts}
use Rattle.pst_base.specs.declared.names.Name.{Name}
use Rattle.pst_base.specs.declared.names.TypeNo.{TypeNo}
use Rattle.pst_base.specs.declared.names.Kind.{Kind}
use Rattle.pst_base.specs.Shape.{type_at, field_kind}
use Rattle.pst_base.specs.Heap.{Heap, IsWellFormed, IsPointer, with_value, with_pointer}
use Rattle.pst_versions.specs.State.{State, Unchanged, WritesStay, ValueStored, PointerStored}
use Rattle.pst_versions.proofs.StateLemmas.{Keeps_trans, OthersStay_trans, OthersStay_unchanged}
use Rattle.pst_line_nodes.specs.declared.content.Content.{Content}
use Rattle.pst_line_nodes.specs.declared.content.Content.TheVariants.{Number, Null, Target as TargetOf}
use Rattle.pst_line_nodes.specs.Contents.{Target}
use Rattle.pst_line_nodes.specs.Line.{IsNewest, IsLive, IsLine, heap_at, most}
use Rattle.pst_line_nodes.specs.Changes.{IsSet, VersionsStay}
use Rattle.pst_line_nodes.specs.Seen.{Seen}
use Rattle.pst_line_nodes.specs.Nodes.{AreKept}
use Rattle.pst_line_nodes.specs.Carried.{IsSince, AreSmall, IsCarried}
use Rattle.pst_line_nodes.proofs.HeapLaws.{unique}
use Rattle.pst_line_nodes.proofs.Copy.{last_covers}
use Rattle.pst_line.specs.declared.place.Undo.{Undo}
use Rattle.pst_line.specs.Store.{Stored, state_of, is_made, IsRun, IsStored}
use Rattle.pst_line.specs.StoreLaws.{after}
use Rattle.pst_line.specs.Undo.{put_back}
use Rattle.pst_line.specs.Undoing.{Fits, IsEntered, CanUndo, plan}
use Rattle.pst_line.specs.Noted.{with_entry, IsOnce}
use Rattle.pst_line.specs.Held.{Held, IsHeld, AreCounted, line_in, stored_of}
use Rattle.pst_line.specs.Entered.{line_with, entry_at, HasMadeRoom}
use Rattle.pst_line.proofs.Stores.{stored_after, unchanged, writes, formed_at, fail_law}
use Rattle.pst_line_nodes.proofs.Carrying.{went_set}
use Rattle.pst_line.proofs.Undos.{fits_after, can_undo_same}
use Rattle.pst_line.proofs.Entries.{fits_held}
use Rattle.pst_line.proofs.PutBack.{quiet_set}
use Rattle.pst_line.proofs.Notes.{can_undo_written, once_more}
use Rattle.pst_line.proofs.Roots.{RootsStay, stay_same, stay_carried, have_roots}

-- ---- one change after another

module _ {P R : Type 0} (a b c : State P R) (at : P) (u : Unchanged a b) (has : a.has at) where
  pub value_after : (n : Name) (f : ℕ) (v : ℤ) → ValueStored b at n f v c → ValueStored a at n f v c
  value_after n f v d = record {
    keeps = Keeps_trans a b c u.keeps d.keeps;
    others = OthersStay_trans at a b c u.keeps (OthersStay_unchanged at a b u) d.others;
    heap = d.heap ∙ ap (λ (h : Heap). with_value h n f v) (u.heaps at has);
    counts = d.counts ∙ ap (λ (k : Counts). record k { value_writes = k.value_writes + 1 }) u.counts;
  }

  pub pointer_after : (n : Name) (f : ℕ) (p : Option Name) → PointerStored b at n f p c → PointerStored a at n f p c
  pointer_after n f p d = record {
    keeps = Keeps_trans a b c u.keeps d.keeps;
    others = OthersStay_trans at a b c u.keeps (OthersStay_unchanged at a b u) d.others;
    heap = d.heap ∙ ap (λ (h : Heap). with_pointer h n f p) (u.heaps at has);
    counts = d.counts ∙ ap (λ (k : Counts). record k { pointer_writes = k.pointer_writes + 1 }) u.counts;
  }

pub unchanged_trans : {P R : Type 0} (a b c : State P R) → Unchanged a b → Unchanged b c → Unchanged a c
unchanged_trans a b c u v = record { keeps = Keeps_trans a b c u.keeps v.keeps; heaps = λ p h. v.heaps p (u.keeps.grows.has p h) ∙ u.heaps p h; counts = v.counts ∙ u.counts }

-- ---- some nodes are copied

module _ (g : Held) (h : IsHeld g) (ns : List Seen) (d : IsCarried g.shape (length g.versions) (line_in g) (line_with g ns)) where
  -- homes are those of nodes that were there
  homes_carried : (i : ℕ) → i < length ns → (line_with g ns).home i < length ns
  homes_carried i m = ⊎_elim
      (λ (l : i < length g.nodes). omega (arith, h.stored.homes i l, d.went.nodes.home i l, d.went.nodes.count))
      (λ (l : length g.nodes ≤ i). let o = d.went.copied i l m in omega (arith, h.stored.homes o.from o.there, o.home, d.went.nodes.count))
      (cases_lt i (length g.nodes))

  own_carried : (i : ℕ) → i < length ns → (line_with g ns).home ((line_with g ns).home i) ≡ (line_with g ns).home i
  own_carried i m = ⊎_elim (λ (l : i < length g.nodes). of i i l (d.went.nodes.home i l)) (λ (l : length g.nodes ≤ i). let o = d.went.copied i l m in of i o.from o.there o.home) (cases_lt i (length g.nodes))
    where
      of : (i j : ℕ) → j < length g.nodes → (line_with g ns).home i ≡ (line_in g).home j → (line_with g ns).home ((line_with g ns).home i) ≡ (line_with g ns).home i
      of i j l e = ap (line_with g ns).home e ∙ d.went.nodes.home ((line_in g).home j) (h.stored.homes j l) ∙ h.stored.own j l ∙ sym e

  pub carried_stored : IsStored (after (stored_of g) (line_with g ns) g.counts)
  carried_stored = stored_after (stored_of g) (line_with g ns) g.counts h.stored d.stay d.line homes_carried own_carried (λ i m. refl) d.went.nodes.count
      (λ p r. subst (IsWellFormed g.shape) (sym d.heap) (formed_at (stored_of g) p h.stored r)) (let w = d.within in omega (arith, w, h.stored.bounded))

  pub carried_unchanged : Unchanged (state_of (stored_of g)) (state_of (after (stored_of g) (line_with g ns) g.counts))
  carried_unchanged = unchanged (stored_of g) (line_with g ns) g.counts h.stored d.stay d.heap refl

  pub carried_writes : WritesStay (state_of (stored_of g)) (state_of (after (stored_of g) (line_with g ns) g.counts))
  carried_writes = writes (stored_of g) (line_with g ns) g.counts h.stored d.stay

  carried_roots : RootsStay g.nodes ns
  carried_roots = stay_carried (is_made g.versions g.opened) g.nodes ns (length g.versions) d.went.nodes

  -- the store has failed
  pub failed_held : AreKept g.shape (length g.versions) ns → IsSome g.opened → (us : List Undo) → IsOnce us → IsHeld (record g { nodes = ns; undo = us; failed = true })
  failed_held kept some us once = record {
    stored = (fail_law (after (stored_of g) (line_with g ns) g.counts) carried_stored).0;
    some = h.some;
    few = h.few;
    rooted = h.rooted;
    kept = kept;
    rested = λ f. absurd (false≢true (sym f));
    closed = λ o. absurd (none_some o);
    whole = λ o. absurd (none_some o);
    empty = λ o. absurd (none_some o);
    once = once;
    undone = λ b o f. absurd (false≢true (sym f));
    counted = h.counted;
    roots = have_roots g.nodes ns carried_roots 0 g.versions h.roots;
    root = carried_roots (length g.versions) g.root h.root;
  }
    where
      none_some : g.opened ≡ None → ⊥
      none_some o = false≢true (subst IsSome o some)

  pub failed_unchanged : (us : List Undo) → Unchanged (state_of (stored_of g)) (state_of (stored_of (record g { nodes = ns; undo = us; failed = true })))
  failed_unchanged us = unchanged_trans (state_of (stored_of g)) (state_of (after (stored_of g) (line_with g ns) g.counts)) (state_of (record (after (stored_of g) (line_with g ns) g.counts) { failed = true }))
      carried_unchanged (fail_law (after (stored_of g) (line_with g ns) g.counts) carried_stored).1

-- ---- a field is written

module _ (g : Held) (h : IsHeld g) (b : ℕ) (opened : g.opened ≡ Some b) (whole : g.failed ≡ false) (ns : List Seen) (r f x : ℕ) (m : HasMadeRoom g ns r f x) (ms : List Seen) (c : Content) (k : ℕ) (kind : Kind) (counts : Counts)
    (field : field_kind (type_at g.shape ((line_with g ns).ty x)) f ≡ Some kind) (d : IsSet (line_with g ns) (line_with g ms) x f (length g.versions) c k) (replaced : (line_with g ns).since x f ≡ length g.versions → k ≡ 0)
    (line : IsLine g.shape (length g.versions) (line_with g ms)) (stay : VersionsStay g.shape (length g.versions) (line_with g ns) (line_with g ms)) (kept : AreKept g.shape (length g.versions) ms)
    (fits : (y : ℕ) → c ≡ Target y → (line_with g ns).later y ≡ None)
    (back : put_back (line_with g ms).name (heap_at g.shape (line_with g ms) (length g.versions)) ((line_with g ms).name x) f ((line_with g ns).holds x f (length g.versions)) ≡ heap_at g.shape (line_with g ns) (length g.versions))
    (stored : IsStored (after (after (stored_of g) (line_with g ns) g.counts) (line_with g ms) counts)) (counted : AreCounted counts) where
  abbrev mid : Stored
  mid = after (stored_of g) (line_with g ns) g.counts

  mid_stored : IsStored mid
  mid_stored = carried_stored g h ns m.carried

  run : IsRun mid (record { stamp = record { 0 = length g.versions } })
  run = record { begun = b; opened = opened; newest = refl }

  formed : IsWellFormed g.shape (heap_at g.shape (line_with g ns) (length g.versions))
  formed = formed_at mid (record { stamp = record { 0 = length g.versions } }) mid_stored run

  x_new : IsNewest (line_with g ms) x
  x_new = record { there = omega (arith, m.newest.last.there, d.nodes.count); last = d.nodes.later x ∙ m.newest.last.last }

  since : IsSince (line_with g ms) ((line_with g ms).home x) f (length g.versions)
  since j n e =
      let same = unique (line_with g ms) j x (length g.versions) line.chained (last_covers g.shape (length g.versions) (line_with g ms) j line n) (last_covers g.shape (length g.versions) (line_with g ms) x line x_new) e in
      ap (λ i. (line_with g ms).since i f) same ∙ d.since

  live : IsLive (line_with g ms) x (length g.versions)
  live = (stay.live x (length g.versions) (omega arith) (record { there = m.newest.there.covers.there; made = m.newest.there.made; begun = m.newest.there.covers.begun })).0

  -- the first node of the record
  own : (line_with g ms).home ((line_with g ms).home x) ≡ (line_with g ms).home x
  own = stored.own x x_new.there

  first_there : (line_with g ms).home x < length ms
  first_there = stored.homes x x_new.there

  first_same : ((line_with g ms).name ((line_with g ms).home x) ≡ (line_with g ms).name x) × ((line_with g ms).ty ((line_with g ms).home x) ≡ (line_with g ms).ty x) × ((line_with g ms).made ((line_with g ms).home x) ≡ (line_with g ms).made x)
  first_same = line.chained.same ((line_with g ms).home x) x first_there x_new.there own

  abbrev entry : Undo
  entry = record { node = record { 0 = (line_with g ms).home x }; slot = record { 0 = f }; content = (line_with g ns).holds x f (length g.versions) }

  entry_is : entry_at g ns x f ≡ entry
  entry_is = ap (λ (n : ℕ). record { node = record { 0 = n }; slot = record { 0 = f }; content = (line_with g ns).holds x f (length g.versions) }) (sym (d.nodes.home x))

  fits_x : Fits (after mid (line_with g ms) counts) x f ((line_with g ns).holds x f (length g.versions))
  fits_x = fits_after mid (line_with g ms) counts (went_set (line_with g ns) (line_with g ms) x f (length g.versions) k c d).nodes stay x f ((line_with g ns).holds x f (length g.versions)) m.newest.there.covers.there
      (fits_held mid x f kind mid_stored m.newest.there field ((line_with g ns).holds x f (length g.versions)) refl)

  -- what fits a node of the record fits the first one
  fits_first : (e : Content) → Fits (after mid (line_with g ms) counts) x f e → Fits (after mid (line_with g ms) counts) ((line_with g ms).home x) f e
  fits_first (Number v) p = ap (λ (u : TypeNo). field_kind (type_at g.shape u) f) first_same.1 ∙ p
  fits_first Null p = subst (λ (u : TypeNo). IsPointer (field_kind (type_at g.shape u) f)) (sym first_same.1) p
  fits_first (TargetOf y) p = (p.0, ap (λ (u : TypeNo). field_kind (type_at g.shape u) f) first_same.1 ∙ p.1)

  entered : IsEntered (after mid (line_with g ms) counts) entry
  entered = record {
    live = record { there = first_there; made = first_same.2 ∙ live.made; begun = line.first ((line_with g ms).home x) first_there };
    home = own;
    fits = fits_first ((line_with g ns).holds x f (length g.versions)) fits_x;
    since = subst (λ (h : ℕ). IsSince (line_with g ms) h f (length g.versions)) (sym own) since;
  }

  formed_now : IsWellFormed g.shape (heap_at g.shape (line_with g ms) (length g.versions))
  formed_now = formed_at (after mid (line_with g ms) counts) (record { stamp = record { 0 = length g.versions } }) stored (record { begun = b; opened = opened; newest = refl })

  can : CanUndo (after mid (line_with g ms) counts) b (plan (with_entry (entry_at g ns x f) g.undo))
  can = subst (λ (v : Undo). CanUndo (after mid (line_with g ms) counts) b (plan (with_entry v g.undo))) (sym entry_is)
      (can_undo_written mid (line_with g ms) counts b (went_set (line_with g ns) (line_with g ms) x f (length g.versions) k c d) stay g.undo
      (can_undo_same (stored_of g) (line_with g ns) g.counts b m.carried.went m.carried.stay (plan g.undo) (h.undone b opened whole) m.carried.heap)
      entry line entered formed_now formed
      (ap (λ (n : Name). put_back (line_with g ms).name (heap_at g.shape (line_with g ms) (length g.versions)) n f ((line_with g ns).holds x f (length g.versions))) first_same.0 ∙ back))

  small : AreSmall g.shape (line_with g ms)
  small i l =
      let n : i < length ns = omega (arith, l, d.nodes.count) in
      let was = m.carried.small (h.rested whole).small i n in
      let same : most (type_at g.shape ((line_with g ms).ty i)) ≡ most (type_at g.shape ((line_with g ns).ty i)) = ap (λ (v : TypeNo). most (type_at g.shape v)) (d.nodes.ty i) in
      ⊎_elim
      (λ (p : i ≡ x).
      let here : (line_with g ms).stamped i ≡ (line_with g ns).stamped x + k = ap (line_with g ms).stamped p ∙ d.stamped in
      let most_x : most (type_at g.shape ((line_with g ns).ty i)) ≡ most (type_at g.shape ((line_with g ns).ty x)) = ap (λ j. most (type_at g.shape ((line_with g ns).ty j))) p in
      let stamped_x : (line_with g ns).stamped i ≡ (line_with g ns).stamped x = ap (line_with g ns).stamped p in
      ⊎_elim
      (λ (q : (line_with g ns).since x f ≡ length g.versions). omega (arith, replaced q, here, most_x, stamped_x, was, same))
      (λ (q : (line_with g ns).stamped x < most (type_at g.shape ((line_with g ns).ty x))). omega (arith, q, here, most_x, same, d.most))
      m.room)
      (λ (ne : i ≡ x → ⊥). omega (arith, was, same, d.other_stamped i ne))
      (cases_eq i x)

  pub written_held : IsHeld (record g { nodes = ms; undo = with_entry (entry_at g ns x f) g.undo; failed = false; counts = counts })
  written_held = record {
    stored = subst (λ (o : Bool). IsStored (record (after mid (line_with g ms) counts) { failed = o })) whole stored;
    some = h.some;
    few = h.few;
    rooted = h.rooted;
    kept = kept;
    rested = λ o. record { quiet = quiet_set (line_with g ns) (line_with g ms) x f (length g.versions) k c d fits m.quiet; small = small };
    closed = λ o. absurd (let no : None ≡ Some b = sym o ∙ opened in cc);
    whole = λ o. refl;
    empty = λ o. absurd (let no : None ≡ Some b = sym o ∙ opened in cc);
    once = once_more (entry_at g ns x f) g.undo h.once;
    undone = λ q o w. subst (λ (q : ℕ). CanUndo (record (after mid (line_with g ms) counts) { failed = false }) q (plan (with_entry (entry_at g ns x f) g.undo))) (let same : b ≡ q = cc in same)
        (subst (λ (o : Bool). CanUndo (record (after mid (line_with g ms) counts) { failed = o }) b (plan (with_entry (entry_at g ns x f) g.undo))) whole can);
    counted = counted;
    roots = have_roots g.nodes ms both 0 g.versions h.roots;
    root = both (length g.versions) g.root h.root;
  }
    where
      both : RootsStay g.nodes ms
      both n i r = stay_same (is_made g.versions g.opened) ns ms d.nodes n i (carried_roots g h ns m.carried n i r)
