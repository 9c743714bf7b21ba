-- A write makes room and is entered.
use Rattle.std.proofs.Common.{◌≡◌, ℕ, ◌<◌, Bool, true, List, length, Some, IsSome, sym, ap, ◌∙◌, subst, ◌⊎◌, arith}
use Rattle.pst_base.specs.declared.names.TypeNo.{TypeNo}
use Rattle.pst_base.specs.declared.names.Kind.{Kind}
use Rattle.pst_base.specs.Shape.{type_at, element_count}
use Rattle.pst_base.specs.Heap.{kind_in}
use Rattle.pst_versions.specs.State.{Unchanged}
use Rattle.pst_line_nodes.specs.declared.content.Content.{Content}
use Rattle.pst_line_nodes.specs.Line.{Covers, IsNewest, IsLine, IsQuiet, most}
use Rattle.pst_line_nodes.specs.Seen.{Seen}
use Rattle.pst_line_nodes.specs.Nodes.{line_of, AreKept, AreLinked, HasSlot}
use Rattle.pst_line_nodes.specs.Carried.{IsCarried, HasRoomFor}
use Rattle.pst_line_nodes.proofs.Copy.{covers_last, last_covers}
use Rattle.pst_line.specs.declared.place.Undo.{Undo}
use Rattle.pst_line.specs.Store.{state_of, is_made}
use Rattle.pst_line.specs.Noted.{with_entry, IsOnce}
use Rattle.pst_line.specs.Held.{Held, IsHeld, IsRootAt, line_in, stored_of}
use Rattle.pst_line.specs.Entered.{line_with, HasMadeRoom, HasEntered}
use Rattle.pst_line.proofs.Stores.{cover}
use Rattle.pst_line.proofs.Reading.{field_there}
use Rattle.pst_line.proofs.Answered.{covers_all, linked, slot_there}
use Rattle.pst_line.proofs.Writing.{failed_held, failed_unchanged}
use Rattle.pst_line.proofs.Notes.{once_more}
use Rattle.pst_line.proofs.Roots.{stay_carried, root_covers, root_anew}

-- newest nodes and quiet lines are so whichever records are made
pub newest_all : (m k : ℕ → Bool) (nodes : List Seen) (x : ℕ) → IsNewest (line_of m nodes) x → IsNewest (line_of k nodes) x
newest_all m k nodes x n = record { there = n.there; last = n.last }

pub quiet_all : (m k : ℕ → Bool) (nodes : List Seen) (t : ℕ) → IsQuiet (line_of m nodes) t → IsQuiet (line_of k nodes) t
quiet_all m k nodes t q = record { none = λ i g y n e. q.none i g y (record { there = n.there; last = n.last }) e }

module _ (s g : Held) (e : s ≡ g) (h : IsHeld s) (t : ℕ) (t_is : t ≡ length g.versions) where
  pub stamp_is : t ≡ length s.versions
  stamp_is = t_is ∙ ap (λ (g : Held). length g.versions) (sym e)

  pub line_at : IsLine s.shape t (line_in s)
  line_at = subst (λ (t : ℕ). IsLine s.shape t (line_in s)) (sym stamp_is) h.stored.line

  pub some_line : (made : ℕ → Bool) × IsLine s.shape t (line_of made s.nodes)
  some_line = (is_made s.versions s.opened, line_at)

  pub newest_there : (x : ℕ) → Covers (line_of (λ i. true) s.nodes) x t → IsNewest (line_of (λ i. true) s.nodes) x
  newest_there x c = newest_all (is_made s.versions s.opened) (λ i. true) s.nodes x (covers_last s.shape t (line_in s) x line_at (covers_all (λ i. true) (is_made s.versions s.opened) s.nodes x t c))

  module _ (some : IsSome g.opened) (ns : List Seen) (carried : (made : ℕ → Bool) → IsLine s.shape t (line_of made s.nodes) → IsCarried s.shape t (line_of made s.nodes) (line_of made ns)) (kept : AreKept s.shape t ns) where
    carried_s : IsCarried s.shape (length s.versions) (line_in s) (line_with s ns)
    carried_s = subst (λ (t : ℕ). IsCarried s.shape t (line_in s) (line_with s ns)) stamp_is (carried (is_made s.versions s.opened) line_at)

    kept_s : AreKept s.shape (length s.versions) ns
    kept_s = subst (λ (t : ℕ). AreKept s.shape t ns) stamp_is kept

    some_s : IsSome s.opened
    some_s = subst (λ (g : Held). IsSome g.opened) (sym e) some

    pub enter_failed : (us : List Undo) → IsOnce us → IsHeld (record s { nodes = ns; undo = us; failed = true })
    enter_failed us once = failed_held s h ns carried_s kept_s some_s us once

    -- the root's node is found anew
    pub root_entered : IsRootAt ns t s.root
    root_entered = subst (λ (t : ℕ). IsRootAt ns t s.root) (sym stamp_is) (stay_carried (is_made s.versions s.opened) s.nodes ns (length s.versions) carried_s.went.nodes (length s.versions) s.root h.root)

    pub linked_entered : AreLinked (line_of (λ i. true) ns)
    linked_entered = linked s.shape (length s.versions) (is_made s.versions s.opened) ns carried_s.line

    module _ (y : ℕ) (cy : Covers (line_of (λ i. true) ns) y t) (hy : (line_of (λ i. true) ns).home y ≡ (line_of (λ i. true) ns).home s.root.0) where
      pub root_found : IsRootAt ns (length s.versions) (record { 0 = y })
      root_found = subst (λ (t : ℕ). IsRootAt ns t (record { 0 = y })) stamp_is (root_covers ns t s.root y root_entered cy hy)

      found_failed : (us : List Undo) → IsOnce us → IsHeld (record s { nodes = ns; undo = us; failed = true; root = record { 0 = y } })
      found_failed us once = root_anew (record s { nodes = ns; undo = us; failed = true }) (enter_failed us once) (record { 0 = y }) root_found

      pub found_kept : (us : List Undo) → us ≡ s.undo → IsHeld (record s { nodes = ns; undo = us; failed = true; root = record { 0 = y } })
      found_kept us is = found_failed us (subst IsOnce (sym is) h.once)

      pub found_more : (us : List Undo) (v : Undo) → us ≡ with_entry v s.undo → IsHeld (record s { nodes = ns; undo = us; failed = true; root = record { 0 = y } })
      found_more us v is = found_failed us (subst IsOnce (sym is) (once_more v s.undo h.once))

    pub enter_unchanged : (us : List Undo) → Unchanged (state_of (stored_of g)) (state_of (stored_of (record s { nodes = ns; undo = us; failed = true })))
    enter_unchanged us = subst (λ (g : Held). Unchanged (state_of (stored_of g)) (state_of (stored_of (record s { nodes = ns; undo = us; failed = true })))) e (failed_unchanged s h ns carried_s us)

    module _ (r f found x : ℕ) (live : (state_of (stored_of g)).live (record { stamp = record { 0 = length g.versions } }) (record { 0 = r }))
        (kind : (k : Kind) × (kind_in g.shape ((state_of (stored_of g)).heap (record { stamp = record { 0 = length g.versions } })) ((line_in g).name r) f ≡ Some k))
        (c : Covers (line_of (λ i. true) s.nodes) found t) (home : (line_of (λ i. true) s.nodes).home found ≡ (line_of (λ i. true) s.nodes).home r) (room : HasRoomFor s.shape (line_of (λ i. true) ns) found f t x) (quiet : IsQuiet (line_of (λ i. true) ns) t) where
      live_s : (state_of (stored_of s)).live (record { stamp = record { 0 = length s.versions } }) (record { 0 = r })
      live_s = subst (λ (g : Held). (state_of (stored_of g)).live (record { stamp = record { 0 = length g.versions } }) (record { 0 = r })) (sym e) live

      -- x is of the record of r
      home_x : (line_with s ns).home x ≡ (line_with s ns).home r
      home_x = room.home ∙ carried_s.went.nodes.home found c.there ∙ home ∙ sym (carried_s.went.nodes.home r live_s.1.there)

      there_r : r < length ns
      there_r = omega (arith, live_s.1.there, carried_s.went.nodes.count)

      made_x : (line_with s ns).made x ≡ true
      made_x = ap (is_made s.versions s.opened) (home_x ∙ carried_s.went.nodes.home r live_s.1.there) ∙ live_s.1.made

      x_newest : IsNewest (line_with s ns) x
      x_newest = newest_all (λ i. true) (is_made s.versions s.opened) ns x room.newest

      x_covers : Covers (line_with s ns) x (length s.versions)
      x_covers = last_covers s.shape (length s.versions) (line_with s ns) x carried_s.line x_newest

      made_room : HasMadeRoom s ns r f x
      made_room = record {
        newest = record { there = record { covers = x_covers; made = made_x }; last = x_newest; home = home_x };
        room = subst (λ (t : ℕ). ((line_with s ns).since x f ≡ t) ⊎ ((line_with s ns).stamped x < most (type_at s.shape ((line_with s ns).ty x)))) stamp_is room.room;
        carried = carried_s;
        quiet = quiet_all (λ i. true) (is_made s.versions s.opened) ns (length s.versions) (subst (IsQuiet (line_of (λ i. true) ns)) stamp_is quiet);
        kept = kept_s;
      }

      pub slot_entered : HasSlot ns x f
      slot_entered =
          let n = cover s.shape (length s.versions) (line_in s) (length s.versions) r h.stored.line live_s.1 in
          let is = subst (λ (g : Held). kind_in g.shape ((state_of (stored_of g)).heap (record { stamp = record { 0 = length g.versions } })) ((line_in g).name r) f ≡ Some kind.0) (sym e) kind.1 in
          let below = field_there (stored_of s) h.stored (record { stamp = record { 0 = length s.versions } }) r n.node live_s n.alive.covers n.home f kind.0 is in
          let same : (line_with s ns).ty x ≡ (line_in s).ty n.node = (carried_s.line.chained.same x r x_covers.there there_r home_x).1 ∙ carried_s.went.nodes.ty r live_s.1.there ∙ sym n.ty in
          slot_there s.shape (length s.versions) (is_made s.versions s.opened) ns x f kept_s (let q : element_count (type_at s.shape ((line_with s ns).ty x)) ≡ element_count (type_at s.shape ((line_in s).ty n.node)) = ap (λ (u : TypeNo). element_count (type_at s.shape u)) same in omega (arith, q, below))

      pub entered : (y : ℕ) → Covers (line_of (λ i. true) ns) y t → (line_of (λ i. true) ns).home y ≡ (line_of (λ i. true) ns).home s.root.0 → (us : List Undo) (content : Content) (first : ℕ) → content ≡ (line_of (λ i. true) ns).holds x f t → first ≡ (line_of (λ i. true) ns).home x
          → us ≡ with_entry (record { node = record { 0 = first }; slot = record { 0 = f }; content = content }) s.undo
          → HasEntered g (record s { nodes = ns; undo = us; failed = true; root = record { 0 = y } }) r f x
      entered y cy hy us content first is home_is all = subst (λ (g : Held). HasEntered g (record s { nodes = ns; undo = us; failed = true; root = record { 0 = y } }) r f x) e (record {
        nodes = ns;
        room = made_room;
        root = record { 0 = y };
        rooted = root_found y cy hy;
        is = ap (λ (us : List Undo). record s { nodes = ns; undo = us; failed = true; root = record { 0 = y } }) (all
            ∙ ap (λ (n : ℕ). with_entry (record { node = record { 0 = n }; slot = record { 0 = f }; content = content }) s.undo) home_is
            ∙ ap (λ (c : Content). with_entry (record { node = record { 0 = (line_with s ns).home x }; slot = record { 0 = f }; content = c }) s.undo) (is ∙ ap ((line_with s ns).holds x f) stamp_is));
      })
