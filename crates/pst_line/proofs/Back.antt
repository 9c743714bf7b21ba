-- A run is given up: its fields get what they had.
use Rattle.std.proofs.Common.{◌≡◌, ℕ, ◌+◌, ◌<◌, ◌≤◌, ◌++◌, Bool, true, false, List, [], ◌∷◌, length, map, zero, suc, Option, Some, None, IsSome, Result, Ok, ℤ, refl, sym, ap, ◌∙◌, subst, inl, inr, arith}
use Rattle.std.proofs.lemmas.Bool.{false≢true}
use Rattle.std.proofs.lemmas.List.{append-nil, map-id}
use Rattle.std.specs.Prelude.{IfNone, OnOk, slice_get}
use Rattle.pst_base.specs.declared.names.Kind.{Kind}
use Rattle.pst_base.specs.declared.names.Kind.TheVariants.{Int, Pointer}
use Rattle.pst_base.specs.declared.names.TypeNo.{TypeNo}
use Rattle.pst_base.specs.declared.shape.TypeShape.{TypeShape}
use Rattle.pst_base.specs.Shape.{type_at, field_kind}
use Rattle.pst_line_nodes.specs.declared.content.Content.{Content}
use Rattle.pst_line_nodes.specs.declared.content.Content.TheVariants.{Number, Null, Target as TargetOf}
use Rattle.pst_line_nodes.specs.Contents.{Target}
use Rattle.pst_line_nodes.specs.Line.{Covers, IsNewest, IsLive}
use Rattle.pst_line_nodes.specs.Changes.{IsSet, IsNulled, IsPointed}
use Rattle.pst_line_nodes.specs.declared.content.InverseNo.{InverseNo}
use Rattle.pst_line_nodes.specs.Seen.{Seen}
use Rattle.pst_line_nodes.specs.Nodes.{line_of, AreKept, IsFieldSet}
use Rattle.pst_line_nodes.specs.Carried.{IsFieldNulled, IsFieldPointed, HasOpenSlot, HasNoOpenSlot, MayPoint}
use Rattle.pst_line_nodes.proofs.Copy.{covers_last}
use Rattle.pst_line_nodes.proofs.Degree.{full_law}
use Rattle.pst_line.specs.declared.place.Undo.{Undo}
use Rattle.pst_line.specs.declared.place.LinePlace.{LinePlace}
use Rattle.pst_line.specs.Store.{Stored, state_of, is_made, IsPlace, IsStored, IsClosed, Undone}
use Rattle.pst_line.specs.declared.undo_run.Step.{Step}
use Rattle.pst_line.specs.declared.undo_run.Step.TheVariants.{Clear, Restore}
use Rattle.pst_line.specs.Undoing.{Fits, IsNewestOf, IsPut, IsUndone, ended, plan}
use Rattle.pst_line.specs.Noted.{IsOnce}
use Rattle.pst_line.specs.Held.{Held, IsHeld, line_in, stored_of}
use Rattle.pst_line.specs.Entered.{line_with}
use Rattle.pst_line.specs.Back.{CanBeHeld, MayPutBack, HasPutBack, IsGoing, step_of}
use Rattle.pst_line.proofs.Undoing.{end_law}
use Rattle.pst_line.proofs.PutBack.{pointer_kind, put_back_law, room_law}
use Rattle.pst_line.proofs.Answered.{covers_all, slot_there}
use Rattle.pst_line.proofs.Entering.{newest_all, stamp_is}
use Rattle.pst_line.proofs.Ends.{kind_below}
use Rattle.pst_line.proofs.Roots.{RootsStay, stay_same, have_roots}

-- ---- a content is put back

pub ok_of : {A E : Type 0} (r : Result A E) (a : A) (P : Type 0) → r ≡ Ok a → OnOk r P → P
ok_of {A = A} {E = E} r a P e k = let Q : Result A E → Type 0 = λ r. OnOk r P in subst Q e k

module _ (shape : List TypeShape) (made : ℕ → Bool) (t : ℕ) (nodes : List Seen) (x : ℕ) (u : Undo) (m : MayPutBack shape made t nodes x u) where
  -- ---- a number or null

  module _ (ms : List Seen) (kept : (shape : List TypeShape) → AreKept shape t nodes → AreKept shape t ms) where
    pub number_back_put : (n : ℤ) → u.content ≡ Number n → ((made : ℕ → Bool) → IsFieldSet (line_of made nodes) (line_of made ms) x u.slot.0 t u.content) → HasPutBack shape made t nodes ms x u
    number_back_put n e d = record {
      put = subst (λ (c : Content). IsPut shape (line_of made nodes) (line_of made ms) x u.slot.0 t c) (sym e) (record {
        set = subst (λ (k : ℕ). IsSet (line_of made nodes) (line_of made ms) x u.slot.0 t (Number n) k) ((d made).replaced m.since)
            (subst (λ (c : Content). IsSet (line_of made nodes) (line_of made ms) x u.slot.0 t c (d made).more) e (d made).set);
        entry = (d made).entry;
      });
      kept = kept shape m.kept;
    }

    pub null_back_put : u.content ≡ Null → ((made : ℕ → Bool) → IsFieldNulled (line_of made nodes) (line_of made ms) x u.slot.0 t) → HasPutBack shape made t nodes ms x u
    null_back_put e d = record {
      put = subst (λ (c : Content). IsPut shape (line_of made nodes) (line_of made ms) x u.slot.0 t c) (sym e)
          (subst (λ (k : ℕ). IsNulled (line_of made nodes) (line_of made ms) x u.slot.0 t k) ((d made).replaced m.since) (d made).nulled);
      kept = kept shape m.kept;
    }

  -- ---- a pointer

  module _ (y : ℕ) (e : u.content ≡ Target y) where
    pub target_exists : y < length nodes
    target_exists = (m.target y e).live.there

    module _ (z : ℕ) (cz : Covers (line_of (λ i. true) nodes) z t) (hz : (line_of (λ i. true) nodes).home z ≡ (line_of (λ i. true) nodes).home y) where
      newest_z : IsNewestOf (line_of made nodes) t y z
      newest_z = record {
        there = record { covers = covers_all (λ i. true) made nodes z t cz; made = ap made hz ∙ (m.target y e).live.made };
        last = covers_last shape t (line_of made nodes) z m.line (covers_all (λ i. true) made nodes z t cz);
        home = hz;
      }

      pub last_z : IsNewest (line_of (λ i. true) nodes) z
      last_z = newest_all made (λ i. true) nodes z newest_z.last

      pub slot_back : (o : Option InverseNo) → IfNone o (HasNoOpenSlot nodes z x u.slot.0) → IsSome o
      slot_back (Some k) none = refl
      slot_back None none = absurd ((m.target y e).room z newest_z (record { others = (none shape t (λ i. true) m.kept).others }))

      module _ (k : ℕ) (o : HasOpenSlot nodes z x u.slot.0 k) where
        pub open_back : MayPoint t nodes z x u.slot.0 k
        open_back = (shape, made, m.kept, m.line, o shape t made m.kept)

        pub target_back_put : (ms : List Seen) → ((shape : List TypeShape) → AreKept shape t nodes → AreKept shape t ms)
            → ((made : ℕ → Bool) → IsFieldPointed (line_of made nodes) (line_of made ms) x u.slot.0 t z k) → HasPutBack shape made t nodes ms x u
        target_back_put ms kept d = record {
          put = subst (λ (c : Content). IsPut shape (line_of made nodes) (line_of made ms) x u.slot.0 t c) (sym e) (record {
            node = z;
            newest = newest_z;
            slot = k;
            below = (o shape t made m.kept).below;
            pointed = subst (λ (n : ℕ). IsPointed (line_of made nodes) (line_of made ms) x u.slot.0 t z k n) ((d made).replaced m.since) (d made).pointed;
          });
          kept = kept shape m.kept;
        }

-- ---- an entry is put back

-- what fits a field tells its kind
fits_kind : (s : Stored) (x g : ℕ) (c : Content) → Fits s x g c → (k : Kind) × (field_kind (type_at s.shape (s.line.ty x)) g ≡ Some k)
fits_kind s x g (Number n) f = (Int, f)
fits_kind s x g Null f = let p = pointer_kind (field_kind (type_at s.shape (s.line.ty x)) g) f in (Pointer p.0, p.1)
fits_kind s x g (TargetOf y) f = (Pointer (s.line.ty y.0), f.1)

pub some_is : {A : Type 0} (o : Option A) → IsSome o → (a : A) × (o ≡ Some a)
some_is None k = absurd (false≢true k)
some_is (Some a) k = (a, refl)

module _ (s : Held) (ns : List Seen) (t : ℕ) (v : Undo) (es : List Undo) (i : IsGoing s ns t (v ∷ es)) where
  -- the store, with the nodes as they are by now
  abbrev now : Held
  now = record s { nodes = ns }

  live : IsLive (line_in now) v.node.0 (length s.versions)
  live = (i.can.entered 0 v (omega arith)).live

  pub entry_there : v.node.0 < length ns
  entry_there = live.there

  pub entry_begun : (line_of (λ i. true) ns).first v.node.0 ≤ t
  entry_begun = omega (arith, live.begun, i.stamp)

  module _ (x : ℕ) (c : Covers (line_of (λ i. true) ns) x t) (home : (line_of (λ i. true) ns).home x ≡ (line_of (λ i. true) ns).home v.node.0) where
    cover_s : Covers (line_in now) x (length s.versions)
    cover_s = covers_all (λ i. true) (is_made s.versions s.opened) ns x (length s.versions) (subst (Covers (line_of (λ i. true) ns) x) i.stamp c)

    newest : IsNewestOf (line_in now) (length s.versions) v.node.0 x
    newest = record {
      there = record { covers = cover_s; made = ap (is_made s.versions s.opened) home ∙ live.made };
      last = covers_last s.shape (length s.versions) (line_in now) x i.stored.line cover_s;
      home = home;
    }

    same_ty : (line_in now).ty x ≡ (line_in now).ty v.node.0
    same_ty = (i.stored.line.chained.same x v.node.0 cover_s.there live.there home).1

    kind : (k : Kind) × (field_kind (type_at s.shape ((line_in now).ty x)) v.slot.0 ≡ Some k)
    kind = let k = fits_kind (stored_of now) v.node.0 v.slot.0 v.content (i.can.entered 0 v (omega arith)).fits in (k.0, ap (λ (u : TypeNo). field_kind (type_at s.shape u) v.slot.0) same_ty ∙ k.1)

    held : (y : ℕ) → v.content ≡ Target y → CanBeHeld s.shape (is_made s.versions s.opened) (length s.versions) ns x v.slot.0 y
    held y is =
        let f : IsLive (line_in now) y (length s.versions) × (field_kind (type_at s.shape ((line_in now).ty v.node.0)) v.slot.0 ≡ Some (Pointer ((line_in now).ty y))) = subst (Fits (stored_of now) v.node.0 v.slot.0) is (i.can.entered 0 v (omega arith)).fits in
        record {
          live = f.0;
          room = λ z n a.
              let typed : (line_in now).ty z ≡ (line_in now).ty y = (i.stored.line.chained.same z y n.there.covers.there f.0.there n.home).1 in
              let field : field_kind (type_at s.shape ((line_in now).ty x)) v.slot.0 ≡ Some (Pointer ((line_in now).ty z)) = ap (λ (u : TypeNo). field_kind (type_at s.shape u) v.slot.0) same_ty ∙ f.1 ∙ ap (λ (u : TypeNo). Some (Pointer u)) (sym typed) in
              room_law (stored_of now) i.begun x y z v es i.stored i.can is newest n
              ((full_law s.shape (length s.versions) (line_in now) x v.slot.0 z i.stored.line newest.there n.there field).1 a.others);
        }

    may_put : MayPutBack s.shape (is_made s.versions s.opened) t ns x v
    may_put = subst (λ (t : ℕ). MayPutBack s.shape (is_made s.versions s.opened) t ns x v) (sym i.stamp) (record {
      kept = i.kept;
      line = i.stored.line;
      newest = newest.last;
      slot = slot_there s.shape (length s.versions) (is_made s.versions s.opened) ns x v.slot.0 i.kept (kind_below (type_at s.shape ((line_in now).ty x)) v.slot.0 kind.0 kind.1);
      since = (i.can.entered 0 v (omega arith)).since x newest.last home;
      target = held;
    })

    pub some_may : (shape : List TypeShape) × (made : ℕ → Bool) × MayPutBack shape made t ns x v
    some_may = (s.shape, is_made s.versions s.opened, may_put)

    module _ (ms : List Seen) (d : (shape : List TypeShape) (made : ℕ → Bool) → MayPutBack shape made t ns x v → HasPutBack shape made t ns ms x v) where
      done : HasPutBack s.shape (is_made s.versions s.opened) (length s.versions) ns ms x v
      done = subst (λ (t : ℕ). HasPutBack s.shape (is_made s.versions s.opened) t ns ms x v) i.stamp (d s.shape (is_made s.versions s.opened) may_put)

      law : IsUndone (stored_of now) (line_with s ms) i.begun es
      law = put_back_law (stored_of now) (line_with s ms) i.begun x v es i.stored i.rested i.opened i.can newest done.put

      pub gone_on : IsGoing s ms t es
      gone_on = record {
        stamp = i.stamp;
        begun = i.begun;
        opened = i.opened;
        stored = law.stored;
        rested = law.rested;
        can = law.can;
        kept = done.kept;
        stay = record {
          heaps = λ n l. law.stay.heaps n l ∙ i.stay.heaps n l;
          live = λ j n l a. let m = i.stay.live j n l a in let p = law.stay.live j n l m.0 in (p.0, p.1 ∙ m.1);
        };
        same = record {
          count = law.nodes.count ∙ i.same.count;
          home = λ j. law.nodes.home j ∙ i.same.home j;
          name = λ j. law.nodes.name j ∙ i.same.name j;
          ty = λ j. law.nodes.ty j ∙ i.same.ty j;
          made = λ j. law.nodes.made j ∙ i.same.made j;
          first = λ j. law.nodes.first j ∙ i.same.first j;
          later = λ j. law.nodes.later j ∙ i.same.later j;
        };
      }

-- ---- one entry after another

-- the entries from one on
abbrev pub behind : ℕ → List Undo → List Undo
behind zero us = us
behind (suc k) [] = []
behind (suc k) (u ∷ us) = behind k us

pub behind_at : (k : ℕ) (us : List Undo) (u : Undo) → slice_get us k ≡ Some u → behind k us ≡ u ∷ behind (suc k) us
behind_at k [] u e = absurd (cc)
behind_at zero (v ∷ us) u e = let same : v ≡ u = cc in ap (λ (v : Undo). v ∷ us) same
behind_at (suc k) (v ∷ us) u e = behind_at k us u e

pub behind_all : (k : ℕ) (us : List Undo) → length us ≤ k → behind k us ≡ []
behind_all zero [] l = refl
behind_all zero (u ∷ us) l = absurd (omega (arith, l))
behind_all (suc k) [] l = refl
behind_all (suc k) (u ∷ us) l = behind_all k us (omega (arith, l))

-- what a step has still to do, from an entry on
abbrev pub left : Step → ℕ → List Undo → List Undo → List Undo
left step k us rest = map (step_of step) (behind k us) ++ rest

pub left_at : (step : Step) (k : ℕ) (us rest : List Undo) (u : Undo) → slice_get us k ≡ Some u → left step k us rest ≡ step_of step u ∷ left step (suc k) us rest
left_at step k us rest u e = ap (λ (vs : List Undo). map (step_of step) vs ++ rest) (behind_at k us u e)

pub left_none : (step : Step) (k : ℕ) (us rest : List Undo) → length us ≤ k → left step k us rest ≡ rest
left_none step k us rest l = ap (λ (vs : List Undo). map (step_of step) vs ++ rest) (behind_all k us l)

module _ (h : Held) (ns : List Seen) (t : ℕ) (step : Step) (k : ℕ) (us rest : List Undo) (i : IsGoing h ns t (left step k us rest)) where
  pub going_at : (u e : Undo) → slice_get us k ≡ Some u → e ≡ step_of step u → IsGoing h ns t (e ∷ left step (k + 1) us rest)
  going_at u e at is = subst (λ (us : List Undo). IsGoing h ns t us)
      (left_at step k us rest u at ∙ ap (λ n. step_of step u ∷ left step n us rest) (let q : suc k ≡ k + 1 = omega arith in q) ∙ ap (λ (e : Undo). e ∷ left step (k + 1) us rest) (sym is)) i

  pub going_end : length us ≤ k → IsGoing h ns t rest
  going_end l = subst (λ (us : List Undo). IsGoing h ns t us) (left_none step k us rest l) i

-- ---- the run is given up

module _ (s g : Held) (e : s ≡ g) (h : IsHeld s) (some : IsSome g.opened) (whole : g.failed ≡ false) (t : ℕ) (t_is : t ≡ length g.versions) where
  opened_s : (b : ℕ) × (s.opened ≡ Some b)
  opened_s = some_is s.opened (subst (λ (g : Held). IsSome g.opened) (sym e) some)

  whole_s : s.failed ≡ false
  whole_s = ap (λ (g : Held). g.failed) e ∙ whole

  going : IsGoing s s.nodes t (plan s.undo)
  going = record {
    stamp = stamp_is s g e h t t_is;
    begun = opened_s.0;
    opened = opened_s.1;
    stored = h.stored;
    rested = h.rested whole_s;
    can = h.undone opened_s.0 opened_s.1 whole_s;
    kept = h.kept;
    stay = record { heaps = λ n l. refl; live = λ i n l a. (a, refl) };
    same = record { count = refl; home = λ i. refl; name = λ i. refl; ty = λ i. refl; made = λ i. refl; first = λ i. refl; later = λ i. refl };
  }

  -- pointers are to be let go
  pub to_clear : IsGoing s s.nodes t (map (step_of Clear) s.undo ++ s.undo)
  to_clear = going

  -- what the fields had is to be put back
  pub to_restore : (ms : List Seen) → IsGoing s ms t s.undo → IsGoing s ms t (map (step_of Restore) s.undo ++ [])
  to_restore ms i = subst (λ (us : List Undo). IsGoing s ms t us) (sym (append-nil (map (step_of Restore) s.undo) ∙ map-id s.undo)) i

  -- each entry is put back
  module _ (ms : List Seen) (i : IsGoing s ms t []) (us : List Undo) (none : us ≡ []) where
    law_k : IsStored (ended (stored_of (record s { nodes = ms }))) × IsClosed (ended (stored_of (record s { nodes = ms })))
        × Undone (state_of (stored_of (record s { nodes = ms }))) (state_of (ended (stored_of (record s { nodes = ms }))))
    law_k = end_law (stored_of (record s { nodes = ms })) i.begun i.stored i.rested i.opened i.can

    stays : RootsStay s.nodes ms
    stays = stay_same (is_made s.versions s.opened) s.nodes ms i.same

    pub gone_held : IsHeld (record s { nodes = ms; undo = us; opened = None })
    gone_held = record {
      stored = law_k.0;
      some = h.some;
      few = h.few;
      rooted = h.rooted;
      kept = i.kept;
      rested = λ f. law_k.1.rested;
      closed = λ o. law_k.1;
      whole = λ o. whole_s;
      empty = λ o. none;
      once = subst IsOnce (sym none) tt;
      undone = λ b o f. absurd (cc);
      counted = h.counted;
      roots = have_roots s.nodes ms stays 0 s.versions h.roots;
      root = stays (length s.versions) s.root h.root;
    }

    below : (p : LinePlace) → IsPlace (stored_of (record s { nodes = ms; undo = us; opened = None })) p → p.stamp.0 < length s.versions
    below p k = elim k [ inl l ↦ l | inr r ↦ absurd (let q : None ≡ Some r.begun = r.opened in cc) ]

    undone_s : Undone (state_of (stored_of s)) (state_of (stored_of (record s { nodes = ms; undo = us; opened = None })))
    undone_s = let u = law_k.2 in record {
      shape = u.shape;
      has = u.has;
      back = u.back;
      heaps = λ p k. u.heaps p k ∙ i.stay.heaps p.stamp.0 (below p k);
      live = λ p r k l. u.live p r k (inl (below p k), (i.stay.live r.0 p.stamp.0 (let m = below p k in omega (arith, m)) l.1).0);
      name = λ r. u.name r ∙ i.same.name r.0;
      versions = u.versions;
      closed = u.closed;
      counts = u.counts;
    }

    pub gone_undone : Undone (state_of (stored_of g)) (state_of (stored_of (record s { nodes = ms; undo = us; opened = None })))
    gone_undone = subst (λ (g : Held). Undone (state_of (stored_of g)) (state_of (stored_of (record s { nodes = ms; undo = us; opened = None })))) e undone_s
