-- What is so of the nodes at all times is so after a write.
use Rattle.std.proofs.Common.{◌≡◌, ℕ, ◌<◌, true, false, eqb, List, length, get_or, Option, Some, refl, sym, ap, ◌∙◌, subst, ⊎_elim, inl, inr, arith, ℤ}
use Rattle.std.proofs.lemmas.Bool.{cases_Bool, false≢true, false_from_ne_true, and_parts, eqb-true}
use Rattle.pst_base.specs.declared.names.Kind.TheVariants.{Pointer}
use Rattle.pst_base.specs.declared.names.NodeId.{NodeId}
use Rattle.pst_base.specs.declared.shape.TypeShape.{TypeShape}
use Rattle.pst_base.specs.Shape.{type_at, field_kind}
use Rattle.pst_order.specs.Places.{rank}
use Rattle.pst_rows.specs.declared.content.Content.{Content}
use Rattle.pst_rows.specs.declared.content.Content.TheVariants.{Number, Null, Free, Target as TargetOf, From as FromOf}
use Rattle.pst_mirror.specs.Charts.{IsSlotSet}
use Rattle.pst_mirror.specs.Contents.{Target, From}
use Rattle.pst_mirror.specs.Kinds.{HasKind, IsInverse}
use Rattle.pst_mirror.specs.Lives.{Lives, AreChained, IsIn}
use Rattle.pst_mirror.specs.Mirror.{Chart, IsMirrored, IsUnlinked, IsLinked, is_there, is_slot, put_two}
use Rattle.pst_mirror.proofs.KindLemmas.{pointer_field}
use Rattle.pst_mirror.proofs.MirrorLemmas.{there_is, not_there, holds_at}
use Rattle.pst_mirror.proofs.WriteLemmas.{put_cases}
use Rattle.pst_nodes.specs.declared.node.Node.{Node}
use Rattle.pst_nodes.specs.Arena.{Frame, no_frame, frames_of, chart, lives, type_no, type_of, IsSlot, AreRows}
use Rattle.pst_nodes.proofs.NodeLemmas.{in_of}
use Rattle.pst_nodes.proofs.PairLemmas.{held_slot}
use Rattle.pst_repair.specs.Load.{IsSound, is_link}
use Rattle.pst_repair.specs.Steps.{AreGrown}
use Rattle.pst_repair.proofs.CutLemmas.{all_typed}
use Rattle.pst_repair.proofs.RoomLemmas.{same_lives}
use Rattle.pst_store_meaning.specs.Arena.{Arena}
use Rattle.pst_store_meaning.specs.Changes.{IsPointerTaken}
use Rattle.pst_store_meaning.specs.Store.{arena_of}
use Rattle.pst_repair.specs.Seen.{seen}
use Rattle.pst_repair.proofs.SeenLemmas.{seen_chart}
use Rattle.pst_store_arena.specs.Writes.{IsFieldCleared}

-- the kinds of what nodes hold where they live, by a chart
abbrev HasKinds : List TypeShape → List ℕ → List Node → Chart → Type 0
HasKinds types qs ns w = (i s m : ℕ) → IsIn (lives qs ns) i m → HasKind (type_of types ns i) (type_no ns) s (w.holds i s m)

sound_grown : (k : ℕ) (types : List TypeShape) (qs : List ℕ) (old new : List Node) → AreGrown k types old new → IsSound types qs old → AreRows qs new
    → IsMirrored (chart qs new) → HasKinds types qs old (chart qs new) → IsSound types qs new
sound_grown k types qs old new g s rows mir kinds =
    let lived : lives qs new ≡ lives qs old = same_lives qs old new g.count g.lo g.hi g.frames in
    record {
      rows = rows;
      mirrored = mir;
      chained = subst (λ (w : Lives). AreChained w) (sym lived) s.chained;
      one_type = subst (λ (fs : List Frame). (i j : ℕ) → i < length new → j < length new → (get_or fs i no_frame).name ≡ (get_or fs j no_frame).name
          → (get_or fs i no_frame).ty ≡ (get_or fs j no_frame).ty) (sym g.frames)
          (λ i j l m e. s.one_type i j (omega (arith, g.count)) (omega (arith, g.count)) e);
      typed = all_typed k types old new g s.typed;
      kinds = λ i t m h. subst (λ (fs : List Frame). HasKind (type_at types (record { 0 = (get_or fs i no_frame).ty }))
          (λ y. record { 0 = (get_or fs y no_frame).ty }) t ((chart qs new).holds i t m)) (sym g.frames)
          (kinds i t m (subst (λ (w : Lives). IsIn w i m) lived h));
    }

-- ---- a number

module _ (old new : Chart) (x f b : ℕ) (v : ℤ) (o : IsSlotSet old new x f b (Number v)) (none : (n : ℕ) (c : Content) → is_link c ≡ true → old.holds x f n ≡ c → ⊥) where
  set_there : (i g n : ℕ) → is_there x f b i g n ≡ true → new.holds i g n ≡ Number v
  set_there i g n t = o.holds i g n ∙ (rw t refl)

  set_other : (i g n : ℕ) → is_there x f b i g n ≡ false → new.holds i g n ≡ old.holds i g n
  set_other i g n t = o.holds i g n ∙ (rw t refl)

  was_link : (i g n : ℕ) (c : Content) → is_link c ≡ true → new.holds i g n ≡ c → old.holds i g n ≡ c
  was_link i g n c l p = ⊎_elim
      (λ (t : is_there x f b i g n ≡ true). absurd (false≢true (ap is_link (sym (set_there i g n t) ∙ p) ∙ l)))
      (λ (t : is_there x f b i g n ≡ false). sym (set_other i g n t) ∙ p)
      (cases_Bool (is_there x f b i g n))

  stays_link : (i g n : ℕ) (c : Content) → is_link c ≡ true → old.holds i g n ≡ c → new.holds i g n ≡ c
  stays_link i g n c l p = set_other i g n (not_there x f b i g n (λ u w _. none n c l (holds_at old i g n x f n c u w refl p))) ∙ p

  same_edge : (i g n : ℕ) (c : Content) → is_link c ≡ true → old.holds i g n ≡ c → new.edge i g n ≡ old.edge i g n
  same_edge i g n c l p =
      let away : is_slot x f i g ≡ false = false_from_ne_true (is_slot x f i g) (λ t.
      let q = and_parts (eqb i x) (eqb g f) t in
      none n c l (holds_at old i g n x f n c (eqb-true i x q.0) (eqb-true g f q.1) refl p)) in
      o.edges i g n ∙ (rw away refl)

  number_mirrored : IsMirrored old → IsMirrored new
  number_mirrored mir = record {
    found = λ i g n y p. let s = mir.found i g n y (was_link i g n (Target y) refl p) in (s.0, stays_link y s.0 n (From i g) refl s.1);
    back = λ y s n i g p. stays_link i g n (Target y) refl (mir.back y s n i g (was_link y s n (From i g) refl p));
    one = λ y s t n i g p q. mir.one y s t n i g (was_link y s n (From i g) refl p) (was_link y t n (From i g) refl q);
    together = λ y s n i g p.
        let q = was_link y s n (From i g) refl p in
        same_edge y s n (From i g) refl q ∙ mir.together y s n i g q ∙ sym (same_edge i g n (Target y) refl (mir.back y s n i g q));
  }

module _ (types : List TypeShape) (qs : List ℕ) (old : List Node) (s : IsSound types qs old) where
  -- what holds something lives there, and is of its kind
  lives_there : (x f n : ℕ) (c : Content) → (chart qs old).holds x f n ≡ c → (c ≡ Null → ⊥) → IsIn (lives qs old) x n
  lives_there x f n c e ne = let slot : IsSlot qs old x f n = held_slot qs old x f n c s.rows e ne in in_of qs old x n slot.alive

  kind_there : (x f n : ℕ) (c : Content) → (chart qs old).holds x f n ≡ c → (c ≡ Null → ⊥) → HasKind (type_of types old x) (type_no old) f c
  kind_there x f n c e ne = subst (λ (k : Content). HasKind (type_of types old x) (type_no old) f k) e (s.kinds x f n (lives_there x f n c e ne))

  value_none : (x f : ℕ) → f < (type_of types old x).values → (n : ℕ) (c : Content) → is_link c ≡ true → (chart qs old).holds x f n ≡ c → ⊥
  value_none x f l n (Number k) i e = false≢true i
  value_none x f l n Null i e = false≢true i
  value_none x f l n Free i e = false≢true i
  value_none x f l n (TargetOf y) i e =
      let k = kind_there x f n (Target y.0) e (λ q. cc) in
      let p = pointer_field (type_of types old x) f (type_no old y.0) k in
      omega (arith, p.0)
  value_none x f l n (FromOf y g) i e =
      let k : IsInverse (type_of types old x) f = kind_there x f n (From y.0 g.0) e (λ q. cc) in
      omega (arith, k.from)

  pub number_sound : (k : ℕ) (new : List Node) (x f b : ℕ) (v : ℤ) → AreGrown k types old new
      → IsSlotSet (chart qs old) (chart qs new) x f b (Number v) → AreRows qs new → f < (type_of types old x).values → IsSound types qs new
  number_sound k new x f b v g o rows l =
      let none = value_none x f l in
      sound_grown k types qs old new g s rows (number_mirrored (chart qs old) (chart qs new) x f b v o none s.mirrored)
      (λ i t m h. ⊎_elim
      (λ (e : is_there x f b i t m ≡ true).
      let p = there_is x f b i t m e in
      subst (λ (c : Content). HasKind (type_of types old i) (type_no old) t c) (sym (set_there (chart qs old) (chart qs new) x f b v o none i t m e))
      (subst (λ (j : ℕ). t < (type_of types old j).values) (sym p.0) (subst (λ (j : ℕ). j < (type_of types old x).values) (sym p.1) l)))
      (λ (e : is_there x f b i t m ≡ false). subst (λ (c : Content). HasKind (type_of types old i) (type_no old) t c)
      (sym (set_other (chart qs old) (chart qs new) x f b v o none i t m e)) (s.kinds i t m h))
      (cases_Bool (is_there x f b i t m)))

  -- ---- two slots

  put_kinds : (new : Chart) (x f : ℕ) (c : Content) (y g : ℕ) (d : Content) (b : ℕ)
      → ((i t m : ℕ) → new.holds i t m ≡ put_two (chart qs old) x f c y g d b i t m) → HasKind (type_of types old x) (type_no old) f c
      → HasKind (type_of types old y) (type_no old) g d → HasKinds types qs old new
  put_kinds new x f c y g d b put p q i t m h =
      let P : ℕ → ℕ → Content → Type 0 = λ i t c. HasKind (type_of types old i) (type_no old) t c in
      subst (P i t) (sym (put i t m)) (elim (put_cases (chart qs old) x f c y g d b i t m) [
        | inl u ↦ subst (P i t) (sym u.3) (subst (λ (j : ℕ). P j t c) (sym u.0) (subst (λ (j : ℕ). P x j c) (sym u.1) p))
        | inr r ↦ elim r [
          | inl u ↦ subst (P i t) (sym u.3) (subst (λ (j : ℕ). P j t d) (sym u.0) (subst (λ (j : ℕ). P y j d) (sym u.1) q))
          | inr u ↦ subst (P i t) (sym u.2) (s.kinds i t m h)
        ]
      ])

  unlinked_kinds : (new : Chart) (x f y g b : ℕ) → IsUnlinked (chart qs old) new x f y g b → HasKinds types qs old new
  unlinked_kinds new x f y g b u =
      let k : field_kind (type_of types old x) f ≡ Some (Pointer (type_no old y)) = kind_there x f b (Target y) (s.mirrored.back y g b x f u.pair) (λ q. cc) in
      let p = pointer_field (type_of types old x) f (type_no old y) k in
      let i : IsInverse (type_of types old y) g = kind_there y g b (From x f) u.pair (λ q. cc) in
      put_kinds new x f Null y g Free b u.holds (p.0, inl p.1) i

  pub cleared_sound : (new : List Node) (x f b : ℕ) (led : Option NodeId) → IsFieldCleared qs old new x f b led → IsSound types qs new
  cleared_sound new x f b led cl =
      sound_grown cl.stamped types qs old new (cl.grown types) s cl.rows cl.mirrored (⊎_elim
      (λ (e : (arena_of (rank qs) (seen new) ≡ arena_of (rank qs) (seen old)) × ((arena_of (rank qs) (seen old)).chart.holds x f b ≡ Null)).
      let same : chart qs new ≡ chart qs old = sym (seen_chart qs new) ∙ ap (λ (w : Arena). w.chart) e.0 ∙ seen_chart qs old in
      subst (λ (w : Chart). HasKinds types qs old w) (sym same) s.kinds)
      (λ (t : (y : ℕ) × (g : ℕ) × IsPointerTaken (arena_of (rank qs) (seen old)) (arena_of (rank qs) (seen new)) x f y g b).
      unlinked_kinds (chart qs new) x f t.0 t.1 b
      (subst (λ (w : Chart). IsUnlinked w (chart qs new) x f t.0 t.1 b) (seen_chart qs old)
      (subst (λ (w : Chart). IsUnlinked (arena_of (rank qs) (seen old)).chart w x f t.0 t.1 b) (seen_chart qs new) t.2.unlinked)))
      cl.cleared)

  pub linked_sound : (k : ℕ) (new : List Node) (x f y g b : ℕ) → AreGrown k types old new → IsLinked (chart qs old) (chart qs new) x f y g b
      → AreRows qs new → IsMirrored (chart qs new) → field_kind (type_of types old x) f ≡ Some (Pointer (type_no old y)) → IsSound types qs new
  linked_sound k new x f y g b grown u rows mir kind =
      let i : IsInverse (type_of types old y) g = kind_there y g b Free u.free (λ q. cc) in
      sound_grown k types qs old new grown s rows mir (put_kinds (chart qs new) x f (Target y) y g (From x f) b u.holds kind i)

-- the kind of a field stays where the types do
pub kind_kept : (types : List TypeShape) (old new : List Node) (x f y : ℕ) → frames_of new ≡ frames_of old
    → field_kind (type_of types old x) f ≡ Some (Pointer (type_no old y)) → field_kind (type_of types new x) f ≡ Some (Pointer (type_no new y))
kind_kept types old new x f y frames h =
    subst (λ (fs : List Frame). field_kind (type_at types (record { 0 = (get_or fs x no_frame).ty })) f ≡ Some (Pointer (record { 0 = (get_or fs y no_frame).ty }))) (sym frames) h
