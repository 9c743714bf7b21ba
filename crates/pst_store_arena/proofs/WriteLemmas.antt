-- The steps of a write: what slots hold, the room, what is taken away, and what grows.
use Rattle.std.proofs.Common.{◌≡◌, ◌≢◌, ℕ, suc, ◌+◌, ◌<◌, ◌≤◌, Bool, true, false, not, ◌&&◌, ◌||◌, cond, eqb, List, [], ◌∷◌, length, map, Option, Some, None}
use Rattle.std.proofs.Common.{refl, sym, ap, ap₂, ◌∙◌, subst, ⊎_elim, ◌⊎◌, inl, inr, arith}
use Rattle.std.proofs.lemmas.Bool.{cases_lt, eq-eqb, eqb-true, and_parts, false≢true}
use Rattle.std.proofs.lemmas.List.Sums.{sum_by-cons}
use Rattle.std.specs.Option.{is_some}
use Rattle.pst_base.specs.declared.names.NodeId.{NodeId}
use Rattle.pst_base.specs.declared.names.Kind.{Kind}
use Rattle.pst_base.specs.declared.names.Kind.TheVariants.{Int, Pointer}
use Rattle.pst_base.specs.declared.names.TypeNo.{TypeNo}
use Rattle.pst_base.specs.declared.shape.TypeShape.{TypeShape}
use Rattle.pst_base.specs.Heap.{IsPointer}
use Rattle.pst_base.specs.Shape.{field_kind, element_count}
use Rattle.pst_order.specs.Places.{rank}
use Rattle.pst_rows.specs.declared.content.Content.{Content}
use Rattle.pst_rows.specs.declared.content.Content.TheVariants.{Number, Null, Free, Target as TargetOf, From as FromOf}
use Rattle.pst_rows.specs.declared.row.Row.{Row}
use Rattle.pst_rows.specs.Changes.{slot_count, missing}
use Rattle.pst_rows.specs.Rows.{stamped_count}
use Rattle.pst_mirror.specs.Contents.{Target, From}
use Rattle.pst_mirror.specs.Degree.{is_other_entry}
use Rattle.pst_mirror.specs.Kinds.{HasKind, IsInverse}
use Rattle.pst_mirror.specs.Lives.{IsIn}
use Rattle.pst_mirror.specs.Mirror.{Chart, IsMirrored, IsUnlinked, is_slot, is_there, put_two, with_edges}
use Rattle.pst_mirror.specs.Potential.{HasGrown, stamped_in_all as loads_in_all}
use Rattle.pst_mirror.proofs.KindLemmas.{pointer_field}
use Rattle.pst_mirror.proofs.MirrorLemmas.{target_node, there_at}
use Rattle.pst_mirror.proofs.WriteLemmas.{put_cases, put_first}
use Rattle.pst_nodes.specs.declared.node.Node.{Node}
use Rattle.pst_nodes.specs.Arena.{HasRoom, row_at, chart, lives, type_no, type_of, IsSlot, AreRows}
use Rattle.pst_nodes.specs.Changes.{IsTouched, AreTouched, IsFieldUnlinked, added}
use Rattle.pst_nodes.proofs.NodeLemmas.{some_row, alive_of, typed_slot}
use Rattle.pst_nodes.proofs.PairLemmas.{entry_at}
use Rattle.pst_repair.specs.Load.{IsSound, half_at, stamped_at, stamped_in_all}
use Rattle.pst_repair.specs.Steps.{AreGrown}
use Rattle.pst_repair.proofs.LoadLemmas.{stamped_is, stamped_past, half_same, grown_on, grown_same, grown_touched}
use Rattle.pst_store_meaning.specs.Steps.{HasGrownBy}
use Rattle.pst_store_meaning.specs.Store.{arena_of, load_of}
use Rattle.pst_repair.specs.Seen.{seen, seen_node}
use Rattle.pst_repair.proofs.SeenLemmas.{seen_chart}
use Rattle.pst_repair.proofs.PairedLemmas.{pair_nodes}
use Rattle.pst_store_arena.specs.Writes.{HoldsPointer, LeadsTo, IsNode, IsOneOf, slot_stamps, pair_stamps, HaveRoom, IsFieldCleared}

-- ---- what slots hold

pub pointer_kind : (k : Option Kind) → IsPointer k → (u : TypeNo) × (k ≡ Some (Pointer u))
pointer_kind None h = absurd h
pointer_kind (Some Int) h = absurd h
pointer_kind (Some (Pointer u)) h = (u, refl)

pointer_held : (t : TypeShape) (ty : ℕ → TypeNo) (g : ℕ) (u : TypeNo) (c : Content) → field_kind t g ≡ Some (Pointer u) → HasKind t ty g c → (c ≡ Null) ⊎ ((y : ℕ) × (c ≡ Target y))
pointer_held t ty g u (Number n) e k = let p = pointer_field t g u e in absurd (omega (arith, p.0, k))
pointer_held t ty g u Null e k = inl refl
pointer_held t ty g u (TargetOf y) e k = inr (y.0, refl)
pointer_held t ty g u Free e k = let p = pointer_field t g u e in absurd (omega (arith, p.1, k.from))
pointer_held t ty g u (FromOf y f) e k = let p = pointer_field t g u e in absurd (omega (arith, p.1, k.from))

not_false : (b : Bool) → not b ≡ false → b ≡ true
not_false true h = refl
not_false false h = absurd (false≢true (sym h))

inverse_held : (t : TypeShape) (ty : ℕ → TypeNo) (s x f : ℕ) (c : Content) → IsInverse t s → HasKind t ty s c → is_other_entry x f c ≡ false → (c ≡ Free) ⊎ (c ≡ From x f)
inverse_held t ty s x f (Number n) i k e = absurd (omega (arith, i.from, k))
inverse_held t ty s x f Null i k e = absurd (⊎_elim (λ (l : s < element_count t). omega (arith, i.from, l)) (λ (l : element_count t + t.limit ≤ s). omega (arith, i.below, l)) k.1)
inverse_held t ty s x f (TargetOf y) i k e = let p = pointer_field t s (ty y.0) k in absurd (omega (arith, p.1, i.from))
inverse_held t ty s x f Free i k e = inl refl
inverse_held t ty s x f (FromOf y g) i k e =
    let q = and_parts (eqb y.0 x) (eqb g.0 f) (not_false (eqb y.0 x && eqb g.0 f) e) in
    inr (ap₂ From (eqb-true y.0 x q.0) (eqb-true g.0 f q.1))

module _ (types : List TypeShape) (qs : List ℕ) (ns : List Node) (s : IsSound types qs ns) (x n : ℕ) (h : IsIn (lives qs ns) x n) where
  type_slot : (g : ℕ) → g < slot_count (type_of types ns x) → IsSlot qs ns x g n
  type_slot g l = typed_slot types qs ns x n g (s.typed x h.there) (alive_of qs ns x n h) l

  pub value_slot : (f : ℕ) → f < (type_of types ns x).values → IsSlot qs ns x f n
  value_slot f l = type_slot f (omega (arith, l))

  pub field_slot : (f : ℕ) (u : TypeNo) → field_kind (type_of types ns x) f ≡ Some (Pointer u) → IsSlot qs ns x f n
  field_slot f u e = let p = pointer_field (type_of types ns x) f u e in type_slot f (omega (arith, p.1))

  pub inverse_slot : (g : ℕ) → IsInverse (type_of types ns x) g → IsSlot qs ns x g n
  inverse_slot g i = type_slot g (omega (arith, i.below))

  pub field_holds : (f : ℕ) (u : TypeNo) → field_kind (type_of types ns x) f ≡ Some (Pointer u) → HoldsPointer (chart qs ns) x f n
  field_holds f u e = pointer_held (type_of types ns x) (type_no ns) f u ((chart qs ns).holds x f n) e (s.kinds x f n h)

  pub inverse_holds : (g i f : ℕ) → IsInverse (type_of types ns x) g → is_other_entry i f ((chart qs ns).holds x g n) ≡ false
      → ((chart qs ns).holds x g n ≡ Free) ⊎ ((chart qs ns).holds x g n ≡ From i f)
  inverse_holds g i f inv e = inverse_held (type_of types ns x) (type_no ns) g i f ((chart qs ns).holds x g n) inv (s.kinds x g n h) e

-- ---- the node that a field leads to

module _ (qs : List ℕ) (ns : List Node) (x f b : ℕ) (all : AreRows qs ns) (mir : IsMirrored (chart qs ns)) where
  pub led_there : (led : Option NodeId) → LeadsTo (chart qs ns) x f b led → (i : ℕ) → IsNode led i → i < length ns
  led_there None h i n = absurd n
  led_there (Some y) h i n =
      let t = mir.found x f b y.0 h in
      let slot : IsSlot qs ns y.0 t.0 b = entry_at qs ns y.0 t.0 b x f all t.1 in
      subst (λ (k : ℕ). k < length ns) (sym n) slot.alive.there

  pub one_there : (led : Option NodeId) → LeadsTo (chart qs ns) x f b led → x < length ns → (i : ℕ) → IsOneOf x led i → i < length ns
  one_there led h l i o = ⊎_elim (λ (e : i ≡ x). omega (arith, e)) (λ (n : IsNode led i). led_there led h i n) o

slot_own : (y : ℕ) → slot_stamps y y ≡ 2
slot_own y = ap (λ (b : Bool). cond b 2 0) (eq-eqb y y refl)

two_slots : (b : Bool) → cond b 2 0 + 2 ≡ cond b 4 2
two_slots true = refl
two_slots false = refl

-- the room that the row of a field and of an entry need
pub field_room : (x : ℕ) (y : NodeId) → 2 ≤ pair_stamps x (Some y) x
field_room x y = omega (arith, slot_own x)

pub pair_room : (x : ℕ) (y : NodeId) → pair_stamps x (Some y) y.0 ≡ cond (eqb y.0 x) 4 2
pair_room x y = ap (λ (n : ℕ). slot_stamps x y.0 + n) (slot_own y.0) ∙ two_slots (eqb y.0 x)

pub room_x : (ns : List Node) (x : ℕ) (led : Option NodeId) → is_some led ≡ true → HaveRoom ns x led None → (d : Row) → HasRoom (row_at ns x d) 2
room_x ns x None e room d = absurd (false≢true e)
room_x ns x (Some y) e room d = omega (arith, room x (inl refl) d, field_room x y)

-- what is left of it where a slot was set
touched_room : (old new : List Node) (x : ℕ) → IsTouched 2 old new x → (i : ℕ) (d : Row) (j : ℕ) → HasRoom (row_at old i d) (j + slot_stamps x i) → HasRoom (row_at new i d) j
touched_room old new x t i d j = by (eqb i x) refl
  where
    by : (b : Bool) → eqb i x ≡ b → HasRoom (row_at old i d) (j + cond b 2 0) → HasRoom (row_at new i d) j
    by true e h =
        let q : i ≡ x = eqb-true i x e in
        subst (λ (k : ℕ). HasRoom (row_at new k d) j) (sym q) (t.room d j (subst (λ (k : ℕ). HasRoom (row_at old k d) (j + 2)) q h))
    by false e h =
        let same : row_at new i d ≡ row_at old i d = t.others i d (λ q. false≢true (sym e ∙ eq-eqb i x q)) in
        subst (λ (w : Row). HasRoom w j) (sym same) (omega (arith, h))

-- where a pair was set
pub pair_room_left : (qs : List ℕ) (old new : List Node) (x f s b : ℕ) (y : NodeId) → AreTouched qs old new x f y.0 s b → (i : ℕ) (d : Row) (j : ℕ)
    → HasRoom (row_at old i d) (j + pair_stamps x (Some y) i) → HasRoom (row_at new i d) j
pair_room_left qs old new x f s b y t i d j h =
    touched_room t.mid new y.0 t.second i d j (touched_room old t.mid x t.first i d (j + slot_stamps y.0 i) (omega (arith, h)))

-- ---- growth

-- where it is known how many values more are stamped, there is so much less room
touched_by : (old new : List Node) (x t : ℕ) → IsTouched 2 old new x → ((d : Row) → stamped_count (row_at new x d) ≡ stamped_count (row_at old x d) + t) → IsTouched t old new x
touched_by old new x t h exact = record {
  count = h.count;
  frames = h.frames;
  links = h.links;
  lo = h.lo;
  hi = h.hi;
  width = h.width;
  others = h.others;
  stamped = λ d. omega (arith, exact d);
  room = λ d j r. h.spare d j t (exact d) r;
  spare = h.spare;
}

touched_grown : (types : List TypeShape) (old new : List Node) (x t : ℕ) → x < length old → IsTouched 2 old new x
    → ((d : Row) → stamped_count (row_at new x d) ≡ stamped_count (row_at old x d) + t) → AreGrown t types old new
touched_grown types old new x t l h exact = grown_touched t types old new x l (touched_by old new x t h exact) (λ d. omega (arith, exact d)) (some_row old x l)

pub number_grown : (types : List TypeShape) (qs : List ℕ) (old new : List Node) (x f b : ℕ) → x < length old → IsTouched 2 old new x
    → ((d : Row) → stamped_count (row_at new x d) ≡ stamped_count (row_at old x d) + added (chart qs old) x f b)
    → AreGrown (added (chart qs old) x f b) types old new
number_grown types qs old new x f b l h exact = touched_grown types old new x (added (chart qs old) x f b) l h exact

pub pair_grown : (types : List TypeShape) (qs : List ℕ) (old new : List Node) (x f y s b : ℕ) → x < length old → y < length old
    → AreTouched qs old new x f y s b → AreGrown (added (chart qs old) x f b + added (chart qs old) y s b) types old new
pair_grown types qs old new x f y s b l m t =
    grown_on (added (chart qs old) x f b) (added (chart qs old) y s b) types old t.mid new
    (touched_grown types old t.mid x (added (chart qs old) x f b) l t.first t.first_stamped)
    (touched_grown types t.mid new y (added (chart qs old) y s b) (omega (arith, t.first.count)) t.second t.second_stamped)

missing_few : (b : Bool) → missing b ≤ 1
missing_few true = omega arith
missing_few false = omega arith

pub added_few : (w : Chart) (x f b : ℕ) → added w x f b ≤ 2
added_few w x f b = omega (arith, missing_few (w.edge x f b), missing_few (w.edge x f (b + 1)))

-- a row that is the same has the same stamps
pub stamped_other : (old new : List Node) (i : ℕ) → length new ≡ length old → ((d : Row) → row_at new i d ≡ row_at old i d) → stamped_at new i ≡ stamped_at old i
stamped_other old new i count same = ⊎_elim
    (λ (l : i < length old). stamped_is new i (some_row old i l) (omega (arith, count)) ∙ ap stamped_count (same (some_row old i l)) ∙ sym (stamped_is old i (some_row old i l) l))
    (λ (l : length old ≤ i). stamped_past new i (omega (arith, count)) ∙ sym (stamped_past old i l))
    (cases_lt i (length old))

pub pair_others : (qs : List ℕ) (old new : List Node) (x f y s b : ℕ) → AreTouched qs old new x f y s b → (i : ℕ) → i ≢ x → i ≢ y → stamped_at new i ≡ stamped_at old i
pair_others qs old new x f y s b t i ne nz = stamped_other old new i (t.second.count ∙ t.first.count) (λ d. t.second.others i d nz ∙ t.first.others i d ne)

-- ---- as a store sees it

each_grown : (types : List TypeShape) (old new : List Node) → length new ≡ length old → ((i : ℕ) → half_at types new i ≡ half_at types old i)
    → ((i : ℕ) → stamped_at old i ≤ stamped_at new i) → HasGrown (map (load_of types) (seen old)) (map (load_of types) (seen new))
each_grown types [] [] l h s = tt
each_grown types [] (n ∷ new) l h s = absurd (omega arith)
each_grown types (o ∷ old) [] l h s = absurd (omega arith)
each_grown types (o ∷ old) (n ∷ new) l h s = (sym (h 0), s 0, each_grown types old new (omega arith) (λ i. h (suc i)) (λ i. s (suc i)))

loads_are : (types : List TypeShape) (ns : List Node) → loads_in_all (map (load_of types) (seen ns)) ≡ stamped_in_all ns
loads_are types [] = refl
loads_are types (n ∷ ns) =
    let ih : loads_in_all (map (load_of types) (seen ns)) ≡ stamped_in_all ns = loads_are types ns in
    rw (sum_by-cons (λ l. l.stamped) (load_of types (seen_node n)) (map (load_of types) (seen ns)), sum_by-cons (λ (n : Node). stamped_count n.row) n ns, ih) refl

pub grown_seen : (k : ℕ) (types : List TypeShape) (old new : List Node) → AreGrown k types old new → HasGrownBy types (seen old) (seen new) k
grown_seen k types old new g = record {
  each = each_grown types old new g.count (half_same types old new g.frames) g.stamped;
  few = omega (arith, g.few, loads_are types old, loads_are types new);
}

-- ---- what is taken away

with_edge : (w : Chart) (x f y s b m : ℕ) → eqb m b ≡ true → with_edges w x f y s b x f m ≡ true
with_edge w x f y s b m e = rw (eq-eqb x x refl, eq-eqb f f refl, e) refl

with_edge_behind : (w : Chart) (x f y s b : ℕ) → with_edges w x f y s b x f (b + 1) ≡ true
with_edge_behind w x f y s b = elim (eqb (b + 1) b) as (λ c. ((is_slot x f x f || is_slot y s x f) && (c || eqb (b + 1) (b + 1))) || w.edge x f (b + 1) ≡ true) [
  | true ↦ rw (eq-eqb x x refl, eq-eqb f f refl) refl
  | false ↦ rw (eq-eqb x x refl, eq-eqb f f refl, eq-eqb (b + 1) (b + 1) refl) refl
]

-- the field has its edges then, so that a write of it stamps nothing more
none_added : (old new : Chart) (x f y s b : ℕ) → IsUnlinked old new x f y s b → added new x f b ≡ 0
none_added old new x f y s b u = ap₂ (λ p q. missing p + missing q)
    (u.edges x f b ∙ with_edge old x f y s b b (eq-eqb b b refl))
    (u.edges x f (b + 1) ∙ with_edge_behind old x f y s b)

taken_free : (old new : Chart) (x f y s b : ℕ) → IsMirrored old → old.holds x f b ≡ Target y → IsUnlinked old new x f y s b → (i g : ℕ)
    → (old.holds i g b ≡ Free) ⊎ (old.holds i g b ≡ From x f) → new.holds i g b ≡ Free
taken_free old new x f y s b mir h u i g o =
    let was : i ≡ x → g ≡ f → old.holds i g b ≡ Target y = λ p q. ap₂ (λ j k. old.holds j k b) p q ∙ h in
    ⊎_elim
    (λ (t : (i ≡ x) × (g ≡ f) × (b ≡ b) × (put_two old x f Null y s Free b i g b ≡ Null)).
    absurd (⊎_elim
    (λ (e : old.holds i g b ≡ Free). let q : Free ≡ Target y = sym e ∙ was t.0 t.1 in cc)
    (λ (e : old.holds i g b ≡ From x f). let q : From x f ≡ Target y = sym e ∙ was t.0 t.1 in cc)
    o))
    (λ (r : ((i ≡ y) × (g ≡ s) × (b ≡ b) × (put_two old x f Null y s Free b i g b ≡ Free))
    ⊎ ((is_there x f b i g b ≡ false) × (is_there y s b i g b ≡ false) × (put_two old x f Null y s Free b i g b ≡ old.holds i g b))).
    ⊎_elim
    (λ (t : (i ≡ y) × (g ≡ s) × (b ≡ b) × (put_two old x f Null y s Free b i g b ≡ Free)). u.holds i g b ∙ t.3)
    (λ (t : (is_there x f b i g b ≡ false) × (is_there y s b i g b ≡ false) × (put_two old x f Null y s Free b i g b ≡ old.holds i g b)).
    ⊎_elim
    (λ (e : old.holds i g b ≡ Free). u.holds i g b ∙ t.2 ∙ e)
    (λ (e : old.holds i g b ≡ From x f).
    let q : i ≡ y = target_node i y (sym (mir.back i g b x f e) ∙ h) in
    let e' : old.holds y g b ≡ From x f = subst (λ (k : ℕ). old.holds k g b ≡ From x f) q e in
    let v : g ≡ s = mir.one y g s b x f e' u.pair in
    absurd (false≢true (sym t.1 ∙ there_at y s b i g b q v refl)))
    o)
    r)
    (put_cases old x f Null y s Free b i g b)

module _ (qs : List ℕ) (x f b : ℕ) where
  pub cleared_none : (ns : List Node) → AreRows qs ns → IsMirrored (chart qs ns) → (chart qs ns).holds x f b ≡ Null → IsFieldCleared qs ns ns x f b None
  cleared_none ns all mir h = record {
    rows = all;
    mirrored = mir;
    null = h;
    free = λ y s o. ⊎_elim
        (λ (e : (chart qs ns).holds y s b ≡ Free). e)
        (λ (e : (chart qs ns).holds y s b ≡ From x f). let q : Null ≡ Target y = sym h ∙ mir.back y s b x f e in cc)
        o;
    cleared = inl (refl, ap (λ (w : Chart). w.holds x f b) (seen_chart qs ns) ∙ h);
    links = λ i. refl;
    room = λ i d j h. omega (arith, h);
    stamped = 0;
    few = omega (arith, added_few (chart qs ns) x f b);
    grown = λ types. grown_same types ns ns refl refl refl;
    others = λ i ne nz. refl;
  }

  pub cleared_some : (old new : List Node) (led : NodeId) → x < length old → AreRows qs old → IsMirrored (chart qs old) → AreRows qs new
      → IsMirrored (chart qs new) → (chart qs old).holds x f b ≡ Target led.0 → IsFieldUnlinked qs old new x f b → IsFieldCleared qs old new x f b (Some led)
  cleared_some old new led l all mir all' mir' h un =
      let y : ℕ = led.0 in
      let t = un y h in
      let s : ℕ = t.0 in
      let u : IsUnlinked (chart qs old) (chart qs new) x f y s b = t.1 in
      let m : y < length old = led_there qs old x f b all mir (Some led) h y refl in
      record {
        rows = all';
        mirrored = mir';
        null = u.holds x f b ∙ put_first (chart qs old) x f Null y s Free b;
        free = taken_free (chart qs old) (chart qs new) x f y s b mir h u;
        cleared = inr (
          y,
          s,
          record {
            nodes = pair_nodes [] qs old new x f y s b l t.2;
            unlinked = subst (λ (c : Chart). IsUnlinked (arena_of (rank qs) (seen old)).chart c x f y s b) (sym (seen_chart qs new))
                (subst (λ (c : Chart). IsUnlinked c (chart qs new) x f y s b) (sym (seen_chart qs old)) u);
          },
        );
        links = λ i. t.2.second.links i ∙ t.2.first.links i;
        room = pair_room_left qs old new x f s b led t.2;
        stamped = added (chart qs old) x f b + added (chart qs old) y s b;
        few = omega (arith, none_added (chart qs old) (chart qs new) x f y s b u, added_few (chart qs old) x f b, added_few (chart qs old) y s b);
        grown = λ types. pair_grown types qs old new x f y s b l m t.2;
        others = λ i ne nz. pair_others qs old new x f y s b t.2 i ne nz;
      }

pub cleared_then : (qs : List ℕ) (x f b : ℕ) (old new : List Node) (led : Option NodeId) → is_some led ≡ true → x < length old → AreRows qs old
    → IsMirrored (chart qs old) → AreRows qs new → IsMirrored (chart qs new) → LeadsTo (chart qs old) x f b led → IsFieldUnlinked qs old new x f b
    → IsFieldCleared qs old new x f b led
cleared_then qs x f b old new None e l all mir all' mir' h un = absurd (false≢true e)
cleared_then qs x f b old new (Some y) e l all mir all' mir' h un = cleared_some qs x f b old new y l all mir all' mir' h un

pub cleared_else : (qs : List ℕ) (x f b : ℕ) (ns : List Node) (led : Option NodeId) → is_some led ≡ false → AreRows qs ns → IsMirrored (chart qs ns)
    → LeadsTo (chart qs ns) x f b led → IsFieldCleared qs ns ns x f b led
cleared_else qs x f b ns None e all mir h = cleared_none qs x f b ns all mir h
cleared_else qs x f b ns (Some y) e all mir h = absurd (false≢true (sym e))
