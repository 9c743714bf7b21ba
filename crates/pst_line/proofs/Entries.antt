-- What a write enters, and that a run that has begun or made a record can be undone.
use Rattle.std.proofs.Common.{◌≡◌, ◌≢◌, ℕ, suc, ◌+◌, ◌-◌, ◌<◌, ◌≤◌, ◌||◌, Bool, true, false, cond, List, [], ◌∷◌, length, map, get_or, Option, Some, None, ℤ, pos, refl, sym, ap, ◌∙◌, subst, ◌⊎◌, inl, inr, ⊎_elim, arith}
use Rattle.std.proofs.lemmas.Bool.{cases_lt, cases_Bool, lt-ltb, ltb-true, le-leb}
use Rattle.std.specs.Prelude.{All, nat_lt, slice_get}
use Rattle.std.specs.Option.{option_map}
use Rattle.std.specs.FinMap.{get}
use Rattle.pst_base.proofs.Below.{get_or-listed, length-listed}
use Rattle.pst_base.specs.declared.names.Name.{Name}
use Rattle.pst_base.specs.declared.names.TypeNo.{TypeNo}
use Rattle.pst_base.specs.declared.names.Kind.{Kind}
use Rattle.pst_base.specs.declared.names.Kind.TheVariants.{Int, Pointer}
use Rattle.pst_base.specs.declared.shape.TypeShape.{TypeShape}
use Rattle.pst_base.specs.Name.{name_eq}
use Rattle.pst_base.specs.Shape.{type_at, field_kind}
use Rattle.pst_base.specs.Heap.{Rec, Heap, IsPointer, IsPointerSlot, with_value, with_pointer, with_record, new_record, value_at, pointer_at}
use Rattle.pst_base.proofs.NameLemmas.{name_eq-true, name_eq-same}
use Rattle.pst_base.proofs.Degrees.{get-with_record}
use Rattle.pst_line_nodes.specs.declared.content.Content.{Content}
use Rattle.pst_line_nodes.specs.declared.content.Content.TheVariants.{Number, Null, Target as TargetOf}
use Rattle.pst_line_nodes.specs.Line.{Line, IsIn, denoted, number, heap_at, record_at}
use Rattle.pst_line_nodes.specs.Changes.{IsMade, VersionsStay}
use Rattle.pst_line_nodes.proofs.HeapLaws.{heap_has}
use Rattle.pst_line_nodes.proofs.Same.{pointer_field}
use Rattle.pst_line_nodes.proofs.Copy.{covers_last}
use Rattle.pst_line.specs.declared.place.Undo.{Undo}
use Rattle.pst_line.specs.Store.{Stored, stamp, is_made, in_stretch, IsStored, IsClosed}
use Rattle.pst_line.specs.StoreLaws.{after, one_record}
use Rattle.pst_line.specs.Undo.{put_back, LeadsBack, AreOthers}
use Rattle.pst_line_nodes.specs.Carried.{NodesStay}
use Rattle.pst_line.specs.Undoing.{mark_of, Fits, IsEntered, CanUndo}
use Rattle.pst_line.proofs.Undos.{leads-same, names_after, entered_after}
use Rattle.pst_line.proofs.Undo.{value_back_law, pointer_back_law, record_back_law}

-- ---- kinds

int_field : (t : TypeShape) (g : ℕ) → g < t.values → field_kind t g ≡ Some Int
int_field t g l = ap (λ b. cond b (Some Int) (option_map Pointer (slice_get t.targets (g - t.values)))) (lt-ltb g t.values l)

pub value_below : (t : TypeShape) (g : ℕ) → field_kind t g ≡ Some Int → g < t.values
value_below t g e = elim (nat_lt g t.values) as (λ b. nat_lt g t.values ≡ b → cond b (Some Int) (option_map Pointer (slice_get t.targets (g - t.values))) ≡ Some Int → g < t.values) [
  | true ↦ λ x u. ltb-true g t.values x
  | false ↦ λ x u. elim (slice_get t.targets (g - t.values)) as (λ (o : Option TypeNo). option_map Pointer o ≡ Some Int → g < t.values) [ None ↦ λ u. absurd (cc) | Some ty ↦ λ u. absurd (cc) ] u
] refl e

behind_values : (t : TypeShape) (g : ℕ) (k : Kind) → t.values ≤ g → field_kind t g ≡ Some k → IsPointer (field_kind t g)
behind_values t g Int l e = let m = value_below t g e in absurd (omega (arith, l, m))
behind_values t g (Pointer ty) l e = subst IsPointer (sym e) tt

-- ---- what is in a field

-- what a field of a live node holds fits it
pub fits_held : (s : Stored) (x f : ℕ) (k : Kind) → IsStored s → IsIn s.line x (stamp s) → field_kind (type_at s.shape (s.line.ty x)) f ≡ Some k → (c : Content) → s.line.holds x f (stamp s) ≡ c → Fits s x f c
fits_held s x f k h a e (Number v) q = int_field (type_at s.shape (s.line.ty x)) f (rw q at (h.line.kinds x f (stamp s) (omega arith) a.covers))
fits_held s x f k h a e Null q = behind_values (type_at s.shape (s.line.ty x)) f k (rw q at (h.line.kinds x f (stamp s) (omega arith) a.covers)) e
fits_held s x f k h a e (TargetOf y) q =
    let there = h.line.newest x f y.0 (covers_last s.shape (stamp s) s.line x h.line a.covers) q in
    (record { there = there.0; made = (h.line.lives x f (stamp s) y.0 (omega arith) a.covers q).1; begun = h.line.first y.0 there.0 }, rw q at (h.line.kinds x f (stamp s) (omega arith) a.covers))

module _ (s : Stored) (x f : ℕ) (h : IsStored s) (a : IsIn s.line x (stamp s)) where
  shown : get (heap_at s.shape s.line (stamp s)) (s.line.name x) ≡ Some (record_at s.shape s.line x (stamp s))
  shown = heap_has s.shape s.line (stamp s) h.line.chained x a

  many_values : length (record_at s.shape s.line x (stamp s)).values ≡ (type_at s.shape (s.line.ty x)).values
  many_values = length-listed (type_at s.shape (s.line.ty x)).values (λ g. number (s.line.holds x g (stamp s)))

  many_pointers : length (record_at s.shape s.line x (stamp s)).pointers ≡ length (type_at s.shape (s.line.ty x)).targets
  many_pointers = length-listed (length (type_at s.shape (s.line.ty x)).targets) (λ k. denoted s.line.name (s.line.holds x ((type_at s.shape (s.line.ty x)).values + k) (stamp s)))

  -- what was in a field of a number, put back
  pub number_back : (names : ℕ → Name) (v : ℤ) → field_kind (type_at s.shape (s.line.ty x)) f ≡ Some Int → (c : Content) → s.line.holds x f (stamp s) ≡ c
      → put_back names (with_value (heap_at s.shape s.line (stamp s)) (s.line.name x) f v) (s.line.name x) f c ≡ heap_at s.shape s.line (stamp s)
  number_back names v e (Number n) q =
      let below : f < (type_at s.shape (s.line.ty x)).values = value_below (type_at s.shape (s.line.ty x)) f e in
      let is : value_at (record_at s.shape s.line x (stamp s)) f ≡ n = get_or-listed (type_at s.shape (s.line.ty x)).values (λ g. number (s.line.holds x g (stamp s))) f (pos 0) below ∙ ap number q in
      ap (with_value (with_value (heap_at s.shape s.line (stamp s)) (s.line.name x) f v) (s.line.name x) f) (sym is)
      ∙ value_back_law (heap_at s.shape s.line (stamp s)) (s.line.name x) f v (record_at s.shape s.line x (stamp s)) shown (record { below = omega (arith, below, many_values) })
  number_back names v e Null q =
      let below : f < (type_at s.shape (s.line.ty x)).values = value_below (type_at s.shape (s.line.ty x)) f e in
      let behind : (type_at s.shape (s.line.ty x)).values ≤ f = rw q at (h.line.kinds x f (stamp s) (omega arith) a.covers) in
      absurd (omega (arith, below, behind))
  number_back names v e (TargetOf y) q =
      let kind : field_kind (type_at s.shape (s.line.ty x)) f ≡ Some (Pointer (s.line.ty y.0)) = rw q at (h.line.kinds x f (stamp s) (omega arith) a.covers) in
      absurd (let no : Some Int ≡ Some (Pointer (s.line.ty y.0)) = sym e ∙ kind in cc)

  pub pointer_slot_at : (ty : TypeNo) → field_kind (type_at s.shape (s.line.ty x)) f ≡ Some (Pointer ty) → IsPointerSlot (record_at s.shape s.line x (stamp s)) f
  pointer_slot_at ty e = let at = pointer_field (type_at s.shape (s.line.ty x)) f ty e in record { from = omega (arith, at.0, many_values); below = omega (arith, at.1, many_values, many_pointers) }

  -- what was in a field of a pointer, put back
  pub pointer_back : (names : ℕ → Name) (p : Option Name) (ty : TypeNo) → field_kind (type_at s.shape (s.line.ty x)) f ≡ Some (Pointer ty) → (c : Content) → s.line.holds x f (stamp s) ≡ c → denoted names c ≡ denoted s.line.name c
      → put_back names (with_pointer (heap_at s.shape s.line (stamp s)) (s.line.name x) f p) (s.line.name x) f c ≡ heap_at s.shape s.line (stamp s)
  pointer_back names p ty e c q d =
      let at = pointer_field (type_at s.shape (s.line.ty x)) f ty e in
      let i : ℕ = f - (type_at s.shape (s.line.ty x)).values in
      let is : pointer_at (record_at s.shape s.line x (stamp s)) f ≡ denoted s.line.name c
      = ap (λ n. get_or (record_at s.shape s.line x (stamp s)).pointers (f - n) None) many_values
      ∙ get_or-listed (length (type_at s.shape (s.line.ty x)).targets) (λ k. denoted s.line.name (s.line.holds x ((type_at s.shape (s.line.ty x)).values + k) (stamp s))) i None (omega (arith, at.0, at.1))
      ∙ ap (λ k. denoted s.line.name (s.line.holds x k (stamp s))) (let r : (type_at s.shape (s.line.ty x)).values + i ≡ f = omega (arith, at.0) in r) ∙ ap (denoted s.line.name) q in
      let slot = pointer_slot_at ty e in
      let back = pointer_back_law (heap_at s.shape s.line (stamp s)) (s.line.name x) f p (record_at s.shape s.line x (stamp s)) shown slot in
      put c q d is back
    where
      put : (c : Content) → s.line.holds x f (stamp s) ≡ c → denoted names c ≡ denoted s.line.name c → pointer_at (record_at s.shape s.line x (stamp s)) f ≡ denoted s.line.name c
          → with_pointer (with_pointer (heap_at s.shape s.line (stamp s)) (s.line.name x) f p) (s.line.name x) f (pointer_at (record_at s.shape s.line x (stamp s)) f) ≡ heap_at s.shape s.line (stamp s)
          → put_back names (with_pointer (heap_at s.shape s.line (stamp s)) (s.line.name x) f p) (s.line.name x) f c ≡ heap_at s.shape s.line (stamp s)
      put (Number n) q d is back =
          let below : f < (type_at s.shape (s.line.ty x)).values = rw q at (h.line.kinds x f (stamp s) (omega arith) a.covers) in
          absurd (let at = pointer_field (type_at s.shape (s.line.ty x)) f ty e in omega (arith, below, at.0))
      put Null q d is back = ap (with_pointer (with_pointer (heap_at s.shape s.line (stamp s)) (s.line.name x) f p) (s.line.name x) f) (sym is) ∙ back
      put (TargetOf y) q d is back = ap (with_pointer (with_pointer (heap_at s.shape s.line (stamp s)) (s.line.name x) f p) (s.line.name x) f) (d ∙ sym is) ∙ back

-- ---- a run begins

pub can_undo_begun : (s : Stored) → IsStored s → IsClosed s → 0 < stamp s → CanUndo (record s { opened = Some s.line.count }) s.line.count []
can_undo_begun s h c some = record {
  some = some;
  young = λ i m l. let k = h.homes i m in absurd (omega (arith, k, l));
  base = heap_at s.shape s.line (stamp s);
  base_is = record {
    mine = λ i m l. let k = h.homes i m in absurd (omega (arith, k, l));
    others = λ q o. ap (λ g. get g q) (c.same (stamp s - 1) (omega (arith, some)));
  };
  leads = refl;
  entered = λ k d m. absurd (omega arith);
}

-- ---- a record is made

pub or_true : (a : Bool) → (a || true) ≡ true
or_true true = refl
or_true false = refl

off_name : (q n : Name) → n ≢ q → name_eq n q ≡ false
off_name q n ne = ⊎_elim (λ (t : name_eq n q ≡ true). absurd (ne (name_eq-true n q t))) (λ (t : name_eq n q ≡ false). t) (cases_Bool (name_eq n q))

get_new : (h : Heap) (q : Name) (r : Rec) → get (with_record h q r) q ≡ Some r
get_new h q r = get-with_record h q r q ∙ ap (λ b. cond b (Some r) (get h q)) (name_eq-same q)

get_other : (h : Heap) (q n : Name) (r : Rec) → n ≢ q → get (with_record h q r) n ≡ get h n
get_other h q n r ne = get-with_record h q r n ∙ ap (λ b. cond b (Some r) (get h n)) (off_name q n ne)

module _ (s : Stored) (w : Line) (b : ℕ) (q : Name) (ty : TypeNo) (es : List Undo) (h : IsStored s) (open' : s.opened ≡ Some b) (above : 0 < ty.0) (below : ty.0 < length s.shape)
    (fresh : (i : ℕ) → i < s.line.count → s.line.made i ≡ true → s.line.name i ≢ q) (d : IsMade s.shape s.line w q ty (stamp s)) (stay : VersionsStay s.shape (stamp s) s.line w)
    (lacks : get (heap_at s.shape s.line (stamp s)) q ≡ None) (heap : heap_at s.shape w (stamp s) ≡ with_record (heap_at s.shape s.line (stamp s)) q (new_record s.shape ty)) (u : CanUndo s b es) where
  sides : (i : ℕ) → i < w.count → (i ≡ s.line.count) ⊎ (i < s.line.count)
  sides i m = ⊎_elim (λ (p : i < s.line.count). inr p) (λ (p : s.line.count ≤ i). inl (omega (arith, d.count))) (cases_lt i s.line.count)

  others : (us : List Undo) → All (IsEntered s) us → AreOthers q (map (mark_of s.line.name) us)
  others [] a = tt
  others (v ∷ us) a = let e = a 0 v (omega arith) in (fresh v.node.0 e.live.there e.live.made, others us (λ k d m. a (suc k) d (omega arith)))

  made_run : (i : ℕ) → i < s.line.count → b ≤ s.line.home i → s.line.made i ≡ true
  made_run i m l = h.made i m ∙ ap (λ o. is_made s.versions o (s.line.home i)) open' ∙ ap (λ k. in_stretch s.versions (s.line.home i) || k) (le-leb b (s.line.home i) l) ∙ or_true (in_stretch s.versions (s.line.home i))

  nodes : NodesStay s.line w (stamp s)
  nodes = record {
    count = omega (arith, d.count);
    home = d.home;
    name = d.name;
    ty = d.ty;
    first = d.first;
    since = λ n g k j last e. elim (sides j last.there) [
      | inl p ↦ ap (λ i. w.since i g) p ∙ d.since_z g
      | inr p ↦ d.since j g p ∙ k j (record { there = p; last = sym (d.later j p) ∙ last.last }) (sym (d.home j p) ∙ e)
    ];
  }

  mine : (i : ℕ) → i < w.count → b ≤ w.home i → get (with_record u.base q (new_record s.shape ty)) (w.name i) ≡ Some (new_record s.shape (w.ty i))
  mine i m l = elim (sides i m) [
    | inl p ↦ ap (get (with_record u.base q (new_record s.shape ty))) (ap w.name p ∙ d.name_z) ∙ get_new u.base q (new_record s.shape ty) ∙ ap (λ (v : TypeNo). Some (new_record s.shape v)) (sym (ap w.ty p ∙ d.ty_z))
    | inr p ↦
        let k : b ≤ s.line.home i = omega (arith, l, d.home i p) in
        ap (get (with_record u.base q (new_record s.shape ty))) (d.name i p) ∙ get_other u.base q (s.line.name i) (new_record s.shape ty) (fresh i p (made_run i p k))
        ∙ u.base_is.mine i p k ∙ ap (λ (v : TypeNo). Some (new_record s.shape v)) (sym (d.ty i p))
  ]

  rest : (n : Name) → ((i : ℕ) → i < w.count → b ≤ w.home i → w.name i ≢ n) → get (with_record u.base q (new_record s.shape ty)) n ≡ get (heap_at s.shape w (stamp s - 1)) n
  rest n o =
      get_other u.base q n (new_record s.shape ty) (λ e. o s.line.count (omega (arith, d.count)) (omega (arith, d.home_z, h.begun b open')) (d.name_z ∙ sym e))
      ∙ u.base_is.others n (λ i m l e. o i (omega (arith, d.count)) (omega (arith, l, d.home i m)) (d.name i m ∙ e))
      ∙ ap (λ g. get g n) (sym (stay.heaps (stamp s - 1) (omega (arith, u.some))))

  pub can_undo_made : CanUndo (after s w (one_record s.counts)) b es
  can_undo_made = record {
    some = u.some;
    young = λ i m l. elim (sides i m) [
      | inl p ↦ ap w.first p ∙ d.first_z
      | inr p ↦ d.first i p ∙ u.young i p (omega (arith, l, d.home i p))
    ];
    base = with_record u.base q (new_record s.shape ty);
    base_is = record { mine = mine; others = rest };
    leads = leads-same s.shape s.line.name w.name (with_record u.base q (new_record s.shape ty)) es (heap_at s.shape w (stamp s)) (λ k x m. names_after s w (one_record s.counts) nodes stay _ (u.entered k x m))
        (subst (LeadsBack s.shape s.line.name (with_record u.base q (new_record s.shape ty)) (map (mark_of s.line.name) es)) (sym heap)
        (record_back_law s.shape s.line.name u.base (heap_at s.shape s.line (stamp s)) (map (mark_of s.line.name) es) q ty above below lacks (others es u.entered) u.leads));
    entered = λ k x m. entered_after s w (one_record s.counts) nodes stay _ (u.entered k x m);
  }
