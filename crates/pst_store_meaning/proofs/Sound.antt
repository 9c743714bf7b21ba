use Rattle.pst_base.proofs.Below.{all_counted, count_le, counted_all, get_or-listed, length-listed}
use Rattle.pst_base.specs.Below.{listed, one_if, sum_below}
use Rattle.pst_mirror.proofs.MirrorLemmas.{target_node}
-- The heap at a position is well formed, and when it has no room for a pointer more.
use Rattle.std.proofs.Common.{◌≡◌, ◌≢◌, ℕ, ◌+◌, ◌-◌, ◌<◌, ◌≤◌, true, false, cond, eqb, List, length, Option, Some, None, refl, sym, ap, ◌∙◌, subst, ◌⊎◌, inl, inr, ⊎_elim, arith, ◌&&◌, get_or, ltb}
use Rattle.std.specs.Prelude.{slice_get}
use Rattle.std.specs.Option.{option_map}
use Rattle.std.specs.FinMap.{get}
use Rattle.std.proofs.lemmas.Bool.{cases_eq, cases_lt, cases_Bool, eq-eqb, false_from_ne_true, and_parts, eqb-true, false≢true}
use borrow.Author.Tests.{ltb-true}
use Rattle.std.proofs.lemmas.Option.{get_or_from_slice_get}
use Rattle.std.proofs.lemmas.List.{get_or_past}
use Rattle.pst_base.specs.declared.names.TypeNo.{TypeNo}
use Rattle.pst_base.specs.declared.names.Name.{Name}
use Rattle.pst_base.specs.declared.names.Kind.TheVariants.{Int, Pointer}
use Rattle.pst_base.specs.declared.shape.TypeShape.{TypeShape}
use Rattle.pst_base.specs.Shape.{type_at, element_count, field_kind, root_type}
use Rattle.pst_base.specs.Heap.{Rec, IsWellFormed, HasFields, HasTargets, type_in, in_degree, IsFull, in_field, limit_in, limit_from, holding, pointer_at}
use Rattle.pst_base.proofs.Fields.{found}
use Rattle.pst_rows.specs.declared.content.Content.{Content}
use Rattle.pst_rows.specs.declared.content.Content.TheVariants.{Number, Null, Free, Target as TargetOf, From as FromOf}
use Rattle.pst_mirror.specs.Contents.{Target, From}
use Rattle.pst_mirror.specs.Degree.{leads_to, is_entry, is_other_entry}
use Rattle.pst_mirror.specs.Mirror.{is_there}
use Rattle.pst_mirror.proofs.MirrorLemmas.{is_there_same}
use Rattle.pst_mirror.proofs.WriteLemmas.{put_cases}
use Rattle.pst_rows.specs.Contents.{number}
use Rattle.pst_store_meaning.specs.Arena.{Arena, IsIn, IsArena, IsDrawn, heap_at, record_at, denoted}
use Rattle.pst_mirror.specs.Kinds.{HasKind, IsInverse}
use Rattle.pst_store_meaning.specs.Sound.{SoundLaw, FullLaw, OpenSlotLaw}
use Rattle.pst_store_meaning.proofs.HeapLaws.{heap_has, heap_shows}
use Rattle.pst_store_meaning.proofs.RecordLaws.{target_alive}
use Rattle.pst_store_meaning.proofs.Written.{pointer_field}
use Rattle.pst_store_meaning.proofs.Degree.{degree_is, holding_is}

-- what a pointer that is not null stands for
denoted_some : (name : ℕ → Name) (c : Content) (q : Name) → denoted name c ≡ Some q → (j : ℕ) × (c ≡ Target j) × (name j ≡ q)
denoted_some name (Number n) q e = absurd (cc)
denoted_some name Null q e = absurd (cc)
denoted_some name (TargetOf ynode) q e = let y : ℕ = ynode.0 in (y, refl, cc)
denoted_some name Free q e = absurd (cc)
denoted_some name (FromOf ynode fslot) q e = let y : ℕ = ynode.0 in let f : ℕ = fslot.0 in absurd (cc)

field_target : (t : TypeShape) (k : ℕ) (u : TypeNo) → field_kind t (t.values + k) ≡ Some (Pointer u) → get_or t.targets k root_type ≡ u
field_target t k u e = elim (ltb (t.values + k) t.values) as (λ b. ltb (t.values + k) t.values ≡ b
    → cond b (Some Int) (option_map Pointer (slice_get t.targets ((t.values + k) - t.values))) ≡ Some (Pointer u) → get_or t.targets k root_type ≡ u) [
      | true ↦ λ x h. absurd (let l = ltb-true (t.values + k) t.values x in omega arith)
      | false ↦ λ x h.
          let at : (t.values + k) - t.values ≡ k = omega arith in
          elim (slice_get t.targets k) as (λ (o : Option TypeNo). slice_get t.targets k ≡ o → option_map Pointer o ≡ Some (Pointer u) → get_or t.targets k root_type ≡ u) [
            | None ↦ λ y l. absurd (cc)
            | Some v ↦ λ y l. get_or_from_slice_get t.targets k v root_type y ∙ (let same : v ≡ u = cc in same)
          ] refl (ap (λ i. option_map Pointer (slice_get t.targets i)) (sym at) ∙ h)
    ] refl e

module _ (shape : List TypeShape) (end : ℕ) (w : Arena) (n : ℕ) (a : IsArena shape end w) (d : IsDrawn w) where
  type_of : (i : ℕ) → IsIn w i n → type_in (heap_at shape w n) (w.name i) ≡ Some (w.ty i)
  type_of i h = ap (option_map (λ (r : Rec). r.ty)) (heap_has shape w n a.chained i h)

  -- the node behind a type
  record Typed (q : Name) (ty : TypeNo) : Type 0 where
    node : ℕ
    alive : IsIn w node n
    named : w.name node ≡ q
    typed : w.ty node ≡ ty

  typed : (q : Name) (ty : TypeNo) → type_in (heap_at shape w n) q ≡ Some ty → Typed q ty
  typed q ty e =
      let f = found (heap_at shape w n) q ty e in
      let s = heap_shows shape w n q f.rec f.at in
      record { node = s.node; alive = s.alive; named = s.named; typed = ap (λ (r : Rec). r.ty) s.rec ∙ f.typed }

  has_fields : (i : ℕ) → IsIn w i n → HasFields shape (record_at shape w i n)
  has_fields i h = record {
    known = a.known i h.there;
    values = length-listed (type_at shape (w.ty i)).values (λ g. number (w.chart.holds i g n));
    pointers = length-listed (length (type_at shape (w.ty i)).targets) (λ k. denoted w.name (w.chart.holds i ((type_at shape (w.ty i)).values + k) n));
  }

  has_targets : (i : ℕ) → IsIn w i n → HasTargets shape (heap_at shape w n) (record_at shape w i n)
  has_targets i h k q e = ⊎_elim
      (λ (l : k < length (type_at shape (w.ty i)).targets).
      let slot : ℕ = (type_at shape (w.ty i)).values + k in
      let den : denoted w.name (w.chart.holds i ((type_at shape (w.ty i)).values + k) n) ≡ Some q =
      sym (get_or-listed (length (type_at shape (w.ty i)).targets) (λ k. denoted w.name (w.chart.holds i ((type_at shape (w.ty i)).values + k) n))
      k None l) ∙ e in
      let t = denoted_some w.name (w.chart.holds i ((type_at shape (w.ty i)).values + k) n) q den in
      let kind : field_kind (type_at shape (w.ty i)) ((type_at shape (w.ty i)).values + k) ≡ Some (Pointer (w.ty t.0)) =
      subst (λ (c : Content). HasKind (type_at shape (w.ty i)) w.ty ((type_at shape (w.ty i)).values + k) c) t.1
      (a.kinds i ((type_at shape (w.ty i)).values + k) n h) in
      let there = target_alive w i ((type_at shape (w.ty i)).values + k) n t.0 d a.mirrored t.1 in
      ap (type_in (heap_at shape w n)) (sym t.2) ∙ type_of t.0 there ∙ ap Some (sym (field_target (type_at shape (w.ty i)) k (w.ty t.0) kind)))
      (λ (l : length (type_at shape (w.ty i)).targets ≤ k).
      let none : get_or (listed (length (type_at shape (w.ty i)).targets) (λ k. denoted w.name (w.chart.holds i ((type_at shape (w.ty i)).values + k) n))) k None ≡ None =
      get_or_past (listed (length (type_at shape (w.ty i)).targets) (λ k. denoted w.name (w.chart.holds i ((type_at shape (w.ty i)).values + k) n))) k
      None (omega (
        arith,
        length-listed (length (type_at shape (w.ty i)).targets)
            (λ k. denoted w.name (w.chart.holds i ((type_at shape (w.ty i)).values + k) n)),
      )) in
      absurd (let k' : None ≡ Some q = sym none ∙ e in cc))
      (cases_lt k (length (type_at shape (w.ty i)).targets))

  sound : n < end → IsWellFormed shape (heap_at shape w n)
  sound l = record {
    root = let r = a.root n l in ap (type_in (heap_at shape w n)) (sym r.2) ∙ type_of r.0 r.1 ∙ ap Some r.3;
    one_root = λ q e. let t = typed q root_type e in sym t.named ∙ a.one_root t.node t.alive.there t.typed;
    fields = λ q r e. let s = heap_shows shape w n q r e in subst (HasFields shape) s.rec (has_fields s.node s.alive);
    targets = λ q r e. let s = heap_shows shape w n q r e in subst (HasTargets shape (heap_at shape w n)) s.rec (has_targets s.node s.alive);
    limits = λ q ty e.
        let t = typed q ty e in
        let deg : in_degree (heap_at shape w n) q ≡ in_degree (heap_at shape w n) (w.name t.node) = ap (in_degree (heap_at shape w n)) (sym t.named) in
        let lim : (type_at shape (w.ty t.node)).limit ≡ (type_at shape ty).limit = ap (λ (u : TypeNo). (type_at shape u).limit) t.typed in
        omega (
          arith,
          deg,
          lim,
          degree_is shape end w n a d t.node t.alive,
          count_le (λ u. is_entry (w.chart.holds t.node (element_count (type_at shape (w.ty t.node)) + u) n)) (type_at shape (w.ty t.node)).limit,
        );
  }

pub sound_law : SoundLaw
sound_law shape end w n a d = sound shape end w n a d

-- ---- full

other_from : (x f z g : ℕ) → (z ≡ x → g ≡ f → ⊥) → is_other_entry x f (From z g) ≡ true
other_from x f z g off = let none : eqb z x && eqb g f ≡ false =
    false_from_ne_true (eqb z x && eqb g f) (λ e. let p = and_parts (eqb z x) (eqb g f) e in off (eqb-true z x p.0) (eqb-true g f p.1)) in rw none refl

not_other : (x f : ℕ) → is_other_entry x f (From x f) ≡ false
not_other x f = rw (eq-eqb x x refl, eq-eqb f f refl) refl

other_entry : (x f : ℕ) (c : Content) → is_other_entry x f c ≡ true → is_entry c ≡ true
other_entry x f (Number n) e = e
other_entry x f Null e = e
other_entry x f (TargetOf ynode) e = let y : ℕ = ynode.0 in e
other_entry x f Free e = e
other_entry x f (FromOf znode gslot) e = let z : ℕ = znode.0 in let g : ℕ = gslot.0 in refl

entry_other : (x f : ℕ) (c : Content) → is_entry c ≡ true → c ≢ From x f → is_other_entry x f c ≡ true
entry_other x f (Number n) e ne = e
entry_other x f Null e ne = e
entry_other x f (TargetOf ynode) e ne = let y : ℕ = ynode.0 in e
entry_other x f Free e ne = e
entry_other x f (FromOf znode gslot) e ne = let z : ℕ = znode.0 in let g : ℕ = gslot.0 in other_from x f z g (λ p q. ne (ap (λ k. From k g) p ∙ ap (From x) q))

leads_is : (y : ℕ) (c : Content) → leads_to y c ≡ true → c ≡ Target y
leads_is y (Number n) e = absurd (cc)
leads_is y Null e = absurd (cc)
leads_is y (TargetOf znode) e = let z : ℕ = znode.0 in ap Target (eqb-true z y e)
leads_is y Free e = absurd (cc)
leads_is y (FromOf znode fslot) e = let z : ℕ = znode.0 in let f : ℕ = fslot.0 in absurd (cc)

module _ (shape : List TypeShape) (end : ℕ) (w : Arena) (n x f y : ℕ) (a : IsArena shape end w) (d : IsDrawn w) (hx : IsIn w x n) (hy : IsIn w y n)
    (k : field_kind (type_at shape (w.ty x)) f ≡ Some (Pointer (w.ty y))) where
  abbrev slot : ℕ → Content
  slot u = w.chart.holds y (element_count (type_at shape (w.ty y)) + u) n

  abbrev limit : ℕ
  limit = (type_at shape (w.ty y)).limit

  -- what the field itself counts
  own : in_field (w.name y) f (get (heap_at shape w n) (w.name x)) ≡ one_if (leads_to y (w.chart.holds x f n))
  own =
      let p = pointer_field (type_at shape (w.ty x)) f (w.ty y) k in
      let len : length (record_at shape w x n).values ≡ (type_at shape (w.ty x)).values = length-listed (type_at shape (w.ty x)).values (λ g. number (w.chart.holds x g n)) in
      let at : (type_at shape (w.ty x)).values + (f - (type_at shape (w.ty x)).values) ≡ f = omega (arith, p.0) in
      let ptr : pointer_at (record_at shape w x n) f ≡ denoted w.name (w.chart.holds x f n) =
      ap (λ (m : ℕ). get_or (record_at shape w x n).pointers (f - m) None) len
      ∙ get_or-listed (length (type_at shape (w.ty x)).targets) (λ k. denoted w.name (w.chart.holds x ((type_at shape (w.ty x)).values + k) n))
      (f - (type_at shape (w.ty x)).values) None (omega (arith, p.0, p.1))
      ∙ ap (λ (g : ℕ). denoted w.name (w.chart.holds x g n)) at in
      ap (in_field (w.name y) f) (heap_has shape w n a.chained x hx) ∙ ap (holding (w.name y)) ptr
      ∙ holding_is shape end w n a d y hy (w.chart.holds x f n) (λ z e. target_alive w x f n z d a.mirrored e)

  degree : in_degree (heap_at shape w n) (w.name y) ≡ sum_below limit (λ u. one_if (is_entry (slot u)))
  degree = degree_is shape end w n a d y hy

  limit_is : limit_in shape (heap_at shape w n) (w.name y) ≡ limit
  limit_is = ap (limit_from shape) (type_of shape end w n a d y hy)

  -- the slot of the field's own entry
  own_slot : w.chart.holds x f n ≡ Target y → (u : ℕ) × (u < limit) × (slot u ≡ From x f)
  own_slot e =
      let s = a.mirrored.found x f n y e in
      let i : IsInverse (type_at shape (w.ty y)) s.0 = subst (λ (c : Content). HasKind (type_at shape (w.ty y)) w.ty s.0 c) s.1 (a.kinds y s.0 n hy) in
      let at : element_count (type_at shape (w.ty y)) + (s.0 - element_count (type_at shape (w.ty y))) ≡ s.0 = omega (arith, i.from) in
      (s.0 - element_count (type_at shape (w.ty y)), omega (arith, i.from, i.below), ap (λ (g : ℕ). w.chart.holds y g n) at ∙ s.1)

  not_own : (w.chart.holds x f n ≡ Target y → ⊥) → (u : ℕ) → slot u ≢ From x f
  not_own off u e = off (a.mirrored.back y (element_count (type_at shape (w.ty y)) + u) n x f e)

  full_slots : IsFull shape (heap_at shape w n) (w.name x) f (Some (w.name y)) → (u : ℕ) → u < limit → is_other_entry x f (slot u) ≡ true
  full_slots full u l = ⊎_elim
      (λ (e : leads_to y (w.chart.holds x f n) ≡ true).
      let one : one_if (leads_to y (w.chart.holds x f n)) ≡ 1 = ap one_if e in
      absurd (omega (arith, full, own, one, degree, limit_is, count_le (λ u. is_entry (slot u)) limit)))
      (λ (e : leads_to y (w.chart.holds x f n) ≡ false).
      let none : one_if (leads_to y (w.chart.holds x f n)) ≡ 0 = ap one_if e in
      let all : sum_below limit (λ u. one_if (is_entry (slot u))) ≡ limit = omega (arith, full, own, none, degree, limit_is) in
      entry_other x f (slot u) (counted_all (λ u. is_entry (slot u)) limit all u l)
      (not_own (λ t. false≢true (sym e ∙ ap (leads_to y) t ∙ eq-eqb y y refl)) u))
      (cases_Bool (leads_to y (w.chart.holds x f n)))

  slots_full : ((u : ℕ) → u < limit → is_other_entry x f (slot u) ≡ true) → IsFull shape (heap_at shape w n) (w.name x) f (Some (w.name y))
  slots_full h =
      let all : sum_below limit (λ u. one_if (is_entry (slot u))) ≡ limit = all_counted (λ u. is_entry (slot u)) limit (λ u l. other_entry x f (slot u) (h u l)) in
      ⊎_elim
      (λ (e : leads_to y (w.chart.holds x f n) ≡ true).
      let o = own_slot (leads_is y (w.chart.holds x f n) e) in
      absurd (false≢true (sym (not_other x f) ∙ ap (is_other_entry x f) (sym o.2) ∙ h o.0 o.1)))
      (λ (e : leads_to y (w.chart.holds x f n) ≡ false).
      let none : one_if (leads_to y (w.chart.holds x f n)) ≡ 0 = ap one_if e in
      omega (arith, all, own, none, degree, limit_is))
      (cases_Bool (leads_to y (w.chart.holds x f n)))

pub full_law : FullLaw
full_law shape end w n x f y a d hx hy k = (full_slots shape end w n x f y a d hx hy k, slots_full shape end w n x f y a d hx hy k)

-- ---- a slot that is open

open_content : (t : TypeShape) (ty : ℕ → TypeNo) (g x f : ℕ) (c : Content) → IsInverse t g → HasKind t ty g c → is_other_entry x f c ≡ false → (c ≡ Free) ⊎ (c ≡ From x f)
open_content t ty g x f (Number n) i k e = absurd (omega (arith, i.from, k))
open_content t ty g x f Null i k e = absurd (⊎_elim (λ (l : g < element_count t). omega (arith, i.from)) (λ (l : element_count t + t.limit ≤ g). omega (arith, i.below)) k.1)
open_content t ty g x f (TargetOf ynode) i k e = let y : ℕ = ynode.0 in absurd (let p = pointer_field t g (ty y) k in omega (arith, i.from, p.1))
open_content t ty g x f Free i k e = inl refl
open_content t ty g x f (FromOf znode hslot) i k e = let z : ℕ = znode.0 in let h : ℕ = hslot.0 in inr (⊎_elim
    (λ (p : z ≡ x). ⊎_elim (λ (q : h ≡ f). ap (λ k. From k h) p ∙ ap (From x) q) (λ (q : h ≡ f → ⊥). absurd (false≢true (sym e ∙ other_from x f z h (λ u v. q v)))) (cases_eq h f))
    (λ (p : z ≡ x → ⊥). absurd (false≢true (sym e ∙ other_from x f z h (λ u v. p u))))
    (cases_eq z x))

pub open_slot_law : OpenSlotLaw
open_slot_law shape end old new x f y s b z t a o h i e =
    elim (open_content (type_at shape (old.ty z)) old.ty t x f (old.chart.holds z t b) i (a.kinds z t b h) e) [
      | inl free ↦ o.unlinked.holds z t b ∙ elim (put_cases old.chart x f Null y s Free b z t b) [
        | inl p ↦ absurd (let held : old.chart.holds z t b ≡ Target y = ap (λ (i : ℕ). old.chart.holds i t b) p.0
            ∙ ap (λ (g : ℕ). old.chart.holds x g b) p.1 ∙ a.mirrored.back y s b x f o.unlinked.pair in let k : Free ≡ Target y = sym free ∙ held in cc)
        | inr q ↦ elim q [ inl p ↦ p.3 | inr p ↦ p.2 ∙ free ]
      ]
      | inr own ↦
          let led : old.chart.holds x f b ≡ Target z = a.mirrored.back z t b x f own in
          let held : old.chart.holds x f b ≡ Target y = a.mirrored.back y s b x f o.unlinked.pair in
          let same : z ≡ y = target_node z y (sym led ∙ held) in
          let slots : t ≡ s = a.mirrored.one y t s b x f (ap (λ (i : ℕ). old.chart.holds i t b) (sym same) ∙ own) o.unlinked.pair in
          o.unlinked.holds z t b ∙ elim (put_cases old.chart x f Null y s Free b z t b) [
            | inl p ↦ absurd (let at : old.chart.holds z t b ≡ Target y = ap (λ (i : ℕ). old.chart.holds i t b) p.0
                ∙ ap (λ (g : ℕ). old.chart.holds x g b) p.1 ∙ held in let k : From x f ≡ Target y = sym own ∙ at in cc)
            | inr q ↦ elim q [
              | inl p ↦ p.3
              | inr p ↦ absurd (false≢true (sym p.1 ∙ ap (λ (i : ℕ). is_there y s b i t b) same ∙ ap (λ (g : ℕ). is_there y s b y g b) slots ∙ is_there_same y s b))
            ]
          ]
    ]
