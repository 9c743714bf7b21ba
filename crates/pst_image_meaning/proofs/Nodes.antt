-- What a store shows as nodes are nodes of their types.
use Rattle.std.proofs.Common.{◌≡◌, ◌≢◌, ℕ, zero, suc, ◌+◌, ◌-◌, ◌<◌, ◌≤◌, Bool, true, false, cond, List, [], ◌∷◌, length, get_or, map, Option, Some, None, refl}
use Rattle.std.proofs.Common.{sym, ap, ◌∙◌, subst, inl, inr, ⊎_elim, arith}
use Rattle.std.specs.Prelude.{slice_get}
use Rattle.std.specs.Option.{option_map}
use Rattle.std.proofs.lemmas.Bool.{cases_eq, cases_Bool, le-ltb, lt-ltb}
use Rattle.std.proofs.lemmas.List.{length-map, get_or-map}
use Rattle.std.proofs.lemmas.Option.{slice_get-get_or, slice_get_past}
use Rattle.pst_base.specs.declared.names.Kind.{Kind}
use Rattle.pst_base.specs.declared.names.Kind.TheVariants.{Int, Pointer}
use Rattle.pst_base.specs.declared.names.TypeNo.{TypeNo}
use Rattle.pst_base.specs.declared.shape.TypeShape.{TypeShape}
use Rattle.pst_base.specs.Shape.{type_at, root_type, element_count, field_kind}
use Rattle.pst_order.specs.Places.{rank}
use Rattle.pst_rows.specs.declared.content.Content.{Content}
use Rattle.pst_rows.specs.declared.content.Content.TheVariants.{Number, Null, Free, Target as TargetOf, From as FromOf}
use Rattle.pst_rows.specs.declared.content.Stamp.{Stamp}
use Rattle.pst_rows.specs.Rows.{no_stamp as no_stamp_of}
use Rattle.pst_rows.specs.Values.{stamps_in, base_in, content_in, IsBefore, IsValue}
use Rattle.pst_rows.proofs.StampLemmas.{stamp_inside, rising_at, stamp_some}
use Rattle.pst_rows.proofs.TimelineLemmas.{at_stamp}
use Rattle.pst_mirror.specs.Contents.{Target, From}
use Rattle.pst_mirror.specs.Charts.{AllRows, rows_hold, row_holds}
use Rattle.pst_mirror.specs.Kinds.{HasKind as IsOfKind}
use Rattle.pst_mirror.proofs.ChartLemmas.{alive}
use Rattle.pst_mirror.proofs.KindLemmas.{pointer_field}
use Rattle.pst_store_meaning.specs.Arena.{IsIn, is_in}
use Rattle.pst_store_meaning.specs.Store.{Node, Stored, of_node, arena, IsStore}
use Rattle.pst_store_meaning.proofs.Concrete.{drawn}
use Rattle.pst_store_meaning.proofs.HeapLaws.{is_in-true}
use Rattle.pst_store_meaning.proofs.Places.{slice_get-below}
use Rattle.pst_image_form.specs.declared.parts.StampPart.{StampPart}
use Rattle.pst_image_form.specs.declared.parts.NodePart.{NodePart}
use Rattle.pst_image_rules.specs.Nodes.{no_node, no_stamp, node_at, stamp_of, slot_count, HasKind, FitsSlot, IsStamp, IsAfter, IsNode, AreNodes}
use Rattle.pst_image_meaning.specs.Parts.{content_number, stamp_part, node_part, node_parts}
use Rattle.pst_image_meaning.proofs.RowsParts.{bases_at, at_begin}

-- ---- lists

pub slice_get-there : {A : Type 0} (xs : List A) (k : ℕ) → k < length xs → (x : A) × (slice_get xs k ≡ Some x)
slice_get-there [] k l = absurd (omega arith)
slice_get-there (x ∷ xs) zero l = (x, refl)
slice_get-there (x ∷ xs) (suc k) l = slice_get-there xs k (omega arith)

-- what stands at an index of a list that was made of another one
pub part_in : {A B : Type 0} (f : A → B) (d : B) (xs : List A) (i : ℕ) (x : A) → slice_get xs i ≡ Some x → get_or (map f xs) i d ≡ f x
part_in f d [] i x e = absurd (cc)
part_in f d (y ∷ ys) zero x e = (let same : y ≡ x = cc in ap f same)
part_in f d (y ∷ ys) (suc i) x e = part_in f d ys i x e

-- what a node that is there has
pub of_node-there : {A : Type 0} (f : Node → A) (other : A) (nodes : List Node) (i : ℕ) (n : Node) → slice_get nodes i ≡ Some n → of_node f other nodes i ≡ f n
of_node-there f other [] i n e = absurd (cc)
of_node-there f other (x ∷ xs) zero n e = (let same : x ≡ n = cc in ap f same)
of_node-there f other (x ∷ xs) (suc i) n e = of_node-there f other xs i n e

pub holds-there : (r : ℕ → ℕ) (nodes : List Node) (i : ℕ) (n : Node) → slice_get nodes i ≡ Some n → (g m : ℕ) → rows_hold r (map (λ n. n.row) nodes) i g m ≡ row_holds r n.row g m
holds-there r [] i n e g m = absurd (cc)
holds-there r (x ∷ xs) zero n e g m = (let same : x ≡ n = cc in ap (λ (n : Node). row_holds r n.row g m) same)
holds-there r (x ∷ xs) (suc i) n e g m = holds-there r xs i n e g m

row-there : (r : ℕ → ℕ) (places : ℕ) (nodes : List Node) (i : ℕ) (n : Node) → AllRows r places (map (λ n. n.row) nodes) → slice_get nodes i ≡ Some n → IsValue r places n.row
row-there r places [] i n h e = absurd (cc)
row-there r places (x ∷ xs) zero n h e = (let same : x ≡ n = cc in subst (λ (n : Node). IsValue r places n.row) same h.0)
row-there r places (x ∷ xs) (suc i) n h e = row-there r places xs i n h.1 e

-- ---- kinds of slots

value_kind : (t : TypeShape) (g : ℕ) → g < t.values → field_kind t g ≡ Some Int
value_kind t g l = ap (λ (b : Bool). cond b (Some Int) (option_map Pointer (slice_get t.targets (g - t.values)))) (lt-ltb g t.values l)

behind_values : (t : TypeShape) (g : ℕ) → t.values ≤ g → field_kind t g ≡ option_map Pointer (slice_get t.targets (g - t.values))
behind_values t g l = ap (λ (b : Bool). cond b (Some Int) (option_map Pointer (slice_get t.targets (g - t.values)))) (le-ltb g t.values l)

pointer_kind : (t : TypeShape) (g : ℕ) → t.values ≤ g → g < element_count t → (ty : TypeNo) × (field_kind t g ≡ Some (Pointer ty))
pointer_kind t g low high = (
  get_or t.targets (g - t.values) root_type,
  behind_values t g low ∙ ap (λ (o : Option TypeNo). option_map Pointer o) (slice_get-get_or t.targets (g - t.values) root_type (omega (arith, low, high))),
)

inverse_kind : (t : TypeShape) (g : ℕ) → element_count t ≤ g → field_kind t g ≡ None
inverse_kind t g low = behind_values t g (omega (arith, low)) ∙ ap (λ (o : Option TypeNo). option_map Pointer o) (slice_get_past t.targets (g - t.values) (omega (arith, low)))

-- ---- a store

module _ (s : Stored) (h : IsStore s) where
  abbrev r : ℕ → ℕ
  r = rank s.places

  abbrev ks : List NodePart
  ks = node_parts s

  pub count : length ks ≡ length s.nodes
  count = length-map s.nodes (node_part r)

  pub there : (i : ℕ) → i < length ks → (n : Node) × (slice_get s.nodes i ≡ Some n)
  there i l = slice_get-there s.nodes i (omega (arith, l, count))

  pub part_at : (i : ℕ) (n : Node) → slice_get s.nodes i ≡ Some n → node_at ks i ≡ node_part r n
  part_at i n e = part_in (node_part r) no_node s.nodes i n e

  pub value : (i : ℕ) (n : Node) → slice_get s.nodes i ≡ Some n → IsValue r (length s.places) n.row
  value i n e = row-there r (length s.places) s.nodes i n h.rows e

  pub type_is : (i : ℕ) (n : Node) → slice_get s.nodes i ≡ Some n → (arena s).ty i ≡ n.head.ty
  type_is i n e = of_node-there (λ n. n.head.ty) root_type s.nodes i n e

  pub lo_is : (i : ℕ) (n : Node) → slice_get s.nodes i ≡ Some n → (arena s).lo i ≡ r n.row.lo.0
  lo_is i n e = of_node-there (λ n. r n.row.lo.0) 0 s.nodes i n e

  pub hi_is : (i : ℕ) (n : Node) → slice_get s.nodes i ≡ Some n → (arena s).hi i ≡ r n.row.hi.0
  hi_is i n e = of_node-there (λ n. r n.row.hi.0) 0 s.nodes i n e

  pub part_type : (i : ℕ) → i < length ks → (node_at ks i).ty ≡ (arena s).ty i
  part_type i l = let x = there i l in ap (λ (k : NodePart). k.ty) (part_at i x.0 x.1) ∙ sym (type_is i x.0 x.1)

  -- a position in the life of a node
  pub in_life : (i : ℕ) (n : Node) → slice_get s.nodes i ≡ Some n → (m : ℕ) → r n.row.lo.0 ≤ m → m < r n.row.hi.0 → IsIn (arena s) i m
  in_life i n e m low high = record { there = slice_get-below s.nodes i n e; low = omega (arith, lo_is i n e, low); high = omega (arith, hi_is i n e, high) }

  pub held : (i : ℕ) (n : Node) → slice_get s.nodes i ≡ Some n → (g m : ℕ) → r n.row.lo.0 ≤ m → m < r n.row.hi.0 → (arena s).chart.holds i g m ≡ content_in r n.row g m
  held i n e g m low high = holds-there r s.nodes i n e g m ∙ ap (λ b. cond b (content_in r n.row g m) Null) (alive r n.row m low high)

  -- what holds something lives
  pub lives : (i g m : ℕ) → (arena s).chart.holds i g m ≢ Null → IsIn (arena s) i m
  lives i g m some = ⊎_elim
      (λ (e : is_in (arena s) i m ≡ true). is_in-true (arena s) i m e)
      (λ (e : is_in (arena s) i m ≡ false). absurd (some ((drawn r (length s.places) s.nodes h.rows).outside i g m e)))
      (cases_Bool (is_in (arena s) i m))

  pub from_lives : (i g m x f : ℕ) → (arena s).chart.holds i g m ≡ From x f → IsIn (arena s) i m
  from_lives i g m x f e = lives i g m (λ z. let no : From x f ≡ Null = sym e ∙ z in absurd cc)

  pub target_lives : (i g m y : ℕ) → (arena s).chart.holds i g m ≡ Target y → IsIn (arena s) i m
  target_lives i g m y e = lives i g m (λ z. let no : Target y ≡ Null = sym e ∙ z in absurd cc)

  abbrev pub kind_of : ℕ → TypeShape
  kind_of i = type_at s.shape ((arena s).ty i)

  -- a field of a type has a small number
  pub small_field : (ty : TypeNo) → ty.0 < length s.shape → (f : ℕ) (u : TypeNo) → field_kind (type_at s.shape ty) f ≡ Some (Pointer u) → f < 128
  small_field ty known f u e = let below = (pointer_field (type_at s.shape ty) f u e).1 in omega (arith, below, few)
    where
      few : element_count (type_at s.shape ty) ≤ 64
      few = ⊎_elim
          (λ (root : ty.0 ≡ 0). let fields : element_count (type_at s.shape root_type) ≤ 32 = h.valid.root_fields in
          let same : element_count (type_at s.shape ty) ≡ element_count (type_at s.shape root_type) =
          ap (λ (n : ℕ). element_count (type_at s.shape (record { 0 = n }))) root in omega (arith, fields, same))
          (λ (other : ty.0 ≢ 0). h.valid.elements ty (omega (arith, other)) known)
          (cases_eq ty.0 0)

  -- an entry is that of a pointer slot of the entered type
  pub entry_field : (i g m x f : ℕ) → (arena s).chart.holds i g m ≡ From x f → field_kind (kind_of x) f ≡ Some (Pointer ((arena s).ty i))
  entry_field i g m x f e =
      let back = h.arena.mirrored.back i g m x f e in
      subst (λ (c : Content). IsOfKind (kind_of x) (arena s).ty f c) back (h.arena.kinds x f m (target_lives x f m i back))

  pub entry_small : (i g m x f : ℕ) → (arena s).chart.holds i g m ≡ From x f → f < 128
  entry_small i g m x f e =
      let back = h.arena.mirrored.back i g m x f e in
      small_field ((arena s).ty x) (h.arena.known x (target_lives x f m i back).there) f ((arena s).ty i) (entry_field i g m x f e)

  -- ---- what a slot holds fits it

  module _ (i g m : ℕ) (a : IsIn (arena s) i m) (l : g < slot_count (kind_of i)) where
    abbrev Fits : Content → Type 0
    Fits c = FitsSlot s.shape ks ((arena s).ty i) g (content_number c)

    fits_by : (o : Option Kind) (c : ℕ) → field_kind (kind_of i) g ≡ o → HasKind s.shape ks ((arena s).ty i) o c → FitsSlot s.shape ks ((arena s).ty i) g c
    fits_by o c e k = subst (λ (o : Option Kind). HasKind s.shape ks ((arena s).ty i) o c) (sym e) k

    fits_of : (c : Content) → (arena s).chart.holds i g m ≡ c → IsOfKind (kind_of i) (arena s).ty g c → Fits c
    fits_of (Number z) e k = fits_by (Some Int) (content_number (Number z)) (value_kind (kind_of i) g k) tt
    fits_of Null e k = ⊎_elim
        (λ (below : g < element_count (kind_of i)). let u = pointer_kind (kind_of i) g k.0 below in fits_by (Some (Pointer u.0)) 0 u.1 (inl refl))
        (λ (past : element_count (kind_of i) + (kind_of i).limit ≤ g). absurd (omega (arith, l, past)))
        k.1
    fits_of (TargetOf y) e k =
        let x = h.arena.mirrored.found i g m y.0 e in
        let b = from_lives y.0 x.0 m i g x.1 in
        let at : y.0 < length ks = (let t = b.there in omega (arith, t, count)) in
        fits_by (Some (Pointer ((arena s).ty y.0))) (suc y.0) k (inr (y.0, refl, (at, ap (λ (t : TypeNo). t.0) (part_type y.0 at))))
    fits_of Free e k = fits_by None 0 (inverse_kind (kind_of i) g k.from) (inl refl)
    fits_of (FromOf x f) e k =
        let back = h.arena.mirrored.back i g m x.0 f.0 e in
        let at : x.0 < length ks = (let t = (target_lives x.0 f.0 m i back).there in omega (arith, t, count)) in
        let field = subst (λ (t : TypeNo). field_kind (type_at s.shape t) f.0 ≡ Some (Pointer ((arena s).ty i))) (sym (part_type x.0 at)) (entry_field i g m x.0 f.0 e) in
        fits_by None (content_number (FromOf x f)) (inverse_kind (kind_of i) g k.from) (inr (x.0, f.0, refl, entry_small i g m x.0 f.0 e, (at, field)))

    pub fits : Fits ((arena s).chart.holds i g m)
    fits = fits_of ((arena s).chart.holds i g m) refl (h.arena.kinds i g m a)

  -- ---- a node

  module _ (i : ℕ) (n : Node) (e : slice_get s.nodes i ≡ Some n) where
    v : IsValue r (length s.places) n.row
    v = value i n e

    wide : length (node_part r n).bases ≡ slot_count (type_at s.shape n.head.ty)
    wide = length-map n.row.slots (λ c. content_number c.content) ∙ h.wide i n e

    slots : slot_count (kind_of i) ≡ length (node_part r n).bases
    slots = ap (λ (t : TypeNo). slot_count (type_at s.shape t)) (type_is i n e) ∙ sym wide

    stamp_at_is : (j : ℕ) → j < length (node_part r n).stamps → stamp_of (node_part r n) j ≡ stamp_part r (get_or n.row.stamps j no_stamp_of)
    stamp_at_is j l = get_or-map (stamp_part r) n.row.stamps j no_stamp_of no_stamp (omega (arith, l, length-map n.row.stamps (stamp_part r)))

    fewer : (j : ℕ) → j < length (node_part r n).stamps → j < length n.row.stamps
    fewer j l = omega (arith, l, length-map n.row.stamps (stamp_part r))

    inside : (j : ℕ) → j < length n.row.stamps → ((get_or n.row.stamps j no_stamp_of).slot.0 < length n.row.slots)
        × (r n.row.lo.0 < r (get_or n.row.stamps j no_stamp_of).place.0) × (r (get_or n.row.stamps j no_stamp_of).place.0 < r n.row.hi.0)
    inside j l = stamp_inside r (r n.row.lo.0) (r n.row.hi.0) (length n.row.slots) n.row.stamps v.stamps j l

    after_by : (a b : Stamp) → IsBefore r a b → IsAfter (stamp_part r a) (stamp_part r b)
    after_by a b p = ⊎_elim
        (λ (same : a.slot.0 ≡ b.slot.0). inr (same, p.places same))
        (λ (ne : a.slot.0 ≢ b.slot.0). inl (omega (arith, p.slots, ne)))
        (cases_eq a.slot.0 b.slot.0)

    -- what is held at the begin of the life, and where a value is stamped
    pub base_held : (g : ℕ) → (arena s).chart.holds i g (r n.row.lo.0) ≡ base_in n.row g
    base_held g = held i n e g (r n.row.lo.0) (omega arith) v.life ∙ at_begin r (length s.places) n v g (r n.row.lo.0) refl

    pub lives_at : (j : ℕ) → j < length n.row.stamps → IsIn (arena s) i (r (get_or n.row.stamps j no_stamp_of).place.0)
    lives_at j l = let p = inside j l in in_life i n e (r (get_or n.row.stamps j no_stamp_of).place.0) (omega (arith, p.1)) p.2

    pub stamp_held : (j : ℕ) → j < length n.row.stamps → (arena s).chart.holds i (get_or n.row.stamps j no_stamp_of).slot.0
        (r (get_or n.row.stamps j no_stamp_of).place.0) ≡ (get_or n.row.stamps j no_stamp_of).content
    stamp_held j l =
        let e0 = get_or n.row.stamps j no_stamp_of in
        let p = inside j l in
        let st = stamp_some r (r n.row.lo.0) (r n.row.hi.0) (length n.row.slots) n.row.stamps v.stamps j l e0.slot.0 (r e0.place.0) refl refl in
        held i n e e0.slot.0 (r e0.place.0) (omega (arith, p.1)) p.2 ∙ at_stamp (stamps_in r n.row e0.slot.0) (base_in n.row e0.slot.0) e0.content (r e0.place.0) st

    stamp_fits : (j : ℕ) → j < length n.row.stamps → FitsSlot s.shape ks n.head.ty (get_or n.row.stamps j no_stamp_of).slot.0 (content_number (get_or n.row.stamps j no_stamp_of).content)
    stamp_fits j l =
        let e0 = get_or n.row.stamps j no_stamp_of in
        let slot : e0.slot.0 < slot_count (kind_of i) = omega (arith, (inside j l).0, slots, length-map n.row.slots (λ c. content_number c.content)) in
        let f = fits i e0.slot.0 (r e0.place.0) (lives_at j l) slot in
        subst (λ (t : TypeNo). FitsSlot s.shape ks t e0.slot.0 (content_number e0.content)) (type_is i n e)
        (subst (λ (c : Content). FitsSlot s.shape ks ((arena s).ty i) e0.slot.0 (content_number c)) (stamp_held j l) f)

    base_fits : (g : ℕ) → g < length (node_part r n).bases → FitsSlot s.shape ks n.head.ty g (get_or (node_part r n).bases g 0)
    base_fits g l =
        let f = fits i g (r n.row.lo.0) (in_life i n e (r n.row.lo.0) (omega arith) v.life) (omega (arith, l, slots)) in
        let number : content_number ((arena s).chart.holds i g (r n.row.lo.0)) ≡ get_or (node_part r n).bases g 0 = ap content_number (base_held g) ∙ sym (bases_at n.row.slots g) in
        subst (λ (t : TypeNo). FitsSlot s.shape ks t g (get_or (node_part r n).bases g 0)) (type_is i n e) (subst (λ (c : ℕ). FitsSlot s.shape ks ((arena s).ty i) g c) number f)

    pub is_node : IsNode s.shape (length s.places) ks (node_part r n)
    is_node = record {
      known = (let k = h.arena.known i (slice_get-below s.nodes i n e) in subst (λ (t : TypeNo). t.0 < length s.shape) (type_is i n e) k);
      slots = wide;
      life = v.life;
      inside = v.there;
      stamps = λ j l.
          let p = inside j (fewer j l) in
          subst (IsStamp (node_part r n)) (sym (stamp_at_is j l)) (record { slot = omega (arith, p.0, length-map n.row.slots (λ c. content_number c.content)); after = p.1; before = p.2 });
      sorted = λ j l.
          let k : j < length (node_part r n).stamps = omega (arith, l) in
          let p = rising_at r (r n.row.lo.0) (r n.row.hi.0) (length n.row.slots) n.row.stamps v.stamps j (j + 1) (omega arith) (fewer (j + 1) l) in
          subst (λ (a : StampPart). IsAfter a (stamp_of (node_part r n) (j + 1))) (sym (stamp_at_is j k))
          (subst (IsAfter (stamp_part r (get_or n.row.stamps j no_stamp_of))) (sym (stamp_at_is (j + 1) l)) (after_by (get_or n.row.stamps j no_stamp_of) (get_or n.row.stamps (j + 1) no_stamp_of) p));
      bases_fit = base_fits;
      stamps_fit = λ j l. subst (λ (a : StampPart). FitsSlot s.shape ks n.head.ty a.slot.0 a.content) (sym (stamp_at_is j l)) (stamp_fits j (fewer j l));
    }

  pub are_nodes : AreNodes s.shape (length s.places) ks
  are_nodes i l = let x = there i l in subst (IsNode s.shape (length s.places) ks) (sym (part_at i x.0 x.1)) (is_node i x.0 x.1)
