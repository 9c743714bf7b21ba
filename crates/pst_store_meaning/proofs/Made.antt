-- A new node.
use Rattle.std.proofs.Common.{◌≡◌, ◌≢◌, ℕ, zero, suc, ◌+◌, ◌<◌, ◌≤◌, true, false, cond, List, ◌∷◌, length, Some, None, pos, refl, sym, ap, ◌∙◌, subst, ◌⊎◌, inl, inr, ⊎_elim, arith, ltb}
use Rattle.std.proofs.lemmas.Bool.{cases_Bool, lt-ltb, false_from_ne_true}
use borrow.Author.Tests.{ltb-true, ltb-false}
use Rattle.std.specs.Prelude.{replicate}
use Rattle.std.specs.FinMap.{insert}
use Rattle.pst_base.specs.Below.{listed}
use Rattle.pst_base.specs.declared.names.TypeNo.{TypeNo}
use Rattle.pst_base.specs.declared.names.Name.{Name}
use Rattle.pst_base.specs.declared.shape.TypeShape.{TypeShape}
use Rattle.pst_base.specs.Shape.{type_at, element_count, root_type}
use Rattle.pst_base.specs.Heap.{Rec, with_record, new_record}
use Rattle.pst_rows.specs.declared.content.Content.{Content}
use Rattle.pst_rows.specs.declared.content.Content.TheVariants.{Number, Null, Free}
use Rattle.pst_mirror.specs.Contents.{Target, From}
use Rattle.pst_mirror.specs.Mirror.{IsAdded}
use Rattle.pst_mirror.proofs.WriteLemmas.{add_law}
use Rattle.pst_rows.specs.Contents.{number}
use Rattle.pst_store_meaning.specs.Arena.{Arena, IsIn, is_in, IsLive, AreChained, IsArena, IsDrawn, heap_at, record_at, record_of, denoted}
use Rattle.pst_mirror.specs.Kinds.{HasKind}
use Rattle.pst_store_meaning.specs.Changes.{IsMade, default_content, MadeKeeps, MadeLaw}
use Rattle.pst_store_meaning.proofs.HeapLaws.{same_heaps, same_at, put_heap, is_in-true, new_or_old}
use Rattle.pst_store_meaning.proofs.RecordLaws.{record_of-same, denoted-names, kind-types, target_alive}

pub listed-replicate : {A : Type 0} (n : ℕ) (f : ℕ → A) (v : A) → ((k : ℕ) → k < n → f k ≡ v) → listed n f ≡ replicate n v
listed-replicate zero f v h = refl
listed-replicate (suc n) f v h = λ i. h 0 (omega arith) i ∷ listed-replicate n (λ k. f (suc k)) v (λ k l. h (suc k) (omega arith)) i

-- ---- what a new record holds

pub default_value : (t : TypeShape) (g : ℕ) → g < t.values → default_content t g ≡ Number (pos 0)
default_value t g l = rw (lt-ltb g t.values l) refl

-- a test that fails
ltb-none : (a b : ℕ) → b ≤ a → ltb a b ≡ false
ltb-none a b l = false_from_ne_true (ltb a b) (λ e. let m = ltb-true a b e in omega arith)

pub default_pointer : (t : TypeShape) (g : ℕ) → t.values ≤ g → g < element_count t → default_content t g ≡ Null
default_pointer t g l m = rw (ltb-none g t.values l, lt-ltb g (t.values + length t.targets) m) refl

pub default_kind : (t : TypeShape) (ty : ℕ → TypeNo) (g : ℕ) → HasKind t ty g (default_content t g)
default_kind t ty g = elim (ltb g t.values) as (λ b. ltb g t.values ≡ b
    → HasKind t ty g (cond b (Number (pos 0)) (cond (ltb g (element_count t)) Null (cond (ltb g (element_count t + t.limit)) Free Null)))) [
      | true ↦ λ e. ltb-true g t.values e
      | false ↦ λ e. let low : t.values ≤ g = ltb-false g t.values e in
          elim (ltb g (element_count t)) as (λ b. ltb g (element_count t) ≡ b → HasKind t ty g (cond b Null (cond (ltb g (element_count t + t.limit)) Free Null))) [
            | true ↦ λ u. (low, inl (ltb-true g (element_count t) u))
            | false ↦ λ u. let from : element_count t ≤ g = ltb-false g (element_count t) u in
                elim (ltb g (element_count t + t.limit)) as (λ b. ltb g (element_count t + t.limit) ≡ b → HasKind t ty g (cond b Free Null)) [
                  | true ↦ λ w. record { from = from; below = ltb-true g (element_count t + t.limit) w }
                  | false ↦ λ w. (low, inr (ltb-false g (element_count t + t.limit) w))
                ] refl
          ] refl
    ] refl

pub default_plain : (t : TypeShape) (g : ℕ) → (default_content t g ≡ Number (pos 0)) ⊎ ((default_content t g ≡ Null) ⊎ (default_content t g ≡ Free))
default_plain t g = elim (ltb g t.values) as (λ b. (cond b (Number (pos 0))
    (cond (ltb g (element_count t)) Null (cond (ltb g (element_count t + t.limit)) Free Null)) ≡ Number (pos 0))
    ⊎ ((cond b (Number (pos 0)) (cond (ltb g (element_count t)) Null (cond (ltb g (element_count t + t.limit)) Free Null)) ≡ Null)
    ⊎ (cond b (Number (pos 0)) (cond (ltb g (element_count t)) Null (cond (ltb g (element_count t + t.limit)) Free Null)) ≡ Free))) [
      | true ↦ inl refl
      | false ↦ inr (elim (ltb g (element_count t)) as (λ b. (cond b Null (cond (ltb g (element_count t + t.limit)) Free Null) ≡ Null)
          ⊎ (cond b Null (cond (ltb g (element_count t + t.limit)) Free Null) ≡ Free)) [
            | true ↦ inl refl
            | false ↦ elim (ltb g (element_count t + t.limit)) as (λ b. (cond b Free Null ≡ Null) ⊎ (cond b Free Null ≡ Free)) [ true ↦ inr refl | false ↦ inl refl ]
          ])
    ]

module _ (shape : List TypeShape) (end : ℕ) (old new : Arena) (q : Name) (t : TypeNo) (b : ℕ) (a : IsArena shape end old) (d : IsDrawn old) (e : IsDrawn new) (o : IsMade shape old new q t b)
    (fresh : (i : ℕ) → i < old.count → old.name i ≢ q) (above : 0 < t.0) (below : t.0 < length shape) where
  abbrev z : ℕ
  z = old.count

  node_cases : (i : ℕ) → i < new.count → (i ≡ z) ⊎ (i < z)
  node_cases i l = new_or_old old.count new.count i o.count l

  apart_z : (i : ℕ) → i < z → i ≢ z
  apart_z i l s = absurd (omega arith)

  in_new : (i n : ℕ) → IsIn old i n → IsIn new i n
  in_new i n h = record { there = omega (arith, o.count, h.there); low = omega (arith, o.lo i h.there, h.low); high = omega (arith, o.hi i h.there, h.high) }

  in_old : (i n : ℕ) → i < z → IsIn new i n → IsIn old i n
  in_old i n l h = record { there = l; low = omega (arith, o.lo i l, h.low); high = omega (arith, o.hi i l, h.high) }

  z_in : IsIn new z b
  z_in = record { there = omega (arith, o.count); low = omega (arith, o.new_lo); high = omega (arith, o.new_hi) }

  z_at : (i n : ℕ) → i ≡ z → IsIn new i n → n ≡ b
  z_at i n p h = let k : IsIn new z n = subst (λ (i : ℕ). IsIn new i n) p h in omega (arith, o.new_lo, o.new_hi, k.low, k.high)

  clash : (i : ℕ) → i < z → new.name i ≡ new.name z → ⊥
  clash i l n = fresh i l (sym (o.name i l) ∙ n ∙ o.new_name)

  made_chained : AreChained new
  made_chained = record {
    some = λ i l. elim (node_cases i l) [
      | inl p ↦ let lo : new.lo i ≡ b = ap new.lo p ∙ o.new_lo in let hi : new.hi i ≡ suc b = ap new.hi p ∙ o.new_hi in omega arith
      | inr p ↦ omega (arith, a.chained.some i p, o.lo i p, o.hi i p)
    ];
    next = λ i j l s. elim (node_cases i l) [
      | inl p ↦ absurd (let none : None ≡ Some j = sym o.new_later ∙ ap new.later (sym p) ∙ s in cc)
      | inr p ↦ let v : (j < old.count) × (old.name j ≡ old.name i) × (old.lo j ≡ old.hi i) = a.chained.next i j p (sym (o.later i p) ∙ s) in
          (omega (arith, v.0, o.count), o.name j v.0 ∙ v.1 ∙ sym (o.name i p), o.lo j v.0 ∙ v.2 ∙ sym (o.hi i p))
    ];
    last = λ i j l m s n. elim (node_cases i l) [
      | inl p ↦ elim (node_cases j m) [
        | inl r ↦ let same : new.hi j ≡ new.hi i = ap new.hi (r ∙ sym p) in omega arith
        | inr r ↦ absurd (clash j r (n ∙ ap new.name p))
      ]
      | inr p ↦ elim (node_cases j m) [
        | inl r ↦ absurd (clash i p (sym n ∙ ap new.name r))
        | inr r ↦ omega (arith, a.chained.last i j p r (sym (o.later i p) ∙ s) (sym (o.name j r) ∙ n ∙ o.name i p), o.hi i p, o.hi j r)
      ]
    ];
    apart = λ i j l m ne n. elim (node_cases i l) [
      | inl p ↦ elim (node_cases j m) [
        | inl r ↦ absurd (ne (p ∙ sym r))
        | inr r ↦ absurd (clash j r (sym n ∙ ap new.name p))
      ]
      | inr p ↦ elim (node_cases j m) [
        | inl r ↦ absurd (clash i p (n ∙ ap new.name r))
        | inr r ↦ elim (a.chained.apart i j p r ne (sym (o.name i p) ∙ n ∙ o.name j r)) [
          | inl v ↦ inl (omega (arith, v, o.hi i p, o.lo j r))
          | inr v ↦ inr (omega (arith, v, o.hi j r, o.lo i p))
        ]
      ]
    ];
  }

  -- what the new node holds is plain
  z_plain : (g n : ℕ) → ((y : ℕ) → new.chart.holds z g n ≢ Target y) × ((y f : ℕ) → new.chart.holds z g n ≢ From y f)
  z_plain g n = ⊎_elim
      (λ (p : is_in new z n ≡ true).
      let nb : n ≡ b = z_at z n refl (is_in-true new z n p) in
      let is : new.chart.holds z g n ≡ default_content (type_at shape t) g = ap (new.chart.holds z g) nb ∙ o.new_holds g in (
        λ y s. elim (default_plain (type_at shape t) g) [
          | inl u ↦ let k : Number (pos 0) ≡ Target y = sym u ∙ sym is ∙ s in cc
          | inr w ↦ elim w [ inl u ↦ let k : Null ≡ Target y = sym u ∙ sym is ∙ s in cc | inr u ↦ let k : Free ≡ Target y = sym u ∙ sym is ∙ s in cc ]
        ],
        λ y f s. elim (default_plain (type_at shape t) g) [
          | inl u ↦ let k : Number (pos 0) ≡ From y f = sym u ∙ sym is ∙ s in cc
          | inr w ↦ elim w [ inl u ↦ let k : Null ≡ From y f = sym u ∙ sym is ∙ s in cc | inr u ↦ let k : Free ≡ From y f = sym u ∙ sym is ∙ s in cc ]
        ],
      ))
      (λ (p : is_in new z n ≡ false). let none = e.outside z g n p in (λ y s. let k : Null ≡ Target y = sym none ∙ s in cc, λ y f s. let k : Null ≡ From y f = sym none ∙ s in cc))
      (cases_Bool (is_in new z n))

  made_added : IsAdded old.chart new.chart z
  made_added = record {
    fresh = λ g n. d.outside z g n (false_from_ne_true (is_in old z n) (λ p. let h = is_in-true old z n p in absurd (omega (arith, h.there))));
    no_pointer = λ g n y. (z_plain g n).0 y;
    no_entry = λ g n y f. (z_plain g n).1 y f;
    holds = λ i g n ne. o.holds i g n ne;
    edges = λ i g n ne. o.edges i g n ne;
  }

  target : (i g n y : ℕ) → old.chart.holds i g n ≡ Target y → y < old.count
  target i g n y p = (target_alive old i g n y d a.mirrored p).there

  made_kind : (i g n : ℕ) → IsIn new i n → HasKind (type_at shape (new.ty i)) new.ty g (new.chart.holds i g n)
  made_kind i g n h = elim (node_cases i h.there) [
    | inl p ↦ subst (λ (i : ℕ). HasKind (type_at shape (new.ty i)) new.ty g (new.chart.holds i g n)) (sym p)
        (subst (λ (n : ℕ). HasKind (type_at shape (new.ty z)) new.ty g (new.chart.holds z g n)) (sym (z_at i n p h))
        (subst (λ (c : Content). HasKind (type_at shape (new.ty z)) new.ty g c) (sym (o.new_holds g))
        (subst (λ (u : TypeNo). HasKind (type_at shape u) new.ty g (default_content (type_at shape t) g)) (sym o.new_ty) (default_kind (type_at shape t) new.ty g))))
    | inr p ↦ subst (λ (c : Content). HasKind (type_at shape (new.ty i)) new.ty g c) (sym (o.holds i g n (apart_z i p)))
        (kind-types (type_at shape (old.ty i)) (type_at shape (new.ty i)) old.ty new.ty g (old.chart.holds i g n) (ap (type_at shape) (o.ty i p))
        (λ y s. o.ty y (target i g n y s)) (a.kinds i g n (in_old i n p h)))
  ]

  made_arena : IsArena shape end new
  made_arena = record {
    chained = made_chained;
    one_type = λ i j l m n. elim (node_cases i l) [
      | inl p ↦ elim (node_cases j m) [ inl r ↦ ap new.ty (p ∙ sym r) | inr r ↦ absurd (clash j r (sym n ∙ ap new.name p)) ]
      | inr p ↦ elim (node_cases j m) [
        | inl r ↦ absurd (clash i p (n ∙ ap new.name r))
        | inr r ↦ o.ty i p ∙ a.one_type i j p r (sym (o.name i p) ∙ n ∙ o.name j r) ∙ sym (o.ty j r)
      ]
    ];
    known = λ i l. elim (node_cases i l) [
      | inl p ↦ subst (λ (u : TypeNo). u.0 < length shape) (sym (ap new.ty p ∙ o.new_ty)) below
      | inr p ↦ subst (λ (u : TypeNo). u.0 < length shape) (sym (o.ty i p)) (a.known i p)
    ];
    mirrored = add_law old.chart new.chart z made_added a.mirrored;
    kinds = made_kind;
    root = λ n l. let r = a.root n l in (r.0, in_new r.0 n r.1, o.name r.0 r.1.there ∙ r.2, o.ty r.0 r.1.there ∙ r.3);
    one_root = λ i l u. elim (node_cases i l) [
      | inl p ↦ absurd (let s : t ≡ root_type = sym o.new_ty ∙ ap new.ty (sym p) ∙ u in let k : t.0 ≡ 0 = ap (λ (t : TypeNo). t.0) s in omega arith)
      | inr p ↦ o.name i p ∙ a.one_root i p (sym (o.ty i p) ∙ u)
    ];
  }

  old_record : (i n : ℕ) → i < z → record_at shape new i n ≡ record_at shape old i n
  old_record i n l = record_of-same shape (old.ty i) (new.ty i) old.name new.name (λ g. old.chart.holds i g n) (λ g. new.chart.holds i g n) (o.ty i l)
      (λ g p. ap number (o.holds i g n (apart_z i l)))
      (λ g p. ap (denoted new.name) (o.holds i g n (apart_z i l)) ∙ denoted-names old.name new.name (old.chart.holds i g n) (λ y s. o.name y (target i g n y s)))

  z_record : record_at shape new z b ≡ new_record shape t
  z_record =
      ap (λ (u : TypeNo). record_of shape u new.name (λ g. new.chart.holds z g b)) o.new_ty ∙
      (λ i. record {
        ty = t;
        values = listed-replicate (type_at shape t).values (λ g. number (new.chart.holds z g b)) (pos 0) (λ g l. ap number (o.new_holds g ∙ default_value (type_at shape t) g l)) i;
        pointers = listed-replicate (length (type_at shape t).targets) (λ k. denoted new.name (new.chart.holds z ((type_at shape t).values + k) b)) None
            (λ k l. ap (denoted new.name) (o.new_holds ((type_at shape t).values + k) ∙ default_pointer (type_at shape t) ((type_at shape t).values + k) (omega arith) (omega arith))) i;
      })

  made_here : heap_at shape new b ≡ with_record (heap_at shape old b) q (new_record shape t)
  made_here =
      put_heap shape new b z (heap_at shape old b) made_chained z_in
      (λ p ne. same_at shape old new b b p a.chained made_chained
      (λ i h is. (i, in_new i b h, o.name i h.there ∙ is, old_record i b h.there))
      (λ j h is. elim (node_cases j h.there) [
        | inl r ↦ absurd (ne (sym is ∙ ap new.name r))
        | inr r ↦ (j, in_old j b r h, sym (o.name j r) ∙ is)
      ]))
      ∙ ap (λ (p : Name). insert (heap_at shape old b) p (record_at shape new z b)) o.new_name
      ∙ ap (λ (r : Rec). insert (heap_at shape old b) q r) z_record

  made_elsewhere : (n : ℕ) → n ≢ b → heap_at shape new n ≡ heap_at shape old n
  made_elsewhere n ne = same_heaps shape old new n n a.chained made_chained
      (λ i h. (i, in_new i n h, o.name i h.there, old_record i n h.there))
      (λ j h. elim (node_cases j h.there) [
        | inl r ↦ absurd (ne (z_at j n r h))
        | inr r ↦ (j, in_old j n r h, sym (o.name j r))
      ])

  made_live : (i n : ℕ) → IsLive old i n → IsLive new i n
  made_live i n h = record {
    there = omega (arith, o.count, h.there);
    begun = omega (arith, o.lo i h.there, h.begun);
    covering = (h.covering.0, in_new h.covering.0 n h.covering.1, o.name h.covering.0 h.covering.1.there ∙ h.covering.2 ∙ sym (o.name i h.there));
  }

  made_keeps : MadeKeeps shape end old new q t b
  made_keeps = record {
    arena = made_arena;
    here = made_here;
    elsewhere = made_elsewhere;
    live = made_live;
    new_live = record { there = z_in.there; begun = z_in.low; covering = (z, z_in, refl) };
  }

pub made_law : MadeLaw
made_law = made_keeps
