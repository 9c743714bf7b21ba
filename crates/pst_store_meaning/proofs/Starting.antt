-- A store as started.
use Rattle.std.proofs.Common.{◌≡◌, ◌≢◌, ℕ, zero, suc, ◌+◌, ◌<◌, ◌≤◌, true, false, cond, List, [], ◌∷◌, length, Some, None, pos, refl, sym, ap, ◌∙◌, subst, ◌⊎◌, inl, inr, ⊎_elim, arith}
use Rattle.std.specs.Prelude.{slice_get}
use Rattle.std.specs.Option.{option_map}
use Rattle.std.specs.FinMap.{insert, empty}
use Rattle.std.proofs.lemmas.Bool.{cases_Bool, eq-eqb, ne_eqb, le-leb, lt-ltb}
use Rattle.pst_base.specs.declared.names.TypeNo.{TypeNo}
use Rattle.pst_base.specs.declared.names.NodeId.{NodeId}
use Rattle.pst_base.specs.declared.names.Name.{Name}
use Rattle.pst_base.specs.declared.shape.TypeShape.{TypeShape}
use Rattle.pst_base.specs.Name.{root_name}
use Rattle.pst_base.specs.Shape.{type_at, root_type, IsValid}
use Rattle.pst_base.specs.Heap.{Rec, new_record, initial_heap}
use Rattle.pst_versions.specs.declared.rows.VersionRow.{VersionRow}
use Rattle.pst_rows.specs.declared.content.Content.{Content}
use Rattle.pst_rows.specs.declared.content.Content.TheVariants.{Number, Null, Free}
use Rattle.pst_mirror.specs.Contents.{Target, From}
use Rattle.pst_rows.specs.declared.content.Stamp.{Stamp}
use Rattle.pst_order.specs.Places.{rank}
use Rattle.pst_rows.specs.Values.{base_in, stamp_at, stamps_in, content_in}
use Rattle.pst_mirror.specs.Charts.{is_alive}
use Rattle.pst_store_meaning.specs.declared.place.Place.{Place}
use Rattle.pst_store_meaning.specs.declared.place.Fork.{Fork}
use Rattle.pst_rows.specs.Contents.{number}
use Rattle.pst_store_meaning.specs.Arena.{IsIn, IsArena, heap_at, record_at, record_of, denoted}
use Rattle.pst_mirror.specs.Kinds.{HasKind}
use Rattle.pst_store_meaning.specs.Changes.{default_content}
use Rattle.pst_store_meaning.specs.Store.{Node, Stored, arena, IsPlace, IsStore, IsRested, width}
use Rattle.pst_mirror.specs.Potential.{capacity}
use Rattle.pst_store_meaning.specs.Steps.{IsNewNode, started, StartLaw}
use Rattle.pst_store_meaning.proofs.HeapLaws.{true-is_in}
use Rattle.pst_store_meaning.proofs.Made.{listed-replicate, default_value, default_pointer, default_kind, default_plain}
use Rattle.pst_store_meaning.proofs.Stepping.{in_force-none}

none_in : {A : Type 0} (xs : List A) (k : ℕ) (x : A) → xs ≡ [] → slice_get xs k ≡ Some x → ⊥
none_in [] zero x n e = absurd (cc)
none_in [] (suc k) x n e = absurd (cc)
none_in (y ∷ ys) k x n e = absurd (cc)

pub none_there : {A : Type 0} (k : ℕ) (x : A) → slice_get [] k ≡ Some x → ⊥
none_there k x e = none_in [] k x refl e

-- a store with neither forks nor relics has the place of version 0 alone
pub only_start : (s : Stored) (p : Place) → s.forks ≡ [] → s.relics ≡ [] → IsPlace s p → p ≡ s.start
only_start s p no_forks no_relics is = elim is [
  | inl e ↦ e
  | inr (inl f) ↦ absurd (none_there f.index f.fork (ap (λ (forks : List Fork). slice_get forks f.index) (sym no_forks) ∙ f.at))
  | inr (inr r) ↦ absurd (none_there r.index p (ap (λ (relics : List Place). slice_get relics r.index) (sym no_relics) ∙ r.at))
]

one_there : {A : Type 0} (x y : A) (k : ℕ) → slice_get (x ∷ []) k ≡ Some y → (k ≡ 0) × (x ≡ y)
one_there x y zero e = (refl, cc)
one_there x y (suc k) e = absurd (none_there k y e)

module _ (shape : List TypeShape) (start : Place) (root : Node) (valid : IsValid shape) (apart : start.begin.0 ≢ start.end.0) (new : IsNewNode shape root root_name root_type start) where
  abbrev s : Stored
  s = started shape start root

  abbrev r : ℕ → ℕ
  r = rank s.places

  begin_at : r start.begin.0 ≡ 0
  begin_at = rw (eq-eqb start.begin.0 start.begin.0 refl) refl

  end_at : r start.end.0 ≡ 1
  end_at = rw (ne_eqb start.begin.0 start.end.0 apart, eq-eqb start.end.0 start.end.0 refl) refl

  lo_is : (arena s).lo 0 ≡ 0
  lo_is = ap r new.lo ∙ begin_at

  hi_is : (arena s).hi 0 ≡ 1
  hi_is = ap r new.hi ∙ end_at

  inside : IsIn (arena s) 0 0
  inside = record { there = omega arith; low = omega (arith, lo_is); high = omega (arith, hi_is) }

  first : (i : ℕ) → i < 1 → i ≡ 0
  first i l = omega arith

  content : (g n : ℕ) → content_in r root.row g n ≡ default_content (type_at shape root_type) g
  content g n = in_force-none (stamps_in r root.row g) (base_in root.row g) n (λ m. ap (λ (es : List Stamp). stamp_at r es g m) new.stamped) ∙ new.base g

  holds_is : (g n : ℕ) → ((arena s).chart.holds 0 g n ≡ default_content (type_at shape root_type) g) ⊎ ((arena s).chart.holds 0 g n ≡ Null)
  holds_is g n = ⊎_elim
      (λ (t : is_alive r root.row n ≡ true). inl (ap (λ v. cond v (content_in r root.row g n) Null) t ∙ content g n))
      (λ (t : is_alive r root.row n ≡ false). inr (ap (λ v. cond v (content_in r root.row g n) Null) t))
      (cases_Bool (is_alive r root.row n))

  at_root : (g n : ℕ) → IsIn (arena s) 0 n → (arena s).chart.holds 0 g n ≡ default_content (type_at shape root_type) g
  at_root g n h =
      let alive : is_alive r root.row n ≡ true = (let low : r root.row.lo.0 ≤ n = h.low in let high : n < r root.row.hi.0 = h.high in
      rw (le-leb (r root.row.lo.0) n low, lt-ltb n (r root.row.hi.0) high) refl) in
      ap (λ v. cond v (content_in r root.row g n) Null) alive ∙ content g n

  no_target : (i g n y : ℕ) → (arena s).chart.holds i g n ≢ Target y
  no_target zero g n y e = elim (holds_is g n) [
    | inl d ↦ elim (default_plain (type_at shape root_type) g) [
      | inl u ↦ let k : Number (pos 0) ≡ Target y = sym u ∙ sym d ∙ e in cc
      | inr v ↦ elim v [ inl u ↦ let k : Null ≡ Target y = sym u ∙ sym d ∙ e in cc | inr u ↦ let k : Free ≡ Target y = sym u ∙ sym d ∙ e in cc ]
    ]
    | inr d ↦ let k : Null ≡ Target y = sym d ∙ e in cc
  ]
  no_target (suc i) g n y e = let k : Null ≡ Target y = e in cc

  no_from : (i g n y f : ℕ) → (arena s).chart.holds i g n ≢ From y f
  no_from zero g n y f e = elim (holds_is g n) [
    | inl d ↦ elim (default_plain (type_at shape root_type) g) [
      | inl u ↦ let k : Number (pos 0) ≡ From y f = sym u ∙ sym d ∙ e in cc
      | inr v ↦ elim v [ inl u ↦ let k : Null ≡ From y f = sym u ∙ sym d ∙ e in cc | inr u ↦ let k : Free ≡ From y f = sym u ∙ sym d ∙ e in cc ]
    ]
    | inr d ↦ let k : Null ≡ From y f = sym d ∙ e in cc
  ]
  no_from (suc i) g n y f e = let k : Null ≡ From y f = e in cc

  start_arena : IsArena shape 1 (arena s)
  start_arena = record {
    chained = record {
      some = λ i l. subst (λ (i : ℕ). (arena s).lo i < (arena s).hi i) (sym (first i l)) (omega (arith, lo_is, hi_is));
      next = λ i j l e. absurd (let none : None ≡ Some j = sym (ap (option_map (λ (i : NodeId). i.0)) new.later) ∙ ap (arena s).later (sym (first i l)) ∙ e in cc);
      last = λ i j l m e n. let same : (arena s).hi j ≡ (arena s).hi i = ap (arena s).hi (first j m ∙ sym (first i l)) in omega arith;
      apart = λ i j l m ne n. absurd (ne (first i l ∙ sym (first j m)));
    };
    one_type = λ i j l m n. ap (arena s).ty (first i l ∙ sym (first j m));
    known = λ i l. subst (λ (i : ℕ). ((arena s).ty i).0 < length shape) (sym (first i l)) (subst (λ (t : TypeNo). t.0 < length shape) (sym new.typed) valid.some);
    mirrored = record {
      found = λ x f n y e. absurd (no_target x f n y e);
      back = λ y i n x f e. absurd (no_from y i n x f e);
      one = λ y i t n x f e d. absurd (no_from y i n x f e);
      together = λ y i n x f e. absurd (no_from y i n x f e);
    };
    kinds = λ i g n h. subst (λ (i : ℕ). HasKind (type_at shape ((arena s).ty i)) (arena s).ty g ((arena s).chart.holds i g n)) (sym (first i h.there))
        (subst (λ (c : Content). HasKind (type_at shape root.head.ty) (arena s).ty g c) (sym (at_root g n (subst (λ (i : ℕ). IsIn (arena s) i n) (first i h.there) h)))
        (subst (λ (t : TypeNo). HasKind (type_at shape t) (arena s).ty g (default_content (type_at shape root_type) g)) (sym new.typed) (default_kind (type_at shape root_type) (arena s).ty g)));
    root = λ n l. (0, subst (λ (n : ℕ). IsIn (arena s) 0 n) (sym (first n l)) inside, new.name, new.typed);
    one_root = λ i l t. ap (arena s).name (first i l) ∙ new.name;
  }

  start_store : IsStore s
  start_store = record {
    valid = valid;
    nested = record {
      first = begin_at;
      some = omega (arith, begin_at, end_at);
      last = ap suc end_at;
      numbered = λ k f e. absurd (none_there k f e);
      from = λ k f e. absurd (none_there k f e);
      inside = λ k f e. absurd (none_there k f e);
      before = λ j k f g l e d. absurd (none_there j f e);
      closed = λ k f e. absurd (none_there k f e);
      apart = λ j k f g e. absurd (none_there j f e);
      relics = λ k p e. absurd (none_there k p e);
      written = λ j k p f a e. absurd (none_there k f e);
    };
    rows = (
      new.row_is r 2 (omega (arith, begin_at, end_at)) (omega (arith, end_at)),
      tt,
    );
    wide = λ i n e. let o = one_there root n i e in subst (λ (n : Node). length n.row.slots ≡ width (type_at shape n.head.ty)) o.1
        (new.wide ∙ ap (λ (t : TypeNo). width (type_at shape t)) (sym new.typed));
    arena = subst (λ (n : ℕ). IsArena shape n (arena s)) (sym end_at) start_arena;
    rooted = record { some = omega arith; name = new.name; begins = lo_is };
    born = λ i l. (
      start,
      inl refl,
      record {
        first = 0;
        starts = record { there = omega arith; name = ap (arena s).name (sym (first i l)) };
        begins = lo_is ∙ sym begin_at;
        last = 0;
        stops = record { there = omega arith; name = ap (arena s).name (sym (first i l)) };
        ends = hi_is ∙ sym end_at;
        inside = λ k n.
            let z = first k n.there in
            (let lo : (arena s).lo k ≡ 0 = ap (arena s).lo z ∙ lo_is in omega (arith, lo, begin_at), let hi : (arena s).hi k ≡ 1 = ap (arena s).hi z ∙ hi_is in omega (arith, hi, end_at));
      },
    );
    versions = record {
      tree = record {
        some = omega arith;
        parents = λ v row e. absurd (none_there v row (ap (slice_get s.versions) (sym add-one_is) ∙ e));
        few = omega arith;
      };
      root = refl;
      forked = λ v row e. absurd (none_there v row e);
      apart = λ v w a b e d q. (let i = (one_there _ a v e).0 in let j = (one_there _ b w d).0 in i ∙ sym j);
      placed = λ v row e. let o = one_there _ row v e in inl (ap (λ (x : VersionRow Place). x.place) (sym o.1));
      published = λ v row e o. none_there o.forked.index o.forked.fork o.forked.at;
      counted = refl;
      made = omega arith;
      calls = omega arith;
    };
    bounded = (let none : length root.row.stamps ≡ 0 = ap (λ (es : List Stamp). length es) new.stamped in omega arith);
    few = omega arith;
    spent = omega arith;
  }
    where
      add-one_is : {v : ℕ} → v + 1 ≡ suc v
      add-one_is {v} = omega arith

  start_rested : IsRested s
  start_rested = record {
    none = refl;
    held = λ i l n. (0, omega arith, sym (first i l));
    small = λ i n e. let o = one_there root n i e in subst (λ (n : Node). length n.row.stamps ≤ capacity (type_at shape n.head.ty)) o.1
        (let none : length root.row.stamps ≡ 0 = ap (λ (es : List Stamp). length es) new.stamped in omega arith);
  }

  root_record : record_at shape (arena s) 0 0 ≡ new_record shape root_type
  root_record =
      ap (λ (u : TypeNo). record_of shape u (arena s).name (λ g. (arena s).chart.holds 0 g 0)) new.typed ∙
      (λ i. record {
        ty = root_type;
        values = listed-replicate (type_at shape root_type).values (λ g. number ((arena s).chart.holds 0 g 0)) (pos 0)
            (λ g l. ap number (at_root g 0 inside ∙ default_value (type_at shape root_type) g l)) i;
        pointers = listed-replicate (length (type_at shape root_type).targets) (λ k. denoted (arena s).name ((arena s).chart.holds 0 ((type_at shape root_type).values + k) 0)) None
            (λ k l. ap (denoted (arena s).name) (at_root ((type_at shape root_type).values + k) 0 inside
            ∙ default_pointer (type_at shape root_type) ((type_at shape root_type).values + k) (omega arith) (omega arith))) i;
      })

  start_heap : heap_at shape (arena s) (r start.begin.0) ≡ initial_heap shape
  start_heap =
      ap (heap_at shape (arena s)) begin_at
      ∙ ap (λ b. cond b (insert empty root.head.name (record_at shape (arena s) 0 0)) empty) (true-is_in (arena s) 0 0 inside)
      ∙ ap (λ (n : Name). insert empty n (record_at shape (arena s) 0 0)) new.name
      ∙ ap (λ (r : Rec). insert empty root_name r) root_record

pub start_law : StartLaw
start_law shape start root valid apart new = (start_store shape start root valid apart new, start_rested shape start root valid apart new, start_heap shape start root valid apart new)
