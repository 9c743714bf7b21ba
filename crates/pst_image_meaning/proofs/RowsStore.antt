-- The rows of a store that is made of the nodes of an image: they are well formed, as wide as their types, and of their slots' kinds.
use Rattle.std.proofs.Common.{◌≡◌, ℕ, zero, suc, ◌+◌, ◌-◌, ◌<◌, List, [], ◌∷◌, length, get_or, map, Some, refl, sym, ap, ◌∙◌, inl, inr, subst, arith}
use Rattle.std.specs.Prelude.{slice_get}
use Rattle.std.proofs.lemmas.List.{length-map, get_or-map}
use Rattle.std.proofs.lemmas.Option.{get_or_from_slice_get}
use Rattle.pst_base.specs.declared.names.TypeNo.{TypeNo}
use Rattle.pst_base.specs.declared.shape.TypeShape.{TypeShape}
use Rattle.pst_base.specs.Shape.{type_at, root_type}
use Rattle.pst_order.specs.Places.{rank}
use Rattle.pst_rows.specs.declared.content.Content.TheVariants.{Null}
use Rattle.pst_rows.specs.declared.content.Stamp.{Stamp}
use Rattle.pst_rows.specs.Rows.{no_stamp as no_stamp_of}
use Rattle.pst_rows.specs.Values.{base_in, IsBefore, AreStamps, IsValue}
use Rattle.pst_rows.specs.Parts.{IsOfParts}
use Rattle.pst_rows.proofs.OfPartsLemmas.{parts_hold}
use Rattle.pst_rows.proofs.StampLemmas.{all_before}
use Rattle.pst_mirror.specs.Charts.{AllRows}
use Rattle.pst_mirror.specs.Kinds.{HasKind as IsOfKind}
use Rattle.pst_mirror.proofs.CapacityLemmas.{slots_few}
use Rattle.pst_store_meaning.specs.Store.{Node, Stored, arena, width, AreWide}
use Rattle.pst_store_meaning.proofs.Places.{slice_get-below, slice_get-map}
use Rattle.pst_image_form.specs.declared.parts.StampPart.{StampPart}
use Rattle.pst_image_form.specs.declared.parts.NodePart.{NodePart}
use Rattle.pst_image_form.specs.declared.parts.ImageParts.{ImageParts}
use Rattle.pst_image_form.specs.Bytes.{FitsNode}
use Rattle.pst_image_rules.specs.Nodes.{no_stamp, node_at, stamp_of, slot_count, IsAfter, IsNode}
use Rattle.pst_image_rules.specs.Segments.{IsSorted}
use Rattle.pst_image_rules.proofs.Order.{all_on}
use Rattle.pst_image_meaning.proofs.Nodes.{slice_get-there, of_node-there}
use Rattle.pst_image_meaning.specs.Taken.{HasKinds}
use Rattle.pst_image_meaning.specs.Denoted.{content_of, contents_from, stamp_of as stamp_made, node_of}
use Rattle.pst_image_meaning.proofs.Given.{Given}
use Rattle.pst_image_meaning.proofs.Back.{place_count, node_count, node_is, part_there, fits_node, stamp_placed, lo_placed, hi_placed}
use Rattle.pst_image_meaning.proofs.Fitting.{kind_from}

-- ---- stamped values in order

after_on : (a s t : StampPart) → IsAfter s t → IsAfter a s → IsAfter a t
after_on a s t (inl h) (inl k) = inl (omega (arith, h, k))
after_on a s t (inl h) (inr k) = inl (omega (arith, h, k.0))
after_on a s t (inr h) (inl k) = inl (omega (arith, h.0, k))
after_on a s t (inr h) (inr k) = inr (k.0 ∙ h.0, omega (arith, h.1, k.1))

-- each stands behind all before it
far : (k : NodePart) → IsSorted k → (i j : ℕ) → i < j → j < length k.stamps → IsAfter (stamp_of k i) (stamp_of k j)
far k sorted i j l m =
    let same : (i + 1) + (j - (i + 1)) ≡ j = omega (arith, l) in
    subst (λ (n : ℕ). IsAfter (stamp_of k i) (stamp_of k n)) same
    (all_on k (IsAfter (stamp_of k i)) sorted (after_on (stamp_of k i)) (i + 1) (j - (i + 1)) (omega (arith, l, m)) (sorted.each i (omega (arith, l, m))))

before_by : (r : ℕ → ℕ) (t : TypeShape) (a b : StampPart) → r a.place ≡ a.place → r b.place ≡ b.place → IsAfter a b → IsBefore r (stamp_made t a) (stamp_made t b)
before_by r t a b p q (inl h) = record { slots = omega (arith, h); places = λ e. absurd (omega (arith, e, h)) }
before_by r t a b p q (inr h) = record { slots = omega (arith, h.0); places = λ e. omega (arith, h.1, p, q) }

-- stamped values of a list in order, each inside the life
record AreGood (r : ℕ → ℕ) (lo hi wide : ℕ) (ss : List StampPart) : Type 0 where
  pub placed : (j : ℕ) → j < length ss → r (get_or ss j no_stamp).place ≡ (get_or ss j no_stamp).place
  pub slot : (j : ℕ) → j < length ss → (get_or ss j no_stamp).slot.0 < wide
  pub after : (j : ℕ) → j < length ss → lo < (get_or ss j no_stamp).place
  pub before : (j : ℕ) → j < length ss → (get_or ss j no_stamp).place < hi
  pub far : (i j : ℕ) → i < j → j < length ss → IsAfter (get_or ss i no_stamp) (get_or ss j no_stamp)

rest : (r : ℕ → ℕ) (lo hi wide : ℕ) (s : StampPart) (ss : List StampPart) → AreGood r lo hi wide (s ∷ ss) → AreGood r lo hi wide ss
rest r lo hi wide s ss h = record {
  placed = λ j l. h.placed (suc j) (omega (arith, l));
  slot = λ j l. h.slot (suc j) (omega (arith, l));
  after = λ j l. h.after (suc j) (omega (arith, l));
  before = λ j l. h.before (suc j) (omega (arith, l));
  far = λ i j l m. h.far (suc i) (suc j) (omega (arith, l)) (omega (arith, m));
}

are_stamps : (r : ℕ → ℕ) (t : TypeShape) (lo hi wide : ℕ) (ss : List StampPart) → AreGood r lo hi wide ss → AreStamps r lo hi wide (map (stamp_made t) ss)
are_stamps r t lo hi wide [] h = tt
are_stamps r t lo hi wide (s ∷ ss) h = (
  h.slot 0 (omega arith),
  (let a = h.after 0 (omega arith) in let p = h.placed 0 (omega arith) in omega (arith, a, p)),
  (let b = h.before 0 (omega arith) in let p = h.placed 0 (omega arith) in omega (arith, b, p)),
  all_before r (stamp_made t s) (map (stamp_made t) ss) (λ j l.
      let m : j < length ss = omega (arith, l, length-map ss (stamp_made t)) in
      subst (IsBefore r (stamp_made t s)) (sym (get_or-map (stamp_made t) ss j no_stamp no_stamp_of m))
      (before_by r t s (get_or ss j no_stamp) (h.placed 0 (omega arith)) (h.placed (suc j) (omega (arith, m))) (h.far 0 (suc j) (omega arith) (omega (arith, m))))),
  are_stamps r t lo hi wide ss (rest r lo hi wide s ss h),
)

-- ---- contents of slots

pub length-contents : (t : TypeShape) (j : ℕ) (ns : List ℕ) → length (contents_from t j ns) ≡ length ns
length-contents t j [] = refl
length-contents t j (n ∷ ns) = ap suc (length-contents t (suc j) ns)

contents_at : (t : TypeShape) (j : ℕ) (ns : List ℕ) (g m : ℕ) → m ≡ j + g → g < length ns → get_or (contents_from t j ns) g Null ≡ content_of t m (get_or ns g 0)
contents_at t j [] g m e l = absurd (omega arith)
contents_at t j (n ∷ ns) zero m e l = (let same : j ≡ m = omega (arith, e) in ap (λ (m : ℕ). content_of t m n) same)
contents_at t j (n ∷ ns) (suc g) m e l = contents_at t (suc j) ns g m (omega (arith, e)) (omega (arith, l))

all_rows : (r : ℕ → ℕ) (places : ℕ) (nodes : List Node) → ((i : ℕ) (n : Node) → slice_get nodes i ≡ Some n → IsValue r places n.row) → AllRows r places (map (λ n. n.row) nodes)
all_rows r places [] h = tt
all_rows r places (n ∷ ns) h = (h 0 n refl, all_rows r places ns (λ i n e. h (suc i) n e))

module _ (s : Stored) (p : ImageParts) (h : Given s p) where
  abbrev r : ℕ → ℕ
  r = rank s.places

  -- ---- a node of a part

  module _ (k : NodePart) (n : IsNode s.shape p.places p.nodes k) (f : FitsNode k) where
    abbrev t : TypeShape
    t = type_at s.shape k.ty

    abbrev made : Node
    made = node_of s.shape k

    pub of_parts : IsOfParts made.row.lo made.row.hi (contents_from t 0 k.bases) made.row.stamps
    of_parts = parts_hold made.row.lo made.row.hi (contents_from t 0 k.bases) made.row.stamps

    pub wide_is : length made.row.slots ≡ length k.bases
    wide_is = of_parts.width ∙ length-contents t 0 k.bases

    good : AreGood r (r k.lo) (r k.hi) (length (contents_from t 0 k.bases)) k.stamps
    good = record {
      placed = stamp_placed s p h k n f;
      slot = λ j l. (let slot = (n.stamps j l).slot in omega (arith, slot, length-contents t 0 k.bases));
      after = λ j l. (let after = (n.stamps j l).after in omega (arith, after, lo_placed s p h k n f));
      before = λ j l. (let before = (n.stamps j l).before in omega (arith, before, hi_placed s p h k n f));
      far = far k (record { each = n.sorted });
    }

    value_of_part : IsValue r (length s.places) made.row
    value_of_part =
        let few = slots_few s.shape k.ty h.valid n.known in
        let life = n.life in
        let in_list = n.inside in
        of_parts.row r (length s.places) (omega (arith, life, lo_placed s p h k n f, hi_placed s p h k n f)) (omega (arith, in_list, hi_placed s p h k n f, place_count s p h))
        (omega (arith, few, n.slots, length-contents t 0 k.bases)) (are_stamps r t (r k.lo) (r k.hi) (length (contents_from t 0 k.bases)) k.stamps good)

    pub base_is : (g : ℕ) → g < length k.bases → base_in made.row g ≡ content_of t g (get_or k.bases g 0)
    base_is g l = of_parts.content g ∙ contents_at t 0 k.bases g g (omega arith) l

    kinds_of_part : (ty : ℕ → TypeNo) → ((y : ℕ) → y < length p.nodes → (node_at p.nodes y).ty.0 ≡ (ty y).0) → HasKinds t ty made.row
    kinds_of_part ty same = record {
      bases = λ g l.
          let m : g < length k.bases = omega (arith, l, wide_is) in
          subst (IsOfKind t ty g) (sym (base_is g m)) (kind_from s.shape p.nodes k.ty ty same g (omega (arith, m, n.slots)) (get_or k.bases g 0) (n.bases_fit g m));
      stamps = λ j e q.
          let x = slice_get-map (stamp_made t) k.stamps j e q in
          let l : j < length k.stamps = slice_get-below k.stamps j x.0 x.1 in
          let is : stamp_of k j ≡ x.0 = get_or_from_slice_get k.stamps j x.0 no_stamp x.1 in
          let slot : (stamp_of k j).slot.0 < slot_count t = (let slot = (n.stamps j l).slot in omega (arith, slot, n.slots)) in
          let kind = kind_from s.shape p.nodes k.ty ty same (stamp_of k j).slot.0 slot (stamp_of k j).content (n.stamps_fit j l) in
          subst (λ (e : Stamp). IsOfKind t ty e.slot.0 e.content) (ap (stamp_made t) is ∙ x.2) kind;
    }

  -- ---- all nodes

  pub is_node : (i : ℕ) → i < length p.nodes → IsNode s.shape p.places p.nodes (node_at p.nodes i)
  is_node i l = h.nodes i l

  pub value : (i : ℕ) (n : Node) → slice_get s.nodes i ≡ Some n → IsValue r (length s.places) n.row
  value i n e =
      let l = part_there s p h i n e in
      subst (λ (n : Node). IsValue r (length s.places) n.row) (sym (node_is s p h i n e)) (value_of_part (node_at p.nodes i) (is_node i l) (fits_node s p h i l))

  pub rows : AllRows r (length s.places) (map (λ n. n.row) s.nodes)
  rows = all_rows r (length s.places) s.nodes value

  pub wide : AreWide s.shape s.nodes
  wide i n e =
      let l = part_there s p h i n e in
      let k = node_at p.nodes i in
      subst (λ (n : Node). length n.row.slots ≡ width (type_at s.shape n.head.ty)) (sym (node_is s p h i n e))
      (wide_is k (is_node i l) (fits_node s p h i l) ∙ (is_node i l).slots)

  pub there : (i : ℕ) → i < length p.nodes → (n : Node) × (slice_get s.nodes i ≡ Some n)
  there i l = slice_get-there s.nodes i (omega (arith, l, node_count s p h))

  pub type_is : (i : ℕ) → i < length p.nodes → (arena s).ty i ≡ (node_at p.nodes i).ty
  type_is i l = let x = there i l in of_node-there (λ n. n.head.ty) root_type s.nodes i x.0 x.1 ∙ ap (λ (n : Node). n.head.ty) (node_is s p h i x.0 x.1)

  pub known : (i : ℕ) → i < length s.nodes → ((arena s).ty i).0 < length s.shape
  known i l =
      let m : i < length p.nodes = omega (arith, l, node_count s p h) in
      subst (λ (t : TypeNo). t.0 < length s.shape) (sym (type_is i m)) (is_node i m).known

  pub kinds : (i : ℕ) (n : Node) → slice_get s.nodes i ≡ Some n → HasKinds (type_at s.shape n.head.ty) (arena s).ty n.row
  kinds i n e =
      let l = part_there s p h i n e in
      subst (λ (n : Node). HasKinds (type_at s.shape n.head.ty) (arena s).ty n.row) (sym (node_is s p h i n e))
      (kinds_of_part (node_at p.nodes i) (is_node i l) (fits_node s p h i l) (arena s).ty (λ y m. ap (λ (t : TypeNo). t.0) (sym (type_is y m))))
