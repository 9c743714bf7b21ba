-- What a store shows denotes its nodes.
use mathlib.Core.Path.{fun_ext}
use Rattle.std.proofs.Common.{◌≡◌, ℕ, zero, suc, ◌+◌, ◌<◌, ◌&&◌, ◌==◌, cond, List, [], ◌∷◌, length, get_or, map, Option, Some, None, refl, sym, ap, ap₂, ◌∙◌, subst, arith}
use Rattle.std.specs.Prelude.{slice_get}
use Rattle.std.specs.Option.{option_map}
use Rattle.std.proofs.lemmas.List.{length-map}
use Rattle.pst_base.specs.declared.names.NodeId.{NodeId}
use Rattle.pst_base.specs.declared.names.TypeNo.{TypeNo}
use Rattle.pst_base.specs.declared.shape.TypeShape.{TypeShape}
use Rattle.pst_base.specs.Name.{root_name}
use Rattle.pst_base.specs.Shape.{type_at, root_type}
use Rattle.pst_order.specs.Places.{rank}
use Rattle.pst_rows.specs.declared.content.Content.{Content}
use Rattle.pst_rows.specs.declared.content.Content.TheVariants.{Number, Null, Free, Target as TargetOf, From as FromOf}
use Rattle.pst_rows.specs.Slots.{SlotValue as Slot}
use Rattle.pst_rows.specs.declared.content.Stamp.{Stamp}
use Rattle.pst_rows.specs.Rows.{no_stamp}
use Rattle.pst_rows.specs.Timeline.{in_force, is_edge}
use Rattle.pst_rows.specs.Values.{no_slot, stamp_at, stamps_in, base_in, edge_in}
use Rattle.pst_rows.proofs.OfPartsLemmas.{parts_hold}
use Rattle.pst_rows.proofs.StampLemmas.{stamp_inside}
use Rattle.pst_mirror.specs.Charts.{is_alive, row_holds, rows_hold, rows_edge}
use Rattle.pst_mirror.specs.Kinds.{HasKind as IsOfKind}
use Rattle.pst_store_meaning.specs.Arena.{IsIn}
use Rattle.pst_store_meaning.specs.Store.{Node, Stored, of_node, arena, IsStore}
use Rattle.pst_image_meaning.specs.Parts.{content_number, link_number, stamp_part, node_part, node_parts}
use Rattle.pst_image_meaning.proofs.Nodes.{value, type_is, in_life, entry_small, base_held, lives_at, stamp_held}
use Rattle.pst_image_meaning.specs.Denoted.{content_of, contents_from, stamp_of, link_of, node_of, nodes_of, IsShortContent, AreShort}
use Rattle.pst_image_meaning.specs.Laws.{ShownDenotesLaw}
use Rattle.pst_image_meaning.proofs.Numbers.{HasSmallField, content_back}

-- ---- a row of what is shown

bases_back : (t : TypeShape) (j : ℕ) (slots : List Slot)
    → ((g m : ℕ) → m ≡ j + g → g < length slots → content_of t m (content_number (get_or slots g no_slot).content) ≡ (get_or slots g no_slot).content)
    → (g : ℕ) → get_or (contents_from t j (map (λ c. content_number c.content) slots)) g Null ≡ (get_or slots g no_slot).content
bases_back t j [] h g = refl
bases_back t j (c ∷ cs) h zero = h 0 j (omega arith) (omega arith)
bases_back t j (c ∷ cs) h (suc g) = bases_back t (suc j) cs (λ g m e l. h (suc g) m (omega (arith, e)) (omega (arith, l))) g

stamps_back : (t : TypeShape) (r : ℕ → ℕ) (es : List Stamp)
    → ((k : ℕ) → k < length es → content_of t (get_or es k no_stamp).slot.0 (content_number (get_or es k no_stamp).content) ≡ (get_or es k no_stamp).content)
    → (g m : ℕ) → stamp_at (λ n. n) (map (stamp_of t) (map (stamp_part r) es)) g m ≡ stamp_at r es g m
stamps_back t r [] h g m = refl
stamps_back t r (e ∷ es) h g m =
    ap₂ (λ (c : Content) (o : Option Content). cond ((e.slot.0 == g) && (r e.place.0 == m)) (Some c) o) (h 0 (omega arith)) (stamps_back t r es (λ k l. h (suc k) (omega (arith, l))) g m)

-- each content of a node is that of its number
record IsBack (shape : List TypeShape) (n : Node) : Type 0 where
  pub bases : (g : ℕ) → g < length n.row.slots → content_of (type_at shape n.head.ty) g (content_number (base_in n.row g)) ≡ base_in n.row g
  pub stamps : (k : ℕ) → k < length n.row.stamps →
      content_of (type_at shape n.head.ty) (get_or n.row.stamps k no_stamp).slot.0 (content_number (get_or n.row.stamps k no_stamp).content) ≡ (get_or n.row.stamps k no_stamp).content

module _ (r : ℕ → ℕ) (shape : List TypeShape) where
  abbrev back : Node → Node
  back n = node_of shape (node_part r n)

  module _ (n : Node) (h : IsBack shape n) where
    base_same : (g : ℕ) → base_in (back n).row g ≡ base_in n.row g
    base_same g =
        (parts_hold (back n).row.lo (back n).row.hi (contents_from (type_at shape n.head.ty) 0 (node_part r n).bases) (back n).row.stamps).content g
        ∙ bases_back (type_at shape n.head.ty) 0 n.row.slots (λ g m e l. subst
        (λ (m : ℕ). content_of (type_at shape n.head.ty) m (content_number (base_in n.row g)) ≡ base_in n.row g)
        (sym (let q : m ≡ g = omega (arith, e) in q)) (h.bases g l)) g

    stamps_same : (g : ℕ) → stamps_in (λ n. n) (back n).row g ≡ stamps_in r n.row g
    stamps_same g = fun_ext (λ m. stamps_back (type_at shape n.head.ty) r n.row.stamps h.stamps g m)

    holds_same : (g m : ℕ) → row_holds (λ n. n) (back n).row g m ≡ row_holds r n.row g m
    holds_same g m = ap (λ (c : Content). cond (is_alive r n.row m) c Null) (ap₂ (λ (st : ℕ → Option Content) (b : Content). in_force st b m) (stamps_same g) (base_same g))

    edge_same : (g m : ℕ) → edge_in (λ n. n) (back n).row g m ≡ edge_in r n.row g m
    edge_same g m = ap (λ (st : ℕ → Option Content). is_edge st (r n.row.lo.0) (r n.row.hi.0) m) (stamps_same g)

  link_same : (o : Option NodeId) → option_map (λ i. i.0) (link_of (link_number o)) ≡ option_map (λ i. i.0) o
  link_same None = refl
  link_same (Some i) = refl

  of_node-same : {A : Type 0} (f h : Node → A) (other : A) (nodes : List Node) → ((n : Node) → f (back n) ≡ h n) → (i : ℕ)
      → of_node f other (nodes_of shape (map (node_part r) nodes)) i ≡ of_node h other nodes i
  of_node-same f h other [] e i = refl
  of_node-same f h other (n ∷ ns) e zero = e n
  of_node-same f h other (n ∷ ns) e (suc i) = of_node-same f h other ns e i

  rows_same : (nodes : List Node) → ((i : ℕ) (n : Node) → slice_get nodes i ≡ Some n → IsBack shape n) → (i g m : ℕ)
      → rows_hold (λ n. n) (map (λ n. n.row) (nodes_of shape (map (node_part r) nodes))) i g m ≡ rows_hold r (map (λ n. n.row) nodes) i g m
  rows_same [] h i g m = refl
  rows_same (n ∷ ns) h zero g m = holds_same n (h 0 n refl) g m
  rows_same (n ∷ ns) h (suc i) g m = rows_same ns (λ i n e. h (suc i) n e) i g m

  edges_same : (nodes : List Node) → ((i : ℕ) (n : Node) → slice_get nodes i ≡ Some n → IsBack shape n) → (i g m : ℕ)
      → rows_edge (λ n. n) (map (λ n. n.row) (nodes_of shape (map (node_part r) nodes))) i g m ≡ rows_edge r (map (λ n. n.row) nodes) i g m
  edges_same [] h i g m = refl
  edges_same (n ∷ ns) h zero g m = edge_same n (h 0 n refl) g m
  edges_same (n ∷ ns) h (suc i) g m = edges_same ns (λ i n e. h (suc i) n e) i g m

-- ---- a store

module _ (s : Stored) (h : IsStore s) (short : AreShort s) where
  abbrev r : ℕ → ℕ
  r = rank s.places

  -- the field of an entry that is held is small
  small_field : (i g m : ℕ) (c : Content) → (arena s).chart.holds i g m ≡ c → HasSmallField c
  small_field i g m (Number z) e = tt
  small_field i g m Null e = tt
  small_field i g m (TargetOf y) e = tt
  small_field i g m Free e = tt
  small_field i g m (FromOf x f) e = entry_small s h i g m x.0 f.0 e

  module _ (i : ℕ) (n : Node) (e : slice_get s.nodes i ≡ Some n) where
    held_back : (g m : ℕ) (c : Content) → IsIn (arena s) i m → g < length n.row.slots → (arena s).chart.holds i g m ≡ c → IsShortContent c
        → content_of (type_at s.shape n.head.ty) g (content_number c) ≡ c
    held_back g m c a l held fits =
        let kind = subst (λ (t : TypeNo). IsOfKind (type_at s.shape t) (arena s).ty g c) (type_is s h i n e)
        (subst (λ (c : Content). IsOfKind (type_at s.shape ((arena s).ty i)) (arena s).ty g c) held (h.arena.kinds i g m a)) in
        content_back (type_at s.shape n.head.ty) (arena s).ty g c (omega (arith, l, h.wide i n e)) kind fits (small_field i g m c held)

    is_back : IsBack s.shape n
    is_back = record {
      bases = λ g l. held_back g (r n.row.lo.0) (base_in n.row g) (in_life s h i n e (r n.row.lo.0) (omega arith) (value s h i n e).life) l (base_held s h i n e g) ((short i n e).bases g l);
      stamps = λ k l.
          let st = get_or n.row.stamps k no_stamp in
          let slot = (stamp_inside r (r n.row.lo.0) (r n.row.hi.0) (length n.row.slots) n.row.stamps (value s h i n e).stamps k l).0 in
          held_back st.slot.0 (r st.place.0) st.content (lives_at s h i n e k l) slot (stamp_held s h i n e k l) ((short i n e).stamps k l);
    }

pub shown_denotes : ShownDenotesLaw
shown_denotes s text next budget h short = λ i. record {
  count = (length-map (node_parts s) (node_of s.shape) ∙ length-map s.nodes (node_part r)) i;
  name = fun_ext (of_node-same r s.shape (λ n. n.head.name) (λ n. n.head.name) root_name s.nodes (λ n. refl)) i;
  ty = fun_ext (of_node-same r s.shape (λ n. n.head.ty) (λ n. n.head.ty) root_type s.nodes (λ n. refl)) i;
  lo = fun_ext (of_node-same r s.shape (λ n. n.row.lo.0) (λ n. r n.row.lo.0) 0 s.nodes (λ n. refl)) i;
  hi = fun_ext (of_node-same r s.shape (λ n. n.row.hi.0) (λ n. r n.row.hi.0) 0 s.nodes (λ n. refl)) i;
  later = fun_ext (of_node-same r s.shape (λ n. option_map (λ i. i.0) n.head.later) (λ n. option_map (λ i. i.0) n.head.later) None s.nodes (λ n. link_same r s.shape n.head.later)) i;
  stamped = fun_ext (of_node-same r s.shape (λ n. length n.row.stamps) (λ n. length n.row.stamps) 0 s.nodes
      (λ n. length-map (map (stamp_part r) n.row.stamps) (stamp_of (type_at s.shape n.head.ty)) ∙ length-map n.row.stamps (stamp_part r))) i;
  chart = record {
    holds = fun_ext (λ x. fun_ext (λ g. fun_ext (λ m. rows_same r s.shape s.nodes back x g m))) i;
    edge = fun_ext (λ x. fun_ext (λ g. fun_ext (λ m. edges_same r s.shape s.nodes back x g m))) i;
  };
}
  where
    r : ℕ → ℕ
    r = rank s.places

    back : (i : ℕ) (n : Node) → slice_get s.nodes i ≡ Some n → IsBack s.shape n
    back = is_back s h short
