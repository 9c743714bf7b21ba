-- What a store shows keeps the mirror rule, segment by segment.
use Rattle.std.proofs.Common.{◌≡◌, ◌≢◌, ℕ, zero, suc, ◌<◌, ◌≤◌, true, false, List, [], ◌∷◌, length, map, Some, refl, sym, ap, ◌∙◌, subst, ⊎_elim, arith}
use Rattle.std.specs.Prelude.{slice_get}
use Rattle.std.proofs.lemmas.Bool.{cases_eq, cases_lt}
use Rattle.pst_base.specs.declared.shape.TypeShape.{TypeShape}
use Rattle.pst_base.specs.Shape.{type_at, element_count}
use Rattle.pst_order.specs.Places.{rank}
use Rattle.pst_rows.specs.declared.content.Content.{Content}
use Rattle.pst_rows.specs.declared.content.Content.TheVariants.{Number, Null, Free, Target as TargetOf, From as FromOf}
use Rattle.pst_rows.specs.Values.{edge_in}
use Rattle.pst_mirror.specs.Mirror.{Chart}
use Rattle.pst_mirror.specs.Contents.{Target, From}
use Rattle.pst_mirror.specs.Charts.{rows_edge}
use Rattle.pst_mirror.specs.Kinds.{HasKind as IsOfKind}
use Rattle.pst_mirror.specs.Segments.{IsSegmentOf, AreSegmentsMirrored}
use Rattle.pst_mirror.proofs.ChartLemmas.{charts_steady}
use Rattle.pst_mirror.proofs.KindLemmas.{pointer_field}
use Rattle.pst_mirror.proofs.SegmentLemmas.{segments_from_positions}
use Rattle.pst_store_meaning.specs.Arena.{IsIn}
use Rattle.pst_store_meaning.specs.Store.{Node, Stored, arena, IsStore}
use Rattle.pst_image_form.specs.declared.parts.NodePart.{NodePart}
use Rattle.pst_image_rules.specs.Nodes.{node_at, entry, slot_count}
use Rattle.pst_image_rules.specs.Segments.{begins, ends}
use Rattle.pst_image_rules.specs.Mirror.{IsPointerSlot, IsInverseSlot, shape_of, ArePointersEntered, AreEntriesPointed}
use Rattle.pst_image_rules.specs.Sides.{AreTyped}
use Rattle.pst_image_rules.specs.Laws.{IsSegment}
use Rattle.pst_image_rules.proofs.Following.{segments_follow}
use Rattle.pst_image_meaning.specs.Parts.{content_number, node_part, node_parts}
use Rattle.pst_image_meaning.proofs.RowsParts.{begun, begins_held, piece, last_edge}
use Rattle.pst_image_meaning.proofs.Nodes.{slice_get-there, count, there, part_at, value, lo_is, hi_is, part_type, in_life, held, from_lives, target_lives, kind_of, entry_small, are_nodes}

pub edge-there : (r : ℕ → ℕ) (nodes : List Node) (i : ℕ) (n : Node) → slice_get nodes i ≡ Some n → (g m : ℕ) → rows_edge r (map (λ n. n.row) nodes) i g m ≡ edge_in r n.row g m
edge-there r [] i n e g m = absurd (cc)
edge-there r (x ∷ xs) zero n e g m = (let same : x ≡ n = cc in ap (λ (n : Node). edge_in r n.row g m) same)
edge-there r (x ∷ xs) (suc i) n e g m = edge-there r xs i n e g m

-- two segments that begin together end together
pub one_end : (w : Chart) (x f a c d : ℕ) → IsSegmentOf w x f a c → IsSegmentOf w x f a d → c ≡ d
one_end w x f a c d p q = ⊎_elim
    (λ (e : c ≡ d). e)
    (λ (ne : c ≢ d). absurd (⊎_elim
    (λ (l : c < d). let off = q.whole c p.some l in let on = p.ends in let no : true ≡ false = sym on ∙ off in cc)
    (λ (l : d ≤ c). let off = p.whole d q.some (omega (arith, l, ne)) in let on = q.ends in let no : true ≡ false = sym on ∙ off in cc)
    (cases_lt c d)))
    (cases_eq c d)

-- no edge lies inside a segment
ends_by : (w : Chart) (x f a c m : ℕ) → IsSegmentOf w x f a c → a < m → w.edge x f m ≡ true → c ≤ m
ends_by w x f a c m p l on = ⊎_elim
    (λ (k : m < c). absurd (let off = p.whole m l k in let no : true ≡ false = sym on ∙ off in cc))
    (λ (k : c ≤ m). k)
    (cases_lt m c)

module _ (s : Stored) (h : IsStore s) where
  abbrev r : ℕ → ℕ
  r = rank s.places

  abbrev ks : List NodePart
  ks = node_parts s

  abbrev w : Chart
  w = (arena s).chart

  typed : AreTyped s.shape ks
  typed = (length s.places, are_nodes s h)

  mirrored : AreSegmentsMirrored w
  mirrored = segments_from_positions w (charts_steady r (length s.places) (map (λ n. n.row) s.nodes) h.rows) h.arena.mirrored

  -- what is so where a segment of a node's part begins
  record IsShown (k : NodePart) (i g a c : ℕ) : Type 0 where
    pub lives : IsIn (arena s) i a
    pub segment : IsSegmentOf w i g a (ends k g a)
    pub content : c ≡ content_number (w.holds i g a)

  edge : (i : ℕ) (n : Node) → slice_get s.nodes i ≡ Some n → (g m : ℕ) → w.edge i g m ≡ edge_in r n.row g m
  edge i n e g m = edge-there r s.nodes i n e g m

  shown_at : (i : ℕ) (n : Node) → slice_get s.nodes i ≡ Some n → (g a c : ℕ) → begins (node_part r n) g a ≡ Some c → IsSegment (node_part r n) g a → IsShown (node_part r n) i g a c
  shown_at i n e g a c b f =
      let x = begun r (length s.places) n (value s h i n e) g a c b in
      let p = piece r (length s.places) n (value s h i n e) g a c b f in
      record {
        lives = in_life s h i n e a x.low x.high;
        segment = record {
          begins = edge i n e g a ∙ p.begins;
          ends = edge i n e g (ends (node_part r n) g a) ∙ p.ends;
          some = p.some;
          whole = λ m l k. edge i n e g m ∙ p.whole m l k;
        };
        content = x.content ∙ ap content_number (sym (held s h i n e g a x.low x.high));
      }

  shown : (i g a c : ℕ) → i < length ks → begins (node_at ks i) g a ≡ Some c → IsShown (node_at ks i) i g a c
  shown i g a c l b =
      let x = there s h i l in
      let same = part_at s h i x.0 x.1 in
      let f = segments_follow s.shape ks i g a c typed l b in
      subst (λ (k : NodePart). IsShown k i g a c) (sym same)
      (shown_at i x.0 x.1 g a c (subst (λ (k : NodePart). begins k g a ≡ Some c) same b) (subst (λ (k : NodePart). IsSegment k g a) same f))

  -- where a segment of the store begins, one of the part does
  record IsBack (i g a c : ℕ) : Type 0 where
    pub held : begins (node_at ks i) g a ≡ Some (content_number (w.holds i g a))
    pub until : ends (node_at ks i) g a ≡ c

  back : (i g a c : ℕ) → IsIn (arena s) i a → IsSegmentOf w i g a c → IsBack i g a c
  back i g a c l p =
      let x = slice_get-there s.nodes i l.there in
      let low : r x.0.row.lo.0 ≤ a = (let q = l.low in omega (arith, q, lo_is s h i x.0 x.1)) in
      let high : a < r x.0.row.hi.0 = (let q = l.high in omega (arith, q, hi_is s h i x.0 x.1)) in
      let b = begins_held r (length s.places) x.0 (value s h i x.0 x.1) g a low high (sym (edge i x.0 x.1 g a) ∙ p.begins) in
      let is : begins (node_at ks i) g a ≡ Some (content_number (w.holds i g a)) =
      ap (λ (k : NodePart). begins k g a) (part_at s h i x.0 x.1) ∙ b ∙ ap (λ (c : Content). Some (content_number c)) (sym (held s h i x.0 x.1 g a low high)) in
      let there : i < length ks = (let t = l.there in omega (arith, t, count s h)) in
      let f = shown i g a (content_number (w.holds i g a)) there is in
      record { held = is; until = one_end w i g a (ends (node_at ks i) g a) c f.segment p }

  -- ---- contents by their numbers

  pointer_content : (i g a y : ℕ) → IsIn (arena s) i a → IsPointerSlot (kind_of s h i) g → suc y ≡ content_number (w.holds i g a) → w.holds i g a ≡ Target y
  pointer_content i g a y l slot same = by (w.holds i g a) refl (h.arena.kinds i g a l) same
    where
      by : (c : Content) → w.holds i g a ≡ c → IsOfKind (kind_of s h i) (arena s).ty g c → suc y ≡ content_number c → w.holds i g a ≡ Target y
      by (Number z) e k q = absurd (let low = slot.from in omega (arith, low, k))
      by Null e k q = absurd (omega (arith, q))
      by (TargetOf z) e k q = (let one : z.0 ≡ y = omega (arith, q) in e ∙ ap Target one)
      by Free e k q = absurd (omega (arith, q))
      by (FromOf x f) e k q = absurd (let low = slot.below in let high = k.from in omega (arith, low, high))

  entry_content : (i g a x f : ℕ) → f < 128 → IsIn (arena s) i a → IsInverseSlot (kind_of s h i) g → entry x f ≡ content_number (w.holds i g a) → w.holds i g a ≡ From x f
  entry_content i g a x f small l slot same = by (w.holds i g a) refl (h.arena.kinds i g a l) same
    where
      by : (c : Content) → w.holds i g a ≡ c → IsOfKind (kind_of s h i) (arena s).ty g c → entry x f ≡ content_number c → w.holds i g a ≡ From x f
      by (Number z) e k q = absurd (let low = slot.from in omega (arith, low, k))
      by Null e k q = absurd (omega (arith, q))
      by (TargetOf z) e k q = absurd (let low = slot.from in let high = (pointer_field (kind_of s h i) g ((arena s).ty z.0) k).1 in omega (arith, low, high))
      by Free e k q = absurd (omega (arith, q))
      by (FromOf y d) e k q =
          let few = entry_small s h i g a y.0 d.0 e in
          let one : y.0 ≡ x = omega (arith, q, few, small) in
          let two : d.0 ≡ f = omega (arith, q, few, small) in
          e ∙ ap (λ (n : ℕ). From n d.0) one ∙ ap (λ (n : ℕ). From x n) two

  -- ---- the rules

  pub part_lo : (i : ℕ) → i < length ks → (node_at ks i).lo ≡ (arena s).lo i
  part_lo i l = let x = there s h i l in ap (λ (k : NodePart). k.lo) (part_at s h i x.0 x.1) ∙ sym (lo_is s h i x.0 x.1)

  pub part_hi : (i : ℕ) → i < length ks → (node_at ks i).hi ≡ (arena s).hi i
  part_hi i l = let x = there s h i l in ap (λ (k : NodePart). k.hi) (part_at s h i x.0 x.1) ∙ sym (hi_is s h i x.0 x.1)

  last : (i g : ℕ) → i < length ks → w.edge i g ((arena s).hi i) ≡ true
  last i g l =
      let x = there s h i l in
      ap (w.edge i g) (hi_is s h i x.0 x.1) ∙ edge i x.0 x.1 g (r x.0.row.hi.0) ∙ last_edge r (length s.places) x.0 (value s h i x.0 x.1) g

  shape_is : (i : ℕ) → i < length ks → shape_of s.shape ks i ≡ kind_of s h i
  shape_is i l = ap (type_at s.shape) (part_type s h i l)

  pub entered : ArePointersEntered s.shape ks
  entered x f a l slot y b =
      let p = shown x f a (suc y) l b in
      let t = pointer_content x f a y p.lives (subst (λ (t : TypeShape). IsPointerSlot t f) (shape_is x l) slot) p.content in
      let m = mirrored.pointers x f a (ends (node_at ks x) f a) y p.segment t in
      let in_y = from_lives s h y m.0 a x f m.2 in
      let at : y < length ks = (let t = in_y.there in omega (arith, t, count s h)) in
      let q = back y m.0 a (ends (node_at ks x) f a) in_y m.1 in
      let inverse = subst (λ (c : Content). IsOfKind (kind_of s h y) (arena s).ty m.0 c) m.2 (h.arena.kinds y m.0 a in_y) in
      let elements : element_count (shape_of s.shape ks y) ≡ element_count (kind_of s h y) = ap element_count (shape_is y at) in
      let slots : slot_count (shape_of s.shape ks y) ≡ slot_count (kind_of s h y) = ap slot_count (shape_is y at) in
      let small = entry_small s h y m.0 a x f m.2 in
      record {
        low = (let q = in_y.low in omega (arith, q, part_lo y at));
        high = (let q = in_y.high in omega (arith, part_hi y at, ends_by w y m.0 a (ends (node_at ks x) f a) ((arena s).hi y) m.1 q (last y m.0 at)));
        one = (
          m.0,
          (let q = inverse.from in omega (arith, q, elements)),
          (let q = inverse.below in omega (arith, q, slots)),
          record { held = q.held ∙ ap (λ (c : Content). Some (content_number c)) m.2; until = q.until },
          λ t low high has.
              let o = shown y t a (entry x f) at has.held in
              let c = entry_content y t a x f small o.lives (record { from = omega (arith, low, elements); below = omega (arith, high, slots) }) o.content in
              m.3 t (subst (IsSegmentOf w y t a) has.until o.segment) c,
        );
      }

  pub pointed : AreEntriesPointed s.shape ks
  pointed y g a l slot x f small b =
      let p = shown y g a (entry x f) l b in
      let c = entry_content y g a x f small p.lives (subst (λ (t : TypeShape). IsInverseSlot t g) (shape_is y l) slot) p.content in
      let m = mirrored.entries y g a (ends (node_at ks y) g a) x f p.segment c in
      let q = back x f a (ends (node_at ks y) g a) (target_lives s h x f a y m.1) m.0 in
      record { held = q.held ∙ ap (λ (c : Content). Some (content_number c)) m.1; until = q.until }
