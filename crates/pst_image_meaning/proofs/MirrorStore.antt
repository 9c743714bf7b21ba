-- The pointers and entries of a store that is made of an image match, segment by segment.
use Rattle.std.proofs.Common.{◌≡◌, ◌≢◌, ℕ, suc, ◌<◌, ◌≤◌, true, false, cond, List, length, Some, sym, ap, ◌∙◌, subst, ⊎_elim, arith}
use Rattle.std.specs.Prelude.{slice_get}
use Rattle.std.proofs.lemmas.Bool.{cases_Bool}
use Rattle.pst_base.specs.declared.names.TypeNo.{TypeNo}
use Rattle.pst_order.specs.Places.{rank}
use Rattle.pst_rows.specs.declared.content.Content.{Content}
use Rattle.pst_rows.specs.declared.content.Content.TheVariants.{Null}
use Rattle.pst_rows.specs.Values.{content_in, edge_in}
use Rattle.pst_mirror.specs.Mirror.{Chart}
use Rattle.pst_mirror.specs.Contents.{Target, From}
use Rattle.pst_mirror.specs.Segments.{IsSegmentOf, AreSegmentsMirrored}
use Rattle.pst_mirror.proofs.ChartLemmas.{alive}
use Rattle.pst_store_meaning.specs.Arena.{IsIn, is_in}
use Rattle.pst_store_meaning.specs.Store.{Node, Stored, arena}
use Rattle.pst_store_meaning.proofs.Concrete.{drawn}
use Rattle.pst_store_meaning.proofs.HeapLaws.{is_in-true}
use Rattle.pst_store_meaning.proofs.Places.{slice_get-below}
use Rattle.pst_image_form.specs.declared.parts.NodePart.{NodePart}
use Rattle.pst_image_form.specs.declared.parts.ImageParts.{ImageParts}
use Rattle.pst_image_rules.specs.Nodes.{no_node, node_at, entry}
use Rattle.pst_image_rules.specs.Segments.{begins, ends}
use Rattle.pst_image_rules.specs.Mirror.{IsPointerSlot, shape_of}
use Rattle.pst_image_rules.specs.Sides.{AreTyped}
use Rattle.pst_image_rules.specs.Laws.{IsSegment}
use Rattle.pst_image_rules.proofs.MirrorSizes.{few_elements}
use Rattle.pst_image_rules.proofs.Following.{segments_follow}
use Rattle.pst_image_meaning.specs.Parts.{content_number, node_part}
use Rattle.pst_image_meaning.proofs.RowsParts.{begun, begins_held, piece}
use Rattle.pst_image_meaning.proofs.MirrorParts.{edge-there, one_end}
use Rattle.pst_image_meaning.proofs.Nodes.{part_in, of_node-there, holds-there, slice_get-there}
use Rattle.pst_image_meaning.proofs.Given.{Given}
use Rattle.pst_image_meaning.proofs.Back.{node_count, nodes_shown}
use Rattle.pst_image_meaning.proofs.RowsStore.{value, rows, there}
use Rattle.pst_image_meaning.proofs.Contents.{IsAny, IsPointerOf, IsEntryOf, pointer_by, entry_by, is_pointer, is_entry, any}

module _ (s : Stored) (p : ImageParts) (h : Given s p) where
  abbrev r : ℕ → ℕ
  r = rank s.places

  abbrev ks : List NodePart
  ks = p.nodes

  abbrev w : Chart
  w = (arena s).chart

  typed : AreTyped s.shape ks
  typed = (p.places, h.nodes)

  part_at : (i : ℕ) (n : Node) → slice_get s.nodes i ≡ Some n → node_at ks i ≡ node_part r n
  part_at i n e = ap (λ (ks : List NodePart). node_at ks i) (sym (nodes_shown s p h)) ∙ part_in (node_part r) no_node s.nodes i n e

  in_parts : (i m : ℕ) → IsIn (arena s) i m → i < length ks
  in_parts i m a = (let l = a.there in omega (arith, l, node_count s p h))

  -- ---- what is held while a node lives

  lo_of : (i : ℕ) (n : Node) → slice_get s.nodes i ≡ Some n → (arena s).lo i ≡ r n.row.lo.0
  lo_of i n e = of_node-there (λ n. r n.row.lo.0) 0 s.nodes i n e

  hi_of : (i : ℕ) (n : Node) → slice_get s.nodes i ≡ Some n → (arena s).hi i ≡ r n.row.hi.0
  hi_of i n e = of_node-there (λ n. r n.row.hi.0) 0 s.nodes i n e

  held : (i : ℕ) (n : Node) → slice_get s.nodes i ≡ Some n → (g m : ℕ) → r n.row.lo.0 ≤ m → m < r n.row.hi.0 → w.holds i g m ≡ content_in r n.row g m
  held i n e g m low high = holds-there r s.nodes i n e g m ∙ ap (λ b. cond b (content_in r n.row g m) Null) (alive r n.row m low high)

  lives : (i g m : ℕ) → w.holds i g m ≢ Null → IsIn (arena s) i m
  lives i g m some = ⊎_elim
      (λ (e : is_in (arena s) i m ≡ true). is_in-true (arena s) i m e)
      (λ (e : is_in (arena s) i m ≡ false). absurd (some ((drawn r (length s.places) s.nodes (rows s p h)).outside i g m e)))
      (cases_Bool (is_in (arena s) i m))

  from_lives : (i g m x f : ℕ) → w.holds i g m ≡ From x f → IsIn (arena s) i m
  from_lives i g m x f e = lives i g m (λ z. let no : From x f ≡ Null = sym e ∙ z in absurd cc)

  target_lives : (i g m y : ℕ) → w.holds i g m ≡ Target y → IsIn (arena s) i m
  target_lives i g m y e = lives i g m (λ z. let no : Target y ≡ Null = sym e ∙ z in absurd cc)

  any_at : (i g m : ℕ) → IsIn (arena s) i m → IsAny s.shape ks (node_at ks i).ty g (w.holds i g m)
  any_at i g m a =
      let x = slice_get-there s.nodes i a.there in
      let low : r x.0.row.lo.0 ≤ m = (let q = a.low in omega (arith, q, lo_of i x.0 x.1)) in
      let high : m < r x.0.row.hi.0 = (let q = a.high in omega (arith, q, hi_of i x.0 x.1)) in
      subst (λ (t : TypeNo). IsAny s.shape ks t g (w.holds i g m)) (sym (ap (λ (k : NodePart). k.ty) (part_at i x.0 x.1)))
      (subst (IsAny s.shape ks x.0.head.ty g) (sym (held i x.0 x.1 g m low high)) (any s p h i x.0 x.1 g m))

  -- ---- segments of parts, and of the store

  -- what is so where a segment of a part begins
  record IsShown (k : NodePart) (i g a c : ℕ) : Type 0 where
    pub lives : IsIn (arena s) i a
    pub segment : IsSegmentOf w i g a (ends k g a)
    pub content : c ≡ content_number (w.holds i g a)

  edge : (i : ℕ) (n : Node) → slice_get s.nodes i ≡ Some n → (g m : ℕ) → w.edge i g m ≡ edge_in r n.row g m
  edge i n e g m = edge-there r s.nodes i n e g m

  shown_at : (i : ℕ) (n : Node) → slice_get s.nodes i ≡ Some n → (g a c : ℕ) → begins (node_part r n) g a ≡ Some c → IsSegment (node_part r n) g a → IsShown (node_part r n) i g a c
  shown_at i n e g a c b f =
      let v = value s p h i n e in
      let x = begun r (length s.places) n v g a c b in
      let q = piece r (length s.places) n v g a c b f in
      let low = x.low in
      let high = x.high in
      record {
        lives = record { there = slice_get-below s.nodes i n e; low = omega (arith, low, lo_of i n e); high = omega (arith, high, hi_of i n e) };
        segment = record {
          begins = edge i n e g a ∙ q.begins;
          ends = edge i n e g (ends (node_part r n) g a) ∙ q.ends;
          some = q.some;
          whole = λ m l k. edge i n e g m ∙ q.whole m l k;
        };
        content = x.content ∙ ap content_number (sym (held i n e g a low high));
      }

  shown : (i g a c : ℕ) → i < length ks → begins (node_at ks i) g a ≡ Some c → IsShown (node_at ks i) i g a c
  shown i g a c l b =
      let x = there s p h i l in
      let same = part_at i x.0 x.1 in
      let f = segments_follow s.shape ks i g a c typed l b in
      subst (λ (k : NodePart). IsShown k i g a c) (sym same)
      (shown_at i x.0 x.1 g a c (subst (λ (k : NodePart). begins k g a ≡ Some c) same b) (subst (λ (k : NodePart). IsSegment k g a) same f))

  -- where a segment of the store begins, one of the part does
  record IsBack (i g a c : ℕ) : Type 0 where
    pub held : begins (node_at ks i) g a ≡ Some (content_number (w.holds i g a))
    pub until : ends (node_at ks i) g a ≡ c

  back : (i g a c : ℕ) → IsIn (arena s) i a → IsSegmentOf w i g a c → IsBack i g a c
  back i g a c l q =
      let x = slice_get-there s.nodes i l.there in
      let low : r x.0.row.lo.0 ≤ a = (let q = l.low in omega (arith, q, lo_of i x.0 x.1)) in
      let high : a < r x.0.row.hi.0 = (let q = l.high in omega (arith, q, hi_of i x.0 x.1)) in
      let b = begins_held r (length s.places) x.0 (value s p h i x.0 x.1) g a low high (sym (edge i x.0 x.1 g a) ∙ q.begins) in
      let is : begins (node_at ks i) g a ≡ Some (content_number (w.holds i g a)) =
      ap (λ (k : NodePart). begins k g a) (part_at i x.0 x.1) ∙ b ∙ ap (λ (c : Content). Some (content_number c)) (sym (held i x.0 x.1 g a low high)) in
      let f = shown i g a (content_number (w.holds i g a)) (in_parts i a l) is in
      record { held = is; until = one_end w i g a (ends (node_at ks i) g a) c f.segment q }

  -- ---- the rule

  target_at : (x f a y : ℕ) (e : w.holds x f a ≡ Target y) → IsPointerOf (shape_of s.shape ks x) ks f y
  target_at x f a y e = is_pointer s.shape ks (node_at ks x).ty f (w.holds x f a) y e (any_at x f a (target_lives x f a y e))

  entry_at : (y g a x f : ℕ) (e : w.holds y g a ≡ From x f) → IsEntryOf s.shape (shape_of s.shape ks y) ks g x f
  entry_at y g a x f e = is_entry s.shape ks (node_at ks y).ty g (w.holds y g a) x f e (any_at y g a (from_lives y g a x f e))

  -- the field of a pointer is small
  small_field : (x f : ℕ) → x < length ks → IsPointerSlot (shape_of s.shape ks x) f → f < 128
  small_field x f l slot = (let below = slot.below in let few = few_elements s.shape (node_at ks x).ty h.valid (h.nodes x l).known in omega (arith, below, few))

  pub segments : AreSegmentsMirrored w
  segments = record {
    pointers = λ x f a c y q e.
        let lives = target_lives x f a y e in
        let l = in_parts x a lives in
        let at = target_at x f a y e in
        let b = back x f a c lives q in
        let held : begins (node_at ks x) f a ≡ Some (suc y) = b.held ∙ ap (λ (c : Content). Some (content_number c)) e in
        let one = (h.entered x f a l at.slot y held).one in
        let low = one.1 in
        let high = one.2 in
        let has = one.3 in
        let z = shown y one.0 a (entry x f) at.there has.held in
        let small = small_field x f l at.slot in
        let c1 = entry_by s.shape ks (node_at ks y).ty one.0 (w.holds y one.0 a) x f small (record { from = low; below = high }) (any_at y one.0 a z.lives) z.content in (
          one.0,
          subst (IsSegmentOf w y one.0 a) (has.until ∙ b.until) z.segment,
          c1,
          λ t g d.
              let in_y = from_lives y t a x f d in
              let u = entry_at y t a x f d in
              let v = back y t a c in_y g in
              one.4 t u.slot.from u.slot.below (record { held = v.held ∙ ap (λ (c : Content). Some (content_number c)) d; until = v.until ∙ sym b.until }),
        );
    entries = λ y g a c x f q e.
        let lives = from_lives y g a x f e in
        let l = in_parts y a lives in
        let at = entry_at y g a x f e in
        let b = back y g a c lives q in
        let held : begins (node_at ks y) g a ≡ Some (entry x f) = b.held ∙ ap (λ (c : Content). Some (content_number c)) e in
        let has = h.pointed y g a l at.slot x f at.small held in
        let z = shown x f a (suc y) at.there has.held in (
          subst (IsSegmentOf w x f a) (has.until ∙ b.until) z.segment,
          pointer_by s.shape ks (node_at ks x).ty f (w.holds x f a) y at.field (any_at x f a z.lives) z.content,
        );
  }
