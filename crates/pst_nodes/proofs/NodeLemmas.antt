use Rattle.std.proofs.Common.{◌≡◌, ◌≢◌, ℕ, zero, suc, ◌+◌, ◌≤◌, ◌<◌, true, false, List, [], ◌∷◌, ◌++◌, length, get_or, set, map, Option, Some, refl, sym, ap, ◌∙◌, subst, ⊎_elim, arith, Bool, not}
use Rattle.std.proofs.lemmas.Bool.{cases_eq, cases_lt, cases_Bool}
use Rattle.std.specs.Option.{option_map}
use Rattle.pst_order.specs.declared.order.Pos.{Pos}
use Rattle.std.proofs.lemmas.List.{set-get_or, get_or-set_same, get_or-set_other, get_or_default, length-set, length-map, get_or-map, get_or_past, get_or_push, get_or_append_left, length_push}
use Rattle.pst_rows.specs.declared.row.Row.{Row}
use Rattle.pst_rows.specs.declared.content.Content.{Content}
use Rattle.pst_order.specs.Places.{rank}
use Rattle.pst_rows.specs.Values.{RowValue, edge_in, content_in, IsValue, IsValueSet, IsValueCut, IsValueReplaced, IsValueSplit}
use Rattle.pst_rows.specs.Rows.{IsRow, content_at, row_edge, shown, width_of, stamped_count, HasSplitRoom}
use Rattle.pst_rows.specs.Changes.{slot_count, IsRowCut, IsRowSet, IsRowReplaced, IsRowSplit, IsSameRow, HasMore, missing, needed, IsSegmentAround}
use Rattle.pst_mirror.specs.Mirror.{Chart, is_there}
use Rattle.pst_mirror.proofs.MirrorLemmas.{there_is}
use Rattle.pst_mirror.specs.Charts.{AllRows, IsSlotSet, HasOneEdgeMore, chart_of, row_holds, IsMovedApart}
use Rattle.pst_mirror.specs.Segments.{IsSegmentOf}
use Rattle.pst_nodes.specs.Arena.{HasRoom, IsTyped, type_of, rows_of, values_of, no_frame, row_at, Frame, frame_of, frame_at, link_at, lo_at, hi_at, AreRows}
use Rattle.pst_nodes.specs.Arena.{chart, lives, IsAlive, IsSlot, IsSegmentAt}
use Rattle.pst_mirror.proofs.ChartLemmas.{row_set_law, rows_hold-at, rows_edge-at, alive}
use Rattle.pst_mirror.proofs.ChartSplit.{row_cut_law, row_split_law}
use Rattle.pst_mirror.proofs.ChartReplace.{row_replace_law}
use Rattle.pst_nodes.specs.declared.links.Link.{Link}
use Rattle.pst_nodes.specs.declared.links.Link.TheVariants.{Out}
use Rattle.pst_base.specs.declared.names.Name.{Name}
use Rattle.pst_base.specs.declared.names.NodeId.{NodeId}
use Rattle.pst_nodes.specs.Header.{HeaderValue}
use Rattle.pst_nodes.specs.declared.node.Node.{Node}
use Rattle.pst_base.specs.declared.shape.TypeShape.{TypeShape}
use Rattle.pst_base.specs.declared.names.TypeNo.{TypeNo}
use Rattle.pst_base.specs.Shape.{type_at}
use Rattle.pst_nodes.specs.Changes.{IsTouched, AreSameNodes, IsReplacedOver, IsSegmentReplaced, IsCutInTwo, added}
use Rattle.pst_nodes.proofs.ReplaceLemmas.{IsAround, around}
use Rattle.pst_mirror.specs.Lives.{IsSplitLife, IsIn, IsLive}

pub AllRows-at : (r : ℕ → ℕ) (places : ℕ) (rows : List RowValue) (i : ℕ) (d : RowValue) → i < length rows → AllRows r places rows → IsValue r places (get_or rows i d)
AllRows-at r places [] i d l h = absurd (omega arith)
AllRows-at r places (row ∷ rows) zero d l h = h.0
AllRows-at r places (row ∷ rows) (suc i) d l h = AllRows-at r places rows i d (omega arith) h.1

pub AllRows-set : (r : ℕ → ℕ) (places : ℕ) (rows : List RowValue) (i : ℕ) (row : RowValue) → IsValue r places row → AllRows r places rows → AllRows r places (set rows i row)
AllRows-set r places [] i row p h = h
AllRows-set r places (w ∷ rows) zero row p h = (p, h.1)
AllRows-set r places (w ∷ rows) (suc i) row p h = (h.0, AllRows-set r places rows i row p h.1)

pub AllRows-push : (r : ℕ → ℕ) (places : ℕ) (rows : List RowValue) (row : RowValue) → IsValue r places row → AllRows r places rows → AllRows r places (rows ++ row ∷ [])
AllRows-push r places [] row p h = (p, tt)
AllRows-push r places (w ∷ rows) row p h = (h.0, AllRows-push r places rows row p h.1)

pub map-set : {A : Type 0} (f : Node → A) (ns : List Node) (x : ℕ) (new : Node) → map f (set ns x new) ≡ set (map f ns) x (f new)
map-set f [] x new = refl
map-set f (n ∷ ns) zero new = refl
map-set f (n ∷ ns) (suc x) new = ap (λ ys. f n ∷ ys) (map-set f ns x new)

pub map-push : {A : Type 0} (f : Node → A) (ns : List Node) (new : Node) → map f (ns ++ new ∷ []) ≡ map f ns ++ f new ∷ []
map-push f [] new = refl
map-push f (n ∷ ns) new = ap (λ ys. f n ∷ ys) (map-push f ns new)

-- what is the same in a node is the same in the list
pub same_map : {A : Type 0} (f : Node → A) (ns : List Node) (x : ℕ) (node new : Node) → x < length ns → node ≡ get_or ns x node → f new ≡ f node → map f (set ns x new) ≡ map f ns
same_map f [] x node new l read e = absurd (omega arith)
same_map f (n ∷ ns) zero node new l read e = ap (λ a. a ∷ map f ns) (e ∙ ap f read)
same_map f (n ∷ ns) (suc x) node new l read e = ap (λ ys. f n ∷ ys) (same_map f ns x node new (omega arith) read e)

pub at_map : {A : Type 0} (f : Node → A) (ns : List Node) (x : ℕ) (node : Node) (d : A) → x < length ns → node ≡ get_or ns x node → get_or (map f ns) x d ≡ f node
at_map f ns x node d l read = get_or-map f ns x node d l ∙ sym (ap f read)

pub length-rows : (ns : List Node) → length (rows_of ns) ≡ length ns
length-rows ns = length-map ns (λ (n : Node). n.row)

pub length-values : (ns : List Node) → length (values_of ns) ≡ length ns
length-values ns = length-map ns (λ (n : Node). shown n.row)

-- what the row of a node that is there shows
pub value_at : (ns : List Node) (x : ℕ) (d : Row) (v : RowValue) → x < length ns → get_or (values_of ns) x v ≡ shown (row_at ns x d)
value_at [] x d v l = absurd (omega arith)
value_at (n ∷ ns) zero d v l = refl
value_at (n ∷ ns) (suc x) d v l = value_at ns x d v (omega arith)

module _ (ns : List Node) (x : ℕ) (node : Node) (there : x < length ns) (read : node ≡ get_or ns x node) where
  pub the_row : (d : Row) → row_at ns x d ≡ node.row
  the_row d = at_map (λ (n : Node). n.row) ns x node d there read

  pub the_value : (v : RowValue) → get_or (values_of ns) x v ≡ shown node.row
  the_value v = at_map (λ (n : Node). shown n.row) ns x node v there read

  pub in_rows : x < length (rows_of ns)
  in_rows = omega (arith, length-rows ns)

  pub in_values : x < length (values_of ns)
  in_values = omega (arith, length-values ns)

  pub is_row : (qs : List ℕ) → AreRows qs ns → IsRow (rank qs) (length qs) node.row
  is_row qs all = subst (λ (w : RowValue). IsValue (rank qs) (length qs) w) (the_value (shown node.row)) (AllRows-at (rank qs) (length qs) (values_of ns) x (shown node.row) in_values all)

  pub here : (P : Row → Type 0) → ((d : Row) → P (row_at ns x d)) → P node.row
  here P h = subst (λ (w : Row). P w) (the_row node.row) (h node.row)

  module _ (new : Node) where
    pub rows_set : (qs : List ℕ) → IsRow (rank qs) (length qs) new.row → AreRows qs ns → AreRows qs (set ns x new)
    rows_set qs h all = subst (AllRows (rank qs) (length qs)) (sym (map-set (λ (n : Node). shown n.row) ns x new)) (AllRows-set (rank qs) (length qs) (values_of ns) x (shown new.row) h all)

    pub new_row : (d : Row) → row_at (set ns x new) x d ≡ new.row
    new_row d = ap (λ rows. get_or rows x d) (map-set (λ (n : Node). n.row) ns x new) ∙ get_or-set_same (rows_of ns) x new.row d in_rows

    pub other_row : (i : ℕ) (d : Row) → i ≢ x → row_at (set ns x new) i d ≡ row_at ns i d
    other_row i d ne = ap (λ rows. get_or rows i d) (map-set (λ (n : Node). n.row) ns x new) ∙ get_or-set_other (rows_of ns) x i new.row d ne

    -- a chart relation of one row changed
    pub charts_set : (qs : List ℕ) (P : List RowValue → Type 0) → P (set (values_of ns) x (shown new.row)) → P (values_of (set ns x new))
    charts_set qs P h = subst P (sym (map-set (λ (n : Node). shown n.row) ns x new)) h

    pub touched : (k : ℕ) → frame_of new ≡ frame_of node → new.header.link ≡ node.header.link → new.row.lo.0 ≡ node.row.lo.0
        → new.row.hi.0 ≡ node.row.hi.0 → width_of new.row ≡ width_of node.row → stamped_count new.row ≤ stamped_count node.row + k →
        ((j : ℕ) → HasRoom node.row (j + k) → HasRoom new.row j)
        → ((j t : ℕ) → stamped_count new.row ≡ stamped_count node.row + t → HasRoom node.row (j + t) → HasRoom new.row j) → IsTouched k ns (set ns x new) x
    touched k frame link lo hi width stamped room spare = record {
      count = length-set ns x new;
      frames = same_map frame_of ns x node new there read frame;
      links = λ i. ap (λ ls. get_or ls i Out) (same_map (λ (n : Node). n.header.link) ns x node new there read link);
      lo = λ i. ap (λ ls. get_or ls i 0) (same_map (λ (n : Node). n.row.lo.0) ns x node new there read lo);
      hi = λ i. ap (λ ls. get_or ls i 0) (same_map (λ (n : Node). n.row.hi.0) ns x node new there read hi);
      width = λ i d. ⊎_elim
          (λ (e : i ≡ x). rw e (ap width_of (new_row d) ∙ width ∙ sym (ap width_of (the_row d))))
          (λ (ne : i ≡ x → ⊥). ap width_of (other_row i d ne))
          (cases_eq i x);
      others = λ i d ne. other_row i d ne;
      stamped = λ d. rw (new_row d, the_row d) stamped;
      room = λ d j h. rw (new_row d) (room j (rw (the_row d) at h));
      spare = λ d j t e h. rw (new_row d) (spare j t (rw (new_row d, the_row d) at e) (rw (the_row d) at h));
    }

    pub same_nodes : frame_of new ≡ frame_of node → new.header.link ≡ node.header.link → shown new.row ≡ shown node.row
        → ((k : ℕ) → HasRoom node.row k → HasRoom new.row k) → AreSameNodes ns (set ns x new)
    same_nodes frame link row room = record {
      count = length-set ns x new;
      frames = same_map frame_of ns x node new there read frame;
      links = λ i. ap (λ ls. get_or ls i Out) (same_map (λ (n : Node). n.header.link) ns x node new there read link);
      rows = λ i d. ⊎_elim
          (λ (e : i ≡ x). rw (e, new_row d, the_row d) row)
          (λ (ne : i ≡ x → ⊥). rw (other_row i d ne) refl)
          (cases_eq i x);
      room = λ i d k. ⊎_elim
          (λ (e : i ≡ x). rw (e, new_row d, the_row d) (room k))
          (λ (ne : i ≡ x → ⊥). rw (other_row i d ne) (λ h. h))
          (cases_eq i x);
    }

-- the row of a node that is there, and what it says of the chart
pub row_in : (qs : List ℕ) (ns : List Node) (i : ℕ) (d : Row) → i < length ns → AreRows qs ns → IsRow (rank qs) (length qs) (row_at ns i d)
row_in qs ns i d l all = subst (IsValue (rank qs) (length qs)) (value_at ns i d (shown d) l) (AllRows-at (rank qs) (length qs) (values_of ns) i (shown d) (omega (arith, length-values ns)) all)

pub holds_in : (qs : List ℕ) (ns : List Node) (i : ℕ) (d : Row) → i < length ns → (g m : ℕ) → (chart qs ns).holds i g m ≡ row_holds (rank qs) (shown (row_at ns i d)) g m
holds_in qs ns i d l g m = rows_hold-at (rank qs) (values_of ns) i (shown d) (omega (arith, length-values ns)) g m ∙ ap (λ w. row_holds (rank qs) w g m) (value_at ns i d (shown d) l)

pub edges_in : (qs : List ℕ) (ns : List Node) (i : ℕ) (d : Row) → i < length ns → (g m : ℕ) → (chart qs ns).edge i g m ≡ row_edge (rank qs) (row_at ns i d) g m
edges_in qs ns i d l g m = rows_edge-at (rank qs) (values_of ns) i (shown d) (omega (arith, length-values ns)) g m ∙ ap (λ w. edge_in (rank qs) w g m) (value_at ns i d (shown d) l)

-- a row that only its room can tell from another one shows the same
pub same_shown : (old new : Row) → IsSameRow old new → shown new ≡ shown old
same_shown old new h =
    ap (λ p. record { lo = p; hi = new.hi; slots = new.cells.slots; stamps = new.cells.stamps }) h.lo
    ∙ ap (λ p. record { lo = old.lo; hi = p; slots = new.cells.slots; stamps = new.cells.stamps }) h.hi
    ∙ ap (λ p. record { lo = old.lo; hi = old.hi; slots = p; stamps = new.cells.stamps }) h.slots
    ∙ ap (λ p. record { lo = old.lo; hi = old.hi; slots = old.cells.slots; stamps = p }) h.stamps

-- what is read in a row is held in the chart
module _ (qs : List ℕ) (ns : List Node) (x slot n : ℕ) (d : Row) (all : AreRows qs ns) (is : IsSlot qs ns x slot n) where
  l : x < length (values_of ns)
  l = omega (arith, length-values ns, is.alive.there)

  value : get_or (values_of ns) x (shown d) ≡ shown (row_at ns x d)
  value = value_at ns x d (shown d) is.alive.there

  pub slot_row : IsRow (rank qs) (length qs) (row_at ns x d)
  slot_row = subst (IsValue (rank qs) (length qs)) value (AllRows-at (rank qs) (length qs) (values_of ns) x (shown d) l all)

  pub read_is : content_at (rank qs) (row_at ns x d) slot n ≡ (chart qs ns).holds x slot n
  read_is = sym (rows_hold-at (rank qs) (values_of ns) x (shown d) l slot n ∙ ap (λ w. row_holds (rank qs) w slot n) value
      ∙ (rw (alive (rank qs) (shown (row_at ns x d)) n (is.alive.low d) (is.alive.high d)) refl))

  pub edge_is : (m : ℕ) → row_edge (rank qs) (row_at ns x d) slot m ≡ (chart qs ns).edge x slot m
  edge_is m = sym (rows_edge-at (rank qs) (values_of ns) x (shown d) l slot m ∙ ap (λ w. edge_in (rank qs) w slot m) value)

  pub segment_is : (a c : ℕ) → IsSegmentAround (rank qs) (row_at ns x d) slot n (rank qs a) (rank qs c) → IsSegmentAt qs ns x slot n a c
  segment_is a c s = record {
    segment = record {
      begins = sym (edge_is (rank qs a)) ∙ s.segment.begins;
      ends = sym (edge_is (rank qs c)) ∙ s.segment.ends;
      some =
          omega (arith, s.begun, s.ended);
      whole = λ m u v. sym (edge_is m) ∙ s.segment.whole m u v;
    };
    begun = s.begun;
    not_over = s.ended;
    low = λ d'. subst (λ (w : Row). rank qs w.lo.0 ≤ rank qs a) (get_or_default (rows_of ns) x d d' (omega (arith, length-rows ns, is.alive.there))) s.segment.within;
    high = λ d'. subst (λ (w : Row). rank qs c ≤ rank qs w.hi.0) (get_or_default (rows_of ns) x d d' (omega (arith, length-rows ns, is.alive.there))) s.high;
  }

module _ (qs : List ℕ) (ns : List Node) (x : ℕ) (node : Node) (there : x < length ns) (read : node ≡ get_or ns x node) (new : Node) (slot n : ℕ) (c : Content) where
  pub slot_set : IsRowSet (rank qs) node.row new.row slot n c → IsSlotSet (chart qs ns) (chart qs (set ns x new)) x slot n c
  slot_set h =
      charts_set ns x node there read new qs (λ rows. IsSlotSet (chart qs ns) (chart_of (rank qs) rows) x slot n c)
      (row_set_law (rank qs) (values_of ns) x (shown node.row) (shown new.row) slot n c (in_values ns x node there read)
      (subst (λ (w : RowValue). IsValueSet (rank qs) w (shown new.row) slot n c) (sym (the_value ns x node there read (shown node.row))) h))

  pub slot_cut : IsRowCut (rank qs) node.row new.row slot n c → c ≡ content_at (rank qs) node.row slot n → HasOneEdgeMore (chart qs ns) (chart qs (set ns x new)) x slot n
  slot_cut h e =
      charts_set ns x node there read new qs (λ rows. HasOneEdgeMore (chart qs ns) (chart_of (rank qs) rows) x slot n)
      (row_cut_law (rank qs) (values_of ns) x (shown node.row) (shown new.row) slot n c (in_values ns x node there read)
      (subst (λ (w : RowValue). IsValueCut (rank qs) w (shown new.row) slot n c) (sym (the_value ns x node there read (shown node.row))) h)
      (e ∙ ap (λ (w : RowValue). content_in (rank qs) w slot n) (sym (the_value ns x node there read (shown node.row)))))

  pub slot_replaced : IsRowReplaced (rank qs) node.row new.row slot n c → IsSegmentReplaced qs ns (set ns x new) x slot n c
  slot_replaced h =
      let w : IsAround (rank qs) (shown node.row) (shown new.row) slot n c = around (rank qs) (shown node.row) (shown new.row) slot n c h in
      let edge : (m : ℕ) → (chart qs ns).edge x slot m ≡ edge_in (rank qs) (shown node.row) slot m =
      λ m. rows_edge-at (rank qs) (values_of ns) x (shown node.row) (in_values ns x node there read) slot m
      ∙ ap (λ v. edge_in (rank qs) v slot m) (the_value ns x node there read (shown node.row)) in
      let seg : IsSegmentOf (chart qs ns) x slot w.low w.high =
      record {
        begins = edge w.low ∙ w.begins;
        ends = edge w.high ∙ w.ends;
        some = omega (arith, w.begun, w.not_over);
        whole = λ m p q. edge m
            ∙ w.whole m p q;
      } in
      record {
        low = w.low;
        high = w.high;
        segment = seg;
        begun = w.begun;
        not_over = w.not_over;
        replaced = charts_set ns x node there read new qs (λ rows. IsReplacedOver (chart qs ns) (chart_of (rank qs) rows) x slot w.low w.high c)
            (let v = row_replace_law (rank qs) (values_of ns) x (shown node.row) (shown new.row) slot w.low w.high c (in_values ns x node there read)
            (subst (λ (w' : RowValue). IsValueReplaced (rank qs) w' (shown new.row) slot w.low c)
            (sym (the_value ns x node there read (shown node.row))) w.replaced) seg in
            record { holds = v.0; edges = v.1 });
      }

pub lo_is : (ns : List Node) (i : ℕ) (d : Row) → i < length ns → (row_at ns i d).lo.0 ≡ lo_at ns i
lo_is [] i d l = absurd (omega arith)
lo_is (n ∷ ns) zero d l = refl
lo_is (n ∷ ns) (suc i) d l = lo_is ns i d (omega arith)

pub hi_is : (ns : List Node) (i : ℕ) (d : Row) → i < length ns → (row_at ns i d).hi.0 ≡ hi_at ns i
hi_is [] i d l = absurd (omega arith)
hi_is (n ∷ ns) zero d l = refl
hi_is (n ∷ ns) (suc i) d l = hi_is ns i d (omega arith)

module _ {A : Type 0} (f : Node → A) (ns : List Node) (x : ℕ) (node left right : Node) (there : x < length ns) (d : A) where
  at_front : (i : ℕ) → i < length ns → get_or (map f (set ns x left ++ right ∷ [])) i d ≡ get_or (set (map f ns) x (f left)) i d
  at_front i l =
      ap (λ ys. get_or ys i d) (map-push f (set ns x left) right)
      ∙ get_or_append_left (map f (set ns x left)) (f right ∷ []) d i (omega (arith, length-map (set ns x left) f, length-set ns x left))
      ∙ ap (λ ys. get_or ys i d) (map-set f ns x left)

  pub at_left : get_or (map f (set ns x left ++ right ∷ [])) x d ≡ f left
  at_left = at_front x there ∙ get_or-set_same (map f ns) x (f left) d (omega (arith, length-map ns f))

  pub at_right : get_or (map f (set ns x left ++ right ∷ [])) (length ns) d ≡ f right
  at_right = ap (λ ys. get_or ys (length ns) d) (map-push f (set ns x left) right) ∙ get_or_push (map f (set ns x left)) (f right) d (length ns) (length-map (set ns x left) f ∙ length-set ns x left)

  pub at_others : (i : ℕ) → i ≢ x → i ≢ length ns → get_or (map f (set ns x left ++ right ∷ [])) i d ≡ get_or (map f ns) i d
  at_others i ne nz =
      ⊎_elim
      (λ (l : i < length ns). at_front i l ∙ get_or-set_other (map f ns) x i (f left) d ne)
      (λ (l : length ns ≤ i).
      get_or_past (map f (set ns x left ++ right ∷ [])) i d (omega (arith, length-map (set ns x left ++ right ∷ []) f, length_push (set ns x left) right, length-set ns x left))
      ∙ sym (get_or_past (map f ns) i d (omega (arith, length-map ns f))))
      (cases_lt i (length ns))

  pub at_same : node ≡ get_or ns x node → f left ≡ f node → (i : ℕ) → i ≢ length ns → get_or (map f (set ns x left ++ right ∷ [])) i d ≡ get_or (map f ns) i d
  at_same read e i nz =
      ⊎_elim
      (λ (q : i ≡ x). ap (λ (k : ℕ). get_or (map f (set ns x left ++ right ∷ [])) k d) q ∙ at_left ∙ e ∙ sym (at_map f ns x node d there read) ∙ ap (λ (k : ℕ). get_or (map f ns) k d) (sym q))
      (λ (ne : i ≡ x → ⊥). at_others i ne nz)
      (cases_eq i x)

-- the room of the halves of a row, in the list
pub split_room : (ns : List Node) (x z : ℕ) (node left right : Node) → x < length ns → node ≡ get_or ns x node → z ≡ length ns
    → (ys : List Node) → ys ≡ set ns x left ++ right ∷ [] → HasSplitRoom node.row left.row right.row
    → (d : Row) → HasSplitRoom (row_at ns x d) (row_at ys x d) (row_at ys z d)
split_room ns x z node left right l read last ys are h d =
    subst (λ (w : Row). HasSplitRoom w (row_at ys x d) (row_at ys z d)) (sym (the_row ns x node l read d))
    (subst (λ (zs : List Node). HasSplitRoom node.row (row_at zs x d) (row_at zs z d)) (sym are)
    (subst (λ (w : Row). HasSplitRoom node.row w (row_at (set ns x left ++ right ∷ []) z d)) (sym (at_left (λ (n : Node). n.row) ns x node left right l d))
    (subst (λ (k : ℕ). HasSplitRoom node.row left.row (row_at (set ns x left ++ right ∷ []) k d)) (sym last)
    (subst (λ (w : Row). HasSplitRoom node.row left.row w) (sym (at_right (λ (n : Node). n.row) ns x node left right l d)) h))))

module _ (qs : List ℕ) (ns : List Node) (x : ℕ) (node left right : Node) (there : x < length ns) (read : node ≡ get_or ns x node) (s : Pos) (h : IsRowSplit (rank qs) node.row left.row right.row s)
    (left_name : left.header.name ≡ node.header.name) (left_ty : left.header.ty ≡ node.header.ty)
    (left_later : option_map (λ i. i.0) left.header.later ≡ Some (length ns)) (left_link : left.header.link ≡ node.header.link)
    (right_name : right.header.name ≡ node.header.name) (right_ty : right.header.ty ≡ node.header.ty)
    (right_later : right.header.later ≡ node.header.later) (right_link : right.header.link ≡ Out) where
  rows_are : values_of (set ns x left ++ right ∷ []) ≡ set (values_of ns) x (shown left.row) ++ shown right.row ∷ []
  rows_are = map-push (λ (n : Node). shown n.row) (set ns x left) right ∙ ap (λ ys. ys ++ shown right.row ∷ []) (map-set (λ (n : Node). shown n.row) ns x left)

  pub parts_rows : IsRow (rank qs) (length qs) left.row → IsRow (rank qs) (length qs) right.row → AreRows qs ns → AreRows qs (set ns x left ++ right ∷ [])
  parts_rows l r all = subst (AllRows (rank qs) (length qs)) (sym rows_are)
      (AllRows-push (rank qs) (length qs) (set (values_of ns) x (shown left.row)) (shown right.row) r
      (AllRows-set (rank qs) (length qs) (values_of ns) x (shown left.row) l all))

  parts_apart : IsMovedApart (chart qs ns) (chart qs (set ns x left ++ right ∷ [])) x (length ns) (rank qs s.0)
  parts_apart =
      subst (λ (rows : List RowValue). IsMovedApart (chart qs ns) (chart_of (rank qs) rows) x (length ns) (rank qs s.0)) (sym rows_are)
      (subst (λ (k : ℕ). IsMovedApart (chart qs ns) (chart_of (rank qs) (set (values_of ns) x (shown left.row) ++ shown right.row ∷ [])) x k (rank qs s.0)) (length-values ns)
      (row_split_law (rank qs) (values_of ns) x (shown node.row) (shown left.row) (shown right.row) s (in_values ns x node there read)
      (subst (λ (w : RowValue). IsValueSplit (rank qs) w (shown left.row) (shown right.row) s) (sym (the_value ns x node there read (shown node.row))) h)))

  node_lo : lo_at ns x ≡ node.row.lo.0
  node_lo = at_map (λ (n : Node). n.row.lo.0) ns x node 0 there read

  node_hi : hi_at ns x ≡ node.row.hi.0
  node_hi = at_map (λ (n : Node). n.row.hi.0) ns x node 0 there read

  at_frame : {A : Type 0} (p : Frame → A) → p (frame_of left) ≡ p (frame_of node) → (i : ℕ) → i ≢ length ns → p (frame_at (set ns x left ++ right ∷ []) i) ≡ p (frame_at ns i)
  at_frame p e i nz =
      let none : Frame = no_frame in
      ⊎_elim
      (λ (q : i ≡ x). ap (λ (k : ℕ). p (frame_at (set ns x left ++ right ∷ []) k)) q ∙ ap p (at_left frame_of ns x node left right there none) ∙ e
      ∙ sym (ap p (at_map frame_of ns x node none there read)) ∙ ap (λ (k : ℕ). p (frame_at ns k)) (sym q))
      (λ (ne : i ≡ x → ⊥). ap p (at_others frame_of ns x node left right there none i ne nz))
      (cases_eq i x)

  parts_life : IsSplitLife (lives qs ns) (lives qs (set ns x left ++ right ∷ [])) x (rank qs s.0)
  parts_life = record {
    there = there;
    low = rw node_lo ((h.slots 0).low);
    high = rw node_hi ((h.slots 0).high);
    count = length_push (set ns x left) right ∙ (rw (length-set ns x left) (omega arith));
    lo = λ i l. ap (rank qs) (at_same (λ (n : Node). n.row.lo.0) ns x node left right there 0 read (ap (λ p. p.0) h.left_lo) i (λ e. omega arith));
    hi = λ i l ne. ap (rank qs) (at_others (λ (n : Node). n.row.hi.0) ns x node left right there 0 i ne (λ e. omega arith));
    name = λ i l. at_frame (λ (f : Frame). f.name) left_name i (λ e. omega arith);
    later = λ i l ne. ap (λ (f : Frame). f.later) (at_others frame_of ns x node left right there no_frame i ne (λ e. omega arith));
    hi_x = ap (rank qs) (at_left (λ (n : Node). n.row.hi.0) ns x node left right there 0 ∙ ap (λ p. p.0) h.left_hi);
    later_x = ap (λ (f : Frame). f.later) (at_left frame_of ns x node left right there no_frame) ∙ left_later;
    lo_z = ap (rank qs) (at_right (λ (n : Node). n.row.lo.0) ns x node left right there 0 ∙ ap (λ p. p.0) h.right_lo);
    hi_z = ap (rank qs) (at_right (λ (n : Node). n.row.hi.0) ns x node left right there 0 ∙ ap (λ p. p.0) h.right_hi ∙ sym node_hi);
    name_z = ap (λ (f : Frame). f.name) (at_right frame_of ns x node left right there no_frame) ∙ right_name ∙ sym (ap (λ (f : Frame). f.name) (at_map frame_of ns x node no_frame there read));
    later_z = ap (λ (f : Frame). f.later) (at_right frame_of ns x node left right there no_frame) ∙ ap (option_map (λ i. i.0)) right_later
        ∙ sym (ap (λ (f : Frame). f.later) (at_map frame_of ns x node no_frame there read));
  }

  pub cut_in_two : IsCutInTwo qs ns (set ns x left ++ right ∷ []) x (length ns) s.0
  cut_in_two =
      let row = λ (n : Node). n.row in
      let old : (d : Row) → row_at ns x d ≡ node.row = λ d. the_row ns x node there read d in
      record {
        there = there;
        is_last = refl;
        apart = parts_apart;
        life = parts_life;
        types = λ i l. at_frame (λ (f : Frame). f.ty) (ap (λ t. t.0) left_ty) i (λ e. omega arith);
        new_type = ap (λ (f : Frame). f.ty) (at_right frame_of ns x node left right there no_frame) ∙ ap (λ t. t.0) right_ty
            ∙ sym (ap (λ (f : Frame). f.ty) (at_map frame_of ns x node no_frame there read));
        links = λ i. ⊎_elim
            (λ (e : i ≡ length ns). ap (link_at (set ns x left ++ right ∷ [])) e
            ∙ at_right (λ (n : Node). n.header.link) ns x node left right there Out ∙ right_link
            ∙ sym (get_or_past (map (λ (n : Node). n.header.link) ns) i Out (omega (arith, length-map ns (λ (n : Node). n.header.link)))))
            (λ (ne : i ≡ length ns → ⊥). at_same (λ (n : Node). n.header.link) ns x node left right there Out read left_link i ne)
            (cases_eq i (length ns));
        left = λ d. rw (at_left (λ (n : Node). n.row) ns x node left right there d, old d) h.left_count;
        right = λ d. rw (at_right (λ (n : Node). n.row) ns x node left right there d, old d) h.right_count;
        left_width = λ d. rw (at_left (λ (n : Node). n.row) ns x node left right there d, old d) h.left_width;
        right_width = λ d. rw (at_right (λ (n : Node). n.row) ns x node left right there d, old d) h.right_width;
        others = λ i d ne nz. at_others (λ (n : Node). n.row) ns x node left right there d i ne nz;
      }

pub cut_in_two_at : (qs : List ℕ) (ns : List Node) (x : ℕ) (z : NodeId) (node left right : Node) (there : x < length ns)
    (read : node ≡ get_or ns x node) (s : Pos) → z.0 ≡ length ns → IsRowSplit (rank qs) node.row left.row right.row s →
    left.header ≡ record { name = node.header.name; ty = node.header.ty; later = Some z; link = node.header.link }
    → right.header ≡ record { name = node.header.name; ty = node.header.ty; later = node.header.later; link = Out } →
    IsRow (rank qs) (length qs) left.row → IsRow (rank qs) (length qs) right.row → AreRows qs ns →
    IsCutInTwo qs ns (set ns x left ++ right ∷ []) x z.0 s.0 × AreRows qs (set ns x left ++ right ∷ [])
cut_in_two_at qs ns x z node left right there read s is_z h l r o p all =
    let name : (k : HeaderValue) → Name = λ k. k.name in
    let ty : (k : HeaderValue) → TypeNo = λ k. k.ty in
    let link : (k : HeaderValue) → Link = λ k. k.link in
    let later : (k : HeaderValue) → Option NodeId = λ k. k.later in
    let behind : option_map (λ i. i.0) left.header.later ≡ Some (length ns) = ap (λ k. option_map (λ i. i.0) (later k)) l ∙ ap Some is_z in (
      subst (λ (y : ℕ). IsCutInTwo qs ns (set ns x left ++ right ∷ []) x y s.0) (sym is_z)
          (cut_in_two qs ns x node left right there read s h (ap name l) (ap ty l) behind (ap link l) (ap name r) (ap ty r) (ap later r) (ap link r)),
      parts_rows qs ns x node left right there read s h (ap name l) (ap ty l) behind (ap link l) (ap name r) (ap ty r) (ap later r) (ap link r) o p all,
    )

-- an edge of the row of a node is one of the chart
pub node_edge : (qs : List ℕ) (ns : List Node) (x : ℕ) (node : Node) (there : x < length ns) (read : node ≡ get_or ns x node) (slot n : ℕ)
    → AreRows qs ns → IsSlot qs ns x slot n → (m : ℕ) → row_edge (rank qs) node.row slot m ≡ (chart qs ns).edge x slot m
node_edge qs ns x node there read slot n all is m = subst (λ (w : Row). row_edge (rank qs) w slot m ≡ (chart qs ns).edge x slot m)
    (the_row ns x node there read node.row) (edge_is qs ns x slot n node.row all is m)

pub missing_few : (b : Bool) → missing b ≤ 1
missing_few b = elim b as (λ b. missing b ≤ 1) [ true ↦ omega arith | false ↦ omega arith ]

-- a segment that is to begin at a position, where one begins or not
module _ (qs : List ℕ) (ns : List Node) (x : ℕ) (node : Node) (there : x < length ns) (read : node ≡ get_or ns x node) (slot n : ℕ)
    (all : AreRows qs ns) (is : IsSlot qs ns x slot n) (new : Row) (begun : Bool)
    (free : begun ≡ not (row_edge (rank qs) node.row slot n))
    (cut : begun ≡ true → IsRowCut (rank qs) node.row new slot n (content_at (rank qs) node.row slot n)) (same : begun ≡ false → new ≡ node.row)
    (more : HasMore (missing (row_edge (rank qs) node.row slot n)) node.row new) where
  abbrev after : List Node
  after = set ns x (record { header = node.header; row = new })

  pub begun_same : begun ≡ false → after ≡ ns
  begun_same e = ap (λ (w : Row). set ns x (record { header = node.header; row = w })) (same e) ∙ ap (set ns x) read ∙ set-get_or ns x node

  pub begun_edge : begun ≡ not ((chart qs ns).edge x slot n)
  begun_edge = free ∙ ap not (node_edge qs ns x node there read slot n all is n)

  pub begun_cut : HasOneEdgeMore (chart qs ns) (chart qs after) x slot n
  begun_cut =
      ⊎_elim
      (λ (e : begun ≡ true). slot_cut qs ns x node there read (record { header = node.header; row = new }) slot n (content_at (rank qs) node.row slot n) (cut e) refl)
      (λ (e : begun ≡ false). subst (λ (ms : List Node). HasOneEdgeMore (chart qs ns) (chart qs ms) x slot n) (sym (begun_same e))
      (edge_there (chart qs ns) x slot n (not_false ((chart qs ns).edge x slot n) (sym begun_edge ∙ e))))
      (cases_Bool begun)
    where
      not_false : (b : Bool) → not b ≡ false → b ≡ true
      not_false true e = refl
      not_false false e = cc

      edge_there : (w : Chart) (i g m : ℕ) → w.edge i g m ≡ true → HasOneEdgeMore w w i g m
      edge_there w i g m e = record {
        holds = λ j h k. refl;
        edges = λ j h k. ⊎_elim
            (λ (q : is_there i g m j h k ≡ true). let p = there_is i g m j h k q in rw q (rw (p.0, p.1, p.2) e))
            (λ (q : is_there i g m j h k ≡ false). rw q refl)
            (cases_Bool (is_there i g m j h k));
      }

  -- in both cases the life and the width stay
  frame_kept : (new.lo.0 ≡ node.row.lo.0) × (new.hi.0 ≡ node.row.hi.0) × (width_of new ≡ width_of node.row)
  frame_kept =
      ⊎_elim
      (λ (e : begun ≡ true). (ap (λ p. p.0) (cut e).lo, ap (λ p. p.0) (cut e).hi, (cut e).width))
      (λ (e : begun ≡ false). (ap (λ (w : Row). w.lo.0) (same e), ap (λ (w : Row). w.hi.0) (same e), ap width_of (same e)))
      (cases_Bool begun)

  pub begun_touched : IsTouched 1 ns after x
  begun_touched =
      let few : missing (row_edge (rank qs) node.row slot n) ≤ 1 = missing_few (row_edge (rank qs) node.row slot n) in
      touched ns x node there read (record { header = node.header; row = new }) 1 refl refl frame_kept.0 frame_kept.1 frame_kept.2
      (omega (arith, more.count, few)) (λ j h. omega (arith, h, more.spare, few)) (λ j t e h. omega (arith, e, h, more.count, more.spare))

  pub begun_stamped : begun ≡ true → (d : Row) → stamped_count (row_at after x d) ≡ stamped_count (row_at ns x d) + 1
  begun_stamped e d =
      let one : missing (row_edge (rank qs) node.row slot n) ≡ 1 = not_true (row_edge (rank qs) node.row slot n) (sym free ∙ e) in
      let now : stamped_count (row_at after x d) ≡ stamped_count new = ap stamped_count (new_row ns x node there read (record { header = node.header; row = new }) d) in
      let was : stamped_count (row_at ns x d) ≡ stamped_count node.row = ap stamped_count (the_row ns x node there read d) in
      omega (arith, one, now, was, more.count)
    where
      not_true : (b : Bool) → not b ≡ true → missing b ≡ 1
      not_true true e = cc
      not_true false e = refl

-- a node that lives at a position
pub alive_of : (qs : List ℕ) (ns : List Node) (x n : ℕ) → IsIn (lives qs ns) x n → IsAlive qs ns x n
alive_of qs ns x n h = record {
  there = h.there;
  low = λ d. rw (lo_is ns x d h.there) h.low;
  high = λ d. rw (hi_is ns x d h.there) h.high;
}

pub some_row : (ns : List Node) (x : ℕ) → x < length ns → Row
some_row [] x l = absurd (omega arith)
some_row (n ∷ ns) x l = n.row

pub hi_in : (qs : List ℕ) (ns : List Node) (x : ℕ) → x < length ns → AreRows qs ns → rank qs (hi_at ns x) < length qs
hi_in qs ns x l all =
    let w : RowValue = shown (some_row ns x l) in
    let h : IsRow (rank qs) (length qs) (row_at ns x (some_row ns x l)) =
    subst (IsValue (rank qs) (length qs)) (value_at ns x (some_row ns x l) w l)
    (AllRows-at (rank qs) (length qs) (values_of ns) x w (omega (arith, length-values ns)) all) in
    subst (λ (p : ℕ). rank qs p < length qs) (hi_is ns x (some_row ns x l) l) h.there

pub live_in : (qs : List ℕ) (ns : List Node) (x n : ℕ) → AreRows qs ns → IsLive (lives qs ns) x n → n < length qs
live_in qs ns x n all h = omega (arith, h.covering.1.high, hi_in qs ns h.covering.0 h.covering.1.there all)

-- the slots of a type are those of a node's row
pub typed_slot : (types : List TypeShape) (qs : List ℕ) (ns : List Node) (x n s : ℕ) → IsTyped types ns x → IsAlive qs ns x n → s < slot_count (type_of types ns x) → IsSlot qs ns x s n
typed_slot types qs ns x n s typed is l = record { alive = is; slot_there = λ d. omega (arith, typed.width d) }

pub narrow_slot : (qs : List ℕ) (ns : List Node) (x n s : ℕ) (d : Row) → AreRows qs ns → IsSlot qs ns x s n → s < 65536
narrow_slot qs ns x n s d all is = let w = slot_row qs ns x s n d all is in omega (arith, w.narrow, is.slot_there d)

pub inverse_slot : (types : List TypeShape) (qs : List ℕ) (ns : List Node) (x n s : ℕ) → AreRows qs ns → IsTyped types ns x → IsAlive qs ns x n
    → s < slot_count (type_of types ns x) → IsSlot qs ns x s n × (s < 65536)
inverse_slot types qs ns x n s all typed is l =
    let slot : IsSlot qs ns x s n = typed_slot types qs ns x n s typed is l in
    (slot, narrow_slot qs ns x n s (some_row ns x is.there) all slot)

-- the type that is read is that of the node
pub limit_is : (types : List TypeShape) (ns : List Node) (x : ℕ) (ty : TypeNo) (t : TypeShape) → ty.0 ≡ (frame_at ns x).ty → t ≡ type_at types ty → t.limit ≡ (type_of types ns x).limit
limit_is types ns x ty t e read = let named : ℕ → TypeNo = λ k. record { 0 = k } in ap (λ (u : TypeShape). u.limit) (read ∙ ap (λ (k : ℕ). type_at types (named k)) e)

pub end_is : (types : List TypeShape) (ns : List Node) (x : ℕ) (row : Row) → IsTyped types ns x → ((d : Row) → row ≡ row_at ns x d) → width_of row ≡ slot_count (type_of types ns x)
end_is types ns x row typed e = ap width_of (e row) ∙ typed.width row

-- what a row needs is what is added in the chart
pub counted_row : (qs : List ℕ) (ns : List Node) (x : ℕ) (node : Node) (there : x < length ns) (read : node ≡ get_or ns x node) (slot n : ℕ) → AreRows qs ns → IsSlot qs ns x slot n → (d : Row) →
    stamped_count node.row + needed (rank qs) node.row slot n ≡ stamped_count (row_at ns x d) + added (chart qs ns) x slot n
counted_row qs ns x node there read slot n all is d =
    let a : missing (row_edge (rank qs) node.row slot n) ≡ missing ((chart qs ns).edge x slot n) = ap missing (node_edge qs ns x node there read slot n all is n) in
    let b : missing (row_edge (rank qs) node.row slot (n + 1)) ≡ missing ((chart qs ns).edge x slot (n + 1)) = ap missing (node_edge qs ns x node there read slot n all is (n + 1)) in
    let c : stamped_count (row_at ns x d) ≡ stamped_count node.row = ap stamped_count (the_row ns x node there read d) in
    omega arith

-- setting a slot over one position needs two values at most
pub needed_few : (r : ℕ → ℕ) (row : Row) (slot n : ℕ) → needed r row slot n ≤ 2
needed_few r row slot n = omega (arith, missing_few (row_edge r row slot n), missing_few (row_edge r row slot (n + 1)))

pub in_of : (qs : List ℕ) (ns : List Node) (x n : ℕ) → IsAlive qs ns x n → IsIn (lives qs ns) x n
in_of qs ns x n a = record {
  there = a.there;
  low = subst (λ (p : ℕ). rank qs p ≤ n) (lo_is ns x (some_row ns x a.there) a.there) (a.low (some_row ns x a.there));
  high = subst (λ (p : ℕ). n < rank qs p) (hi_is ns x (some_row ns x a.there) a.there) (a.high (some_row ns x a.there));
}
