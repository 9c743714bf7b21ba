use Rattle.std.proofs.lemmas.Bool.{cases_eq, cases_lt}
use Rattle.std.proofs.lemmas.List.Sums.{sum_by-cons}
use Rattle.std.proofs.Common.{◌≡◌, ◌≢◌, ℕ, zero, suc, ◌+◌, ◌<◌, ◌≤◌, List, [], ◌∷◌, length, map, get_or, refl, sym, ap, ◌∙◌, subst, ⊎_elim, arith}
use Rattle.pst_base.specs.declared.names.TypeNo.{TypeNo}
use Rattle.pst_base.specs.declared.shape.TypeShape.{TypeShape}
use Rattle.pst_order.specs.Places.{rank}
use Rattle.pst_rows.specs.declared.content.Content.TheVariants.{Number}
use Rattle.pst_rows.specs.declared.row.Row.{Row}
use Rattle.pst_rows.specs.Rows.{stamped_count}
use Rattle.pst_mirror.specs.Mirror.{Chart}
use Rattle.pst_mirror.specs.Charts.{IsSlotSet}
use Rattle.pst_mirror.specs.Potential.{Load, HasGrown, stamped_in_all}
use Rattle.pst_nodes.specs.declared.node.Node.{Node}
use Rattle.pst_nodes.specs.Arena.{Frame, no_frame, frame_at, lo_at, hi_at, row_at, chart, IsTyped}
use Rattle.pst_base.specs.Shape.{type_at}
use Rattle.pst_rows.specs.Changes.{slot_count}
use Rattle.pst_nodes.specs.Changes.{IsTouched}
use Rattle.pst_repair.specs.Load.{half_in}
use Rattle.pst_store_meaning.specs.Store.{Node as Seen, of_node, load_of, arena_of}
use Rattle.pst_store_meaning.specs.Changes.{HasSameNodes}
use Rattle.pst_repair.specs.Seen.{seen}
use Rattle.pst_repair.specs.Written.{NumbersAreSet}
use Rattle.pst_repair.proofs.SeenLemmas.{seen_chart, seen_all, seen_count, seen_name, seen_ty, seen_later, seen_lo, seen_hi, seen_wide}

past : {A : Type 0} (f : Seen → A) (d : A) (ns : List Seen) (i : ℕ) → length ns ≤ i → of_node f d ns i ≡ d
past f d [] i l = refl
past f d (n ∷ ns) zero l = absurd (omega arith)
past f d (n ∷ ns) (suc i) l = past f d ns i (omega arith)

-- what a node weighs
load_at : (types : List TypeShape) (ns : List Node) (i : ℕ) (d : Load) (w : Row) → i < length ns
    → get_or (map (load_of types) (seen ns)) i d ≡ record { stamped = stamped_count (row_at ns i w); half = half_in types (frame_at ns i).ty }
load_at types [] i d w l = absurd (omega arith)
load_at types (n ∷ ns) zero d w l = refl
load_at types (n ∷ ns) (suc i) d w l = load_at types ns i d w (omega arith)

loads_count : (types : List TypeShape) (ns : List Node) → length (map (load_of types) (seen ns)) ≡ length ns
loads_count types [] = refl
loads_count types (n ∷ ns) = ap suc (loads_count types ns)

grown_from : (xs ys : List Load) → length ys ≡ length xs → ((i : ℕ) (d : Load) → i < length xs → ((get_or xs i d).half ≡ (get_or ys i d).half)
    × ((get_or xs i d).stamped ≤ (get_or ys i d).stamped)) → HasGrown xs ys
grown_from [] [] l h = tt
grown_from [] (y ∷ ys) l h = absurd (omega arith)
grown_from (x ∷ xs) [] l h = absurd (omega arith)
grown_from (x ∷ xs) (y ∷ ys) l h = let p : (x.half ≡ y.half) × (x.stamped ≤ y.stamped) = h 0 x (omega arith) in (p.0, p.1, grown_from xs ys (omega arith) (λ i d k. h (suc i) d (omega arith)))

all_same : (xs ys : List Load) → length ys ≡ length xs → ((i : ℕ) (d : Load) → i < length xs → (get_or ys i d).stamped ≡ (get_or xs i d).stamped) → stamped_in_all ys ≡ stamped_in_all xs
all_same [] [] l h = refl
all_same [] (y ∷ ys) l h = absurd (omega arith)
all_same (x ∷ xs) [] l h = absurd (omega arith)
all_same (x ∷ xs) (y ∷ ys) l h =
    let p : y.stamped ≡ x.stamped = h 0 x (omega arith) in
    let ih : stamped_in_all ys ≡ stamped_in_all xs = all_same xs ys (omega arith) (λ i d k. h (suc i) d (omega arith)) in
    rw (sum_by-cons (λ (l : Load). l.stamped) x xs, sum_by-cons (λ (l : Load). l.stamped) y ys) (omega arith)

one_more : (xs ys : List Load) (x k : ℕ) → length ys ≡ length xs
    → ((i : ℕ) (d : Load) → i < length xs → i ≢ x → (get_or ys i d).stamped ≡ (get_or xs i d).stamped)
    → ((d : Load) → x < length xs → (get_or ys x d).stamped ≤ (get_or xs x d).stamped + k) → stamped_in_all ys ≤ stamped_in_all xs + k
one_more [] [] x k l h m = omega arith
one_more [] (b ∷ ys) x k l h m = absurd (omega arith)
one_more (a ∷ xs) [] x k l h m = absurd (omega arith)
one_more (a ∷ xs) (b ∷ ys) zero k l h m =
    let p : b.stamped ≤ a.stamped + k = m a (omega arith) in
    let ih : stamped_in_all ys ≡ stamped_in_all xs = all_same xs ys (omega arith) (λ i d u. h (suc i) d (omega arith) (λ e. omega arith)) in
    rw (sum_by-cons (λ (l : Load). l.stamped) a xs, sum_by-cons (λ (l : Load). l.stamped) b ys) (omega arith)
one_more (a ∷ xs) (b ∷ ys) (suc x) k l h m =
    let p : b.stamped ≡ a.stamped = h 0 a (omega arith) (λ e. omega arith) in
    let ih : stamped_in_all ys ≤ stamped_in_all xs + k = one_more xs ys x k (omega arith) (λ i d u ne. h (suc i) d (omega arith) (λ e. ne (omega arith))) (λ d u. m d (omega arith)) in
    rw (sum_by-cons (λ (l : Load). l.stamped) a xs, sum_by-cons (λ (l : Load). l.stamped) b ys) (omega arith)

module _ (types : List TypeShape) (qs : List ℕ) (k : ℕ) (old new : List Node) (x : ℕ) (t : IsTouched k old new x) where
  abbrev r : ℕ → ℕ
  r = rank qs

  same_ty : (i : ℕ) → (frame_at new i).ty ≡ (frame_at old i).ty
  same_ty i = ap (λ (fs : List Frame). (get_or fs i no_frame).ty) t.frames

  counts : length (seen new) ≡ length (seen old)
  counts = seen_count new ∙ t.count ∙ sym (seen_count old)

  same_place : (f : Seen → ℕ) (at : List Node → ℕ → ℕ) → ((ns : List Node) (i : ℕ) → i < length ns → of_node f 0 (seen ns) i ≡ r (at ns i))
      → ((i : ℕ) → at new i ≡ at old i) → (i : ℕ) → of_node f 0 (seen new) i ≡ of_node f 0 (seen old) i
  same_place f at is e i = ⊎_elim
      (λ (l : i < length old). is new i (omega (arith, t.count)) ∙ ap r (e i) ∙ sym (is old i l))
      (λ (l : length old ≤ i). past f 0 (seen new) i (omega (arith, seen_count new, t.count)) ∙ sym (past f 0 (seen old) i (omega (arith, seen_count old))))
      (cases_lt i (length old))

  pub touched_nodes : HasSameNodes (arena_of r (seen old)) (arena_of r (seen new))
  touched_nodes = record {
    count = counts;
    name = λ i. seen_name new i ∙ ap (λ (fs : List Frame). (get_or fs i no_frame).name) t.frames ∙ sym (seen_name old i);
    ty = λ i. let f : ℕ → TypeNo = λ k. record { 0 = k } in ap f (seen_ty new i ∙ same_ty i ∙ sym (seen_ty old i));
    lo = λ i. same_place (λ n. r n.row.lo.0) lo_at (seen_lo r) t.lo i;
    hi = λ i. same_place (λ n. r n.row.hi.0) hi_at (seen_hi r) t.hi i;
    later = λ i. seen_later new i ∙ ap (λ (fs : List Frame). (get_or fs i no_frame).later) t.frames ∙ sym (seen_later old i);
  }

  pub touched_wide : ((i : ℕ) → i < length old → IsTyped types old i) → (i : ℕ) → i < length new → IsTyped types new i
  touched_wide typed i l =
      let u : IsTyped types old i = typed i (omega (arith, t.count)) in
      record {
        there = subst (λ (y : ℕ). y < length types) (sym (same_ty i)) u.there;
        width = λ d. t.width i d ∙ u.width d ∙ ap (λ (y : ℕ). slot_count (type_at types (record { 0 = y }))) (sym (same_ty i));
      }

  module _ (w : Row) (more : stamped_count (row_at old x w) ≤ stamped_count (row_at new x w)) where
    load_lengths : length (map (load_of types) (seen new)) ≡ length (map (load_of types) (seen old))
    load_lengths = loads_count types new ∙ t.count ∙ sym (loads_count types old)

    same_stamped : (i : ℕ) → i ≢ x → stamped_count (row_at new i w) ≡ stamped_count (row_at old i w)
    same_stamped i ne = ap stamped_count (t.others i w ne)

    pub touched_grown : HasGrown (map (load_of types) (seen old)) (map (load_of types) (seen new))
    touched_grown = grown_from (map (load_of types) (seen old)) (map (load_of types) (seen new)) load_lengths (λ i d l.
        let here : i < length old = omega (arith, loads_count types old) in
        let a : get_or (map (load_of types) (seen old)) i d ≡ record { stamped = stamped_count (row_at old i w); half = half_in types (frame_at old i).ty } = load_at types old i d w here in
        let b : get_or (map (load_of types) (seen new)) i d ≡ record
        { stamped = stamped_count (row_at new i w); half = half_in types (frame_at new i).ty } = load_at types new i d w (omega (arith, t.count)) in
        let up : stamped_count (row_at old i w) ≤ stamped_count (row_at new i w) = ⊎_elim
        (λ (e : i ≡ x). rw e more)
        (λ (ne : i ≡ x → ⊥). omega (arith, same_stamped i ne))
        (cases_eq i x) in
        (ap (λ (l : Load). l.half) a ∙ ap (half_in types) (sym (same_ty i)) ∙ sym (ap (λ (l : Load). l.half) b), omega (arith, ap (λ (l : Load). l.stamped) a, ap (λ (l : Load). l.stamped) b, up)))

    pub touched_few : stamped_in_all (map (load_of types) (seen new)) ≤ stamped_in_all (map (load_of types) (seen old)) + k
    touched_few = one_more (map (load_of types) (seen old)) (map (load_of types) (seen new)) x k load_lengths
        (λ i d l ne.
        let a = load_at types old i d w (omega (arith, loads_count types old)) in
        let b = load_at types new i d w (omega (arith, t.count, loads_count types old)) in
        ap (λ (l : Load). l.stamped) b ∙ same_stamped i ne ∙ sym (ap (λ (l : Load). l.stamped) a))
        (λ d l.
        let a = load_at types old x d w (omega (arith, loads_count types old)) in
        let b = load_at types new x d w (omega (arith, t.count, loads_count types old)) in
        omega (arith, ap (λ (l : Load). l.stamped) a, ap (λ (l : Load). l.stamped) b, t.stamped w))

pub numbers_are_set : NumbersAreSet
numbers_are_set types qs old new x f b v p typed =
    let w : Row = the_row old x p.there in
    let more : stamped_count (row_at old x w) ≤ stamped_count (row_at new x w) = omega (arith, p.stamped w) in
    record {
      rows = seen_all qs new p.rows;
      wide = seen_wide types new (touched_wide types qs 2 old new x p.touched typed);
      set = record {
        nodes = touched_nodes types qs 2 old new x p.touched;
        set = subst (λ (c : Chart). IsSlotSet (arena_of (rank qs) (seen old)).chart c x f b (Number v)) (sym (seen_chart qs new))
            (subst (λ (c : Chart). IsSlotSet c (chart qs new) x f b (Number v)) (sym (seen_chart qs old)) p.set);
      };
      grown = record {
        each = touched_grown types qs 2 old new x p.touched w more;
        few = touched_few types qs 2 old new x p.touched w more;
      };
    }
  where
    the_row : (ns : List Node) (i : ℕ) → i < length ns → Row
    the_row [] i l = absurd (omega arith)
    the_row (n ∷ ns) i l = n.row
