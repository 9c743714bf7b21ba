-- A store with version 0 alone.
use Rattle.std.proofs.Common.{◌≡◌, ℕ, zero, suc, ◌+◌, ◌<◌, ◌≤◌, ◌&&◌, ◌||◌, Bool, true, false, cond, leb, ltb, List, length, Option, Some, None, pos, refl, sym, ap, ◌∙◌, subst, inl, inr, arith}
use Rattle.std.proofs.lemmas.Bool.{false_from_ne_true, ltb-true}
use Rattle.std.specs.FinMap.{empty, insert}
use Rattle.pst_base.specs.Showing.{heap_shown_below}
use Rattle.pst_base.specs.Below.{sum_below}
use Rattle.pst_base.specs.declared.names.Name.{Name}
use Rattle.pst_base.specs.declared.names.TypeNo.{TypeNo}
use Rattle.pst_base.specs.declared.shape.TypeShape.{TypeShape}
use Rattle.pst_base.specs.Name.{root_name}
use Rattle.pst_base.specs.Shape.{IsValid, type_at, root_type}
use Rattle.pst_base.specs.Heap.{Rec, IsWellFormed, initial_heap, new_record}
use Rattle.pst_base.proofs.WellFormed.{IsWellFormed-initial}
use Rattle.pst_line_nodes.specs.Contents.{Target}
use Rattle.pst_line_nodes.specs.Line.{Line, IsIn, IsLine, IsQuiet, HasKind, ends_by, if_newest, if_stale, stale_at, stale, potential, load, number, denoted, heap_at, showing, record_at, record_of}
use Rattle.pst_line_nodes.specs.Changes.{default_content}
use Rattle.pst_line_nodes.proofs.HeapLaws.{true-is_in}
use Rattle.pst_line_nodes.proofs.Made.{listed-replicate, default_value, default_pointer, default_kind, default_plain}
use Rattle.pst_line_nodes.proofs.Runs.{next_law}
use Rattle.pst_line.specs.declared.place.LinePlace.{LinePlace}
use Rattle.pst_line.specs.Store.{IsPlace, is_made, IsStored, IsClosed}
use Rattle.pst_line.specs.Starting.{first_store, IsRoot, StartLaw}

zeros : (n : ℕ) (f : ℕ → ℕ) → ((i : ℕ) → i < n → f i ≡ 0) → sum_below n f ≡ 0
zeros zero f h = refl
zeros (suc n) f h = omega (arith, zeros n f (λ i l. h i (omega arith)), h n (omega arith))

-- no node behind the first is of version 0
over : (i : ℕ) → 1 ≤ i → ((leb 0 i && ltb i 1) || false) ≡ false
over i l = ap (λ b. (leb 0 i && b) || false) (false_from_ne_true (ltb i 1) (λ e. let m = ltb-true i 1 e in omega (arith, m, l))) ∙ plain (leb 0 i)
  where
    plain : (b : Bool) → ((b && false) || false) ≡ false
    plain true = refl
    plain false = refl

module _ (shape : List TypeShape) (valid : IsValid shape) (w : Line) (d : IsRoot shape w) where
  zero_is : (i : ℕ) → i < w.count → i ≡ 0
  zero_is i m = omega (arith, m, d.one)

  held : (i g n : ℕ) → i < w.count → w.holds i g n ≡ default_content (type_at shape root_type) g
  held i g n m = ap (λ i. w.holds i g n) (zero_is i m) ∙ d.holds g n

  no_target : (i g n y : ℕ) → i < w.count → w.holds i g n ≡ Target y → ⊥
  no_target i g n y m e = default_plain (type_at shape root_type) g y (sym (held i g n m) ∙ e)

  type_is : (i : ℕ) → i < w.count → w.ty i ≡ root_type
  type_is i m = ap w.ty (zero_is i m) ∙ d.ty

  line_0 : IsLine shape 0 w
  line_0 = record {
    chained = record {
      next = λ i j m e. absurd (let none : None ≡ Some j = sym (ap w.later (zero_is i m) ∙ d.later) ∙ e in cc);
      apart = λ i j m n ne e. absurd (ne (zero_is i m ∙ sym (zero_is j n)));
      same = λ i j m n e. let p : i ≡ j = zero_is i m ∙ sym (zero_is j n) in (ap w.name p, ap w.ty p, ap w.made p);
      named = λ i j m n a b e. ap w.home (zero_is i m ∙ sym (zero_is j n));
    };
    known = λ i m. subst (λ (u : TypeNo). u.0 < length shape) (sym (type_is i m)) valid.some;
    first = λ i m. let e : w.first i ≡ 0 = ap w.first (zero_is i m) ∙ d.first in omega (arith, e);
    flat = λ i g n m l. held i g n m ∙ sym (held i g 0 m);
    kinds = λ i g n l c. subst (HasKind (type_at shape (w.ty i)) w.ty g) (sym (held i g n c.there)) (subst (λ (v : TypeNo). HasKind (type_at shape v) w.ty g (default_content (type_at shape root_type) g)) (sym (type_is i c.there)) (default_kind (type_at shape root_type) w.ty g));
    segments = λ i g n y l c e. absurd (omega arith);
    newest = λ i g y n e. absurd (no_target i g 0 y n.there e);
    lives = λ i g n y l c e. absurd (no_target i g n y c.there e);
    matched = record {
      found = λ i g y n e. absurd (no_target i g 0 y n.there e);
      back = λ y s x f n e. absurd (let none : None ≡ Some (x, f) = sym (ap (λ i. w.entry i s) (zero_is y n.there) ∙ d.entry s) ∙ e in cc);
      one = λ y s u x f n a b. absurd (let none : None ≡ Some (x, f) = sym (ap (λ i. w.entry i s) (zero_is y n.there) ∙ d.entry s) ∙ a in cc);
    };
    root = (omega (arith, d.one), d.home, d.first, d.name, d.ty, d.made);
    one_root = λ i m a e. ap w.home (zero_is i m) ∙ d.home;
  }

  quiet_0 : (t : ℕ) → IsQuiet w t
  quiet_0 t = record { none = λ i g y n e. absurd (no_target i g t y n.there e) }

  in_0 : IsIn w 0 0
  in_0 = record { covers = record { there = omega (arith, d.one); begun = omega (arith, d.first); still = ap (λ (o : Option ℕ). ends_by w.first o 0) d.later }; made = d.made }

  record_0 : record_at shape w 0 0 ≡ new_record shape root_type
  record_0 =
      ap (λ (v : TypeNo). record_of shape v w.name (λ g. w.holds 0 g 0)) d.ty ∙
      (λ i. record {
        ty = root_type;
        values = listed-replicate (type_at shape root_type).values (λ g. number (w.holds 0 g 0)) (pos 0) (λ g b. ap number (d.holds g 0 ∙ default_value (type_at shape root_type) g b)) i;
        pointers = listed-replicate (length (type_at shape root_type).targets) (λ k. denoted w.name (w.holds 0 ((type_at shape root_type).values + k) 0)) None
            (λ k b. ap (denoted w.name) (d.holds ((type_at shape root_type).values + k) 0 ∙ default_pointer (type_at shape root_type) ((type_at shape root_type).values + k) (omega arith))) i;
      })

  heap_0 : heap_at shape w 0 ≡ initial_heap shape
  heap_0 =
      ap (heap_shown_below (showing shape w 0)) d.one
      ∙ ap (λ b. cond b (insert empty (w.name 0) (record_at shape w 0 0)) empty) (true-is_in w 0 0 in_0)
      ∙ ap (λ (n : Name). insert empty n (record_at shape w 0 0)) d.name
      ∙ ap (λ (r : Rec). insert empty root_name r) record_0

  load_0 : load shape w 0 ≡ 1
  load_0 =
      let one : potential w ≡ 0 + if_newest (w.later 0) (w.stamped 0) = ap (λ n. sum_below n (λ i. if_newest (w.later i) (w.stamped i))) d.one in
      let first : if_newest (w.later 0) (w.stamped 0) ≡ w.stamped 0 = ap (λ (o : Option ℕ). if_newest o (w.stamped 0)) d.later in
      let none : stale_at shape w 0 0 ≡ 0 = zeros (type_at shape (w.ty 0)).limit (λ s. if_stale w 0 0 (w.entry 0 s)) (λ s b. ap (if_stale w 0 0) (d.entry s)) in
      let two : stale shape w 0 ≡ 0 + if_newest (w.later 0) (stale_at shape w 0 0) = ap (λ n. sum_below n (λ y. if_newest (w.later y) (stale_at shape w 0 y))) d.one in
      let second : if_newest (w.later 0) (stale_at shape w 0 0) ≡ stale_at shape w 0 0 = ap (λ (o : Option ℕ). if_newest o (stale_at shape w 0 0)) d.later in
      omega (arith, one, first, d.stamped, two, second, none, d.one)

  next : IsLine shape 1 w × (heap_at shape w 1 ≡ heap_at shape w 0) × (load shape w 1 ≡ load shape w 0)
  next = next_law shape 0 w line_0 (quiet_0 0)

  place_0 : (p : LinePlace) → IsPlace (first_store shape w) p → p.stamp.0 ≡ 0
  place_0 p k = elim k [ inl a ↦ omega (arith, a) | inr r ↦ absurd (let none : None ≡ Some r.begun = r.opened in cc) ]

  first_stored : IsStored (first_store shape w)
  first_stored = record {
    valid = λ p k. valid;
    line = next.0;
    homes = λ i m. let e : w.home i ≡ 0 = ap w.home (zero_is i m) ∙ d.home in omega (arith, e, d.one);
    own = λ i m. let e : w.home i ≡ 0 = ap w.home (zero_is i m) ∙ d.home in ap w.home e ∙ d.home ∙ sym e;
    made = λ i m. ap w.made (zero_is i m) ∙ d.made ∙ sym (ap (is_made (first_store shape w).versions None) (ap w.home (zero_is i m) ∙ d.home));
    begun = λ b e. absurd (let no : None ≡ Some b = e in cc);
    ended = λ i m. over i (omega (arith, m, d.one));
    well_formed = λ p k. subst (λ (n : ℕ). IsWellFormed shape (heap_at shape w n)) (sym (place_0 p k)) (subst (IsWellFormed shape) (sym heap_0) (IsWellFormed-initial shape valid));
    bounded = let l = next.2 in omega (arith, l, load_0);
  }

  first_closed : IsClosed (first_store shape w)
  first_closed = record {
    none = refl;
    rested = record { quiet = quiet_0 1; small = λ i m. let e : w.stamped i ≡ 0 = ap w.stamped (zero_is i m) ∙ d.stamped in omega (arith, e) };
    same = λ v e. next.1 ∙ ap (heap_at shape w) (let z : 0 ≡ v = omega (arith, e) in z);
  }

pub start_law : StartLaw
start_law shape w valid d = (first_stored shape valid w d, first_closed shape valid w d, record { shape_is = refl; rows = refl; opened = refl; failed = refl; heap = heap_0 shape valid w d; counts = refl })
