-- From a changed node to the line.
use Rattle.std.proofs.Common.{◌≡◌, ◌≢◌, ℕ, zero, suc, ◌+◌, ◌<◌, ◌≤◌, Bool, true, false, leb, List, [], ◌∷◌, length, get_or, Some, None, Result, Ok, Err, refl, sym, ap, ◌∙◌, subst, ◌⊎◌, inl, inr, ⊎_elim, arith, length-set}
use Rattle.std.proofs.Math.ListN.{set}
use Rattle.std.proofs.lemmas.Bool.{cases_eq, cases_lt, leb-true, false_from_ne_true}
use Rattle.std.specs.Prelude.{slice_get, OnOk, OnErr}
use Rattle.pst_base.specs.Below.{sum_below}
use Rattle.pst_base.specs.Name.{root_name}
use Rattle.pst_base.specs.declared.names.TypeNo.{TypeNo}
use Rattle.pst_base.specs.declared.shape.TypeShape.{TypeShape}
use Rattle.pst_base.specs.Shape.{root_type, type_at, element_count}
use Rattle.pst_line_nodes.specs.declared.content.Content.{Content}
use Rattle.pst_line_nodes.specs.declared.content.Content.TheVariants.{Null}
use Rattle.pst_line_nodes.specs.Line.{Line, is_over, ends_by}
use Rattle.pst_line_nodes.specs.Changes.{IsSet, HasSameNodes}
use Rattle.pst_line_nodes.specs.Seen.{Seen}
use Rattle.pst_line_nodes.specs.Rows.{holds, since, IsRow, IsRowSet, IsSameHead}
use Rattle.pst_line_nodes.specs.Nodes.{of_node, entry_of, pair_of, line_of, IsKept, AreKept, IsFieldSet}

pub of_node-at : {A : Type 0} (f : Seen → A) (d : A) (xs : List Seen) (i : ℕ) (n : Seen) → slice_get xs i ≡ Some n → of_node f d xs i ≡ f n
of_node-at f d [] i n e = absurd (cc)
of_node-at f d (x ∷ xs) zero n e = let same : x ≡ n = cc in ap f same
of_node-at f d (x ∷ xs) (suc i) n e = of_node-at f d xs i n e

pub of_node-set : {A : Type 0} (f : Seen → A) (d : A) (xs : List Seen) (i : ℕ) (n : Seen) → i < length xs → of_node f d (set xs i n) i ≡ f n
of_node-set f d [] i n l = absurd (omega arith)
of_node-set f d (x ∷ xs) zero n l = refl
of_node-set f d (x ∷ xs) (suc i) n l = of_node-set f d xs i n (omega arith)

pub of_node-other : {A : Type 0} (f : Seen → A) (d : A) (xs : List Seen) (i j : ℕ) (n : Seen) → j ≢ i → of_node f d (set xs i n) j ≡ of_node f d xs j
of_node-other f d [] i j n ne = refl
of_node-other f d (x ∷ xs) zero zero n ne = absurd (ne refl)
of_node-other f d (x ∷ xs) zero (suc j) n ne = refl
of_node-other f d (x ∷ xs) (suc i) zero n ne = refl
of_node-other f d (x ∷ xs) (suc i) (suc j) n ne = of_node-other f d xs i j n (λ e. ne (ap suc e))

pub get-there : (xs : List Seen) (i : ℕ) (d : Seen) → i < length xs → slice_get xs i ≡ Some (get_or xs i d)
get-there [] i d l = absurd (omega arith)
get-there (x ∷ xs) zero d l = refl
get-there (x ∷ xs) (suc i) d l = get-there xs i d (omega arith)

slice_get-set : (xs : List Seen) (i j : ℕ) (n m : Seen) → slice_get (set xs i n) j ≡ Some m → (m ≡ n) ⊎ (slice_get xs j ≡ Some m)
slice_get-set [] i j n m e = absurd (cc)
slice_get-set (x ∷ xs) zero zero n m e = inl (let same : n ≡ m = cc in sym same)
slice_get-set (x ∷ xs) zero (suc j) n m e = inr e
slice_get-set (x ∷ xs) (suc i) zero n m e = inr e
slice_get-set (x ∷ xs) (suc i) (suc j) n m e = slice_get-set xs i j n m e

pub kept_set : (shape : List TypeShape) (t : ℕ) (xs : List Seen) (i : ℕ) (n : Seen) → AreKept shape t xs → IsKept shape t n → AreKept shape t (set xs i n)
kept_set shape t xs i n r k = record { each = λ j m e. elim (slice_get-set xs i j n m e) [ inl s ↦ subst (IsKept shape t) (sym s) k | inr s ↦ r.each j m s ] }

-- a node that keeps its head keeps what it keeps, where its row does
pub kept_row : (shape : List TypeShape) (t : ℕ) (old new : Seen) → IsSameHead old new → IsKept shape t old → IsRow t new → IsKept shape t new
kept_row shape t old new h k row = record {
  row = row;
  width = h.width ∙ k.width ∙ ap (λ (u : TypeNo). element_count (type_at shape u)) (sym h.ty);
  slots = λ e. ap length h.inverse ∙ k.slots (sym h.later ∙ e) ∙ ap (λ (u : TypeNo). (type_at shape u).limit) (sym h.ty);
  bare = λ j e. h.inverse ∙ k.bare j (sym h.later ∙ e);
}

pub set-itself : (xs : List Seen) (i : ℕ) (n : Seen) → slice_get xs i ≡ Some n → set xs i n ≡ xs
set-itself [] i n e = absurd (cc)
set-itself (x ∷ xs) zero n e = let same : x ≡ n = cc in ap (λ (y : Seen). y ∷ xs) (sym same)
set-itself (x ∷ xs) (suc i) n e = ap (λ ys. x ∷ ys) (set-itself xs i n e)

module _ (made : ℕ → Bool) (xs : List Seen) (x : ℕ) (old new : Seen) (f t : ℕ) (c : Content) (at : slice_get xs x ≡ Some old) (l : x < length xs) (s : IsRowSet old new f t c) where
  abbrev before : Line
  before = line_of made xs

  abbrev behind : Line
  behind = line_of made (set xs x new)

  same_part : {A : Type 0} (p : Seen → A) (d : A) → p new ≡ p old → (i : ℕ) → of_node p d (set xs x new) i ≡ of_node p d xs i
  same_part p d e i = ⊎_elim
      (λ (q : i ≡ x). ap (of_node p d (set xs x new)) q ∙ of_node-set p d xs x new l ∙ e ∙ sym (of_node-at p d xs x old at) ∙ ap (of_node p d xs) (sym q))
      (λ (q : i ≡ x → ⊥). of_node-other p d xs x i new q)
      (cases_eq i x)

  nodes_same : HasSameNodes before behind
  nodes_same = record {
    count = length-set xs x new;
    home = same_part (λ n. n.home) 0 s.head.home;
    name = same_part (λ n. n.name) root_name s.head.name;
    ty = same_part (λ n. n.ty) root_type s.head.ty;
    made = λ i. ap made (same_part (λ n. n.home) 0 s.head.home i);
    first = same_part (λ n. n.first) 0 s.head.first;
    later = same_part (λ n. n.later) None s.head.later;
  }

  module _ (k : ℕ) (most : k ≤ 1) (count : length new.stamped ≡ length old.stamped + k) where
    is_set : IsSet before behind x f t c k
    is_set = record {
      nodes = nodes_same;
      here = of_node-set (λ d. holds d f t) Null xs x new l ∙ s.late t (omega arith);
      early = λ n b e. of_node-set (λ d. holds d f n) Null xs x new l ∙ s.early n (omega (arith, b, of_node-at (λ n. n.first) 0 xs x old at)) e ∙ sym (of_node-at (λ d. holds d f n) Null xs x old at);
      others = λ i g n ne. ⊎_elim
          (λ (q : i ≡ x). ap (of_node (λ d. holds d g n) Null (set xs x new)) q ∙ of_node-set (λ d. holds d g n) Null xs x new l ∙ s.others g n (λ p. ne q p) ∙ sym (of_node-at (λ d. holds d g n) Null xs x old at) ∙ ap (of_node (λ d. holds d g n) Null xs) (sym q))
          (λ (q : i ≡ x → ⊥). of_node-other (λ d. holds d g n) Null xs x i new q)
          (cases_eq i x);
      late = λ n b. of_node-set (λ d. holds d f n) Null xs x new l ∙ s.late n b;
      since = of_node-set (λ d. since d f) 0 xs x new l ∙ s.since_is;
      other_since = λ i g ne. ⊎_elim
          (λ (q : i ≡ x). ap (of_node (λ d. since d g) 0 (set xs x new)) q ∙ of_node-set (λ d. since d g) 0 xs x new l ∙ s.others_since g (λ p. ne q p) ∙ sym (of_node-at (λ d. since d g) 0 xs x old at) ∙ ap (of_node (λ d. since d g) 0 xs) (sym q))
          (λ (q : i ≡ x → ⊥). of_node-other (λ d. since d g) 0 xs x i new q)
          (cases_eq i x);
      most = most;
      stamped = of_node-set (λ n. length n.stamped) 0 xs x new l ∙ count ∙ ap (λ m. m + k) (sym (of_node-at (λ n. length n.stamped) 0 xs x old at));
      other_stamped = λ i ne. of_node-other (λ n. length n.stamped) 0 xs x i new ne;
    }

  entries_same : (y u : ℕ) → behind.entry y u ≡ before.entry y u
  entries_same y u = same_part (λ d. entry_of d u) None (ap (λ v. pair_of (get_or v u None)) s.head.inverse) y

  -- a field that is written in a node is written in the line
  pub field_set : IsFieldSet before behind x f t c
  field_set = ⊎_elim
      (λ (e : since old f ≡ t). record { more = 0; set = is_set 0 (omega arith) (omega (arith, s.replaced e)); replaced = λ q. refl; entry = entries_same })
      (λ (e : since old f ≡ t → ⊥). record { more = 1; set = is_set 1 (omega arith) (omega (arith, s.stamped e)); replaced = λ q. absurd (e (sym (of_node-at (λ d. since d f) 0 xs x old at) ∙ q)); entry = entries_same })
      (cases_eq (since old f) t)

-- the node after one
pub later_of : (xs : List Seen) (i : ℕ) (n : Seen) (j : ℕ) → slice_get xs i ≡ Some n → n.later ≡ Some j → (line_of (λ i. true) xs).later i ≡ Some j
later_of xs i n j at e = of_node-at (λ n. n.later) None xs i n at ∙ e

pub none_later : (xs : List Seen) (i : ℕ) (n : Seen) → slice_get xs i ≡ Some n → n.later ≡ None → (line_of (λ i. true) xs).later i ≡ None
none_later xs i n at e = of_node-at (λ n. n.later) None xs i n at ∙ e

pub over_none : (xs : List Seen) (i at : ℕ) → (line_of (λ i. true) xs).later i ≡ None → is_over (line_of (λ i. true) xs) i at ≡ false
over_none xs i at e = ap (λ o. ends_by (line_of (λ i. true) xs).first o at) e

pub over_late : (xs : List Seen) (i at j : ℕ) → (line_of (λ i. true) xs).later i ≡ Some j → at < (line_of (λ i. true) xs).first j → is_over (line_of (λ i. true) xs) i at ≡ false
over_late xs i at j e l = ap (λ o. ends_by (line_of (λ i. true) xs).first o at) e ∙ false_from_ne_true (leb ((line_of (λ i. true) xs).first j) at) (λ t. let m = leb-true ((line_of (λ i. true) xs).first j) at t in absurd (omega arith))

-- an element of a list that is seen as another value
pub get-index : (xs ys : List Seen) (i : ℕ) (n : Seen) → xs ≡ ys → i < length ys → n ≡ get_or xs i n → slice_get ys i ≡ Some n
get-index xs ys i n is l e = get-there ys i n l ∙ ap (λ zs. Some (get_or zs i n)) (sym is) ∙ ap Some (sym e)

-- a field that is written, or not, keeps what nodes keep
pub kept_field : {E : Type 0} (shape : List TypeShape) (xs : List Seen) (x : ℕ) (old new : Seen) (f t : ℕ) (c : Content) (r : Result (Unit {0}) E) → slice_get xs x ≡ Some old → AreKept shape t xs
    → OnOk r (IsRowSet old new f t c) → OnOk r (IsRow t new) → OnErr r (new ≡ old) → AreKept shape t (set xs x new)
kept_field shape xs x old new f t c (Ok u) at k s row same = kept_set shape t xs x new k (kept_row shape t old new s.head (k.each x old at) row)
kept_field shape xs x old new f t c (Err e) at k s row same = kept_set shape t xs x new k (subst (IsKept shape t) (sym same) (k.each x old at))

-- a part of a sum with the next summand
pub sum_below-part : (f : ℕ → ℕ) (i n : ℕ) → i < n → sum_below i f + f i ≤ sum_below n f
sum_below-part f i zero l = absurd (omega arith)
sum_below-part f i (suc n) l = ⊎_elim
    (λ (m : i < n). let p = sum_below-part f i n m in omega (arith, p))
    (λ (m : n ≤ i). let same : i ≡ n = omega arith in let is : sum_below i f + f i ≡ sum_below n f + f n = ap (λ (k : ℕ). sum_below k f + f k) same in omega (arith, is))
    (cases_lt i n)
