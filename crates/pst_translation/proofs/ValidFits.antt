-- Each instruction of an expression, a condition and a statement has the registers and slots that it needs.
use Rattle.std.proofs.Common.{◌≡◌, ℕ, ◌+◌, Bool, true, false, not, List, [], ◌∷◌, ◌++◌, Option, Some, refl, sym, ap, ◌∙◌, subst, slice_get}
use Rattle.std.specs.List.{AllByRecursion}
use Rattle.pst_base.specs.declared.names.Kind.{Kind}
use Rattle.pst_base.specs.declared.names.Kind.TheVariants.{Int, Pointer}
use Rattle.pst_base.specs.declared.names.Op.{Op}
use Rattle.pst_base.specs.declared.names.Op.TheVariants as op
use Rattle.pst_program.specs.Syntax.{Expr, Number, Null, Local, Root, Parens, Load, LoadIndexed, Negate, Not, Binary}
use Rattle.pst_program.specs.Typed.{Sort, Of, Truth, root_kind, sort_of}
use Rattle.pst_code.specs.declared.instr.Reg.{Reg}
use Rattle.pst_code.specs.declared.instr.Instr.{Instr}
use Rattle.pst_code.specs.declared.procedure.Procedure.{Procedure}
use Rattle.pst_code.specs.declared.procedure.Parts.{Parts}
use Rattle.pst_code.specs.Valid.{Fits, Alike, IsPointerKind, kind_of, slot_kind, slots_kind}
use Rattle.pst_translation.specs.declared.need.Need.{Need}
use Rattle.pst_translation.specs.Code.{Temp, kind_or, register, arithmetic, expr_code, compare_code, test_code}
use Rattle.pst_translation.specs.Needs.{need, expr_needs, test_needs}
use Rattle.pst_translation.proofs.ValidLists.{all_join, all_front, all_back}
use Rattle.pst_translation.proofs.ValidSorts.{kind_held, FieldOf, load_kind, ArrayOf, element_kind, null_kind, negated, no_not, denied, Operands}
use Rattle.pst_translation.proofs.ValidSorts.{number_operands, and_operands, or_operands, IsOrdered, is_logical, Compared, compared_operands}

pub alike : (a b : Option Kind) (kind : Kind) → a ≡ Some kind → b ≡ Some kind → Alike a b
alike a b kind e f = subst (λ (o : Option Kind). Alike o b) (sym e) f

pub pointer : (a : Option Kind) (ty : _) → a ≡ Some (Pointer ty) → IsPointerKind a
pointer a ty e = subst IsPointerKind (sym e) tt

-- a procedure of code whose registers begin with the locals of a procedure of a program
module _ (parts : Parts) (p : Procedure) (locals : List Kind) (temp : Temp) (stays : (x : ℕ) (kind : Kind) → slice_get locals x ≡ Some kind → slice_get p.kinds x ≡ Some kind) where
  -- the temporary register for a level and a kind is there, and has the kind
  abbrev pub Held : Need → Type 0
  Held n = kind_of p (temp n.level n.kind) ≡ Some n.kind

  abbrev pub AreHeld : List Need → Type 0
  AreHeld needs = AllByRecursion Held needs

  abbrev pub FitAll : List Instr → Type 0
  FitAll c = AllByRecursion (Fits parts p) c

  abbrev sort : Expr → Option Sort
  sort e = sort_of parts.shape locals e

  join : (a b : List Instr) → FitAll a → FitAll b → FitAll (a ++ b)
  join a b f g = all_join (Fits parts p) a b f g

  front : (a b : List Need) → AreHeld (a ++ b) → AreHeld a
  front a b h = all_front Held a b h

  back : (a b : List Need) → AreHeld (a ++ b) → AreHeld b
  back a b h = all_back Held a b h

  -- ---- expressions

  -- the register of an expression has the kind of its value
  pub register_kind : (e : Expr) (k : ℕ) (kind : Kind) → sort e ≡ Some (Of kind) → AreHeld (expr_needs parts.shape e k) → kind_of p (register parts.shape temp e k) ≡ Some kind
  register_kind (Number n) k kind s h = let same : Int ≡ kind = cc in h.0 ∙ ap Some same
  register_kind (Null ty) k kind s h = h.0 ∙ ap Some (null_kind parts.shape locals ty kind s)
  register_kind (Local x) k kind s h = stays x kind (kind_held (slice_get locals x) kind s)
  register_kind (Root slot) k kind s h = h.0 ∙ ap (λ (o : Option Kind). Some (kind_or o)) (kind_held (root_kind parts.shape slot) kind s)
  register_kind (Parens e) k kind s h = register_kind e k kind s h
  register_kind (Load e slot kind') k kind s h = (back (expr_needs parts.shape e k) (need k kind' ∷ []) h).0 ∙ ap Some (load_kind parts.shape locals e slot kind' kind s).1
  register_kind (LoadIndexed e slot elements i kind') k kind s h =
      (back (expr_needs parts.shape i (k + 1)) (need k kind' ∷ []) (back (expr_needs parts.shape e k) (expr_needs parts.shape i (k + 1) ++ need k kind' ∷ []) h)).0
      ∙ ap Some (element_kind parts.shape locals e slot elements i kind' kind s).2
  register_kind (Negate e) k kind s h = (back (expr_needs parts.shape e k) (need k Int ∷ []) h).0 ∙ ap Some (negated parts.shape locals e kind s).1
  register_kind (Not e) k kind s h = absurd (no_not parts.shape locals e kind s)
  register_kind (Binary operator a b) k kind s h =
      (back (expr_needs parts.shape b (k + 1)) (need k Int ∷ []) (back (expr_needs parts.shape a k) (expr_needs parts.shape b (k + 1) ++ need k Int ∷ []) h)).0
      ∙ ap Some (number_operands operator (sort a) (sort b) kind s).1

  arithmetic_fits : (operator : Op) (d a b : Reg) → kind_of p d ≡ Some Int → kind_of p a ≡ Some Int → kind_of p b ≡ Some Int → FitAll (arithmetic operator d a b)
  arithmetic_fits op.Add d a b e f g = ((e, (f, g)), tt)
  arithmetic_fits op.Sub d a b e f g = ((e, (f, g)), tt)
  arithmetic_fits op.Mul d a b e f g = ((e, (f, g)), tt)
  arithmetic_fits op.Div d a b e f g = ((e, (f, g)), tt)
  arithmetic_fits op.Rem d a b e f g = ((e, (f, g)), tt)
  arithmetic_fits op.Equal d a b e f g = tt
  arithmetic_fits op.NotEqual d a b e f g = tt
  arithmetic_fits op.Less d a b e f g = tt
  arithmetic_fits op.LessEqual d a b e f g = tt
  arithmetic_fits op.Greater d a b e f g = tt
  arithmetic_fits op.GreaterEqual d a b e f g = tt
  arithmetic_fits op.And d a b e f g = tt
  arithmetic_fits op.Or d a b e f g = tt

  pub expr_fits : (e : Expr) (k : ℕ) (kind : Kind) → sort e ≡ Some (Of kind) → AreHeld (expr_needs parts.shape e k) → FitAll (expr_code parts.shape temp e k)
  expr_fits (Number n) k kind s h = (h.0, tt)
  expr_fits (Null ty) k kind s h = (pointer (kind_of p (temp k (Pointer ty))) ty h.0, tt)
  expr_fits (Local x) k kind s h = tt
  expr_fits (Root slot) k kind s h =
      let held : root_kind parts.shape slot ≡ Some kind = kind_held (root_kind parts.shape slot) kind s in
      (alike (kind_of p (temp k (kind_or (root_kind parts.shape slot)))) (root_kind parts.shape slot) kind (h.0 ∙ ap (λ (o : Option Kind). Some (kind_or o)) held) held, tt)
  expr_fits (Parens e) k kind s h = expr_fits e k kind s h
  expr_fits (Load e slot kind') k kind s h =
      let f : FieldOf parts.shape (sort e) slot kind' = (load_kind parts.shape locals e slot kind' kind s).0 in
      let inner : AreHeld (expr_needs parts.shape e k) = front (expr_needs parts.shape e k) (need k kind' ∷ []) h in
      let object : kind_of p (register parts.shape temp e k) ≡ Some (Pointer f.ty) = register_kind e k (Pointer f.ty) f.object inner in
      let slot_is : slot_kind parts.shape (kind_of p (register parts.shape temp e k)) slot ≡ Some kind' = ap (λ (o : Option Kind). slot_kind parts.shape o slot) object ∙ f.field in
      join (expr_code parts.shape temp e k) _ (expr_fits e k (Pointer f.ty) f.object inner)
      (alike (kind_of p (temp k kind')) (slot_kind parts.shape (kind_of p (register parts.shape temp e k)) slot) kind' (back (expr_needs parts.shape e k) (need k kind' ∷ []) h).0 slot_is, tt)
  expr_fits (LoadIndexed e slot elements i kind') k kind s h =
      let l = element_kind parts.shape locals e slot elements i kind' kind s in
      let f : ArrayOf parts.shape (sort e) slot elements kind' = l.0 in
      let he : AreHeld (expr_needs parts.shape e k) = front (expr_needs parts.shape e k) (expr_needs parts.shape i (k + 1) ++ need k kind' ∷ []) h in
      let rest : AreHeld (expr_needs parts.shape i (k + 1) ++ need k kind' ∷ []) = back (expr_needs parts.shape e k) (expr_needs parts.shape i (k + 1) ++ need k kind' ∷ []) h in
      let hi : AreHeld (expr_needs parts.shape i (k + 1)) = front (expr_needs parts.shape i (k + 1)) (need k kind' ∷ []) rest in
      let x : Reg = register parts.shape temp e k in
      let object : kind_of p x ≡ Some (Pointer f.ty) = register_kind e k (Pointer f.ty) f.object he in
      let index : kind_of p (register parts.shape temp i (k + 1)) ≡ Some Int = register_kind i (k + 1) Int l.1 hi in
      let slots_are : slots_kind parts.shape (kind_of p x) slot elements ≡ Some kind' = ap (λ (o : Option Kind). slots_kind parts.shape o slot elements) object ∙ f.array in
      join (expr_code parts.shape temp e k) _ (expr_fits e k (Pointer f.ty) f.object he) (
        pointer (kind_of p x) f.ty object,
        join (expr_code parts.shape temp i (k + 1)) _ (expr_fits i (k + 1) Int l.1 hi)
            ((alike (kind_of p (temp k kind')) (slots_kind parts.shape (kind_of p x) slot elements) kind' (back (expr_needs parts.shape i (k + 1)) (need k kind' ∷ []) rest).0 slots_are, index), tt),
      )
  expr_fits (Negate e) k kind s h =
      let is : sort e ≡ Some (Of Int) = (negated parts.shape locals e kind s).0 in
      let inner : AreHeld (expr_needs parts.shape e k) = front (expr_needs parts.shape e k) (need k Int ∷ []) h in
      join (expr_code parts.shape temp e k) _ (expr_fits e k Int is inner) (((back (expr_needs parts.shape e k) (need k Int ∷ []) h).0, register_kind e k Int is inner), tt)
  expr_fits (Not e) k kind s h = tt
  expr_fits (Binary operator a b) k kind s h =
      let both : Operands (Of Int) (sort a) (sort b) = (number_operands operator (sort a) (sort b) kind s).0 in
      let ha : AreHeld (expr_needs parts.shape a k) = front (expr_needs parts.shape a k) (expr_needs parts.shape b (k + 1) ++ need k Int ∷ []) h in
      let rest : AreHeld (expr_needs parts.shape b (k + 1) ++ need k Int ∷ []) = back (expr_needs parts.shape a k) (expr_needs parts.shape b (k + 1) ++ need k Int ∷ []) h in
      let hb : AreHeld (expr_needs parts.shape b (k + 1)) = front (expr_needs parts.shape b (k + 1)) (need k Int ∷ []) rest in
      join (expr_code parts.shape temp a k) _ (expr_fits a k Int both.left_is ha)
      (join (expr_code parts.shape temp b (k + 1)) _ (expr_fits b (k + 1) Int both.right_is hb)
      (arithmetic_fits operator (temp k Int) (register parts.shape temp a k) (register parts.shape temp b (k + 1))
      (back (expr_needs parts.shape b (k + 1)) (need k Int ∷ []) rest).0 (register_kind a k Int both.left_is ha)
      (register_kind b (k + 1) Int both.right_is hb)))

  -- ---- conditions

  ints : (a b : Reg) (kind : Kind) → kind ≡ Int → kind_of p a ≡ Some kind → kind_of p b ≡ Some kind → (kind_of p a ≡ Some Int) × (kind_of p b ≡ Some Int)
  ints a b kind same e f = (e ∙ ap Some same, f ∙ ap Some same)

  compare_fits : (operator : Op) (want : Bool) (a b : Reg) (to : ℕ) (kind : Kind) → IsOrdered operator kind → kind_of p a ≡ Some kind
      → kind_of p b ≡ Some kind → FitAll (compare_code operator want a b to)
  compare_fits op.Add true a b to kind is e f = tt
  compare_fits op.Add false a b to kind is e f = tt
  compare_fits op.Sub true a b to kind is e f = tt
  compare_fits op.Sub false a b to kind is e f = tt
  compare_fits op.Mul true a b to kind is e f = tt
  compare_fits op.Mul false a b to kind is e f = tt
  compare_fits op.Div true a b to kind is e f = tt
  compare_fits op.Div false a b to kind is e f = tt
  compare_fits op.Rem true a b to kind is e f = tt
  compare_fits op.Rem false a b to kind is e f = tt
  compare_fits op.Equal true a b to kind is e f = (alike (kind_of p a) (kind_of p b) kind e f, tt)
  compare_fits op.Equal false a b to kind is e f = (alike (kind_of p a) (kind_of p b) kind e f, tt)
  compare_fits op.NotEqual true a b to kind is e f = (alike (kind_of p a) (kind_of p b) kind e f, tt)
  compare_fits op.NotEqual false a b to kind is e f = (alike (kind_of p a) (kind_of p b) kind e f, tt)
  compare_fits op.Less true a b to kind is e f = (ints a b kind is e f, tt)
  compare_fits op.Less false a b to kind is e f = (ints a b kind is e f, tt)
  compare_fits op.LessEqual true a b to kind is e f = (ints a b kind is e f, tt)
  compare_fits op.LessEqual false a b to kind is e f = (ints a b kind is e f, tt)
  compare_fits op.Greater true a b to kind is e f = (ints a b kind is e f, tt)
  compare_fits op.Greater false a b to kind is e f = (ints a b kind is e f, tt)
  compare_fits op.GreaterEqual true a b to kind is e f = (ints a b kind is e f, tt)
  compare_fits op.GreaterEqual false a b to kind is e f = (ints a b kind is e f, tt)
  compare_fits op.And true a b to kind is e f = tt
  compare_fits op.And false a b to kind is e f = tt
  compare_fits op.Or true a b to kind is e f = tt
  compare_fits op.Or false a b to kind is e f = tt

  comparison_fits : (operator : Op) (want : Bool) (a b : Expr) (to : ℕ) → is_logical operator ≡ false → sort (Binary operator a b) ≡ Some Truth
      → AreHeld (expr_needs parts.shape a 0 ++ expr_needs parts.shape b 1)
      → FitAll (expr_code parts.shape temp a 0 ++ (expr_code parts.shape temp b 1 ++ compare_code operator want (register parts.shape temp a 0) (register parts.shape temp b 1) to))
  comparison_fits operator want a b to other s h =
      let c : Compared operator (sort a) (sort b) = compared_operands operator (sort a) (sort b) other s in
      let ha : AreHeld (expr_needs parts.shape a 0) = front (expr_needs parts.shape a 0) (expr_needs parts.shape b 1) h in
      let hb : AreHeld (expr_needs parts.shape b 1) = back (expr_needs parts.shape a 0) (expr_needs parts.shape b 1) h in
      join (expr_code parts.shape temp a 0) _ (expr_fits a 0 c.kind c.operands.left_is ha)
      (join (expr_code parts.shape temp b 1) _ (expr_fits b 1 c.kind c.operands.right_is hb)
      (compare_fits operator want (register parts.shape temp a 0) (register parts.shape temp b 1) to c.kind c.ordered
      (register_kind a 0 c.kind c.operands.left_is ha) (register_kind b 1 c.kind c.operands.right_is hb)))

  pub test_fits : (e : Expr) (want : Bool) (to at : ℕ) → sort e ≡ Some Truth → AreHeld (test_needs parts.shape e) → FitAll (test_code parts.shape temp e want to at)
  test_fits (Number n) want to at s h = tt
  test_fits (Null ty) want to at s h = tt
  test_fits (Local x) want to at s h = tt
  test_fits (Root slot) want to at s h = tt
  test_fits (Parens e) want to at s h = test_fits e want to at s h
  test_fits (Load e slot kind) want to at s h = tt
  test_fits (LoadIndexed e slot elements i kind) want to at s h = tt
  test_fits (Negate e) want to at s h = tt
  test_fits (Not e) want to at s h = test_fits e (not want) to at (denied parts.shape locals e s) h
  test_fits (Binary op.And a b) true to at s h =
      let o : Operands Truth (sort a) (sort b) = and_operands (sort a) (sort b) s in
      join _ _ (test_fits a _ _ _ o.left_is (front (test_needs parts.shape a) (test_needs parts.shape b) h))
      (test_fits b _ _ _ o.right_is (back (test_needs parts.shape a) (test_needs parts.shape b) h))
  test_fits (Binary op.And a b) false to at s h =
      let o : Operands Truth (sort a) (sort b) = and_operands (sort a) (sort b) s in
      join _ _ (test_fits a _ _ _ o.left_is (front (test_needs parts.shape a) (test_needs parts.shape b) h))
      (test_fits b _ _ _ o.right_is (back (test_needs parts.shape a) (test_needs parts.shape b) h))
  test_fits (Binary op.Or a b) true to at s h =
      let o : Operands Truth (sort a) (sort b) = or_operands (sort a) (sort b) s in
      join _ _ (test_fits a _ _ _ o.left_is (front (test_needs parts.shape a) (test_needs parts.shape b) h))
      (test_fits b _ _ _ o.right_is (back (test_needs parts.shape a) (test_needs parts.shape b) h))
  test_fits (Binary op.Or a b) false to at s h =
      let o : Operands Truth (sort a) (sort b) = or_operands (sort a) (sort b) s in
      join _ _ (test_fits a _ _ _ o.left_is (front (test_needs parts.shape a) (test_needs parts.shape b) h))
      (test_fits b _ _ _ o.right_is (back (test_needs parts.shape a) (test_needs parts.shape b) h))
  test_fits (Binary op.Add a b) want to at s h = comparison_fits op.Add want a b to refl s h
  test_fits (Binary op.Sub a b) want to at s h = comparison_fits op.Sub want a b to refl s h
  test_fits (Binary op.Mul a b) want to at s h = comparison_fits op.Mul want a b to refl s h
  test_fits (Binary op.Div a b) want to at s h = comparison_fits op.Div want a b to refl s h
  test_fits (Binary op.Rem a b) want to at s h = comparison_fits op.Rem want a b to refl s h
  test_fits (Binary op.Equal a b) want to at s h = comparison_fits op.Equal want a b to refl s h
  test_fits (Binary op.NotEqual a b) want to at s h = comparison_fits op.NotEqual want a b to refl s h
  test_fits (Binary op.Less a b) want to at s h = comparison_fits op.Less want a b to refl s h
  test_fits (Binary op.LessEqual a b) want to at s h = comparison_fits op.LessEqual want a b to refl s h
  test_fits (Binary op.Greater a b) want to at s h = comparison_fits op.Greater want a b to refl s h
  test_fits (Binary op.GreaterEqual a b) want to at s h = comparison_fits op.GreaterEqual want a b to refl s h
