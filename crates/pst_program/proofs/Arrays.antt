-- What an array is: so many slots of one kind.
use Rattle.std.proofs.Common.{◌≡◌, ℕ, zero, suc, ◌+◌, ◌<◌, Bool, true, false, ◌&&◌, cond, List, Option, Some, None, refl, sym, ap, ◌∙◌, subst, arith, ltb, ltb-true, ltb-false}
use Rattle.std.specs.Prelude.{if◌then◌else◌}
use Rattle.std.specs.Option.{option_eq, option_and_then}
use borrow.Author.Tests.{eqb-true}
use Rattle.pst_base.specs.declared.names.Kind.{Kind}
use Rattle.pst_base.specs.declared.names.Kind.TheVariants.{Int, Pointer}
use Rattle.pst_base.specs.declared.names.TypeNo.{TypeNo}
use Rattle.pst_base.specs.declared.shape.TypeShape.{TypeShape}
use Rattle.pst_base.specs.Shape.{type_at, field_kind}
use Rattle.pst_program.specs.Typed.{Sort, Of, Truth, same_kind, is_length, all_hold, array_kind, array_of}

pub same_kind_true : (a b : Kind) → same_kind a b ≡ true → a ≡ b
same_kind_true Int Int e = refl
same_kind_true Int (Pointer b) e = absurd (cc)
same_kind_true (Pointer a) Int e = absurd (cc)
same_kind_true (Pointer a) (Pointer b) e = ap Pointer (let same : a.0 ≡ b.0 = eqb-true a.0 b.0 e in λ i. record { 0 = same i })

pub some_kind_true : (o : Option Kind) (k : Kind) → option_eq same_kind o (Some k) ≡ true → o ≡ Some k
some_kind_true None k e = absurd (cc)
some_kind_true (Some j) k e = ap Some (same_kind_true j k e)

pub both_parts : (a b : Bool) → (a && b) ≡ true → (a ≡ true) × (b ≡ true)
both_parts true b e = (refl, e)
both_parts false b e = absurd (cc)

-- each slot of an array holds its kind, and it is no longer than an array can be
pub record HasElements (t : TypeShape) (slot elements : ℕ) (kind : Kind) : Type 0 where
  pub length : is_length elements ≡ true
  pub first : field_kind t slot ≡ Some kind
  pub holds : (k : ℕ) → k < elements → field_kind t (slot + k) ≡ Some kind

all_hold-at : (t : TypeShape) (kind : Kind) (slot n : ℕ) → all_hold t kind slot n ≡ true → (k : ℕ) → k < n → field_kind t (slot + k) ≡ Some kind
all_hold-at t kind slot zero e k l = absurd (omega (arith, l))
all_hold-at t kind slot (suc n) e k l =
    let parts = both_parts (all_hold t kind slot n) (option_eq same_kind (field_kind t (slot + n)) (Some kind)) e in
    elim (ltb k n) as (λ b. ltb k n ≡ b → field_kind t (slot + k) ≡ Some kind) [
      | true ↦ λ u. all_hold-at t kind slot n parts.0 k (ltb-true k n u)
      | false ↦ λ u. let from = ltb-false k n u in let same : k ≡ n = omega (arith, l, from) in
          subst (λ (i : ℕ). field_kind t (slot + i) ≡ Some kind) (sym same) (some_kind_true (field_kind t (slot + n)) kind parts.1)
    ] refl

pub array_kind-elements : (t : TypeShape) (slot elements : ℕ) (kind : Kind) → array_kind t slot elements ≡ Some kind → HasElements t slot elements kind
array_kind-elements t slot elements kind e = from_first (field_kind t slot) refl e
  where
    from_test : (first : Kind) → field_kind t slot ≡ Some first → (b : Bool) → (is_length elements && all_hold t first slot elements) ≡ b
        → cond b (Some first) None ≡ Some kind → HasElements t slot elements kind
    from_test first at true holds given =
        let same : first ≡ kind = cc in
        let parts = both_parts (is_length elements) (all_hold t first slot elements) holds in
        subst (λ (k : Kind). HasElements t slot elements k) same record { length = parts.0; first = at; holds = all_hold-at t first slot elements parts.1 }
    from_test first at false holds given = absurd (cc)

    from_first : (first : Option Kind) → field_kind t slot ≡ first
        → option_and_then (λ k. if is_length elements && all_hold t k slot elements then Some k else None) first ≡ Some kind → HasElements t slot elements kind
    from_first None at given = absurd (cc)
    from_first (Some first) at given = from_test first at (is_length elements && all_hold t first slot elements) refl given

-- what an object with an array is
pub record ArrayFrom (shape : List TypeShape) (o : Option Sort) (slot elements : ℕ) (kind : Kind) : Type 0 where
  pub ty : TypeNo
  pub object : o ≡ Some (Of (Pointer ty))
  pub has : HasElements (type_at shape ty) slot elements kind

pub array_from : (shape : List TypeShape) (o : Option Sort) (slot elements : ℕ) (kind : Kind) → array_of shape o slot elements ≡ Some kind → ArrayFrom shape o slot elements kind
array_from shape None slot elements kind e = absurd (cc)
array_from shape (Some Truth) slot elements kind e = absurd (cc)
array_from shape (Some (Of Int)) slot elements kind e = absurd (cc)
array_from shape (Some (Of (Pointer ty))) slot elements kind e = record { ty = ty; object = refl; has = array_kind-elements (type_at shape ty) slot elements kind e }
