-- What all slots of an array hold, one after another.
use Rattle.std.proofs.Common.{◌≡◌, ℕ, zero, suc, ◌+◌, ◌-◌, ◌<◌, Bool, true, false, ◌&&◌, Some, refl, sym, ap, ◌∙◌, arith}
use Rattle.pst_base.specs.declared.names.Kind.{Kind}
use Rattle.pst_base.specs.declared.shape.TypeShape.{TypeShape}
use Rattle.pst_base.specs.Shape.{field_kind}
use Rattle.pst_program.specs.Typed.{all_hold}
use Rattle.pst_program.proofs.Arrays.{some_kind_true}

refuted : (b : Bool) → (b ≡ true → ⊥) → b ≡ false
refuted true none = absurd (none refl)
refuted false none = refl

false_on : (a b : Bool) → a ≡ false → (a && b) ≡ false
false_on true b e = absurd (cc)
false_on false b e = refl

-- no more slots hold it all where some do not
hold_no_more : (t : TypeShape) (kind : Kind) (slot n more : ℕ) → all_hold t kind slot n ≡ false → all_hold t kind slot (more + n) ≡ false
hold_no_more t kind slot n zero none = let same : 0 + n ≡ n = omega arith in ap (all_hold t kind slot) same ∙ none
hold_no_more t kind slot n (suc more) none =
    let same : suc more + n ≡ suc (more + n) = omega arith in
    ap (all_hold t kind slot) same ∙ false_on (all_hold t kind slot (more + n)) _ (hold_no_more t kind slot n more none)

-- one slot that does not hold the kind
pub hold_not : (t : TypeShape) (kind : Kind) (slot n count : ℕ) → n < count → (field_kind t (slot + n) ≡ Some kind → ⊥) → all_hold t kind slot count ≡ false
hold_not t kind slot n count below other =
    let there : all_hold t kind slot (suc n) ≡ false = and_false (all_hold t kind slot n) _ (refuted _ (λ e. other (some_kind_true (field_kind t (slot + n)) kind e))) in
    let all : (count - suc n) + suc n ≡ count = omega (arith, below) in
    ap (all_hold t kind slot) (sym all) ∙ hold_no_more t kind slot (suc n) (count - suc n) there
  where
    and_false : (a b : Bool) → b ≡ false → (a && b) ≡ false
    and_false true b e = e
    and_false false b e = refl
