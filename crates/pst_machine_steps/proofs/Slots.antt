-- The slots of the elements of arrays.
use Rattle.std.proofs.Common.{◌≡◌, ℕ, ◌+◌, ◌-◌, ◌<◌, ◌≤◌, ◌^◌, ℤ, pos, negsuc, true, false, cond, ltb, ltb-true, ltb-false, nat_lt, nat_le, List, length, map}
use Rattle.std.proofs.Common.{Option, Some, None, refl, sym, ap, ◌∙◌, arith, slice_get, slice_index_or}
use Rattle.std.specs.Option.{option_map}
use Rattle.std.proofs.lemmas.Option.{slice_get_within, same_Some}
use Rattle.pst_base.specs.declared.names.Kind.{Kind}
use Rattle.pst_base.specs.declared.names.Kind.TheVariants.{Int, Pointer}
use Rattle.pst_base.specs.declared.names.Name.{Name}
use Rattle.pst_base.specs.declared.names.TypeNo.{TypeNo}
use Rattle.pst_base.specs.declared.names.TrapKind.TheVariants.{Index as IndexTrap}
use Rattle.pst_base.specs.declared.shape.TypeShape.{TypeShape}
use Rattle.pst_base.specs.declared.shape.TheConstants.{LONGEST_ARRAY, MOST_ELEMENTS}
use Rattle.pst_base.specs.Shape.{field_kind, element_count}
use Rattle.pst_base.specs.Heap.{Heap}
use Rattle.pst_program.specs.declared.meaning.Value.{Value}
use Rattle.pst_program.specs.declared.meaning.Value.TheVariants.{Null as ANull, Record as ARecord}
use Rattle.pst_program.specs.Value.{Answer, Traps, number_of, and_then, object_of, index_of, load, load_element}
use Rattle.pst_program.proofs.Arrays.{HasElements, both_parts}
use Rattle.pst_machine_steps.specs.declared.register.Register.{Register}
use Rattle.pst_machine_steps.specs.declared.register.Register.TheVariants.{Null, Reference}
use Rattle.pst_machine_steps.specs.View.{value_of}
use Rattle.pst_machine_steps.specs.Steps.{slot_at}
use Rattle.pst_machine_steps.proofs.Kept.{value_held}

-- a slot that holds something is one of the elements
slot_below : (t : TypeShape) (slot : ℕ) (kind : Kind) → field_kind t slot ≡ Some kind → slot < t.values + length t.targets
slot_below t slot kind e = elim (nat_lt slot t.values) as (λ b. nat_lt slot t.values ≡ b
    → cond b (Some Int) (option_map Pointer (slice_get t.targets (slot - t.values))) ≡ Some kind → slot < t.values + length t.targets) [
      | true ↦ λ x u. let below : slot < t.values = ltb-true slot t.values x in omega arith
      | false ↦ λ x u.
          let from : t.values ≤ slot = ltb-false slot t.values x in
          elim (slice_get t.targets (slot - t.values)) as (λ (o : Option TypeNo). slice_get t.targets (slot - t.values) ≡ o → option_map Pointer o ≡ Some kind → slot < t.values + length t.targets) [
            | None ↦ λ is v. absurd (cc)
            | Some ty ↦ λ is v. let within : slot - t.values < length t.targets = slice_get_within t.targets (slot - t.values) ty is in omega arith
          ] refl u
    ] refl e

-- so the slots of an array have numbers of 16 bits
pub slots_numbered : (t : TypeShape) (first elements : ℕ) (kind : Kind) → HasElements t first elements kind → element_count t ≤ MOST_ELEMENTS → first + elements ≤ 2 ^ 16
slots_numbered t first elements kind has few =
    let length_is = both_parts (nat_lt 0 elements) (nat_le elements LONGEST_ARRAY) has.length in
    let some : 0 < elements = ltb-true 0 elements length_is.0 in
    let last : first + (elements - 1) < t.values + length t.targets = slot_below t (first + (elements - 1)) kind (has.holds (elements - 1) (omega arith)) in
    omega arith

-- the slot of an element is behind the first one by its index
pub record ElementSlot (first elements slot : ℕ) : Type 0 where
  pub index : ℕ
  pub below : index < elements
  pub is : slot ≡ first + index

pub element_slot : (first elements : ℕ) (n : ℤ) (slot : ℕ) → Some slot ≡ slot_at first elements n → ElementSlot first elements slot
element_slot first elements (negsuc m) slot e = absurd (cc)
element_slot first elements (pos m) slot e =
    elim (ltb m elements) as (λ b. ltb m elements ≡ b → Some slot ≡ option_map (λ k. first + k) (cond b (Some m) None) → ElementSlot first elements slot) [
      | true ↦ λ u v. record { index = m; below = ltb-true m elements u; is = same_Some slot (first + m) v }
      | false ↦ λ u v. absurd (cc)
    ] refl e

-- a read by the slot of the element
abbrev pub load_slot : List TypeShape → Heap → Option ℕ → Value → Answer
load_slot shape heap None v = Traps IndexTrap
load_slot shape heap (Some slot) v = load shape heap slot v

pub load_by_slot : (shape : List TypeShape) (heap : Heap) (first : ℕ) (index : Option ℕ) (v : Value)
    → load_element shape heap first index v ≡ load_slot shape heap (option_map (λ k. first + k) index) v
load_by_slot shape heap first None v = refl
load_by_slot shape heap first (Some k) v = refl

-- what an indexed read of a record gives
pub element_read : {R : Type 0} (shape : List TypeShape) (heap : Heap) (name : R → Name) (rs : List (Register R)) (o i : ℕ) (r : R) (first elements : ℕ) (slot : Option ℕ)
    → slice_index_or rs o Null ≡ Reference r → slot ≡ slot_at first elements (number_of (value_of name (slice_index_or rs i Null)))
    → and_then (object_of (slice_index_or (map (value_of name) rs) o ANull))
    (load_element shape heap first (index_of elements (number_of (slice_index_or (map (value_of name) rs) i ANull)))) ≡ load_slot shape heap slot
    (ARecord (name r))
element_read shape heap name rs o i r first elements slot is at =
    let index : Option ℕ = index_of elements (number_of (value_of name (slice_index_or rs i Null))) in
    ap (λ (v : Value). and_then (object_of (slice_index_or (map (value_of name) rs) o ANull)) (load_element shape heap first (index_of elements (number_of v)))) (sym (value_held name rs i))
    ∙ ap (λ (v : Value). and_then (object_of v) (load_element shape heap first index)) (sym (value_held name rs o) ∙ ap (value_of name) is)
    ∙ load_by_slot shape heap first index (ARecord (name r)) ∙ ap (λ (slot : Option ℕ). load_slot shape heap slot (ARecord (name r))) (sym at)
