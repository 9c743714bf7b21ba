-- The fields of a path, name by name.
use Rattle.std.proofs.Common.{◌≡◌, ℕ, ◌+◌, ◌≤◌, Bool, true, false, not, cond, List, [], ◌∷◌, ◌++◌, length, take, drop, Option, Some, None, refl, ap, sym, ◌∙◌, subst, arith, append-nil}
use borrow.Author.Tests.{ltb-true, ltb-false}
use Rattle.std.proofs.lemmas.List.Splits.{slice_split-cons_no, slice_split_first}
use Rattle.std.specs.Prelude.{option_and_then, position, nat_lt}
use Rattle.std.specs.List.{onto_first, position_or_len}
use Rattle.std.specs.Option.{option_map}
use Rattle.pst_base.specs.declared.names.Kind.{Kind}
use Rattle.pst_base.specs.declared.names.Kind.TheVariants.{Int, Pointer}
use Rattle.pst_base.specs.declared.names.TypeNo.{TypeNo}
use Rattle.pst_base.specs.declared.names.SlotNo.{SlotNo}
use Rattle.pst_base.specs.Shape.{type_at, root_type, field_kind}
use Rattle.pst_program.specs.declared.program.Program.{Program}
use Rattle.pst_program.specs.Names.{slot_named}
use Rattle.pst_questions.specs.declared.slots.PathStep.{PathStep}
use Rattle.pst_questions.specs.Path.{is_dot, names_of, names_in, field_step, step_named, steps_from, resolved, FieldsLead, IsPathIn}

-- the fields that were found, and then those that are still to be found
abbrev pub joined : List PathStep → Option (List PathStep) → Option (List PathStep)
joined found rest = option_map (λ steps. found ++ steps) rest

pub joined-nothing : (rest : Option (List PathStep)) → joined [] rest ≡ rest
joined-nothing None = refl
joined-nothing (Some steps) = refl

-- a field that was found by its name is one of the shape
field_of_shape : (program : Program) (ty : TypeNo) (name : List ℕ) (step : PathStep) → field_step program ty name ≡ Some step → field_kind (type_at program.shape ty) step.slot.0 ≡ Some step.kind
field_of_shape program ty name step e = by_slot (slot_named program.names ty name) e
  where
    by_kind : (slot : SlotNo) (kind : Option Kind) → field_kind (type_at program.shape ty) slot.0 ≡ kind
        → option_map (λ (k : Kind). record { slot = slot; kind = k }) kind ≡ Some step → field_kind (type_at program.shape ty) step.slot.0 ≡ Some step.kind
    by_kind slot None is e = absurd (cc)
    by_kind slot (Some k) is e =
        let made : PathStep = record { slot = slot; kind = k } in
        let same : made ≡ step = cc in
        subst (λ (s : PathStep). field_kind (type_at program.shape ty) s.slot.0 ≡ Some s.kind) same is

    by_slot : (slot : Option SlotNo) → option_and_then (λ (s : SlotNo). option_map (λ (k : Kind). record { slot = s; kind = k })
        (field_kind (type_at program.shape ty) s.0)) slot ≡ Some step → field_kind (type_at program.shape ty) step.slot.0 ≡ Some step.kind
    by_slot None e = absurd (cc)
    by_slot (Some s) e = by_kind s (field_kind (type_at program.shape ty) s.0) refl e

leads_first : (program : Program) (kind : Kind) (name : List ℕ) (step : PathStep) (steps : List PathStep) → step_named program kind name ≡ Some step
    → FieldsLead program.shape step.kind steps → FieldsLead program.shape kind (step ∷ steps)
leads_first program Int name step steps e l = absurd (cc)
leads_first program (Pointer ty) name step steps e l = (field_of_shape program ty name step e, l)

steps_lead : (program : Program) (kind : Kind) (names : List (List ℕ)) (steps : List PathStep) → steps_from program kind names ≡ Some steps → FieldsLead program.shape kind steps
steps_lead program kind [] steps e = let none : [] ≡ steps = cc in subst (FieldsLead program.shape kind) none tt
steps_lead program kind (name ∷ names) steps e = by_step (step_named program kind name) refl (λ k. steps_lead program k names) e
  where
    by_rest : (step : PathStep) → step_named program kind name ≡ Some step → (rest : Option (List PathStep))
        → ((more : List PathStep) → rest ≡ Some more → FieldsLead program.shape step.kind more) → option_map (λ more. step ∷ more) rest ≡ Some steps
        → FieldsLead program.shape kind steps
    by_rest step found None lead e = absurd (cc)
    by_rest step found (Some more) lead e =
        let all : step ∷ more ≡ steps = cc in
        subst (FieldsLead program.shape kind) all (leads_first program kind name step more found (lead more refl))

    by_step : (step : Option PathStep) → step_named program kind name ≡ step → ((k : Kind) (more : List PathStep) → steps_from program k names ≡ Some more → FieldsLead program.shape k more)
        → option_and_then (λ (s : PathStep). option_map (λ more. s ∷ more) (steps_from program s.kind names)) step ≡ Some steps → FieldsLead program.shape kind steps
    by_step None is lead e = absurd (cc)
    by_step (Some s) is lead e = by_rest s is (steps_from program s.kind names) (lead s.kind) e

-- the fields of a path lead from the root record on
pub resolved_leads : (program : Program) (path : List ℕ) (steps : List PathStep) → resolved program path ≡ Some steps → IsPathIn program.shape steps
unfolding resolved
resolved_leads program path steps e = steps_lead program (Pointer root_type) (names_of path) steps e

-- ---- the loop over the names

whole : (path : List ℕ) → length path ≤ position_or_len is_dot path → names_of path ≡ path ∷ []
whole [] far = refl
whole (b ∷ path) far = by_byte (is_dot b) refl (whole path) far
  where
    by_byte : (t : Bool) → is_dot b ≡ t → (length path ≤ position_or_len is_dot path → names_of path ≡ path ∷ [])
        → length (b ∷ path) ≤ cond (not t) (1 + position_or_len is_dot path) 0 → names_of (b ∷ path) ≡ (b ∷ path) ∷ []
    by_byte true is rec far = absurd (omega arith)
    by_byte false is rec far = slice_split-cons_no is_dot b path is ∙ ap (onto_first b) (rec (omega arith))

-- a path without a dot is one name
pub names_whole : (path : List ℕ) → position is_dot path ≡ None → names_of path ≡ path ∷ []
names_whole path none = by_test (nat_lt (position_or_len is_dot path) (length path)) refl none
  where
    by_test : (t : Bool) → nat_lt (position_or_len is_dot path) (length path) ≡ t → cond t (Some (position_or_len is_dot path)) None ≡ None → names_of path ≡ path ∷ []
    by_test true is e = absurd (cc)
    by_test false is e = whole path (omega (arith, ltb-false (position_or_len is_dot path) (length path) is))

-- the first name of a path ends at its first dot
pub names_cut : (path : List ℕ) (dot : ℕ) → position is_dot path ≡ Some dot → names_of path ≡ take dot path ∷ names_of (drop (dot + 1) path)
names_cut path dot some = by_test (nat_lt (position_or_len is_dot path) (length path)) refl some
  where
    by_test : (t : Bool) → nat_lt (position_or_len is_dot path) (length path) ≡ t → cond t (Some (position_or_len is_dot path)) None ≡ Some dot
        → names_of path ≡ take dot path ∷ names_of (drop (dot + 1) path)
    by_test true is e =
        let here : position_or_len is_dot path ≡ dot = cc in
        slice_split_first is_dot path 0 (ltb-true (position_or_len is_dot path) (length path) is) ∙ ap (λ (n : ℕ). take n path ∷ names_of (drop (n + 1) path)) here
    by_test false is e = absurd (cc)

-- what was found of a path, and what its names that are left come to
abbrev pub Left : Program → (path : List ℕ) → (found : List PathStep) → Kind → (rest : Option (List ℕ)) → Type 0
Left program path found kind rest = joined found (steps_from program kind (names_in rest)) ≡ resolved program path

pub left_first : (program : Program) (path : List ℕ) → Left program path [] (Pointer root_type) (Some path)
unfolding resolved
left_first program path = joined-nothing (steps_from program (Pointer root_type) (names_of path))

-- no name is left
pub left_last : (program : Program) (path : List ℕ) (found : List PathStep) (kind : Kind) (rest : Option (List ℕ)) → rest ≡ None
    → Left program path found kind rest → Some found ≡ resolved program path
left_last program path found kind rest none left = ap Some (sym (append-nil found)) ∙ sym (ap (λ (o : Option (List ℕ)). joined found (steps_from program kind (names_in o))) none) ∙ left
