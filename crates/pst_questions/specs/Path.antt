-- What a path is, and which fields it names. A name is that of the language; paths are this project's own.
use Rattle.std.specs.Prelude.{◌≡◌, ℕ, Bool, ◌==◌, List, [], ◌∷◌, Option, Some, None, option_and_then}
use Rattle.std.specs.List.{list_all, slice_split}
use Rattle.std.specs.Option.{option_map}
use Rattle.pst_base.specs.declared.names.Kind.{Kind}
use Rattle.pst_base.specs.declared.names.Kind.TheVariants.{Int, Pointer}
use Rattle.pst_base.specs.declared.names.TypeNo.{TypeNo}
use Rattle.pst_base.specs.declared.shape.TypeShape.{TypeShape}
use Rattle.pst_base.specs.Shape.{type_at, root_type, field_kind}
use Rattle.pst_base.specs.Words.{is_name}
use Rattle.pst_program.specs.declared.program.Program.{Program}
use Rattle.pst_program.specs.Names.{slot_named}
use Rattle.pst_questions.specs.declared.slots.PathStep.{PathStep}

-- ---- the form of a path

abbrev pub is_dot : ℕ → Bool
is_dot b = b == 46

-- the names of a path: what stands between its dots
abbrev pub names_of : (path : List ℕ) → List (List ℕ)
names_of path = slice_split is_dot path

-- the names of what is left of a path, if anything is
abbrev pub names_in : (rest : Option (List ℕ)) → List (List ℕ)
names_in None = []
names_in (Some path) = names_of path

-- a path is names joined by single dots
abbrev pub is_path : List ℕ → Bool
is_path path = list_all is_name (names_of path)

-- ---- the fields of a path

-- the field of a record type with a name: its slot, and what it holds. An array is none
abbrev pub field_step : Program → TypeNo → (name : List ℕ) → Option PathStep
field_step program ty name =
    option_and_then (λ slot. option_map (λ kind. record { slot = slot; kind = kind }) (field_kind (type_at program.shape ty) slot.0)) (slot_named program.names ty name)

-- the field with a name, of the record that a pointer of this kind leads to. A number leads to none
abbrev pub step_named : Program → Kind → (name : List ℕ) → Option PathStep
step_named program Int name = None
step_named program (Pointer ty) name = field_step program ty name

-- the fields with these names, one after another, each of the record that the one before leads to
abbrev pub steps_from : Program → Kind → (names : List (List ℕ)) → Option (List PathStep)
steps_from program kind [] = Some []
steps_from program kind (name ∷ names) =
    option_and_then (λ step. option_map (λ steps. step ∷ steps) (steps_from program step.kind names)) (step_named program kind name)

-- the fields of a path, from the root record on: none where a name is not that of a field, and the path is not valid
unfoldable pub resolved : Program → (path : List ℕ) → Option (List PathStep)
resolved program path = steps_from program (Pointer root_type) (names_of path)

-- each step is a field of the record that the one before leads to
abbrev pub FieldsLead : List TypeShape → Kind → List PathStep → Type 0
FieldsLead shape kind [] = Unit {0}
FieldsLead shape Int (step ∷ steps) = ⊥
FieldsLead shape (Pointer ty) (step ∷ steps) = (field_kind (type_at shape ty) step.slot.0 ≡ Some step.kind) × FieldsLead shape step.kind steps

-- the steps lead from the root record through fields of the shape
abbrev pub IsPathIn : List TypeShape → List PathStep → Type 0
IsPathIn shape steps = FieldsLead shape (Pointer root_type) steps
