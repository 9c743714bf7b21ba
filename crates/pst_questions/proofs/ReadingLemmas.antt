-- The reading of a path, field by field.
use Rattle.std.proofs.Common.{◌≡◌, ◌==◌, false, List, [], ◌∷◌, length, Option, Some, refl, ap, sym, ◌∙◌, subst}
use Rattle.std.specs.Prelude.{option_and_then}
use Rattle.std.specs.Option.{option_map}
use Rattle.pst_base.specs.declared.names.Kind.{Kind}
use Rattle.pst_base.specs.declared.names.Kind.TheVariants.{Int, Pointer}
use Rattle.pst_base.specs.declared.names.TypeNo.{TypeNo}
use Rattle.pst_base.specs.declared.shape.TypeShape.{TypeShape}
use Rattle.pst_base.specs.Name.{root_name}
use Rattle.pst_base.specs.Shape.{root_type}
use Rattle.pst_base.specs.Heap.{kind_in, kind_from, pointer_in, type_in}
use Rattle.pst_program.proofs.Fields.{held_type}
use Rattle.pst_versions.specs.State.{State, IsSound, IsRef}
use Rattle.pst_questions.specs.declared.slots.PathStep.{PathStep}
use Rattle.pst_questions.specs.Path.{FieldsLead, IsPathIn}
use Rattle.pst_questions.specs.Reading.{reading, reading_from}

-- a field that leads on is a pointer
record LeadsOn (shape : List TypeShape) (kind : Kind) (steps : List PathStep) : Type 0 where
  ty : TypeNo
  is : kind ≡ Pointer ty
  leads : FieldsLead shape (Pointer ty) steps

leads_on : (shape : List TypeShape) (kind : Kind) (step : PathStep) (steps : List PathStep) → FieldsLead shape kind (step ∷ steps) → LeadsOn shape kind (step ∷ steps)
leads_on shape Int step steps l = absurd l
leads_on shape (Pointer ty) step steps l = record { ty = ty; is = refl; leads = l }

-- where the reading of a path stands: at a record, with these fields left
pub record Reads {P R : Type 0} (s : State P R) (at : P) (path : List PathStep) (r : R) (rest : List PathStep) : Type 0 where
  pub ty : TypeNo
  pub ref : IsRef s at r ty
  pub leads : FieldsLead s.shape (Pointer ty) rest
  pub same : reading_from (s.heap at) rest (s.name r) ≡ reading (s.heap at) path

module _ {P R : Type 0} (s : State P R) (at : P) (path : List PathStep) (r : R) where
  -- at the root record
  pub reads_root : IsSound s → s.has at → s.live at r → s.name r ≡ root_name → IsPathIn s.shape path → Reads s at path r path
  unfolding reading
  reads_root sound has live is leads = record {
    ty = root_type;
    ref = record { live = live; typed = ap (type_in (s.heap at)) is ∙ (sound.well_formed at has).root };
    leads = leads;
    same = ap (reading_from (s.heap at) path) is;
  }

  module _ (step : PathStep) where
    pub reads_kind : (rest : List PathStep) → Reads s at path r (step ∷ rest) → kind_in s.shape (s.heap at) (s.name r) step.slot.0 ≡ Some step.kind
    reads_kind rest d = ap (kind_from s.shape step.slot.0) d.ref.typed ∙ d.leads.0

    module _ (next : PathStep) (rest : List PathStep) (d : Reads s at path r (step ∷ next ∷ rest)) where
      on : LeadsOn s.shape step.kind (next ∷ rest)
      on = leads_on s.shape step.kind next rest d.leads.1

      pub reads_on : (q : R) → IsSound s → s.has at → s.live at q → pointer_in (s.heap at) (s.name r) step.slot.0 ≡ Some (s.name q) → Reads s at path q (next ∷ rest)
      reads_on q sound has live held = record {
        ty = on.ty;
        ref = record { live = live; typed = held_type s.shape (s.heap at) (s.name r) step.slot.0 (s.name q) on.ty (sound.well_formed at has) (reads_kind (next ∷ rest) d ∙ ap Some on.is) held };
        leads = on.leads;
        same = sym (ap (option_and_then (reading_from (s.heap at) (next ∷ rest))) held) ∙ d.same;
      }

  -- the same, where the field that was read is the first of those that were left, and some are left behind it
  pub reads_more : (step : PathStep) (rest after : List PathStep) (loaded : Option R) (q : R) → rest ≡ step ∷ after → false ≡ (length after == 0) → Reads s at path r rest → IsSound s → s.has at
      → option_map s.name loaded ≡ pointer_in (s.heap at) (s.name r) step.slot.0 → loaded ≡ Some q → s.live at q → Reads s at path q after
  reads_more step rest [] loaded q e some d sound has target is live = absurd (cc)
  reads_more step rest (next ∷ after) loaded q e some d sound has target is live =
      let held : pointer_in (s.heap at) (s.name r) step.slot.0 ≡ Some (s.name q) = sym target ∙ ap (option_map s.name) is in
      reads_on step next after (subst (Reads s at path r) e d) q sound has live held
