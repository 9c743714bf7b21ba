-- The small examples.
use Rattle.std.proofs.Common.{◌≡◌, ◌≢◌, ◌<◌, ℕ, pos, [], ◌∷◌, Option, Some, refl, ap, ◌∙◌, arith}
use Rattle.std.specs.Prelude.{option_and_then}
use Rattle.pst_base.specs.declared.names.Kind.TheVariants.{Int, Pointer}
use Rattle.pst_base.specs.Heap.{Rec, pointer_from, value_from}
use Rattle.pst_base.specs.Worked.{item}
use Rattle.pst_program.specs.declared.meaning.Value.{Value}
use Rattle.pst_program.specs.declared.meaning.Value.TheVariants.{Number}
use Rattle.pst_program.specs.Value.{pointer_value}
use Rattle.pst_questions.specs.declared.slots.PathStep.{PathStep}
use Rattle.pst_base.specs.Words.{is_name}
use Rattle.pst_questions.specs.Path.{resolved}
use Rattle.pst_questions.specs.Reading.{reading, reading_from}
use Rattle.pst_questions.specs.WorkedChanged.{step, PathForms, WorkedFields, WorkedReadings, WorkedChanges, worked_keys, worked_firsts, worked_nulls, version}
use Rattle.pst_questions.proofs.ChangeLemmas.{unchanged_first, unchanged_more, change_found, change_missing}

pub path_forms : PathForms
unfolding is_name
path_forms = record { names = refl; longest = refl; too_long = refl; none = refl; two_dots = refl; dot_behind = refl; dot_before = refl; keyword = refl; digit = refl; blank = refl }

pub worked_fields : WorkedFields
unfolding resolved
worked_fields p = (
  record { root = refl; number = refl; pointer = refl; no_root = refl; no_field = refl; root_behind = refl; past_number = refl },
  record { plain = refl; array = refl; past_array = refl },
)

pub worked_readings_are : WorkedReadings
unfolding reading
worked_readings_are h root first =
    let key : PathStep = step 0 Int in
    let next : PathStep = step 1 (Pointer item) in
    let back : PathStep = step 2 (Pointer item) in
    record {
      number = ap (option_and_then (reading_from h (key ∷ []))) (ap (pointer_from 0) root) ∙ ap (λ (o : Option Rec). Some (Number (value_from 0 o))) first;
      target = ap (option_and_then (reading_from h (next ∷ []))) (ap (pointer_from 0) root) ∙ ap (λ (o : Option Rec). Some (pointer_value (pointer_from 1 o))) first;
      null = ap (λ (o : Option Rec). Some (pointer_value (pointer_from 1 o))) root;
      past_null = ap (option_and_then (reading_from h (key ∷ []))) (ap (pointer_from 1) root);
      null_at_the_end = ap (option_and_then (reading_from h (next ∷ back ∷ []))) (ap (pointer_from 0) root)
          ∙ (ap (option_and_then (reading_from h (back ∷ []))) (ap (pointer_from 1) first) ∙ ap (λ (o : Option Rec). Some (pointer_value (pointer_from 2 o))) first);
    }

differ : (m : ℕ) → 1 < m → let a : Option Value = Some (Number (pos m)) in a ≢ Some (Number (pos 1))
differ m above e = let one : m ≡ 1 = cc in absurd (omega arith)

pub worked_changes : WorkedChanges
worked_changes = record {
  before = change_found worked_keys 3 2 (version 1) (unchanged_more worked_keys 3 3 (version 2) (unchanged_first worked_keys 3) refl refl) refl (differ 4 (omega arith));
  here = change_found worked_keys 4 4 (version 1) (unchanged_first worked_keys 4) refl (differ 6 (omega arith));
  far = change_found worked_firsts 3 1 (version 0) (unchanged_more worked_firsts 3 2 (version 1)
      (unchanged_more worked_firsts 3 3 (version 2) (unchanged_first worked_firsts 3) refl refl) refl refl) refl (λ e. cc);
  null_is_not_nothing = change_found worked_nulls 4 1 (version 0) (unchanged_more worked_nulls 4 4 (version 1) (unchanged_first worked_nulls 4) refl refl) refl (λ e. cc);
  never = change_missing worked_firsts 0 0 (unchanged_first worked_firsts 0) refl;
}
