-- What a path reads in a heap: this project's own rule.
use Rattle.std.specs.Prelude.{List, [], ◌∷◌, Option, Some, None, option_and_then}
use Rattle.pst_base.specs.declared.names.Name.{Name}
use Rattle.pst_base.specs.Name.{root_name}
use Rattle.pst_base.specs.Heap.{Heap, pointer_in}
use Rattle.pst_program.specs.declared.meaning.Value.{Value}
use Rattle.pst_program.specs.Value.{content}
use Rattle.pst_questions.specs.declared.slots.PathStep.{PathStep}

-- what the last of the steps holds, from a record on; none where a null is met before
abbrev pub reading_from : Heap → List PathStep → Name → Option Value
reading_from heap [] n = None
reading_from heap (step ∷ []) n = Some (content (Some step.kind) heap n step.slot.0)
reading_from heap (step ∷ next ∷ steps) n = option_and_then (reading_from heap (next ∷ steps)) (pointer_in heap n step.slot.0)

-- the same from the root record on
unfoldable pub reading : Heap → List PathStep → Option Value
reading heap path = reading_from heap path root_name
