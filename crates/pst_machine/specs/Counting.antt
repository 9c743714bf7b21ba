-- What a run counted of its own, apart from what others counted.
use Rattle.std.specs.Prelude.{◌≡◌, ℕ, ◌≤◌, List, None}
use Rattle.pst_base.specs.Counts.{counts_plus}
use Rattle.pst_base.specs.declared.names.Counts.{Counts}
use Rattle.pst_base.specs.Heap.{Heap}
use Rattle.pst_program.specs.Outcome.{TaskCall, no_counts}
use Rattle.pst_code.specs.declared.procedure.Parts.{Parts}
use Rattle.pst_versions.specs.State.{State}
use Rattle.pst_machine.specs.declared.stage.Stage.{Stage}
use Rattle.pst_machine.specs.declared.stage.Progress.{Progress}
use Rattle.pst_machine.specs.Advance.{Advances, trap_of}
use Rattle.pst_machine.specs.Stands.{Stands}

-- the same heap, where this was counted in all
abbrev pub with_counts : {P R : Type 0} → State P R → Counts → State P R
with_counts s c = record s { counts = c }

-- What the heap has counted is what others counted and what the run counted of its own; and this is what the definition,
-- begun with nothing counted, counts for the run's calls with the charges granted so far.
pub record HasCounted {P R : Type 0} (parts : Parts) (calls : List TaskCall) (heap : Heap) (others : Counts) (s : State P R) (stage : Stage P R) (own : Counts) : Type 0 where
  pub sum : s.counts ≡ counts_plus own others
  pub stands : Stands parts calls heap no_counts (with_counts s own) stage

-- a run that stands by the definition has counts of its own
abbrev pub OwnCounts : {P R : Type 0} → State P R → Type 0
OwnCounts {P} {R} s = (parts : Parts) (calls : List TaskCall) (heap : Heap) (others : Counts) (a : Stage P R) → Stands parts calls heap others s a → (own : Counts) × HasCounted parts calls heap others s a own

-- A slice raises what the heap has counted by as much as what the definition counts for the run: the heap's counts after it and
-- the run's own before it are together the heap's before it and the run's own after it.
abbrev pub SliceCounts : {P R : Type 0} → (s t : State P R) → Type 0
SliceCounts {P} {R} s t = (parts : Parts) (calls : List TaskCall) (heap : Heap) (others before : Counts) (charges : ℕ) (a b : Stage P R) (p : Progress) → HasCounted parts calls heap others s a before → trap_of a.ended ≡ None → a.granted ≤ a.budget → Advances parts s a charges p t b
    → (after : Counts) × HasCounted parts calls heap others t b after × (counts_plus t.counts before ≡ counts_plus s.counts after)
